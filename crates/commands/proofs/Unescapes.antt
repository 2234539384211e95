-- A writing, read from its front.
use Rattle.std.proofs.Common.{◌≡◌, ℕ, ◌<◌, Bool, true, false, cond, eqb, List, [], ◌∷◌, ◌++◌, length, Some, None, Option, sym, refl, ap, ◌∙◌, append_assoc, append-nil, arith}
use Rattle.commands.specs.Escapes.{hex_value, hex_byte, plain_byte, with_rest, front_byte, before, unescaped}

-- what the first byte and the rest come to
abbrev whole : Option (ℕ × List ℕ) → Option (List ℕ)
whole None = None
whole (Some p) = before (Some p.0) (unescaped p.1)

whole-hex : (bs : List ℕ) (o : Option ℕ) → before o (unescaped bs) ≡ whole (with_rest bs o)
whole-hex bs None = refl
whole-hex bs (Some b) = refl

either : (t : Bool) (a b : Option (List ℕ)) (x y : Option (ℕ × List ℕ)) → a ≡ whole x → b ≡ whole y → cond t a b ≡ whole (cond t x y)
either true a b x y e f = e
either false a b x y e f = f

unescaped-front : (xs : List ℕ) → 0 < length xs → unescaped xs ≡ whole (front_byte xs)
unfolding unescaped
unescaped-front [] l = absurd (omega arith)
unescaped-front (b ∷ []) l = either (eqb b 92) _ _ None (Some (plain_byte b, [])) refl refl
unescaped-front (b ∷ h ∷ []) l = either (eqb b 92) _ _ None (Some (plain_byte b, h ∷ [])) refl refl
unescaped-front (b ∷ h ∷ k ∷ bs) l =
    either (eqb b 92) _ _ (with_rest bs (hex_byte (hex_value h) (hex_value k))) (Some (plain_byte b, h ∷ k ∷ bs)) (whole-hex bs (hex_byte (hex_value h) (hex_value k))) refl

some_front : (xs : List ℕ) (b : ℕ) (rest : List ℕ) → front_byte xs ≡ Some (b, rest) → 0 < length xs
some_front [] b rest e = let z : ◌≡◌ {A = ℕ} 0 1 = cc in absurd (omega arith)
some_front (x ∷ xs) b rest e = omega arith

-- a byte and what the rest stands for
pub unescaped-step : (xs : List ℕ) (b : ℕ) (rest : List ℕ) → front_byte xs ≡ Some (b, rest) → unescaped xs ≡ before (Some b) (unescaped rest)
unescaped-step xs b rest e = unescaped-front xs (some_front xs b rest e) ∙ ap whole e

-- bytes behind bytes
abbrev pub onto : List ℕ → Option (List ℕ) → Option (List ℕ)
onto xs None = None
onto xs (Some ys) = Some (xs ++ ys)

pub onto-before : (xs : List ℕ) (b : ℕ) (o : Option (List ℕ)) → onto xs (before (Some b) o) ≡ onto (xs ++ b ∷ []) o
onto-before xs b None = refl
onto-before xs b (Some ys) = ap Some (sym (append_assoc xs (b ∷ []) ys))

module _ (got xs : List ℕ) (l : 0 < length xs) where
  pub no_byte : front_byte xs ≡ None → onto got (unescaped xs) ≡ None
  no_byte e = ap (onto got) (unescaped-front xs l ∙ ap whole e)

  pub one_byte : (b : ℕ) (rest : List ℕ) → front_byte xs ≡ Some (b, rest) → onto (got ++ b ∷ []) (unescaped rest) ≡ onto got (unescaped xs)
  one_byte b rest e = sym (ap (onto got) (unescaped-step xs b rest e) ∙ onto-before got b (unescaped rest))

-- at the end of the writing
pub at_close : (got xs : List ℕ) → length xs ≡ 0 → onto got (unescaped xs) ≡ Some got
unfolding unescaped
at_close got [] e = ap Some (append-nil got)
at_close got (x ∷ xs) e = absurd (omega arith)
