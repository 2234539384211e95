-- What stands at the front of some bytes.
use Rattle.std.proofs.Common.{◌≡◌, ℕ, ◌+◌, ◌-◌, ◌≤◌, true, List, [], ◌∷◌, length, get_or, take, drop, IfSome, Some, None, Ok, Err, sym, refl, subst, ap, ◌∙◌, arith, length-drop}
use Rattle.std.proofs.lemmas.Bool.{and_parts, cond_both, ne_eqb}
use Rattle.std.proofs.lemmas.List.{take_rest}
use Rattle.forms.specs.Figures.{length-last_digits}
use Rattle.forms.specs.Kinds.{kind_fault}
use Rattle.forms.specs.declared.fault.FieldFault.{FieldFault}
use Rattle.books.specs.Texts.{starts}
use Rattle.books.specs.Entries.{text, found}
use Rattle.books.specs.declared.entry.Entry.{Entry}
use Rattle.scans.specs.declared.fault.ScanFault.TheVariants.{Field}
use Rattle.scans.specs.Elements.{run, field_length, gap, front}

starts-within : (xs ys : List ℕ) → starts xs ys ≡ true → length xs ≤ length ys
starts-within [] ys h = omega arith
starts-within (x ∷ xs) [] h = absurd (grind arith)
starts-within (x ∷ xs) (y ∷ ys) h = let r = starts-within xs ys (and_parts _ _ h).1 in omega arith

-- the digits of the ident that is found stand there
pub found_within : (es : List Entry) (s : List ℕ) → IfSome (found es s) (λ e. e.ident.digits ≤ length s)
found_within [] s = tt
found_within (e ∷ es) s =
    cond_both (starts (text e) s) (Some e) (found es s) (λ o. IfSome o (λ d. d.ident.digits ≤ length s))
    (λ h. let l = length-last_digits e.ident.digits e.ident.number in omega (arith, starts-within (text e) s h))
    (λ _. found_within es s)

pub found-fits : (es : List Entry) (s : List ℕ) (e : Entry) → Some e ≡ found es s → e.ident.digits ≤ length s
found-fits es s e h = subst (λ o. IfSome o (λ d. d.ident.digits ≤ length s)) (sym h) (found_within es s)

-- what is in front, by what is found there
module _ (es : List Entry) (y p : ℕ) (s : List ℕ) (e : Entry) (plain : get_or s 0 0 ≡ 29 → ⊥) (is : found es s ≡ Some e)
    (n : ℕ) (long : field_length e (run (drop e.ident.digits s)) ≡ Some n) where
  pub front-barred : (f : FieldFault) → kind_fault e.form y (p + e.ident.digits) (take n (drop e.ident.digits s)) ≡ Some f → front es y p s ≡ Err (Field f)
  front-barred f h = rw (ne_eqb (get_or s 0 0) 29 plain, is, long, h) refl

  pub front-element : kind_fault e.form y (p + e.ident.digits) (take n (drop e.ident.digits s)) ≡ None
      → front es y p s ≡ Ok (record { element = record { entry = e; field = take n (drop e.ident.digits s) }; taken = e.ident.digits + n + gap (drop n (drop e.ident.digits s)) })
  front-element h = rw (ne_eqb (get_or s 0 0) 29 plain, is, long, h) refl

-- the bytes behind an ident, as code cuts them off
pub behind : (s : List ℕ) (d k : ℕ) → d ≡ k → take (length s - d) (drop d s) ≡ drop k s
behind s d k e = take_rest s d ∙ ap (λ n. drop n s) e

pub length-behind : (s : List ℕ) (d : ℕ) → length (take (length s - d) (drop d s)) ≡ length s - d
length-behind s d = ap length (take_rest s d) ∙ length-drop d s

pub gap_same : (s : List ℕ) (d k n : ℕ) → d ≡ k → gap (take (length (take (length s - d) (drop d s)) - n) (drop n (take (length s - d) (drop d s)))) ≡ gap (drop n (drop k s))
gap_same s d k n e = ap gap (take_rest (take (length s - d) (drop d s)) n) ∙ ap (λ a. gap (drop n a)) (behind s d k e)
