-- The elements of a symbol have few bytes.
use Rattle.std.proofs.Common.{◌≡◌, ℕ, zero, suc, ◌≤◌, leb, List, [], ◌∷◌, ◌++◌, map, length, Some, ap, subst, arith, length-append}
use Rattle.std.specs.Option.{unwrap_or}
use Rattle.std.specs.List.{slice_get}
use Rattle.std.proofs.lemmas.Bool.{cond_both, leb-true}
use Rattle.cards.specs.declared.row.Row.{Row}
use Rattle.cards.specs.Rows.{held_in}
use Rattle.cards.specs.Tallies.{Held}
use Rattle.cards.specs.Strings.{piece, spelled, fill, runs}
use Rattle.cards.proofs.Fillings.{piece-short}

some_is : {A : Type 0} (x y : A) → Some x ≡ Some y → x ≡ y
some_is x y e = ap (λ o. unwrap_or o x) e

abbrev Short : List Held → Type 0
Short hs = length (spelled hs) ≤ 48

one_short : (r : Row) → Short (held_in r ∷ [])
one_short r = let a = length-append (piece (held_in r)) [] in let b = piece-short r in omega arith

-- the first of some runs has few bytes, and so have the others
short_first : (run r : List Held) (rest : List (List Held)) → Short run → ((j : ℕ) → slice_get rest j ≡ Some r → Short r) → (k : ℕ) → slice_get (run ∷ rest) k ≡ Some r → Short r
short_first run r rest h others zero e = subst Short (some_is run r e) h
short_first run r rest h others (suc j) e = others j e

-- what is begun with few bytes, and what follows it, has few bytes
short_fill : (rows : List Row) (run : List Held) → Short run → (k : ℕ) (r : List Held) → slice_get (fill run (map held_in rows)) k ≡ Some r → Short r
short_fill [] run h k r = short_first run r [] h (λ j e. absurd (grind arith)) k
short_fill (x ∷ rows) run h k r =
    cond_both (leb (length (spelled (run ++ held_in x ∷ []))) 48) _ _ (λ (ys : List (List Held)). slice_get ys k ≡ Some r → Short r)
    (λ fits. short_fill rows (run ++ held_in x ∷ []) (leb-true _ 48 fits) k r)
    (λ full. short_first run r _ h (λ j. short_fill rows (held_in x ∷ []) (one_short x) j r) k)

-- each symbol has at most 48 bytes
pub short_runs : (rows : List Row) (k : ℕ) (r : List Held) → slice_get (runs (map held_in rows)) k ≡ Some r → Short r
short_runs [] k r e = absurd (grind arith)
short_runs (x ∷ rows) k r e = short_fill rows (held_in x ∷ []) (one_short x) k r e
