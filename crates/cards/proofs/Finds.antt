-- Searches among rows, and among the elements that they hold.
use Rattle.std.proofs.Common.{◌≡◌, ℕ, ◌+◌, ◌≤◌, arith, nat_lt, Bool, true, false, cond, not, ◌||◌, List, [], ◌∷◌, map, length, take, length-take, Some, None, Option, refl, sym, ap, ◌∙◌}
use Rattle.std.specs.Prelude.{position}
use Rattle.std.specs.Option.{unwrap_or}
use Rattle.std.specs.List.{list_any, position_or_len, position_from}
use Rattle.std.proofs.lemmas.Iterator.Adapters.{position_from-zero}
use Rattle.std.proofs.lemmas.List.Recursion.{is_position_or_len}
use Rattle.std.proofs.lemmas.Bool.Decides.{nat_tests}
use Rattle.std.proofs.lemmas.List.Sums.{prefix_len-le-length}
use Rattle.std.specs.Str.{bytes_eq}
use Rattle.books.specs.declared.entry.Entry.{Entry}
use Rattle.cards.specs.declared.row.Row.{Row}
use Rattle.cards.specs.Rows.{held_in, first_held}
use Rattle.cards.specs.Tallies.{Held, ident, crosses_one, crossed, precedes, outside, first_outside}
use Rattle.cards.specs.Places.{place_of, seat}

pub any_crossed : (e : Entry) (rows : List Row) → list_any (λ r. crosses_one e (held_in r)) rows ≡ crossed e (map held_in rows)
any_crossed e [] = refl
any_crossed e (r ∷ rows) = ap (λ b. crosses_one e (held_in r) || b) (any_crossed e rows)

-- the first place, where places are counted by one more for each element
first_from : (p : Held → Bool) (F : ℕ → List Held → Option ℕ) → ((n : ℕ) → F n [] ≡ None) → ((n : ℕ) (x : Held) (xs : List Held) → F n (x ∷ xs) ≡ cond (p x) (Some n) (F (n + 1) xs))
    → (n : ℕ) (rows : List Row) → position_from (λ r. p (held_in r)) n rows ≡ F n (map held_in rows)
first_from p F end step n [] = sym (end n)
first_from p F end step n (r ∷ rows) = ap (cond (p (held_in r)) (Some n)) (first_from p F end step (n + 1) rows) ∙ sym (step n (held_in r) (map held_in rows))

pub position_place : (i : List ℕ) (rows : List Row) → position (λ r. bytes_eq i (ident (held_in r))) rows ≡ place_of i 0 (map held_in rows)
position_place i rows = position_from-zero (λ r. bytes_eq i (ident (held_in r))) rows ∙ first_from (λ x. bytes_eq i (ident x)) (place_of i) (λ n. refl) (λ n x xs. refl) 0 rows

pub position-outside : (y : ℕ) (rows : List Row) → position (λ r. outside y (held_in r).value) rows ≡ first_outside y 0 (map held_in rows)
position-outside y rows = position_from-zero (λ r. outside y (held_in r).value) rows ∙ first_from (λ x. outside y x.value) (first_outside y) (λ n. refl) (λ n x xs. refl) 0 rows

swapped : {A : Type 0} (b : Bool) (x y : A) → cond (not b) x y ≡ cond b y x
swapped true x y = refl
swapped false x y = refl

pub position_seat : (x : Held) (rows : List Row) → position_or_len (λ r. precedes x (held_in r)) rows ≡ seat x (map held_in rows)
position_seat x rows = sym (is_position_or_len (λ rs. seat x (map held_in rs)) (λ r. precedes x (held_in r)) refl (λ r rs. swapped (precedes x (held_in r)) (1 + seat x (map held_in rs)) 0) rows)

-- the first place, or the length where there is none
pub first_within : {X : Type 0} (p : X → Bool) (xs : List X) → position_or_len p xs ≤ length xs
first_within p xs = prefix_len-le-length (λ x. not (p x)) xs

or_len : (n l : ℕ) → n ≤ l → unwrap_or (cond (nat_lt n l) (Some n) None) l ≡ n
or_len n l h = grind (arith, nat_tests)

pub first_or_len : {X : Type 0} (p : X → Bool) (xs : List X) → unwrap_or (position p xs) (length xs) ≡ position_or_len p xs
first_or_len p xs = or_len (position_or_len p xs) (length xs) (first_within p xs)

-- what is found among the rows in use, the first n of a card's
module _ (n : ℕ) (rows held : List Row) (cut : held ≡ take n rows) where
  pub crossed_in : (e : Entry) (b : Bool) → b ≡ list_any (λ r. crosses_one e (held_in r)) held → b ≡ crossed e (first_held n rows)
  crossed_in e b is = is ∙ any_crossed e held ∙ ap (λ rs. crossed e (map held_in rs)) cut

  pub place_in : (i : List ℕ) (o : Option ℕ) → o ≡ position (λ r. bytes_eq i (ident (held_in r))) held → o ≡ place_of i 0 (first_held n rows)
  place_in i o is = is ∙ position_place i held ∙ ap (λ rs. place_of i 0 (map held_in rs)) cut

  pub outside_in : (y : ℕ) (o : Option ℕ) → o ≡ position (λ r. outside y (held_in r).value) held → o ≡ first_outside y 0 (first_held n rows)
  outside_in y o is = is ∙ position-outside y held ∙ ap (λ rs. first_outside y 0 (map held_in rs)) cut

  pub seat_in : (x : Held) (k : ℕ) → k ≡ position_or_len (λ r. precedes x (held_in r)) held → k ≡ seat x (first_held n rows)
  seat_in x k is = is ∙ position_seat x held ∙ ap (λ rs. seat x (map held_in rs)) cut

  pub long_in : n ≤ length rows → length held ≡ n
  long_in h = (let a = ap length cut in let b = length-take n rows in omega arith)
