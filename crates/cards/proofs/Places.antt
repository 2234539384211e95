-- What stands at the places of a card, and what happens there.
use Rattle.std.proofs.Common.{◌≡◌, ℕ, suc, ◌+◌, ◌-◌, ◌<◌, ◌≤◌, cond, not, List, [], ◌∷◌, ◌++◌, length, get_or, take, drop, Some, None, sym, refl, ap, ◌∙◌, ⊎_elim, arith}
use Rattle.std.specs.Str.{bytes_eq}
use Rattle.std.proofs.lemmas.Bool.{cases_Bool, cond-true, cond-false}
use Rattle.std.proofs.lemmas.Slice.Eq.{bytes_eq-Decides}
use Rattle.cards.specs.Tallies.{Held, ident, precedes, insert, look, without}
use Rattle.cards.specs.Places.{place_of, seat}

-- the one under an ident, at its place among those counted from n
pub record Under (i : List ℕ) (n k : ℕ) (hs : List Held) : Type 0 where
  pub from : n ≤ k
  pub within : k - n < length hs
  pub same : (d : Held) → i ≡ ident (get_or hs (k - n) d)
  pub value : (d : Held) → look i hs ≡ Some (get_or hs (k - n) d).value
  pub rest : without i hs ≡ take (k - n) hs ++ drop (suc (k - n)) hs

pub place_under : (i : List ℕ) (n k : ℕ) (hs : List Held) → place_of i n hs ≡ Some k → Under i n k hs
place_under i n k [] h = absurd (grind arith)
place_under i n k (x ∷ xs) h =
    ⊎_elim
    (λ here.
    let e : n ≡ k = (let z : Some n ≡ Some k = sym (cond-true _ _ _ here) ∙ h in grind arith) in
    let zero_is : k - n ≡ 0 = omega arith in
    record {
      from = omega arith;
      within = omega arith;
      same = λ d. (bytes_eq-Decides i (ident x)).0 here ∙ ap (λ j. ident (get_or (x ∷ xs) j d)) (sym zero_is);
      value = λ d. cond-true _ _ _ here ∙ ap (λ j. Some (get_or (x ∷ xs) j d).value) (sym zero_is);
      rest = cond-true _ _ _ here ∙ ap (λ j. take j (x ∷ xs) ++ drop (suc j) (x ∷ xs)) (sym zero_is);
    })
    (λ other.
    let u = place_under i (n + 1) k xs (sym (cond-false _ _ _ other) ∙ h) in
    let from = u.from in
    let within = u.within in
    let step : k - n ≡ suc (k - (n + 1)) = omega arith in
    record {
      from = omega arith;
      within = omega arith;
      same = λ d. u.same d ∙ ap (λ j. ident (get_or (x ∷ xs) j d)) (sym step);
      value = λ d. cond-false _ _ _ other ∙ u.value d ∙ ap (λ j. Some (get_or (x ∷ xs) j d).value) (sym step);
      rest = cond-false _ _ _ other ∙ ap (λ r. x ∷ r) u.rest ∙ ap (λ j. take j (x ∷ xs) ++ drop (suc j) (x ∷ xs)) (sym step);
    })
    (cases_Bool (bytes_eq i (ident x)))

pub place_none : (i : List ℕ) (n : ℕ) (hs : List Held) → place_of i n hs ≡ None → look i hs ≡ None
place_none i n [] h = refl
place_none i n (x ∷ xs) h =
    ⊎_elim
    (λ here. absurd (let z : Some n ≡ None = sym (cond-true _ _ _ here) ∙ h in grind arith))
    (λ other. cond-false _ _ _ other ∙ place_none i (n + 1) xs (sym (cond-false _ _ _ other) ∙ h))
    (cases_Bool (bytes_eq i (ident x)))

-- an element is put in at its seat
pub insert-seat : (x : Held) (hs : List Held) → insert x hs ≡ take (seat x hs) hs ++ x ∷ drop (seat x hs) hs
insert-seat x [] = refl
insert-seat x (z ∷ zs) =
    ⊎_elim
    (λ here. cond-true _ _ _ here ∙ ap (λ p. take (cond (not p) (1 + seat x zs) 0) (z ∷ zs) ++ x ∷ drop (cond (not p) (1 + seat x zs) 0) (z ∷ zs)) (sym here))
    (λ other.
    let one : 1 + seat x zs ≡ suc (seat x zs) = omega arith in
    cond-false _ _ _ other ∙ ap (λ r. z ∷ r) (insert-seat x zs)
    ∙ ap (λ j. take j (z ∷ zs) ++ x ∷ drop j (z ∷ zs)) (sym one)
    ∙ ap (λ p. take (cond (not p) (1 + seat x zs) 0) (z ∷ zs) ++ x ∷ drop (cond (not p) (1 + seat x zs) 0) (z ∷ zs)) (sym other))
    (cases_Bool (precedes x z))
