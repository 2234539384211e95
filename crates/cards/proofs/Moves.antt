-- Rows that are moved.
use Rattle.std.proofs.Common.{◌≡◌, ℕ, zero, suc, ◌+◌, ◌-◌, ◌<◌, ◌≤◌, List, [], ◌∷◌, ◌++◌, length, get_or, take, drop, set, ap, ◌∙◌, arith, length-append, length-drop, length-take}
use Rattle.std.proofs.lemmas.List.{take-take, take-append-le, take_rest, drop_more, drop_all, set_at, length-take-le, append-nil}

module _ {X : Type 0} where
  -- the front of a list into which x was put
  pub take-opened : (n i : ℕ) (xs : List X) (x : X) → i ≤ n → n < length xs → take (n + 1) (take i xs ++ x ∷ take (length xs - 1 - i) (drop i xs)) ≡ take i (take n xs) ++ x ∷ drop i (take n xs)
  take-opened n zero xs x h l =
      ap (λ k. take k (x ∷ take (length xs - 1 - 0) xs)) (let z : n + 1 ≡ suc n = omega arith in z)
      ∙ ap (λ r. x ∷ r) (take-take n (length xs - 1 - 0) xs (omega arith))
  take-opened zero (suc i) xs x h l = absurd (omega arith)
  take-opened (suc n) (suc i) [] x h l = absurd (omega arith)
  take-opened (suc n) (suc i) (y ∷ ys) x h l =
      ap (λ k. take k (y ∷ (take i ys ++ x ∷ take (suc (length ys) - 1 - suc i) (drop i ys)))) (let z : suc n + 1 ≡ suc (n + 1) = omega arith in z)
      ∙ ap (λ k. y ∷ take (n + 1) (take i ys ++ x ∷ take k (drop i ys))) (let z : suc (length ys) - 1 - suc i ≡ length ys - 1 - i = omega arith in z)
      ∙ ap (λ r. y ∷ r) (take-opened n i ys x (omega arith) (omega arith))

  -- the front of a list from which the one at i was taken out
  pub take-closed : (n i : ℕ) (xs : List X) → i < n → n ≤ length xs → take (n - 1) (take i xs ++ (drop (i + 1) xs ++ take 1 (drop i xs))) ≡ take i (take n xs) ++ drop (suc i) (take n xs)
  take-closed zero i xs h l = absurd (omega arith)
  take-closed (suc n) i [] h l = absurd (omega arith)
  take-closed (suc n) zero (y ∷ ys) h l =
      ap (λ k. take k (ys ++ y ∷ [])) (let z : suc n - 1 ≡ n = omega arith in z) ∙ take-append-le n ys (y ∷ []) (omega arith)
  take-closed (suc n) (suc i) (y ∷ ys) h l =
      ap (λ k. take k (y ∷ (take i ys ++ (drop (suc i + 1) (y ∷ ys) ++ take 1 (drop i ys))))) (let z : suc n - 1 ≡ suc (n - 1) = omega arith in z)
      ∙ ap (λ k. y ∷ take (n - 1) (take i ys ++ (drop k (y ∷ ys) ++ take 1 (drop i ys)))) (let z : suc i + 1 ≡ suc (i + 1) = omega arith in z)
      ∙ ap (λ r. y ∷ r) (take-closed n i ys (omega arith) (omega arith))

  pub length-opened : (i : ℕ) (xs : List X) (x : X) → i < length xs → length (take i xs ++ x ∷ take (length xs - 1 - i) (drop i xs)) ≡ length xs
  length-opened i xs x h =
      length-append (take i xs) (x ∷ take (length xs - 1 - i) (drop i xs))
      ∙ (let a = length-take i xs in let b = length-take (length xs - 1 - i) (drop i xs) in let c = length-drop i xs in omega arith)

  pub length-closed : (i : ℕ) (xs : List X) → i < length xs → length (take i xs ++ (drop (i + 1) xs ++ take 1 (drop i xs))) ≡ length xs
  length-closed i xs h =
      length-append (take i xs) (drop (i + 1) xs ++ take 1 (drop i xs))
      ∙ (let e = length-append (drop (i + 1) xs) (take 1 (drop i xs)) in let a = length-take i xs in let b = length-take 1 (drop i xs) in let c = length-drop i xs in let d = length-drop (i + 1) xs in omega arith)

  -- rows whose part from i on was turned by one, and of which that at i was then set
  pub opened_is : (xs : List X) (i : ℕ) (x : X) (rot : List X) → i < length xs
      → rot ≡ drop (length (take (length xs - i) (drop i xs)) - 1) (take (length xs - i) (drop i xs)) ++ take (length (take (length xs - i) (drop i xs)) - 1) (take (length xs - i) (drop i xs))
      → set (take i xs ++ (rot ++ drop (length xs - i) (drop i xs))) i x ≡ take i xs ++ x ∷ take (length xs - 1 - i) (drop i xs)
  opened_is xs i x rot h is =
      let mid = drop i xs in
      let whole : take (length xs - i) (drop i xs) ≡ drop i xs = take_rest xs i in
      let long : length (drop i xs) ≡ length xs - i = length-drop i xs in
      let last : ℕ = length (drop i xs) - 1 in
      let one : drop (length (drop i xs) - 1) (drop i xs) ≡ get_or (drop i xs) (length (drop i xs) - 1) x ∷ [] = drop_more (drop i xs) (length (drop i xs) - 1) x (omega arith) ∙ ap (λ r. get_or (drop i xs) (length (drop i xs) - 1) x ∷ r) (drop_all (length (drop i xs) - 1 + 1) (drop i xs) (omega arith)) in
      let turned : rot ≡ get_or (drop i xs) (length (drop i xs) - 1) x ∷ take (length (drop i xs) - 1) (drop i xs) = is ∙ ap (λ m. drop (length m - 1) m ++ take (length m - 1) m) whole ∙ ap (λ r. r ++ take (length (drop i xs) - 1) (drop i xs)) one in
      let none : drop (length xs - i) (drop i xs) ≡ [] = drop_all (length xs - i) (drop i xs) (omega arith) in
      ap (λ r. set (take i xs ++ (r ++ drop (length xs - i) (drop i xs))) i x) turned
      ∙ ap (λ r. set (take i xs ++ ((get_or (drop i xs) (length (drop i xs) - 1) x ∷ take (length (drop i xs) - 1) (drop i xs)) ++ r)) i x) none
      ∙ set_at (take i xs) (get_or (drop i xs) (length (drop i xs) - 1) x) (take (length (drop i xs) - 1) (drop i xs) ++ []) x i (length-take-le i xs (omega arith))
      ∙ ap (λ r. take i xs ++ x ∷ r) (append-nil (take (length (drop i xs) - 1) (drop i xs)))
      ∙ ap (λ k. take i xs ++ x ∷ take k (drop i xs)) (let z : length (drop i xs) - 1 ≡ length xs - 1 - i = omega arith in z)
