-- Check values, one value and some values on.
use Rattle.std.proofs.Common.{◌≡◌, ℕ, ◌+◌, ◌*◌, ◌/◌, ◌%◌, ◌<◌, ◌≤◌, List, [], ◌∷◌, ◌++◌, length, get_or, take, drop, sym, refl, ap, ◌∙◌, mul_assoc, add-mul, arith}
use Rattle.std.proofs.lemmas.List.{take_more, length-take-le}
use Rattle.symbols.specs.Reading.{weighted, check_of}

weighted-append : (p : ℕ) (xs ys : List ℕ) → weighted p (xs ++ ys) ≡ weighted p xs + weighted (p + length xs) ys
weighted-append p [] ys = let e : p + 0 ≡ p = omega arith in rw e (omega arith)
weighted-append p (x ∷ xs) ys =
    let e : p + 1 + length xs ≡ p + length (x ∷ xs) = omega arith in
    let i : weighted (p + 1) (xs ++ ys) ≡ weighted (p + 1) xs + weighted (p + length (x ∷ xs)) ys =
    weighted-append (p + 1) xs ys ∙ ap (λ n. weighted (p + 1) xs + weighted n ys) e in
    omega arith

place_mod : (a n v : ℕ) → (a + n * v) % 103 ≡ (a % 103 + n % 103 * v) % 103
place_mod a n v =
    let e : n ≡ 103 * (n / 103) + n % 103 = omega arith in
    let f : n * v ≡ (103 * (n / 103)) * v + n % 103 * v = ap (λ m. m * v) e ∙ add-mul (103 * (n / 103)) (n % 103) v in
    let g : (103 * (n / 103)) * v ≡ 103 * (n / 103 * v) = mul_assoc 103 (n / 103) v in
    omega arith

-- one value more, as a loop takes it
pub sum_more : (a p : ℕ) (xs : List ℕ) (i : ℕ) → i < length xs
    → ((a + weighted p (take i xs)) % 103 + (p + i) % 103 * get_or xs i 0) % 103 ≡ (a + weighted p (take (i + 1) xs)) % 103
sum_more a p xs i h =
    let v = get_or xs i 0 in let t = take i xs in
    let l : length t ≡ i = length-take-le i xs (omega arith) in
    let w : weighted p (take (i + 1) xs) ≡ weighted p t + (p + i) * v =
    ap (weighted p) (take_more xs i 0 h) ∙ weighted-append p t (v ∷ []) ∙ ap (λ n. weighted p t + weighted (p + n) (v ∷ [])) l ∙ omega arith in
    let f : a + weighted p t + (p + i) * v ≡ a + weighted p (take (i + 1) xs) = omega arith in
    sym (place_mod (a + weighted p t) (p + i) v) ∙ ap (λ n. n % 103) f

-- some values more
pub check_append : (xs ys : List ℕ) → 1 ≤ length xs → (check_of xs + weighted (length xs) ys) % 103 ≡ check_of (xs ++ ys)
check_append [] ys h = absurd (omega arith)
check_append (x ∷ xs) ys h =
    let e : 1 + length xs ≡ length (x ∷ xs) = omega arith in
    let w : weighted 1 (xs ++ ys) ≡ weighted 1 xs + weighted (length (x ∷ xs)) ys =
    weighted-append 1 xs ys ∙ ap (λ n. weighted 1 xs + weighted n ys) e in
    omega arith

-- a check value by its start and what stands behind it
pub check_apart : (xs : List ℕ) → 1 ≤ length xs → check_of xs ≡ (get_or xs 0 0 + weighted 1 (drop 1 xs)) % 103
check_apart [] h = absurd (omega arith)
check_apart (x ∷ xs) h = refl
