-- Numbers as digits write them.
use Rattle.std.specs.Prelude.{◌≡◌, ℕ, zero, suc, ◌+◌, ◌-◌, ◌*◌, ◌/◌, ◌%◌, ◌^◌, ◌<◌, ◌≤◌, Bool, true, List, [], ◌∷◌, ◌++◌, length, drop, decimal, slice_index, slice_set, refl}
use Rattle.std.proofs.Common.{ap, sym, ◌∙◌, append_assoc, arith, add-mul, mul_assoc, mul_comm, add_assoc, mod-eq_of_lt, pow-suc, rules}
use Rattle.std.proofs.Math.Nat.{pow-le-pow_right}
use Rattle.std.proofs.Math.Arith.{mod-mul}
use Rattle.std.proofs.lemmas.Bool.{and_parts, and_from, le-leb}
use Rattle.std.proofs.lemmas.Str.Parse.{IsNumeralModel, numerals_by_fold, digits_value_short}
use Rattle.std.proofs.lemmas.List.{set_split, set_at, drop_more, length_push}
use Rattle.std.proofs.lemmas.Fmt.{decimal_digit, decimal_step, length-decimal-le}
use Rattle.forms.specs.Bytes.{digit, every, number_on, number, last_digits}
use Rattle.forms.specs.Writings.{digit-range}

pub every-get_or : (p : ℕ → Bool) (xs : List ℕ) (i : ℕ) → i < length xs → every p xs ≡ true → p (slice_index xs i) ≡ true
every-get_or p [] i l h = absurd (omega arith)
every-get_or p (x ∷ xs) zero l h = (and_parts _ _ h).0
every-get_or p (x ∷ xs) (suc i) l h = every-get_or p xs i (omega arith) (and_parts _ _ h).1

pub digit-in : (f : List ℕ) (i : ℕ) → i < length f → every digit f ≡ true → (48 ≤ slice_index f i) × (slice_index f i ≤ 57)
digit-in f i l h = digit-range _ (every-get_or digit f i l h)

pub every_drop : (p : ℕ → Bool) (n : ℕ) (xs : List ℕ) → every p xs ≡ true → every p (drop n xs) ≡ true
every_drop p zero xs h = h
every_drop p (suc n) [] h = h
every_drop p (suc n) (x ∷ xs) h = every_drop p n xs (and_parts _ _ h).1

-- 48 and a figure is a digit
pub digit-of : (d : ℕ) → d < 10 → digit (48 + d) ≡ true
digit-of d h = and_from _ _ (le-leb 48 (48 + d) (omega arith)) (le-leb (48 + d) 57 (omega arith))

number_on-ge : (n : ℕ) (xs : List ℕ) → n ≤ number_on n xs
number_on-ge n [] = omega arith
number_on-ge n (x ∷ xs) = omega (arith, number_on-ge (10 * n + (x - 48)) xs)

pub own : IsNumeralModel (λ ds. every digit ds ≡ true) (number_on 0)
own = numerals_by_fold _ (search rules) number_on (search rules)

pub number_short : (k : ℕ) (f : List ℕ) → every digit f ≡ true → length f ≤ k → number f < 10 ^ k
number_short k f h s = digits_value_short own f k h s

-- what has been read of a number of at most 8 digits
pub number_small : (n i : ℕ) (f : List ℕ) → number_on n (drop i f) ≡ number f → every digit f ≡ true → length f ≤ 8 → n < 10 ^ 8
number_small n i f e h s = omega (arith, number_on-ge n (drop i f), number_short 8 f h s)

-- a number is written by its last digit behind the others
pub decimal_one : (n : ℕ) (o : List ℕ) → n < 10 → 0 < length o → slice_set o 0 (48 + n) ≡ decimal n ++ drop 1 o
decimal_one n o h l = rw (decimal_digit n h) (set_split o 0 (48 + n) l)

pub decimal_longer : (n k : ℕ) → 10 ≤ n → n < 2 ^ 64 → k ≡ length (decimal (n / 10)) → k + 1 ≡ length (decimal n)
decimal_longer n k h b e = rw (decimal_step n h b, e) (sym (length_push (decimal (n / 10)) (48 + n % 10)))

pub decimal_more : (n k : ℕ) (o p : List ℕ) → 10 ≤ n → n < 2 ^ 64 → k ≡ length (decimal (n / 10)) → p ≡ decimal (n / 10) ++ drop k o → k < length o → slice_set p k (48 + n % 10) ≡ decimal n ++ drop (k + 1) o
decimal_more n k o p h b e w l =
    rw (w, decimal_step n h b, drop_more o k 0 l, set_at (decimal (n / 10)) (slice_index o k) (drop (k + 1) o) (48 + n % 10) k (sym e))
    (sym (append_assoc (decimal (n / 10)) ((48 + n % 10) ∷ []) (drop (k + 1) o)))

-- a number of 32 bits has at most ten digits
pub decimal_short : (n : ℕ) → n < 2 ^ 32 → length (decimal n) ≤ 10
decimal_short n h = length-decimal-le 10 n (omega arith) (omega arith) (omega arith)

-- the last digits of a number are digits
pub every-last_digits : (k n : ℕ) → every digit (last_digits k n) ≡ true
every-last_digits zero n = refl
every-last_digits (suc k) n = and_from _ _ (digit-of (n / 10 ^ k % 10) (omega arith)) (every-last_digits k n)

pub length-last_digits : (k n : ℕ) → length (last_digits k n) ≡ k
length-last_digits zero n = refl
length-last_digits (suc k) n = ap suc (length-last_digits k n)

pub pow_some : (k : ℕ) → 0 < 10 ^ k
pow_some k = pow-le-pow_right {n = 10} (omega arith) {i = 0} {j = k} (omega arith)

-- one digit more in front of a number
front-more : (a d p r : ℕ) → (10 * a + d) * p + r ≡ a * (p * 10) + (d * p + r)
front-more a d p r = rw (add-mul (10 * a) d p, add_assoc (10 * a * p) (d * p) r, mul_comm 10 a, mul_assoc a 10 p, mul_comm 10 p) refl

-- and write the number again, as far as they go
number_on-last_digits : (a k n : ℕ) → number_on a (last_digits k n) ≡ a * 10 ^ k + n % 10 ^ k
number_on-last_digits a zero n = omega arith
number_on-last_digits a (suc k) n =
    let d = n / 10 ^ k % 10 in
    let e : 10 * a + (48 + d - 48) ≡ 10 * a + d = omega arith in
    let m : n % (10 * 10 ^ k) ≡ d * 10 ^ k + n % 10 ^ k = mod-mul n {m = 10} {c = 10 ^ k} (omega arith) (pow_some k) in
    let p : 10 ^ suc k ≡ 10 ^ k * 10 = pow-suc 10 k in
    number_on-last_digits (10 * a + (48 + d - 48)) k n
    ∙ ap (λ x. x * 10 ^ k + n % 10 ^ k) e
    ∙ front-more a d (10 ^ k) (n % 10 ^ k)
    ∙ ap (λ x. a * (10 ^ k * 10) + x) (sym m ∙ ap (λ x. n % x) (mul_comm 10 (10 ^ k)))
    ∙ ap (λ x. a * x + n % x) (sym p)

pub number-last_digits : (k n : ℕ) → n < 10 ^ k → number (last_digits k n) ≡ n
number-last_digits k n h = number_on-last_digits 0 k n ∙ ap (λ x. 0 * 10 ^ k + x) (mod-eq_of_lt h) ∙ (let z : 0 * 10 ^ k + n ≡ n = omega arith in z)
