-- The laws of a measure.
use Rattle.std.specs.Prelude.{◌≡◌, ℕ, zero, suc, ◌+◌, ◌-◌, ◌*◌, ◌/◌, ◌%◌, ◌^◌, ◌<◌, ◌≤◌, true, List, drop, ◌==◌, refl}
use Rattle.std.proofs.Common.{ap, ◌∙◌, arith, mul-le-mul_left, le_of_mul-le-mul_right, length-drop}
use Rattle.std.proofs.Math.Nat.{pow-le-pow_right}
use Rattle.std.proofs.lemmas.Bool.{and_from, cond_both, eqb-true}
use Rattle.std.proofs.lemmas.Bool.Decides.{nat_tests}
use Rattle.forms.specs.Laws.{Rewrites}
use Rattle.forms.specs.Bytes.{digit, every, number, last_digits}
use Rattle.forms.specs.Measures.{decimals_told, fewest, measure_lawful, measure_worth, measure_writing}
use Rattle.forms.specs.Figures.{digit-of, every_drop, every-last_digits, length-last_digits, number-last_digits, number_short}
use Rattle.forms.specs.Writings.{every-allowed}

-- no more than five decimals, and they suffice
record Suffices (n d : ℕ) : Type 0 where
  most : d ≤ 5
  whole : n / 10 ^ (5 - d) * 10 ^ (5 - d) ≡ n

fewest-suffices : (n : ℕ) → Suffices n (fewest n)
fewest-suffices n =
    cond_both (n % 100000 == 0) _ _ (Suffices n) (λ e. let z = eqb-true _ _ e in record { most = omega arith; whole = omega arith })
    (λ _. cond_both (n % 10000 == 0) _ _ (Suffices n) (λ e. let z = eqb-true _ _ e in record { most = omega arith; whole = omega arith })
    (λ _. cond_both (n % 1000 == 0) _ _ (Suffices n) (λ e. let z = eqb-true _ _ e in record { most = omega arith; whole = omega arith })
    (λ _. cond_both (n % 100 == 0) _ _ (Suffices n) (λ e. let z = eqb-true _ _ e in record { most = omega arith; whole = omega arith })
    (λ _. cond_both (n % 10 == 0) _ _ (Suffices n) (λ e. let z = eqb-true _ _ e in record { most = omega arith; whole = omega arith })
    (λ _. record { most = omega arith; whole = omega arith })))))

-- and no fewer do
pub fewest-least : (n d m : ℕ) → d ≤ 5 → m * 10 ^ (5 - d) ≡ n → fewest n ≤ d
fewest-least n zero m h e = grind (arith, nat_tests)
fewest-least n (suc zero) m h e = grind (arith, nat_tests)
fewest-least n (suc (suc zero)) m h e = grind (arith, nat_tests)
fewest-least n (suc (suc (suc zero))) m h e = grind (arith, nat_tests)
fewest-least n (suc (suc (suc (suc zero)))) m h e = grind (arith, nat_tests)
fewest-least n (suc (suc (suc (suc (suc zero))))) m h e = grind (arith, nat_tests)
fewest-least n (suc (suc (suc (suc (suc (suc d)))))) m h e = absurd (omega arith)

-- the same product with a larger second factor has a smaller first one
smaller : (q a m b : ℕ) → q * a ≡ m * b → b ≤ a → 0 < a → q ≤ m
smaller q a m b e h s = le_of_mul-le-mul_right {m = q} {n = m} {k = a} (let k = mul-le-mul_left {m = b} {n = a} m h in omega arith) s

pub measure_rewrites : (y : ℕ) (f : List ℕ) → measure_lawful y f → Rewrites measure_lawful measure_worth measure_writing y f
measure_rewrites y f p =
    let d = decimals_told f in
    let m = number (drop 1 f) in
    let n = measure_worth y f in
    let e = fewest n in
    let s = fewest-suffices n in
    let least : e ≤ d = fewest-least n d m p.few refl in
    let q = n / 10 ^ (5 - e) in
    let higher : 10 ^ (5 - d) ≤ 10 ^ (5 - e) = pow-le-pow_right {n = 10} (omega arith) {i = 5 - d} {j = 5 - e} (omega arith) in
    let some : 0 < 10 ^ (5 - e) = pow-le-pow_right {n = 10} (omega arith) {i = 0} {j = 5 - e} (omega arith) in
    let few : m < 10 ^ 6 = number_short 6 (drop 1 f) (every_drop digit 1 f p.all) (let l = length-drop 1 f in omega (arith, l, p.long)) in
    let under : q ≤ m = smaller q (10 ^ (5 - e)) m (10 ^ (5 - d)) s.whole higher some in
    let back : number (last_digits 6 q) ≡ q = number-last_digits 6 q (omega arith) in
    let first : 48 + e - 48 ≡ e = omega arith in
    let digits : every digit (measure_writing n) ≡ true = and_from _ _ (digit-of e (omega (arith, s.most))) (every-last_digits 6 q) in
    record {
      again = record { long = ap suc (length-last_digits 6 q); all = digits; few = omega (arith, s.most) };
      text = every-allowed (measure_writing n) digits;
      same = ap (λ x. x * 10 ^ (5 - (48 + e - 48))) back ∙ ap (λ x. q * 10 ^ (5 - x)) first ∙ s.whole;
    }
