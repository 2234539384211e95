-- Weighted sums of digits.
use Rattle.std.proofs.Common.{◌≡◌, ℕ, ◌+◌, ◌-◌, ◌*◌, ◌%◌, ◌≤◌, Bool, true, eqb, List, [], ◌∷◌, ◌++◌, length, ap, sym, refl, ◌∙◌, append_assoc, length-append, mul-le-mul, arith}
use Rattle.std.proofs.lemmas.List.{append-nil}
use Rattle.std.proofs.lemmas.Bool.{and_parts, cond_both}
use Rattle.forms.specs.Bytes.{digit, every}
use Rattle.forms.specs.Keys.{weight, weighted}
use Rattle.forms.specs.Writings.{digit-range}

pub weight-most : (r : ℕ) → weight r ≤ 3
weight-most r = cond_both (eqb (r % 2) 1) 3 1 (λ w. w ≤ 3) (λ _. omega arith) (λ _. omega arith)

-- a digit weighs at most 27
pub weighs_most : (w b : ℕ) → w ≤ 3 → b ≤ 57 → w * (b - 48) ≤ 27
weighs_most w b h k = mul-le-mul {n₁ = w} {m₁ = b - 48} {n₂ = 3} {m₂ = 9} h (omega arith)

pub weighted-most : (f : List ℕ) → every digit f ≡ true → weighted f ≤ 27 * length f
weighted-most [] h = omega arith
weighted-most (c ∷ cs) h =
    let p = and_parts _ _ h in
    let one = weighs_most (weight (length cs)) c (weight-most (length cs)) (digit-range c p.0).1 in
    let more = weighted-most cs p.1 in
    omega arith

-- of the digits f the last n are weighed, and come to the sum; those before them are left
pub record Weighed (f left : List ℕ) (n sum : ℕ) : Type 0 where
  pub last : List ℕ
  pub whole : left ++ last ≡ f
  pub many : n ≡ length last
  pub weighs : sum ≡ weighted last

every_behind : (p : ℕ → Bool) (xs ys : List ℕ) → every p (xs ++ ys) ≡ true → every p ys ≡ true
every_behind p [] ys h = h
every_behind p (x ∷ xs) ys h = every_behind p xs ys (and_parts _ _ h).1

pub weighed-none : (f : List ℕ) → Weighed f f 0 0
weighed-none f = record { last = []; whole = append-nil f; many = refl; weighs = refl }

-- one digit more
module _ (f left : List ℕ) (b n sum : ℕ) (h : Weighed f (left ++ b ∷ []) n sum) where
  next_whole : left ++ b ∷ h.last ≡ f
  next_whole = sym (append_assoc left (b ∷ []) h.last) ∙ h.whole

  next_weighs : (w : ℕ) → w ≡ weight n → sum + w * (b - 48) ≡ weighted (b ∷ h.last)
  next_weighs w e = rw (h.weighs, e, h.many) (omega arith)

  pub weighed-more : (w : ℕ) → w ≡ weight n → Weighed f left (n + 1) (sum + w * (b - 48))
  weighed-more w e = record { last = b ∷ h.last; whole = next_whole; many = omega (arith, h.many); weighs = next_weighs w e }

  module _ (a : every digit f ≡ true) where
    digits_next : every digit (b ∷ h.last) ≡ true
    digits_next = every_behind digit left (b ∷ h.last) (rw next_whole a)

    pub weighed-digit : (48 ≤ b) × (b ≤ 57)
    weighed-digit = digit-range b (and_parts _ _ digits_next).0

    -- what one digit more comes to
    pub weighed-fits : (w : ℕ) → w ≡ weight n → length f ≤ 18 → sum + w * (b - 48) ≤ 486
    weighed-fits w e s =
        let few : length (b ∷ h.last) ≤ 18 = (let e = ap length next_whole in omega (arith, s, length-append left (b ∷ h.last), e)) in
        omega (arith, next_weighs w e, weighted-most (b ∷ h.last) digits_next, few)
