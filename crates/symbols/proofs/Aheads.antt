-- The rules by which an element is written, one by one.
use Rattle.std.proofs.Common.{◌≡◌, ℕ, ◌+◌, ◌-◌, ◌*◌, ◌<◌, ◌≤◌, Bool, true, false, cond, leb, List, [], ◌∷◌, length, get_or, drop, sym, refl, ap, ◌∙◌, arith}
use Rattle.std.specs.List.{prefix_len, AllByRecursion as All}
use Rattle.std.proofs.lemmas.List.Sums.{prefix_len-le-length}
use Rattle.std.proofs.lemmas.Bool.{le-leb, lt-leb, leb-true, leb-false, cond-true, cond-false, false≢true}
use Rattle.std.proofs.lemmas.Bool.Decides.{nat_tests}
use Rattle.forms.specs.Bytes.{digit, allowed}
use Rattle.symbols.specs.declared.code.CodeSet.{CodeSet}
use Rattle.symbols.specs.declared.code.CodeSet.TheVariants.{B, C}
use Rattle.symbols.specs.Encoding.{Steps, pair_of, ahead, values, set_after, clean}

both_true : (x y : Bool) (n : ℕ) → leb 2 (cond x (1 + cond y (1 + n) 0) 0) ≡ true → (x ≡ true) × (y ≡ true)
both_true true true n e = (refl, refl)
both_true true false n e = absurd (false≢true e)
both_true false y n e = absurd (false≢true e)

one_short : (x : Bool) → leb 2 (cond x 1 0) ≡ true → ⊥
one_short true e = false≢true e
one_short false e = false≢true e

four_two : (n : ℕ) → leb 4 n ≡ true → leb 2 n ≡ true
four_two n e = le-leb 2 n (omega (arith, leb-true 4 n e))

two-four : (n : ℕ) → leb 2 n ≡ false → leb 4 n ≡ false
two-four n e = lt-leb 4 n (omega (arith, leb-false 2 n e))

-- two digits ahead
pub two_digits : (a b : ℕ) (bs : List ℕ) → ahead 2 (a ∷ b ∷ bs) ≡ true → (digit a ≡ true) × (digit b ≡ true)
two_digits a b bs e = both_true (digit a) (digit b) (prefix_len digit bs) e

pub four_digits : (a b : ℕ) (bs : List ℕ) → ahead 4 (a ∷ b ∷ bs) ≡ true → (digit a ≡ true) × (digit b ≡ true)
four_digits a b bs e = two_digits a b bs (four_two (prefix_len digit (a ∷ b ∷ bs)) e)

pub one_ahead : (xs : List ℕ) → length xs < 2 → ahead 2 xs ≡ false
one_ahead [] h = refl
one_ahead (a ∷ []) h = elim (digit a) as (λ x. leb 2 (cond x 1 0) ≡ false) [ true ↦ refl | false ↦ refl ]
one_ahead (a ∷ b ∷ bs) h = absurd (omega arith)

-- in set C, two digits ahead make a pair
pub rule_pair : (xs ys zs : List ℕ) (v : ℕ) → ys ≡ drop 1 xs → zs ≡ drop 1 ys → ahead 2 xs ≡ true → v ≡ pair_of (get_or xs 0 0) (get_or ys 0 0) → Steps C xs v C zs
rule_pair [] ys zs v p q e r = absurd (false≢true e)
rule_pair (a ∷ []) ys zs v p q e r = absurd (one_short (digit a) e)
rule_pair (a ∷ b ∷ bs) ys zs v p q e r =
    let w : v ≡ pair_of a b = r ∙ ap (λ l. pair_of a (get_or l 0 0)) p in
    let z : zs ≡ bs = q ∙ ap (drop 1) p in
    record { vals = cond-true _ _ _ e ∙ sym (λ k. w k ∷ values C (z k)); goes = cond-true _ _ _ e ∙ sym (ap (set_after C) z) }

-- otherwise 100 goes to set B
pub rule_to_b : (xs : List ℕ) → 0 < length xs → ahead 2 xs ≡ false → Steps C xs 100 B xs
rule_to_b [] h e = absurd (omega arith)
rule_to_b (a ∷ []) h e = record { vals = refl; goes = refl }
rule_to_b (a ∷ b ∷ bs) h e =
    let f = two-four (prefix_len digit (a ∷ b ∷ bs)) e in
    record { vals = cond-false _ _ _ e ∙ ap (λ r. 100 ∷ r) (sym (cond-false _ _ _ f)); goes = cond-false _ _ _ e ∙ sym (cond-false _ _ _ f) }

-- in set B, four digits ahead cause 99, which goes to set C
pub rule_to_c : (xs : List ℕ) → ahead 4 xs ≡ true → Steps B xs 99 C xs
rule_to_c [] e = absurd (false≢true e)
rule_to_c (a ∷ []) e = absurd (one_short (digit a) (four_two (prefix_len digit (a ∷ [])) e))
rule_to_c (a ∷ b ∷ bs) e =
    let f = four_two (prefix_len digit (a ∷ b ∷ bs)) e in
    record { vals = cond-true _ _ _ e ∙ ap (λ r. 99 ∷ r) (sym (cond-true _ _ _ f)); goes = cond-true _ _ _ e ∙ sym (cond-true _ _ _ f) }

-- otherwise the byte is written
pub rule_byte : (xs : List ℕ) → 0 < length xs → ahead 4 xs ≡ false → Steps B xs (get_or xs 0 0 - 32) B (drop 1 xs)
rule_byte [] h e = absurd (omega arith)
rule_byte (a ∷ []) h e = record { vals = refl; goes = refl }
rule_byte (a ∷ b ∷ bs) h e = record { vals = cond-false _ _ _ e; goes = cond-false _ _ _ e }

-- at most two values to a byte
pub values-few : (s : CodeSet) (xs : List ℕ) → length (values s xs) ≤ 2 * length xs
values-few B [] = omega arith
values-few C [] = omega arith
values-few B (a ∷ []) = omega arith
values-few C (a ∷ []) = omega arith
values-few B (a ∷ b ∷ bs) =
    let P : Bool → Type 0 = λ x. length (cond x (99 ∷ pair_of a b ∷ values C bs) ((a - 32) ∷ values B (b ∷ bs))) ≤ 2 * length (a ∷ b ∷ bs) in
    elim (ahead 4 (a ∷ b ∷ bs)) as P [ true ↦ omega (arith, values-few C bs) | false ↦ omega (arith, values-few B (b ∷ bs)) ]
values-few C (a ∷ b ∷ bs) =
    let P : Bool → Type 0 = λ x. length (cond x (pair_of a b ∷ values C bs) (100 ∷ (a - 32) ∷ values B (b ∷ bs))) ≤ 2 * length (a ∷ b ∷ bs) in
    elim (ahead 2 (a ∷ b ∷ bs)) as P [ true ↦ omega (arith, values-few C bs) | false ↦ omega (arith, values-few B (b ∷ bs)) ]

-- bytes that set B has
abbrev pub Text : ℕ → Type 0
Text b = (32 ≤ b) × (b ≤ 127)

allowed-text : (b : ℕ) → allowed b ≡ true → Text b
allowed-text b e = (grind (arith, nat_tests), grind (arith, nat_tests))

digit-allowed : (b : ℕ) → digit b ≡ true → allowed b ≡ true
digit-allowed b e = grind (arith, nat_tests)

-- bytes that all pass are text
pub all-text : (xs : List ℕ) → prefix_len allowed xs ≡ length xs → All Text xs
all-text [] e = tt
all-text (x ∷ xs) e =
    let P : Bool → Type 0 = λ t. allowed x ≡ t → cond t (1 + prefix_len allowed xs) 0 ≡ length (x ∷ xs) → Text x × All Text xs in
    elim (allowed x) as P [
      | true ↦ (λ a h. (allowed-text x a, all-text xs (omega arith)))
      | false ↦ (λ a h. absurd (omega arith))
    ] refl e

digits_pass : (xs : List ℕ) → prefix_len digit xs ≤ prefix_len allowed xs
digits_pass [] = omega arith
digits_pass (x ∷ xs) =
    let P : Bool → Type 0 = λ t. digit x ≡ t → cond t (1 + prefix_len digit xs) 0 ≤ prefix_len allowed (x ∷ xs) in
    elim (digit x) as P [
      | true ↦ (λ d. omega (arith, digits_pass xs, cond-true (allowed x) (1 + prefix_len allowed xs) 0 (digit-allowed x d)))
      | false ↦ (λ d. omega arith)
    ] refl

-- so are the bytes of an element that bars none
pub clean-passes : (e : List ℕ) → length e ≤ clean e → prefix_len allowed e ≡ length e
clean-passes e h =
    let d = digits_pass e in let l = prefix_len-le-length allowed e in
    grind (arith, nat_tests)
