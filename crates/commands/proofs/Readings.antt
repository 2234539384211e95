-- Numbers, read digit by digit.
use Rattle.std.proofs.Common.{◌≡◌, ℕ, ◌+◌, ◌-◌, ◌*◌, ◌<◌, ◌≤◌, true, false, cond, ◌&&◌, leb, List, [], ◌∷◌, length, get_or, drop, Some, None, Option, refl, ◌∙◌, arith}
use Rattle.std.proofs.lemmas.List.{drop_more}
use Rattle.std.proofs.lemmas.Bool.{and_right, lt-leb, leb-false}
use Rattle.std.proofs.lemmas.Bool.Decides.{nat_tests}
use Rattle.forms.specs.Bytes.{digit, every, number_on}
use Rattle.commands.specs.Numerals.{number_up_to}

-- what the number n comes to with the digits that are left
abbrev pub read_on : ℕ → ℕ → List ℕ → Option ℕ
read_on most n bs = cond (every digit bs && leb (number_on n bs) most) (Some (number_on n bs)) None

pub from_start : (most : ℕ) (bs : List ℕ) → 0 < length bs → read_on most 0 bs ≡ number_up_to most bs
from_start most [] l = absurd (omega arith)
from_start most (b ∷ bs) l = refl

number_on-ge : (n : ℕ) (bs : List ℕ) → n ≤ number_on n bs
number_on-ge n [] = omega arith
number_on-ge n (b ∷ bs) = omega (arith, number_on-ge (10 * n + (b - 48)) bs)

-- a number that is too large stays so
too_large : (most n : ℕ) (bs : List ℕ) → leb n most ≡ false → read_on most n bs ≡ None
too_large most n bs e =
    let big = leb-false n most e in
    let t : leb (number_on n bs) most ≡ false = lt-leb (number_on n bs) most (omega (arith, number_on-ge n bs)) in
    let f = and_right (every digit bs) _ t in
    rw f

-- what the next digit comes to
was_none : (most n : ℕ) → None ≡ cond (leb n most) (Some n) None → leb n most ≡ false
was_none most n e = grind (arith, nat_tests)

module _ (most n : ℕ) (bs : List ℕ) (i : ℕ) (l : i < length bs) where
  -- one digit more, of the value d
  module _ (d : ℕ) (e : digit (get_or bs i 0) ≡ true) (is : d ≡ get_or bs i 0 - 48) where
    one_digit : read_on most n (drop i bs) ≡ read_on most (10 * n + d) (drop (i + 1) bs)
    one_digit = rw (drop_more bs i 0 l, e, is)

    pub past_most : None ≡ cond (leb (10 * n + d) most) (Some (10 * n + d)) None → read_on most n (drop i bs) ≡ None
    past_most h = one_digit ∙ too_large most (10 * n + d) (drop (i + 1) bs) (was_none most (10 * n + d) h)
