-- Measures: a digit d from 0 to 5, the number of decimals, and six digits m: the fraction m / 10^d.
use Rattle.std.specs.Prelude.{◌≡◌, ℕ, ◌+◌, ◌-◌, ◌*◌, ◌/◌, ◌%◌, ◌^◌, ◌≤◌, true, cond, List, ◌∷◌, length, drop, Option, ◌==◌, nat_le, slice_index}
use Rattle.forms.specs.Bytes.{digit, every, number, last_digits}
use Rattle.forms.specs.Verdicts.{first_of, unless, admitted}
use Rattle.forms.specs.declared.fault.FieldFault.{FieldFault}
use Rattle.forms.specs.declared.fault.FieldFault.TheVariants.{Decimals}

-- the number of decimals that a field tells
abbrev pub decimals_told : List ℕ → ℕ
decimals_told f = slice_index f 0 - 48

pub record MeasureLawful (f : List ℕ) : Type 0 where
  pub long : length f ≡ 7
  pub all : every digit f ≡ true
  pub few : decimals_told f ≤ 5

abbrev pub measure_lawful : ℕ → List ℕ → Type 0
measure_lawful y f = MeasureLawful f

abbrev pub measure_fault : ℕ → ℕ → List ℕ → Option FieldFault
measure_fault y at f = first_of (admitted digit 7 7 at f) (unless (nat_le (decimals_told f) 5) (Decimals at))

-- m / 10^d in hundred-thousandths
abbrev pub measure_worth : ℕ → List ℕ → ℕ
measure_worth y f = number (drop 1 f) * 10 ^ (5 - decimals_told f)

-- the fewest decimals with which n hundred-thousandths can be written
abbrev pub fewest : ℕ → ℕ
fewest n =
    cond (n % 100000 == 0) 0 (cond (n % 10000 == 0) 1 (cond (n % 1000 == 0) 2 (cond (n % 100 == 0) 3 (cond (n % 10 == 0) 4 5))))

abbrev pub measure_writing : ℕ → List ℕ
measure_writing n = (48 + fewest n) ∷ last_digits 6 (n / 10 ^ (5 - fewest n))
