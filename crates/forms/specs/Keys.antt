-- Keys: 2 to 18 digits, of which the last is a check digit.
use Rattle.std.specs.Prelude.{◌≡◌, ℕ, ◌+◌, ◌-◌, ◌*◌, ◌%◌, ◌≤◌, true, cond, List, [], ◌∷◌, length, Option, ◌==◌}
use Rattle.forms.specs.Bytes.{digit, every}
use Rattle.forms.specs.Verdicts.{first_of, unless, admitted}
use Rattle.forms.specs.declared.fault.FieldFault.{FieldFault}
use Rattle.forms.specs.declared.fault.FieldFault.TheVariants.{CheckDigit}
use Rattle.forms.specs.Packs.{packed, unpacked}
use Rattle.forms.specs.declared.packed.Packed.{Packed}

-- the weight of a digit that has so many digits to its right: the last weighs 1, and those before it, from the right, 3, 1, 3 and so on
abbrev pub weight : ℕ → ℕ
weight right = cond (right % 2 == 1) 3 1

-- the weighted sum of digits
abbrev pub weighted : List ℕ → ℕ
weighted [] = 0
weighted (c ∷ cs) = weight (length cs) * (c - 48) + weighted cs

pub record KeyLawful (f : List ℕ) : Type 0 where
  pub some : 2 ≤ length f
  pub short : length f ≤ 18
  pub all : every digit f ≡ true
  pub sums : weighted f % 10 ≡ 0

abbrev pub key_lawful : ℕ → List ℕ → Type 0
key_lawful y f = KeyLawful f

-- a check digit that does not fit is told at the field's last byte
abbrev pub key_fault : ℕ → ℕ → List ℕ → Option FieldFault
key_fault y at f = first_of (admitted digit 2 18 at f) (unless (weighted f % 10 == 0) (CheckDigit (at + (length f - 1))))

abbrev pub key_worth : ℕ → List ℕ → Packed 18
key_worth y f = packed 18 f

abbrev pub key_writing : Packed 18 → List ℕ
key_writing k = unpacked k
