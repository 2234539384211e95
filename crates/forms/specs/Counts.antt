-- Counts: 1 to 8 digits, a whole number, written without zeros in front.
use Rattle.std.specs.Prelude.{◌≡◌, ℕ, ◌≤◌, true, List, length, decimal, Option}
use Rattle.forms.specs.Bytes.{digit, every, number}
use Rattle.forms.specs.Verdicts.{admitted}
use Rattle.forms.specs.declared.fault.FieldFault.{FieldFault}

pub record CountLawful (f : List ℕ) : Type 0 where
  pub some : 1 ≤ length f
  pub short : length f ≤ 8
  pub all : every digit f ≡ true

abbrev pub count_lawful : ℕ → List ℕ → Type 0
count_lawful y f = CountLawful f

abbrev pub count_fault : ℕ → ℕ → List ℕ → Option FieldFault
count_fault y at f = admitted digit 1 8 at f

abbrev pub count_worth : ℕ → List ℕ → ℕ
count_worth y f = number f

abbrev pub count_writing : ℕ → List ℕ
count_writing n = decimal n
