-- Texts and digits: 1 to 30 bytes of a class, written as read.
use Rattle.std.specs.Prelude.{◌≡◌, ℕ, ◌≤◌, Bool, true, List, length, Option}
use Rattle.forms.specs.Bytes.{allowed, digit, every}
use Rattle.forms.specs.Verdicts.{admitted}
use Rattle.forms.specs.declared.fault.FieldFault.{FieldFault}
use Rattle.forms.specs.Packs.{packed, unpacked}
use Rattle.forms.specs.declared.packed.Packed.{Packed}

pub record CharsLawful (p : ℕ → Bool) (f : List ℕ) : Type 0 where
  pub some : 1 ≤ length f
  pub short : length f ≤ 30
  pub all : every p f ≡ true

abbrev pub chars_fault : (ℕ → Bool) → ℕ → List ℕ → Option FieldFault
chars_fault p at f = admitted p 1 30 at f

abbrev pub text_writing : Packed 30 → List ℕ
text_writing t = unpacked t

abbrev pub text_lawful : ℕ → List ℕ → Type 0
text_lawful y f = CharsLawful allowed f

abbrev pub text_fault : ℕ → ℕ → List ℕ → Option FieldFault
text_fault y at f = chars_fault allowed at f

abbrev pub digits_lawful : ℕ → List ℕ → Type 0
digits_lawful y f = CharsLawful digit f

abbrev pub digits_fault : ℕ → ℕ → List ℕ → Option FieldFault
digits_fault y at f = chars_fault digit at f

-- the bytes are the value
abbrev pub text_worth : ℕ → List ℕ → Packed 30
text_worth y f = packed 30 f
