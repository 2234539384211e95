-- What each refusal of a field tells: its number, its layer and its place.
use Rattle.std.specs.Prelude.{ℕ}
use Rattle.forms.specs.declared.fault.Layer.{Layer}
use Rattle.forms.specs.declared.fault.Layer.TheVariants.{Scan, Field}
use Rattle.forms.specs.declared.fault.FieldFault.{FieldFault}
use Rattle.forms.specs.declared.fault.FieldFault.TheVariants.{Length, Barred, CheckDigit, NoSuchTime, Decimals}

abbrev pub field_number : FieldFault → ℕ
field_number (Length p) = 4
field_number (Barred p) = 5
field_number (CheckDigit p) = 6
field_number (NoSuchTime p) = 7
field_number (Decimals p) = 8

abbrev pub field_layer : FieldFault → Layer
field_layer (Length p) = Scan
field_layer (Barred p) = Field
field_layer (CheckDigit p) = Field
field_layer (NoSuchTime p) = Field
field_layer (Decimals p) = Field

abbrev pub field_place : FieldFault → ℕ
field_place (Length p) = p
field_place (Barred p) = p
field_place (CheckDigit p) = p
field_place (NoSuchTime p) = p
field_place (Decimals p) = p
