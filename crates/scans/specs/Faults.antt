-- What each refusal of a scan tells: its number, its layer and its place.
use Rattle.std.specs.Prelude.{ℕ}
use Rattle.forms.specs.Faults.{field_number, field_layer, field_place}
use Rattle.forms.specs.declared.fault.Layer.{Layer}
use Rattle.forms.specs.declared.fault.Layer.TheVariants.{Scan, Card}
use Rattle.scans.specs.declared.fault.ScanFault.{ScanFault}
use Rattle.scans.specs.declared.fault.ScanFault.TheVariants.{NoMark, Separator, Unknown, Length, Field, Clash, Differs, Full}

abbrev pub scan_number : ScanFault → ℕ
scan_number NoMark = 1
scan_number (Separator p) = 2
scan_number (Unknown p) = 3
scan_number (Length p) = 4
scan_number (Field f) = field_number f
scan_number (Clash p) = 9
scan_number (Differs p) = 10
scan_number (Full p) = 11

abbrev pub scan_layer : ScanFault → Layer
scan_layer NoMark = Scan
scan_layer (Separator p) = Scan
scan_layer (Unknown p) = Scan
scan_layer (Length p) = Scan
scan_layer (Field f) = field_layer f
scan_layer (Clash p) = Card
scan_layer (Differs p) = Card
scan_layer (Full p) = Card

abbrev pub scan_place : ScanFault → ℕ
scan_place NoMark = 0
scan_place (Separator p) = p
scan_place (Unknown p) = p
scan_place (Length p) = p
scan_place (Field f) = field_place f
scan_place (Clash p) = p
scan_place (Differs p) = p
scan_place (Full p) = p
