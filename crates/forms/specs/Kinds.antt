-- The forms by name: what each bars, allows and means.
use Rattle.std.specs.Prelude.{◌≡◌, ℕ, List, ◌++◌, length, drop, Some, None, Ok, Err, Option, Result}
use Rattle.forms.specs.Values.{Meaning, text, key, fraction, whole, date_means, stamp_means, told, written}
use Rattle.forms.specs.Texts.{text_lawful, text_fault, digits_lawful, digits_fault}
use Rattle.forms.specs.Keys.{key_lawful, key_fault}
use Rattle.forms.specs.Dates.{date_lawful, date_fault, date_worth, stamp_lawful, stamp_fault, stamp_worth}
use Rattle.forms.specs.Measures.{measure_lawful, measure_fault, measure_worth}
use Rattle.forms.specs.Counts.{count_lawful, count_fault, count_worth}
use Rattle.forms.specs.declared.fault.FieldFault.{FieldFault}
use Rattle.forms.specs.declared.judge.Reading.{Reading}
use Rattle.forms.specs.declared.kind.FormKind.{FormKind}
use Rattle.forms.specs.declared.kind.FormKind.TheVariants.{Text, Digits, Key, Date, Stamp, Measure, Count}

-- the field f of the form is lawful in the year y
abbrev pub kind_lawful : FormKind → ℕ → List ℕ → Type 0
kind_lawful Text y f = text_lawful y f
kind_lawful Digits y f = digits_lawful y f
kind_lawful Key y f = key_lawful y f
kind_lawful Date y f = date_lawful y f
kind_lawful Stamp y f = stamp_lawful y f
kind_lawful Measure y f = measure_lawful y f
kind_lawful Count y f = count_lawful y f

-- its first fault, where it begins at the place p
abbrev pub kind_fault : FormKind → ℕ → ℕ → List ℕ → Option FieldFault
kind_fault Text y p f = text_fault y p f
kind_fault Digits y p f = digits_fault y p f
kind_fault Key y p f = key_fault y p f
kind_fault Date y p f = date_fault y p f
kind_fault Stamp y p f = stamp_fault y p f
kind_fault Measure y p f = measure_fault y p f
kind_fault Count y p f = count_fault y p f

-- its value
abbrev pub kind_meaning : FormKind → ℕ → List ℕ → Meaning
kind_meaning Text y f = text f
kind_meaning Digits y f = text f
kind_meaning Key y f = key f
kind_meaning Date y f = date_means (date_worth y f)
kind_meaning Stamp y f = stamp_means (stamp_worth y f)
kind_meaning Measure y f = fraction (measure_worth y f)
kind_meaning Count y f = whole (count_worth y f)

-- what a reader of a field answers that may have a fault and means m: the fault, and nothing is written;
-- else the value, and its writing over the first bytes of `before`
abbrev pub Reads : Option FieldFault → Meaning → List ℕ → List ℕ → Result Reading FieldFault → Type 0
Reads fault m before after (Ok r) = (fault ≡ None) × (told r.value after ≡ m) × (r.len ≡ length (written m)) × (after ≡ written m ++ drop r.len before)
Reads fault m before after (Err e) = (fault ≡ Some e) × (after ≡ before)
