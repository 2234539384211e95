-- What a reader of one element answers.
use Rattle.std.specs.Prelude.{◌≡◌, ℕ, ◌+◌, ◌<◌, ◌≤◌, List, ◌++◌, length, drop, Some, None, Ok, Err, Option, Result}
use Rattle.forms.specs.Values.{Meaning, told, written}
use Rattle.forms.specs.Kinds.{kind_meaning}
use Rattle.forms.specs.declared.judge.Reading.{Reading}
use Rattle.books.specs.declared.entry.Entry.{Entry}
use Rattle.scans.specs.declared.element.Element as read
use Rattle.scans.specs.declared.fault.ScanFault.{ScanFault}
use Rattle.scans.specs.Elements.{Element, Front, front}

-- what an element means in the year y
abbrev pub meaning : ℕ → Element → Meaning
meaning y x = kind_meaning x.entry.form y x.field

-- a field that means m was read: its value, whose writing stands over the first bytes of `before`
pub record Held (m : Meaning) (before after : List ℕ) (r : Reading) : Type 0 where
  pub value : told r.value after ≡ m
  pub long : r.len ≡ length (written m)
  pub wrote : after ≡ written m ++ drop r.len before

-- what is answered of the element in front of bytes that stand at the place `at`
abbrev pub ReadsFront : Result Front ScanFault → ℕ → ℕ → List ℕ → List ℕ → Result read.Element ScanFault → Type 0
ReadsFront was y at before after (Ok r) =
    (x : Element) × (taken : ℕ) × (was ≡ Ok (record { element = x; taken = taken })) × (r.next ≡ at + taken) × (r.entry ≡ x.entry) × Held (meaning y x) before after r.reading
ReadsFront was y at before after (Err e) = (was ≡ Err e) × (after ≡ before)

-- at the place `at` of a scan: nothing where it has ended, else the element in front of what stands there, or the fault
abbrev pub Reads : List Entry → ℕ → ℕ → List ℕ → List ℕ → List ℕ → Result (Option read.Element) ScanFault → Type 0
Reads es y at scan before after (Ok None) = (length scan ≤ at) × (after ≡ before)
Reads es y at scan before after (Ok (Some r)) =
    (at < length scan) × (at < r.next) × (r.next ≤ length scan)
    × ((x : Element) × (taken : ℕ) × (front es y at (drop at scan) ≡ Ok (record { element = x; taken = taken })) × (r.next ≡ at + taken) × (r.entry ≡ x.entry) × Held (meaning y x) before after r.reading)
Reads es y at scan before after (Err e) = (at < length scan) × (front es y at (drop at scan) ≡ Err e) × (after ≡ before)

-- how many elements were read, n of them before
abbrev pub counted : ℕ → Result (List Element) ScanFault → Result ℕ ScanFault
counted n (Ok xs) = Ok (n + length xs)
counted n (Err e) = Err e
