-- The worked cases, of the very definitions that the contracts of the library point to.
use Rattle.std.specs.Prelude.{◌≡◌, ℕ, Some, None, codes}
use Rattle.forms.specs.Dates.{full_year}
use Rattle.forms.specs.Faults.{field_number}
use Rattle.forms.specs.Kinds.{kind_lawful, kind_fault, kind_meaning}
use Rattle.forms.specs.Values.{date}
use Rattle.forms.specs.declared.fault.FieldFault.TheVariants.{CheckDigit, NoSuchTime}
use Rattle.forms.specs.declared.kind.FormKind.TheVariants.{Key, Date}
use Rattle.worked.specs.Scans.{Holds, no_weight, seven, trade_item, disordered, variant, dated_lot}

pub record WorkedCases : Type 0 where
  -- KEYS

  -- 04841234123457 is a key: in every year it is lawful, and wherever it begins it has no fault
  pub key : (y p : ℕ) → kind_lawful Key y (codes "04841234123457") × (kind_fault Key y p (codes "04841234123457") ≡ None)
  -- with 8 at its end it is none, and its fault is that of the check digit, which stands at place 13
  pub no_key : (y : ℕ) → (kind_lawful Key y (codes "04841234123458") → ⊥) × (kind_fault Key y 0 (codes "04841234123458") ≡ Some (CheckDigit 13))
  -- that is refusal 6
  pub no_key_number : field_number (CheckDigit 13) ≡ 6
  -- DATES

  -- on a card of 2026 the last two digits 76 mean 2076, and 77 mean 1977
  pub last_year : full_year 2026 76 ≡ 2076
  pub first_year : full_year 2026 77 ≡ 1977
  -- on a card of 2026 day 00 of February is the 28th
  pub month_end : (kind_fault Date 2026 0 (codes "260200") ≡ None) × (kind_meaning Date 2026 (codes "260200") ≡ date 2026 2 28)
  -- on a card of 2026 the year 00 is 2000, which has a 29 February
  pub leap_day : (kind_fault Date 2026 0 (codes "000229") ≡ None) × (kind_meaning Date 2026 (codes "000229") ≡ date 2000 2 29)
  -- on a card of 2060 it is 2100, which has none: refusal 7, at the field
  pub no_leap_day : (kind_fault Date 2060 0 (codes "000229") ≡ Some (NoSuchTime 0)) × (field_number (NoSuchTime 0) ≡ 7)
  -- SCANS: elements, canonical strings and symbols

  -- 3105000000 is written 3100000000
  pub weight : Holds no_weight
  -- 3000000007 is written 307
  pub count : Holds seven
  -- a trade item with its lot and its serial number has three elements
  pub three : Holds trade_item
  -- a lot, a weight and a best-before month come to 15260930310200012510AB
  pub ordered : Holds disordered
  -- 2015 prints as 105 102 20 15 86 106
  pub one_printed : Holds variant
  -- 1526093010AB prints as 105 102 15 26 9 30 10 100 33 34 80 106
  pub two_printed : Holds dated_lot
