-- What a value is, with its parts, and how it is written.
use Rattle.std.specs.Prelude.{ℕ, ◌%◌, List, ◌++◌, take, decimal}
use Rattle.forms.specs.Bytes.{two}
use Rattle.forms.specs.Measures.{measure_writing}
use Rattle.forms.specs.Packs.{unpacked}
use Rattle.forms.specs.declared.packed.Packed.{Packed}
use Rattle.forms.specs.declared.value.Date.{Date}
use Rattle.forms.specs.declared.value.Stamp.{Stamp}
use Rattle.forms.specs.declared.value.Value as value

-- a value: a text or a key by its bytes, a date by year, month and day, a stamp by these, hour and minute,
-- a fraction as so many hundred-thousandths, a whole number
pub data Meaning : Type 0 where
  text : List ℕ → Meaning
  key : List ℕ → Meaning
  date : ℕ → ℕ → ℕ → Meaning
  stamp : ℕ → ℕ → ℕ → ℕ → ℕ → Meaning
  fraction : ℕ → Meaning
  whole : ℕ → Meaning

-- YYMMDD
abbrev pub dated : ℕ → ℕ → ℕ → List ℕ
dated y m d = two (y % 100) ++ (two m ++ two d)

-- the writing of a value
abbrev pub written : Meaning → List ℕ
written (text bs) = bs
written (key bs) = bs
written (date y m d) = dated y m d
written (stamp y m d h i) = dated y m d ++ (two h ++ two i)
written (fraction n) = measure_writing n
written (whole n) = decimal n

-- what the code's values mean
abbrev pub text_means : Packed 30 → Meaning
text_means t = text (unpacked t)

abbrev pub key_means : Packed 18 → Meaning
key_means k = key (unpacked k)

abbrev pub date_means : Date → Meaning
date_means d = date d.year d.month d.day

abbrev pub stamp_means : Stamp → Meaning
stamp_means s = stamp s.date.year s.date.month s.date.day s.hour s.minute

-- what a value means beside which the bytes `beside` lie
abbrev pub told : value.Value → List ℕ → Meaning
told (value.TheVariants.Text n) beside = text (take n beside)
told (value.TheVariants.Key k) beside = key_means k
told (value.TheVariants.Date d) beside = date_means d
told (value.TheVariants.Stamp s) beside = stamp_means s
told (value.TheVariants.Fraction n) beside = fraction n
told (value.TheVariants.Whole n) beside = whole n
