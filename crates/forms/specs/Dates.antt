-- Dates, YYMMDD, and stamps, YYMMDDhhmm.
use Rattle.std.specs.Prelude.{◌≡◌, ℕ, ◌+◌, ◌-◌, ◌*◌, ◌/◌, ◌%◌, ◌≤◌, Bool, true, cond, not, ◌&&◌, ◌||◌, List, length, Some, None, Option, ◌==◌, nat_le}
use Rattle.forms.specs.Bytes.{within, digit, every, pair}
use Rattle.forms.specs.Verdicts.{first_of, unless, admitted}
use Rattle.forms.specs.Values.{written, date_means, stamp_means}
use Rattle.forms.specs.declared.fault.FieldFault.{FieldFault}
use Rattle.forms.specs.declared.fault.FieldFault.TheVariants.{NoSuchTime}
use Rattle.forms.specs.declared.value.Date.{Date}
use Rattle.forms.specs.declared.value.Stamp.{Stamp}

-- the year of which yy are the last two digits, in a card's year y: where yy is 51 or more above the last two digits of y
-- it lies in the century before, where it is 50 or more below in the next one, else in the same
abbrev pub full_year : ℕ → ℕ → ℕ
full_year y yy =
    cond (nat_le (y % 100 + 51) yy) (y / 100 * 100 - 100 + yy)
    (cond (nat_le (yy + 50) (y % 100)) (y / 100 * 100 + 100 + yy)
    (y / 100 * 100 + yy))

-- every fourth year is a leap year, of the years that end a century every fourth
abbrev pub leap : ℕ → Bool
leap y = y % 4 == 0 && (not (y % 100 == 0) || y % 400 == 0)

-- how many days a month has
abbrev pub days_in : ℕ → ℕ → ℕ
days_in y m =
    cond (m == 2) (cond (leap y) 29 28)
    (cond (m == 4 || (m == 6 || (m == 9 || m == 11))) 30 31)

-- there is such a day, 00 for the last of its month among them
abbrev pub day_stands : ℕ → ℕ → ℕ → Bool
day_stands y m d = within 1 12 m && nat_le d (days_in y m)

-- there is such a minute of a day; 00 is no day here
abbrev pub minute_stands : ℕ → ℕ → ℕ → ℕ → ℕ → Bool
minute_stands y m d h i = day_stands y m d && (nat_le 1 d && (nat_le h 23 && nat_le i 59))

-- day 00 is the last day of its month
abbrev pub day_meant : ℕ → ℕ → ℕ → ℕ
day_meant y m d = cond (d == 0) (days_in y m) d

pub record DateLawful (y : ℕ) (f : List ℕ) : Type 0 where
  pub long : length f ≡ 6
  pub all : every digit f ≡ true
  pub month_low : 1 ≤ pair f 2
  pub month_high : pair f 2 ≤ 12
  pub day : pair f 4 ≤ days_in (full_year y (pair f 0)) (pair f 2)

abbrev pub date_lawful : ℕ → List ℕ → Type 0
date_lawful y f = DateLawful y f

-- the date that is written, its day as written, if there is such a day
abbrev pub date_read : ℕ → List ℕ → Option Date
date_read y f =
    cond (day_stands (full_year y (pair f 0)) (pair f 2) (pair f 4)) (Some (record { year = full_year y (pair f 0); month = pair f 2; day = pair f 4 })) None

abbrev pub date_fault : ℕ → ℕ → List ℕ → Option FieldFault
date_fault y at f =
    first_of (admitted digit 6 6 at f) (unless (day_stands (full_year y (pair f 0)) (pair f 2) (pair f 4)) (NoSuchTime at))

abbrev pub date_worth : ℕ → List ℕ → Date
date_worth y f = record { year = full_year y (pair f 0); month = pair f 2; day = day_meant (full_year y (pair f 0)) (pair f 2) (pair f 4) }

abbrev pub date_writing : Date → List ℕ
date_writing d = written (date_means d)

pub record StampLawful (y : ℕ) (f : List ℕ) : Type 0 where
  pub long : length f ≡ 10
  pub all : every digit f ≡ true
  pub month_low : 1 ≤ pair f 2
  pub month_high : pair f 2 ≤ 12
  pub day_low : 1 ≤ pair f 4
  pub day_high : pair f 4 ≤ days_in (full_year y (pair f 0)) (pair f 2)
  pub hour : pair f 6 ≤ 23
  pub minute : pair f 8 ≤ 59

abbrev pub stamp_lawful : ℕ → List ℕ → Type 0
stamp_lawful y f = StampLawful y f

abbrev pub stamp_fault : ℕ → ℕ → List ℕ → Option FieldFault
stamp_fault y at f =
    first_of (admitted digit 10 10 at f) (unless (minute_stands (full_year y (pair f 0)) (pair f 2) (pair f 4) (pair f 6) (pair f 8)) (NoSuchTime at))

abbrev pub stamp_worth : ℕ → List ℕ → Stamp
stamp_worth y f = record { date = record { year = full_year y (pair f 0); month = pair f 2; day = pair f 4 }; hour = pair f 6; minute = pair f 8 }

abbrev pub stamp_writing : Stamp → List ℕ
stamp_writing s = written (stamp_means s)
