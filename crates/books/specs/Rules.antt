-- Which Application Identifiers there are, form by form.
use Rattle.std.specs.Prelude.{◌≡◌, ℕ, zero, suc, ◌+◌, ◌-◌, cond, List, [], ◌∷◌, ◌++◌}
use Rattle.forms.specs.Bytes.{last_digits}
use Rattle.forms.specs.declared.kind.FormKind.{FormKind}
use Rattle.forms.specs.declared.kind.FormKind.TheVariants.{Text, Digits, Key, Date, Stamp, Measure, Count}
use Rattle.books.specs.declared.row.Row.{Row}
use Rattle.books.specs.Texts.{comes_first}
use Rattle.books.specs.Entries.{listed}
use Rattle.books.specs.Rows.{row_entry}
use Rattle.books.specs.Table.{table}

-- so many numbers in a row, from n on
abbrev count_from : ℕ → ℕ → List ℕ
count_from zero n = []
count_from (suc k) n = n ∷ count_from k (n + 1)

-- the numbers from the first to the last
abbrev up_to : ℕ → ℕ → List ℕ
up_to first last = count_from (last + 1 - first) first

-- a form, the shortest and the longest field, how many digits the idents have, and which they are
abbrev group : FormKind → ℕ → ℕ → ℕ → List ℕ → List Row
group form shortest longest digits [] = []
group form shortest longest digits (n ∷ ns) =
    (digits, n, form, shortest, longest) ∷ group form shortest longest digits ns

abbrev pub rules : List Row
rules =
    group Key 18 18 2 (0 ∷ []) ++
    group Key 14 14 2 (1 ∷ 2 ∷ []) ++
    group Key 13 13 3 (up_to 410 415) ++
    group Key 17 17 3 (402 ∷ []) ++
    group Text 1 20 2 (10 ∷ 21 ∷ []) ++
    group Text 1 20 3 (420 ∷ []) ++
    group Text 1 30 3 (240 ∷ 241 ∷ 250 ∷ 251 ∷ 400 ∷ 401 ∷ 403 ∷ []) ++
    group Text 1 30 2 (up_to 90 99) ++
    group Text 1 25 4 (8020 ∷ []) ++
    group Date 6 6 2 (11 ∷ 12 ∷ 13 ∷ 15 ∷ 17 ∷ []) ++
    group Stamp 10 10 4 (7003 ∷ []) ++
    group Digits 2 2 2 (20 ∷ []) ++
    group Digits 3 3 3 (422 ∷ []) ++
    group Digits 6 6 4 (8005 ∷ []) ++
    group Count 1 8 2 (30 ∷ 37 ∷ []) ++
    group Measure 7 7 3 (up_to 310 316) ++
    group Measure 7 7 3 (up_to 320 329) ++
    group Measure 7 7 3 (350 ∷ 351 ∷ 352 ∷ 356 ∷ 357 ∷ 360 ∷ 361 ∷ 364 ∷ 365 ∷ 366 ∷ [])

-- a row among rows that rise by their idents' digits as text
abbrev placed : Row → List Row → List Row
placed r [] = r ∷ []
placed r (s ∷ ss) = cond (comes_first (last_digits r.0 r.1) (last_digits s.0 s.1)) (r ∷ s ∷ ss) (s ∷ placed r ss)

abbrev pub rising : List Row → List Row
rising [] = []
rising (r ∷ rs) = placed r (rising rs)

-- the table has what the rules say, all of it and no more
abbrev pub Ruled : Type 0
Ruled = table ≡ listed row_entry (rising rules)
