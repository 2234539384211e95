-- When two entries, and when two values, are the same: each is told apart by a list of numbers.
use Rattle.std.specs.Prelude.{ℕ, Bool, List, [], ◌∷◌}
use Rattle.std.specs.Str.{bytes_eq}
use Rattle.forms.specs.Values.{Meaning, text, key, date, stamp, fraction, whole}
use Rattle.forms.specs.declared.kind.FormKind.{FormKind}
use Rattle.forms.specs.declared.kind.FormKind.TheVariants as form
use Rattle.books.specs.declared.entry.Entry.{Entry}

abbrev pub form_code : FormKind → ℕ
form_code form.Text = 0
form_code form.Digits = 1
form_code form.Key = 2
form_code form.Date = 3
form_code form.Stamp = 4
form_code form.Measure = 5
form_code form.Count = 6

abbrev pub entry_code : Entry → List ℕ
entry_code e = e.ident.digits ∷ e.ident.number ∷ form_code e.form ∷ e.shortest ∷ e.longest ∷ []

abbrev pub same_entry : Entry → Entry → Bool
same_entry d e = bytes_eq (entry_code d) (entry_code e)

abbrev pub meaning_code : Meaning → List ℕ
meaning_code (text bs) = 0 ∷ bs
meaning_code (key bs) = 1 ∷ bs
meaning_code (date y m d) = 2 ∷ y ∷ m ∷ d ∷ []
meaning_code (stamp y m d h i) = 3 ∷ y ∷ m ∷ d ∷ h ∷ i ∷ []
meaning_code (fraction n) = 4 ∷ n ∷ []
meaning_code (whole n) = 5 ∷ n ∷ []

abbrev pub same_meaning : Meaning → Meaning → Bool
same_meaning v w = bytes_eq (meaning_code v) (meaning_code w)
