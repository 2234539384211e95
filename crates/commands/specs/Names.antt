-- Names in a line.
use Rattle.std.specs.Prelude.{ℕ, List, [], ◌∷◌, codes, Option, find}
use Rattle.std.specs.Str.{bytes_eq}
use Rattle.forms.specs.declared.kind.FormKind.{FormKind}
use Rattle.forms.specs.declared.kind.FormKind.TheVariants as form
use Rattle.commands.specs.declared.name.BookName.{BookName}
use Rattle.commands.specs.declared.name.BookName.TheVariants as book
use Rattle.commands.specs.declared.hall.Hall.{Hall}
use Rattle.commands.specs.declared.hall.Hall.TheVariants.{First, Second}
use Rattle.commands.specs.declared.name.CallWord.{CallWord}
use Rattle.commands.specs.declared.name.CallWord.TheVariants as call
use Rattle.commands.specs.declared.name.CommandWord.{CommandWord}
use Rattle.commands.specs.declared.name.CommandWord.TheVariants as word
use Rattle.commands.specs.declared.name.HallWord.{HallWord}
use Rattle.commands.specs.declared.name.HallWord.TheVariants as hall

-- the first of them that has that name
abbrev pub first_named : {A : Type 0} → (A → List ℕ) → List A → List ℕ → Option A
first_named name all bs = find (λ x. bytes_eq (name x) bs) all

abbrev pub form_name : FormKind → List ℕ
form_name form.Text = codes "text"
form_name form.Digits = codes "digits"
form_name form.Key = codes "key"
form_name form.Date = codes "date"
form_name form.Stamp = codes "stamp"
form_name form.Measure = codes "measure"
form_name form.Count = codes "count"

abbrev pub form_kinds : List FormKind
form_kinds = form.Text ∷ form.Digits ∷ form.Key ∷ form.Date ∷ form.Stamp ∷ form.Measure ∷ form.Count ∷ []

-- the form of that name
abbrev pub form_named : List ℕ → Option FormKind
form_named bs = first_named form_name form_kinds bs

abbrev pub book_name : BookName → List ℕ
book_name book.Gs1 = codes "gs1"
book_name book.Hall = codes "hall"

abbrev pub book_names : List BookName
book_names = book.Gs1 ∷ book.Hall ∷ []

-- the book of that name
abbrev pub book_named : List ℕ → Option BookName
book_named bs = first_named book_name book_names bs

abbrev pub call_name : CallWord → List ℕ
call_name call.Turn = codes "turn"
call_name call.Scan = codes "scan"
call_name call.Take = codes "take"
call_name call.Strike = codes "strike"
call_name call.Wipe = codes "wipe"

abbrev pub call_words : List CallWord
call_words = call.Turn ∷ call.Scan ∷ call.Take ∷ call.Strike ∷ call.Wipe ∷ []

-- the call of that name
abbrev pub call_named : List ℕ → Option CallWord
call_named bs = first_named call_name call_words bs

abbrev pub command_name : CommandWord → List ℕ
command_name (word.Call w) = call_name w
command_name word.Field = codes "field"
command_name word.Read = codes "read"
command_name word.Look = codes "look"
command_name word.Book = codes "book"
command_name word.Begin = codes "begin"
command_name word.Add = codes "add"
command_name word.Seal = codes "seal"

abbrev pub command_words : List CommandWord
command_words =
    word.Call call.Turn ∷ word.Call call.Scan ∷ word.Call call.Take ∷ word.Call call.Strike ∷ word.Call call.Wipe
    ∷ word.Field ∷ word.Read ∷ word.Look ∷ word.Book ∷ word.Begin ∷ word.Add ∷ word.Seal ∷ []

-- the command of that name
abbrev pub command_named : List ℕ → Option CommandWord
command_named bs = first_named command_name command_words bs

abbrev pub hall_name : Hall → List ℕ
hall_name First = codes "1"
hall_name Second = codes "2"

abbrev pub hall_word_name : HallWord → List ℕ
hall_word_name (hall.Hall h) = hall_name h
hall_word_name hall.Book = codes "book"

abbrev pub hall_words : List HallWord
hall_words = hall.Hall First ∷ hall.Hall Second ∷ hall.Book ∷ []

-- the hall of that number, or the naming of a book
abbrev pub hall_word_named : List ℕ → Option HallWord
hall_word_named bs = first_named hall_word_name hall_words bs
