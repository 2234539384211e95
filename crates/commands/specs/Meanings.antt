-- What the bytes of a line mean.
use Rattle.std.specs.Prelude.{ℕ, List, [], ◌∷◌, Some, None, Ok, Err, Option, ok_or}
use Rattle.calls.specs.declared.call.Call.{Call}
use Rattle.calls.specs.declared.call.Call.TheVariants.{Scan, Take, Strike, Wipe, Turn}
use Rattle.forms.specs.declared.kind.FormKind.{FormKind}
use Rattle.commands.specs.declared.complaint.Complaint.TheVariants.{UnknownCommand, BadEscape, BadNumber}
use Rattle.commands.specs.declared.name.BookName.{BookName}
use Rattle.commands.specs.declared.name.BookName.TheVariants.{Gs1, Hall}
use Rattle.commands.specs.declared.name.CallWord.{CallWord}
use Rattle.commands.specs.declared.name.CallWord.TheVariants as verb
use Rattle.commands.specs.declared.name.CommandWord.{CommandWord}
use Rattle.commands.specs.declared.name.CommandWord.TheVariants as word
use Rattle.commands.specs.Calls.{Choice, gs1, hall}
use Rattle.commands.specs.Escapes.{unescaped}
use Rattle.commands.specs.Judgements.{Judged, judged, line_by}
use Rattle.commands.specs.Lines.{Request, call, field, read, look, book, begin, add, seal}
use Rattle.commands.specs.Names.{form_named, book_named, command_named}
use Rattle.commands.specs.Numerals.{only_number, number_or, all_numbers}
use Rattle.commands.specs.Words.{word, tail, behind, arguments, said}

-- a complaint, if there is an argument
abbrev pub no_arguments : List (List ℕ) → Judged (Unit {0})
no_arguments [] = Ok tt
no_arguments (p ∷ ps) = Err BadNumber

-- what takes nothing
abbrev pub without_arguments : {A : Type 0} → A → List (List ℕ) → Judged A
without_arguments ask args = judged (λ _. ask) (no_arguments args)

-- what takes bytes, with that writing of them
abbrev pub bytes_meant : {A : Type 0} → (List ℕ → A) → List ℕ → Judged A
bytes_meant ask writing = judged ask (ok_or (unescaped writing) BadEscape)

-- what takes one number, up to the largest, with that tail
abbrev pub number_meant : {A : Type 0} → (ℕ → A) → ℕ → List ℕ → Judged A
number_meant ask most args = judged ask (ok_or (only_number most (arguments args)) BadNumber)

-- what takes any count of numbers, each up to the largest, with that tail
abbrev pub numbers_meant : {A : Type 0} → (List ℕ → A) → ℕ → List ℕ → Judged A
numbers_meant ask most args = judged ask (ok_or (all_numbers most (arguments args)) BadNumber)

-- what a call of a card means with that tail: `turn` takes one number, of 16 bits, and `take` values, each of 8 bits
abbrev pub call_meant : CallWord → List ℕ → Judged (Call (List ℕ))
call_meant verb.Turn args = number_meant Turn 65535 args
call_meant verb.Scan args = bytes_meant Scan (behind args)
call_meant verb.Take args = numbers_meant Take 255 args
call_meant verb.Strike args = bytes_meant Strike (behind args)
call_meant verb.Wipe args = without_arguments Wipe (arguments args)

-- the book of that name, with that tail: a hall's has words, each of 32 bits
abbrev pub named_book : Option BookName → List ℕ → Judged Choice
named_book None args = Err UnknownCommand
named_book (Some Gs1) args = without_arguments gs1 (arguments args)
named_book (Some Hall) args = numbers_meant hall 4294967295 args

-- what `book` means with that tail: the name of a book, and what belongs to it
abbrev pub book_meant : List ℕ → Judged Choice
book_meant args = named_book (book_named (word (behind args))) (tail (behind args))

-- what `begin` means with that tail: a buffer of that many bytes, 4096 at most, and 4096 where no number is given
abbrev pub begin_meant : List ℕ → Judged Request
begin_meant args = judged begin (ok_or (number_or 4096 4096 (arguments args)) BadNumber)

-- a field of that form, of the bytes that stand in that tail
abbrev pub field_of : Option FormKind → List ℕ → Judged Request
field_of None args = Err UnknownCommand
field_of (Some kind) args = bytes_meant (field kind) (behind args)

-- what `field` means with that tail: the name of a form and, behind a space, bytes
abbrev pub field_meant : List ℕ → Judged Request
field_meant args = field_of (form_named (word (behind args))) (tail (behind args))

-- what a command means with that tail
abbrev pub command_meant : Option CommandWord → List ℕ → Judged Request
command_meant None args = Err UnknownCommand
command_meant (Some (word.Call w)) args = judged call (call_meant w args)
command_meant (Some word.Field) args = field_meant args
command_meant (Some word.Read) args = bytes_meant read (behind args)
command_meant (Some word.Look) args = bytes_meant look (behind args)
command_meant (Some word.Book) args = judged book (book_meant args)
command_meant (Some word.Begin) args = begin_meant args
command_meant (Some word.Add) args = bytes_meant add (behind args)
command_meant (Some word.Seal) args = without_arguments seal (arguments args)

-- what a line means: nothing where it is silent; any other is a command's name and, from its first space on, a tail
abbrev pub meant : List ℕ → Judged (Option Request)
meant bs = line_by (λ name args. command_meant (command_named name) args) (said bs)
