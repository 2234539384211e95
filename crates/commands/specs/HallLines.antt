-- What a line for two halls means.
use Rattle.std.specs.Prelude.{ℕ, List, Some, None, Err, Option}
use Rattle.calls.specs.declared.call.Call.{Call}
use Rattle.commands.specs.declared.complaint.Complaint.TheVariants.{UnknownCommand}
use Rattle.commands.specs.declared.hall.Hall.{Hall}
use Rattle.commands.specs.declared.hall.HallCommand.{HallCommand}
use Rattle.commands.specs.declared.hall.HallCommand.TheVariants as code
use Rattle.commands.specs.declared.name.CallWord.{CallWord}
use Rattle.commands.specs.declared.name.HallWord.{HallWord}
use Rattle.commands.specs.declared.name.HallWord.TheVariants as word
use Rattle.commands.specs.Calls.{Choice, call_asked, book_asked}
use Rattle.commands.specs.Judgements.{Judged, judged, line_by}
use Rattle.commands.specs.Meanings.{call_meant, book_meant}
use Rattle.commands.specs.Names.{call_named, hall_word_named}
use Rattle.commands.specs.Words.{word as first, tail, behind, said}

-- a call of the card of a hall, or the naming of a book
pub data HallRequest : Type 0 where
  call : Hall → Call (List ℕ) → HallRequest
  book : Choice → HallRequest

-- the request that a command of the code is
abbrev pub hall_asked : HallCommand → HallRequest
hall_asked (code.Call hall c) = call hall (call_asked c)
hall_asked (code.Book b) = book (book_asked b)

-- the call of that name with that tail
abbrev pub call_of : Option CallWord → List ℕ → Judged (Call (List ℕ))
call_of None args = Err UnknownCommand
call_of (Some w) args = call_meant w args

-- what a hall's number means with that tail: the name of a call and, from the next space on, its tail
abbrev pub hall_call_meant : List ℕ → Judged (Call (List ℕ))
hall_call_meant args = call_of (call_named (first (behind args))) (tail (behind args))

-- what a line's word means with that tail
abbrev pub hall_word_meant : Option HallWord → List ℕ → Judged HallRequest
hall_word_meant None args = Err UnknownCommand
hall_word_meant (Some (word.Hall hall)) args = judged (call hall) (hall_call_meant args)
hall_word_meant (Some word.Book) args = judged book (book_meant args)

-- what a line means: nothing where it is silent; any other has the word `1`, `2` or `book`
abbrev pub hall_line_meant : List ℕ → Judged (Option HallRequest)
hall_line_meant bs = line_by (λ name args. hall_word_meant (hall_word_named name) args) (said bs)
