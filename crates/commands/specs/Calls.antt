-- What a line can ask of a card, and the books that it can name, over plain lists.
use Rattle.std.specs.Prelude.{ℕ, List, vec_items}
use Rattle.std.specs.Global.{Vec}
use Rattle.calls.specs.declared.call.Call.{Call}
use Rattle.calls.specs.declared.call.Call.TheVariants.{Scan, Take, Strike, Wipe, Turn}
use Rattle.commands.specs.declared.line.BookChoice.{BookChoice}
use Rattle.commands.specs.declared.line.BookChoice.TheVariants as book

-- a book
pub data Choice : Type 0 where
  gs1 : Choice
  hall : List ℕ → Choice

-- a call, with what it is handed as a list
abbrev pub call_asked : Call (Vec ℕ) → Call (List ℕ)
call_asked (Scan bytes) = Scan (vec_items bytes)
call_asked (Take values) = Take (vec_items values)
call_asked (Strike ident) = Strike (vec_items ident)
call_asked Wipe = Wipe
call_asked (Turn year) = Turn year

-- the book that a choice of the code is
abbrev pub book_asked : BookChoice → Choice
book_asked book.Gs1 = gs1
book_asked (book.Hall words) = hall (vec_items words)
