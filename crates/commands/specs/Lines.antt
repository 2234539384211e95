-- What a line can ask for, over plain lists.
use Rattle.std.specs.Prelude.{ℕ, List, vec_items}
use Rattle.calls.specs.declared.call.Call.{Call}
use Rattle.forms.specs.declared.kind.FormKind.{FormKind}
use Rattle.commands.specs.declared.line.Command.{Command}
use Rattle.commands.specs.declared.line.Command.TheVariants as code
use Rattle.commands.specs.Calls.{Choice, call_asked, book_asked}

-- a command
pub data Request : Type 0 where
  call : Call (List ℕ) → Request
  field : FormKind → List ℕ → Request
  read : List ℕ → Request
  look : List ℕ → Request
  book : Choice → Request
  begin : ℕ → Request
  add : List ℕ → Request
  seal : Request

-- the request that a command of the code is
abbrev pub command_asked : Command → Request
command_asked (code.Call c) = call (call_asked c)
command_asked (code.Field k bytes) = field k (vec_items bytes)
command_asked (code.Read bytes) = read (vec_items bytes)
command_asked (code.Look bytes) = look (vec_items bytes)
command_asked (code.Book b) = book (book_asked b)
command_asked (code.Begin room) = begin room
command_asked (code.Add bytes) = add (vec_items bytes)
command_asked code.Seal = seal
