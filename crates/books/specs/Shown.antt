-- What the text of an ident shows.
use Rattle.std.specs.Prelude.{ℕ, ◌-◌, List, drop}
use Rattle.books.specs.declared.ident_text.IdentText.{IdentText}

-- its digits: the last of its bytes, as many as it counts
abbrev pub shown : IdentText → List ℕ
shown t = drop (4 - t.count) t.bytes
