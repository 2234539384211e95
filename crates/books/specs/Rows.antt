-- The entry that a row spells.
use Rattle.std.specs.Prelude.{Option}
use Rattle.books.specs.declared.entry.Entry.{Entry}
use Rattle.books.specs.declared.row.Row.{Row}
use Rattle.books.specs.Made.{entry_of}

abbrev pub row_entry : Row → Option Entry
row_entry r = entry_of r.0 r.1 r.2 r.3 r.4
