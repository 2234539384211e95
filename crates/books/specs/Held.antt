-- What a hall's book holds.
use Rattle.std.specs.Prelude.{ℕ, List}
use Rattle.books.specs.declared.entry.Entry.{Entry}
use Rattle.books.specs.declared.hall.HallBook.{HallBook}
use Rattle.books.specs.Entries.{listed}
use Rattle.books.specs.Words.{word_entry}

-- its words
abbrev pub held_words : HallBook → List ℕ
held_words b = b.words.now

-- the entries that they spell
abbrev pub held_entries : HallBook → List Entry
held_entries b = listed word_entry (held_words b)
