-- The book in use.
use Rattle.std.specs.Prelude.{T, List, vec_items}
use Rattle.books.specs.declared.entry.Entry.{Entry}
use Rattle.books.specs.Entries.{all_lawful, prefix_free, listed}
use Rattle.books.specs.Sound.{all_lawful_lem, book_free}
use Rattle.books.specs.Table.{table}
use Rattle.books.specs.Words.{word_entry}
use Rattle.desk.specs.declared.in_use.BookInUse.{BookInUse}
use Rattle.desk.specs.declared.in_use.BookInUse.TheVariants.{Gs1, Hall}

-- its entries
abbrev pub entries_in_use : BookInUse → List Entry
entries_in_use Gs1 = table
entries_in_use (Hall hall) = listed word_entry (vec_items hall.words)

-- each is lawful
pub lawful_in_use : (book : BookInUse) → T (all_lawful (entries_in_use book))
lawful_in_use Gs1 = tt
lawful_in_use (Hall hall) = all_lawful_lem (listed word_entry (vec_items hall.words))

-- and no ident equals or begins another
pub apart_in_use : (book : BookInUse) → T (prefix_free (entries_in_use book))
apart_in_use Gs1 = tt
apart_in_use (Hall hall) = book_free (vec_items hall.words) hall.ok
