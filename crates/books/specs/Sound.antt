-- What makes words a book makes their entries one.
use Rattle.std.specs.Prelude.{ℕ, T, List, [], ◌∷◌, length, nat_le}
use Rattle.books.specs.declared.entry.Entry.{Entry}
use Rattle.books.specs.Lawful.{lawful}
use Rattle.books.specs.Entries.{all_lawful, prefix_free, listed}
use Rattle.books.specs.Made.{both, both_left, both_right}
use Rattle.books.specs.Words.{word_entry, all_words, is_book}

-- entries are lawful by their type
pub all_lawful_lem : (es : List Entry) → T (all_lawful es)
all_lawful_lem [] = tt
all_lawful_lem (e ∷ es) = both (lawful e.ident.digits e.ident.number e.form e.shortest e.longest) (all_lawful es) e.ok (all_lawful_lem es)

pub book_free : (ws : List ℕ) → T (is_book ws) → T (prefix_free (listed word_entry ws))
book_free ws t = both_left (prefix_free (listed word_entry ws)) (nat_le (length ws) 64) (both_right (all_words ws) _ t)
