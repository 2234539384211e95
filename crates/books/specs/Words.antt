-- The 32-bit words of a hall's book, and which lists of them are a book.
use Rattle.std.specs.Prelude.{◌≡◌, ℕ, ◌+◌, ◌/◌, ◌%◌, ◌^◌, ◌≤◌, Bool, true, cond, ◌&&◌, T, List, [], ◌∷◌, length, is_some, Some, None, Option, ◌==◌, nat_le}
use Rattle.forms.specs.declared.kind.FormKind.{FormKind}
use Rattle.forms.specs.declared.kind.FormKind.TheVariants.{Text, Digits, Key, Date, Stamp, Measure, Count}
use Rattle.books.specs.declared.entry.Entry.{Entry}
use Rattle.books.specs.Entries.{prefix_free, listed}
use Rattle.books.specs.Made.{entry_of}

-- the form that a number from 0 to 6 stands for
abbrev pub form_of : ℕ → Option FormKind
form_of k =
    cond (k == 0) (Some Text)
    (cond (k == 1) (Some Digits)
    (cond (k == 2) (Some Key)
    (cond (k == 3) (Some Date)
    (cond (k == 4) (Some Stamp)
    (cond (k == 5) (Some Measure)
    (cond (k == 6) (Some Count)
    None))))))

-- the entry of a form, where there is that form
abbrev pub of_form : Option FormKind → ℕ → ℕ → ℕ → ℕ → Option Entry
of_form None digits n shortest longest = None
of_form (Some form) digits n shortest longest = entry_of digits n form shortest longest

-- the entry that a word spells: from the top 3 bits the form, 2 the number of digits less one, 14 the ident's number,
-- 5 the shortest length and 5 the longest, and 3 bits that are zero
abbrev pub word_entry : ℕ → Option Entry
word_entry w =
    cond (w % 8 == 0)
    (of_form (form_of (w / 2 ^ 29)) (w / 2 ^ 27 % 4 + 1) (w / 2 ^ 13 % 2 ^ 14) (w / 2 ^ 8 % 32) (w / 2 ^ 3 % 32))
    None

-- every word spells a lawful entry
abbrev pub all_words : List ℕ → Bool
all_words [] = true
all_words (w ∷ ws) = is_some (word_entry w) && all_words ws

-- the words are a book: at most 64 lawful entries, of which no ident equals or begins another
abbrev pub is_book : List ℕ → Bool
is_book ws = all_words ws && (prefix_free (listed word_entry ws) && nat_le (length ws) 64)

-- a book, with what it says of its words' number: at most 64, and an entry for each
abbrev pub Sound : List ℕ → Type 0
Sound ws = (length ws ≤ 64) × (length ws ≡ length (listed word_entry ws)) × T (is_book ws)
