-- The first fault of a list of words, judged word by word.
use Rattle.std.specs.Prelude.{ℕ, cond, List, [], ◌∷◌, ◌++◌, length, Some, None, Option, nat_lt}
use Rattle.books.specs.declared.entry.Entry.{Entry}
use Rattle.books.specs.declared.fault.BookFault.{BookFault}
use Rattle.books.specs.declared.fault.BookFault.TheVariants.{Unlawful, Overlap}
use Rattle.books.specs.Entries.{text, apart_from_all, listed}
use Rattle.books.specs.Words.{word_entry}

-- what is wrong with an entry behind the earlier words: that it is not there or the 65th, and then that its ident overlaps
abbrev pub judged : Option Entry → List ℕ → Option BookFault
judged None earlier = Some (Unlawful (length earlier))
judged (Some e) earlier =
    cond (nat_lt (length earlier) 64)
    (cond (apart_from_all (text e) (listed word_entry earlier)) None (Some (Overlap (length earlier))))
    (Some (Unlawful (length earlier)))

-- what is wrong with a word behind the earlier words
abbrev pub word_fault : List ℕ → ℕ → Option BookFault
word_fault earlier w = judged (word_entry w) earlier

-- the first of two faults
abbrev pub first_of : Option BookFault → Option BookFault → Option BookFault
first_of None later = later
first_of (Some f) later = Some f

-- the first fault of the words behind the earlier ones
abbrev pub fault_from : List ℕ → List ℕ → Option BookFault
fault_from earlier [] = None
fault_from earlier (w ∷ ws) = first_of (word_fault earlier w) (fault_from (earlier ++ w ∷ []) ws)

-- the first fault of the words
abbrev pub first_fault : List ℕ → Option BookFault
first_fault ws = fault_from [] ws
