-- The tally of a card: what it means, a year and the entries held, each with a value, in canonical order.
use Rattle.std.specs.Prelude.{ℕ, ◌+◌, Bool, false, cond, not, ◌&&◌, ◌||◌, List, [], ◌∷◌, length, Some, None, Ok, Err, Option, Result, nat_le, nat_lt}
use Rattle.std.specs.Str.{bytes_eq}
use Rattle.forms.specs.Values.{Meaning, text, key, date, stamp, fraction, whole}
use Rattle.books.specs.Texts.{overlap, comes_first, rank}
use Rattle.books.specs.Entries as entries
use Rattle.books.specs.declared.entry.Entry.{Entry}
use Rattle.scans.specs.declared.fault.ScanFault.{ScanFault}
use Rattle.scans.specs.declared.fault.ScanFault.TheVariants.{Clash, Differs, Full}
use Rattle.cards.specs.Codes.{same_entry, same_meaning}

-- an entry that is held, with its value
pub record Held : Type 0 where
  pub entry : Entry
  pub value : Meaning

pub record Tally : Type 0 where
  pub year : ℕ
  pub held : List Held

-- nothing is held
abbrev pub blank : ℕ → Tally
blank y = record { year = y; held = [] }

-- the digits of the ident
abbrev pub ident : Held → List ℕ
ident x = entries.text x.entry

-- canonical order: predefined idents first, each group by its digits as text
abbrev pub precedes : Held → Held → Bool
precedes x z = comes_first (rank (ident x)) (rank (ident z))

-- one more, before the first that it precedes
abbrev pub insert : Held → List Held → List Held
insert x [] = x ∷ []
insert x (z ∷ zs) = cond (precedes x z) (x ∷ z ∷ zs) (z ∷ insert x zs)

-- the value held under an ident
abbrev pub look : List ℕ → List Held → Option Meaning
look i [] = None
look i (x ∷ xs) = cond (bytes_eq i (ident x)) (Some x.value) (look i xs)

-- all but the one under an ident
abbrev pub without : List ℕ → List Held → List Held
without i [] = []
without i (x ∷ xs) = cond (bytes_eq i (ident x)) xs (x ∷ without i xs)

-- x is of another entry than e, and has an ident that equals, begins or is begun by that of e
abbrev pub crosses_one : Entry → Held → Bool
crosses_one e x = not (same_entry e x.entry) && overlap (entries.text e) (ident x)

-- one of them is so
abbrev pub crossed : Entry → List Held → Bool
crossed e [] = false
crossed e (x ∷ xs) = crosses_one e x || crossed e xs

-- what is held once an element has been put on the card, and how many idents came to be held: 0 or 1
pub record Put : Type 0 where
  pub new : ℕ
  pub held : List Held

-- an element whose ident is held: nothing changes, if its value is the one held
abbrev pub again : ℕ → List Held → Meaning → Meaning → Result Put ScanFault
again p hs v w = cond (same_meaning v w) (Ok (record { new = 0; held = hs })) (Err (Differs p))

-- an element whose ident is not held: it is added, if fewer than 32 are held
abbrev pub added : ℕ → List Held → Held → Result Put ScanFault
added p hs x = cond (nat_lt (length hs) 32) (Ok (record { new = 1; held = insert x hs })) (Err (Full p))

abbrev pub joins : Option Meaning → ℕ → List Held → Held → Result Put ScanFault
joins (Some w) p hs x = again p hs x.value w
joins None p hs x = added p hs x

-- an element whose ident stands at the place p of a scan is put on a card that holds hs
unfoldable pub put : ℕ → List Held → Held → Result Put ScanFault
put p hs x = cond (crossed x.entry hs) (Err (Clash p)) (joins (look (ident x) hs) p hs x)

-- a year lies within the span of a card's year: from 49 before to 50 after
abbrev pub near : ℕ → ℕ → Bool
near y z = nat_le y (z + 49) && nat_le z (y + 50)

-- a date or stamp outside the span of the year y
abbrev pub outside : ℕ → Meaning → Bool
outside y (text bs) = false
outside y (key bs) = false
outside y (date z m d) = not (near y z)
outside y (stamp z m d h i) = not (near y z)
outside y (fraction n) = false
outside y (whole n) = false

-- the number of the first element with a date outside the span, counted from n
abbrev pub first_outside : ℕ → ℕ → List Held → Option ℕ
first_outside y n [] = None
first_outside y n (x ∷ xs) = cond (outside y x.value) (Some n) (first_outside y (n + 1) xs)
