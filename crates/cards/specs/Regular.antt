-- What every card keeps: canonical order, idents of which none equals or begins another, values that are lawful in its year.
use Rattle.std.specs.Prelude.{ℕ, Bool, true, not, ◌&&◌, List, [], ◌∷◌, length, is_some, nat_le}
use Rattle.forms.specs.Bytes.{allowed, every}
use Rattle.forms.specs.Values.{written}
use Rattle.forms.specs.Kinds.{kind_fault, kind_meaning}
use Rattle.books.specs.Texts.{overlap}
use Rattle.cards.specs.Codes.{same_meaning}
use Rattle.cards.specs.Tallies.{Held, ident, precedes}

-- x stands before all of them, and its ident neither equals nor begins nor is begun by one of theirs
abbrev pub leads : Held → List Held → Bool
leads x [] = true
leads x (z ∷ zs) = (precedes x z && not (overlap (ident x) (ident z))) && leads x zs

abbrev pub ordered : List Held → Bool
ordered [] = true
ordered (x ∷ xs) = leads x xs && ordered xs

-- a value is lawful in the year y: its writing has no fault, and means it
abbrev pub stands : ℕ → Held → Bool
stands y x =
    not (is_some (kind_fault x.entry.form y 0 (written x.value))) && same_meaning (kind_meaning x.entry.form y (written x.value)) x.value

-- the writing of a value has a length that its entry allows, and bytes that a text may hold
abbrev pub fits : Held → Bool
fits x =
    (nat_le x.entry.shortest (length (written x.value)) && nat_le (length (written x.value)) x.entry.longest)
    && every allowed (written x.value)

abbrev pub all_fit : List Held → Bool
all_fit [] = true
all_fit (x ∷ xs) = fits x && all_fit xs

abbrev pub all_stand : ℕ → List Held → Bool
all_stand y [] = true
all_stand y (x ∷ xs) = stands y x && all_stand y xs

abbrev pub regular : ℕ → List Held → Bool
regular y hs = ordered hs && all_stand y hs
