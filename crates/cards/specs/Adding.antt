-- The law of a scan on a card: what an accepted scan adds to the tally, and the reason for which one is refused.
-- It goes by which bytes spell which elements, and not by a reader's steps.
use Rattle.std.specs.Prelude.{◌≡◌, ℕ, ◌+◌, ◌-◌, ◌⊎◌, List, [], ◌∷◌, ◌++◌, length, Some, None, Ok, Err, ◌≢◌}
use Rattle.forms.specs.Values.{Meaning}
use Rattle.books.specs.Entries as entries
use Rattle.books.specs.declared.entry.Entry.{Entry}
use Rattle.scans.specs.declared.fault.ScanFault.{ScanFault}
use Rattle.scans.specs.declared.fault.ScanFault.TheVariants.{NoMark}
use Rattle.scans.specs.Elements.{Element, Front, front, mark}
use Rattle.scans.specs.Reads.{meaning}
use Rattle.scans.specs.Spelling.{Scan, Begins}
use Rattle.cards.specs.Tallies.{Held, Tally, Put, look, put}
use Rattle.cards.specs.Outcomes.{held_as, scan_outcome}

-- ACCEPTED

-- one of the elements has the ident i and means v in the year y
abbrev pub Brings : ℕ → List Element → List ℕ → Meaning → Type 0
Brings y xs i v = (x : Element) × entries.In x xs × (entries.text x.entry ≡ i) × (meaning y x ≡ v)

-- what is held came of what was held, in the year y, and of the elements that a scan spells
pub record Grows (y : ℕ) (before : List Held) (xs : List Element) (after : List Held) : Type 0 where
  -- every element is held, with the value of its field
  pub all : (x : Element) → entries.In x xs → look (entries.text x.entry) after ≡ Some (meaning y x)
  -- what was held is held with the same value
  pub kept : (i : List ℕ) (v : Meaning) → look i before ≡ Some v → look i after ≡ Some v
  -- what is held was held, or was not and is one of the elements
  pub only : (i : List ℕ) (v : Meaning) → look i after ≡ Some v → (look i before ≡ Some v) ⊎ ((look i before ≡ None) × Brings y xs i v)

-- a scan that is accepted spells elements, which come to be held and nothing else; the idents that came to be held are counted
pub record Adds (es : List Entry) (t : Tally) (s : List ℕ) (q : Put) : Type 0 where
  pub elements : List Element
  pub spelled : Scan es t.year s elements
  pub grows : Grows t.year t.held elements q.held
  pub counted : length q.held ≡ length t.held + q.new

-- REFUSED

-- elements are put on a card that holds hs, one after the other, and none is refused: gs is held then
-- (where an element is put on the card, its place in the scan is of no matter)
abbrev pub AllPut : ℕ → List Held → List Element → List Held → Type 0
AllPut y hs [] gs = hs ≡ gs
AllPut y hs (x ∷ xs) gs = (q : Put) × (put 0 hs (held_as y x) ≡ Ok q) × AllPut y q.held xs gs

-- at the place p, where the bytes s stand, e is told by the reading of an element, or by putting it on a card that holds hs
abbrev pub Told : List Entry → ℕ → List Held → ℕ → List ℕ → ScanFault → Type 0
Told es y hs p s e = (front es y p s ≡ Err e) ⊎ ((f : Front) × (front es y p s ≡ Ok f) × (put p hs (held_as y f.element) ≡ Err e))

-- a scan stops: behind the mark stand elements that can all be put on the card, one after the other, and e is told at the place behind them
pub record Stops (es : List Entry) (t : Tally) (s : List ℕ) (e : ScanFault) : Type 0 where
  pub body : List ℕ
  pub marked : s ≡ mark ++ body
  pub elements : List Element
  pub rest : List ℕ
  pub begins : Begins es t.year body elements rest
  pub some : rest ≡ [] → ⊥
  pub held : List Held
  pub joined : AllPut t.year t.held elements held
  pub told : Told es t.year held (length s - length rest) rest e

-- the first reason to refuse a scan: it has no mark, or it stops
abbrev pub Reason : List Entry → Tally → List ℕ → ScanFault → Type 0
Reason es t s e = (((body : List ℕ) → s ≢ mark ++ body) × (e ≡ NoMark)) ⊎ Stops es t s e

-- THE LAW

abbrev pub ScanLaw : List Entry → Type 0
ScanLaw es =
    (t : Tally) (s : List ℕ)
    → ((q : Put) → scan_outcome es t s ≡ Ok q → Adds es t s q)
    × ((e : ScanFault) → (scan_outcome es t s ≡ Err e → Reason es t s e) × (Reason es t s e → scan_outcome es t s ≡ Err e))
