-- What a list of calls makes of a card.
use Rattle.std.specs.Prelude.{◌≡◌, ℕ, ◌+◌, Bool, true, cond, ◌&&◌, List, [], ◌∷◌, is_some, Some, None, Ok, Err, Option, Result}
use Rattle.books.specs.declared.entry.Entry.{Entry}
use Rattle.cards.specs.Tallies.{Held, Tally, Put, blank, look}
use Rattle.cards.specs.Outcomes.{scan_outcome, take_outcome, strike_outcome, turn_outcome}

-- a call, with what it was handed: a scan's bytes, a symbol's values, an ident's digits, a year
pub data Request : Type 0 where
  scan : List ℕ → Request
  take : List ℕ → Request
  strike : List ℕ → Request
  wipe : Request
  turn : ℕ → Request

-- the year stays, and hs is held
abbrev pub holding : Tally → List Held → Tally
holding t hs = record { year = t.year; held = hs }

-- what a call that was put through leaves
abbrev pub leaves : {A F : Type 0} → (A → Tally) → Result A F → Option Tally
leaves next (Ok a) = Some (next a)
leaves next (Err f) = None

-- the tally that an accepted call leaves; none where it is refused
abbrev pub answer : List Entry → Tally → Request → Option Tally
answer es t (scan s) = leaves (λ (q : Put). holding t q.held) (scan_outcome es t s)
answer es t (take values) = leaves (λ (q : Put). holding t q.held) (take_outcome es t values)
answer es t (strike i) = leaves (holding t) (strike_outcome t i)
answer es t wipe = Some (blank t.year)
answer es t (turn y) = leaves (λ u. u) (turn_outcome t y)

abbrev pub or_kept : Tally → Option Tally → Tally
or_kept t (Some u) = u
or_kept t None = t

-- the tally after a call: a refused one leaves it
abbrev pub after : List Entry → Tally → Request → Tally
after es t r = or_kept t (answer es t r)

-- the tally after calls one by one, each put to what those before it left
abbrev pub run : List Entry → Tally → List Request → Tally
run es t [] = t
run es t (r ∷ rs) = run es (after es t r) rs

-- the tally of a card straight from its making, empty and in the year 2000, after calls
abbrev pub tally_of : List Entry → List Request → Tally
tally_of es rs = run es (blank 2000) rs

-- each of the calls, one by one, is accepted
abbrev pub accepted : List Entry → Tally → List Request → Bool
accepted es t [] = true
accepted es t (r ∷ rs) = is_some (answer es t r) && accepted es (after es t r) rs

-- how many of the calls, one by one, are refused
abbrev pub refusals : List Entry → Tally → List Request → ℕ
refusals es t [] = 0
refusals es t (r ∷ rs) = cond (is_some (answer es t r)) 0 1 + refusals es (after es t r) rs

-- cards mean the same: they hold the same idents with equal values, so that under every ident both hold none, or both the same value
abbrev pub MeansSame : Tally → Tally → Type 0
MeansSame t u = (i : List ℕ) → look i t.held ≡ look i u.held
