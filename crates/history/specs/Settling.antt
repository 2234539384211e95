-- What settling two lists of calls comes to.
use Rattle.std.specs.Prelude.{◌≡◌, ℕ, cond, List, ◌++◌, length, drop, Some, None, Ok, Err, Option, Result, nat_lt}
use Rattle.books.specs.declared.entry.Entry.{Entry}
use Rattle.symbols.specs.declared.fault.WriterFault.{WriterFault}
use Rattle.cards.specs.Cards.{tally}
use Rattle.cards.specs.Tallies.{blank}
use Rattle.cards.specs.Strings.{canonical}
use Rattle.history.specs.declared.settle.Settled.{Settled}
use Rattle.history.specs.Requests.{Request, tally_of, refusals}

-- the bytes needed by the first of two buffers, a for the bytes s and b for t, that is too short; none where neither is
abbrev pub lacking : List ℕ → List ℕ → List ℕ → List ℕ → Option ℕ
lacking s t a b = cond (nat_lt (length a) (length s)) (Some (length s)) (cond (nat_lt (length b) (length t)) (Some (length t)) None)

-- a card is settled as its own calls have it: its tally, how many of the calls were refused, the length of its canonical string,
-- and that string over the first bytes of its buffer
pub record SettledAs (es : List Entry) (rs : List Request) (before after : List ℕ) (s : Settled) : Type 0 where
  pub means : tally s.card ≡ tally_of es rs
  pub refused : s.refused ≡ refusals es (blank 2000) rs
  pub long : s.len ≡ length (canonical (tally_of es rs))
  pub wrote : after ≡ canonical (tally_of es rs) ++ drop s.len before

-- the calls p and q under the entries es, and the two buffers before (a, b) and after (c, d):
-- both cards are settled where no buffer is too short, else the bytes needed are told and both buffers stay
abbrev pub Settles : List Entry → List Request → List Request → List ℕ → List ℕ → List ℕ → List ℕ → Result (Settled × Settled) WriterFault → Type 0
Settles es p q a c b d (Ok s) =
    (lacking (canonical (tally_of es p)) (canonical (tally_of es q)) a b ≡ None) × SettledAs es p a c s.0 × SettledAs es q b d s.1
Settles es p q a c b d (Err f) =
    (lacking (canonical (tally_of es p)) (canonical (tally_of es q)) a b ≡ Some f.needed) × (c ≡ a) × (d ≡ b)
