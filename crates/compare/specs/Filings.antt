-- Two cards that are filed beside each other.
use Rattle.std.specs.Prelude.{◌≡◌, ⊤, ◌<◌, ◌≤◌, ◌⊎◌, List, length, vec_items, Ok, Err, Result}
use Rattle.books.specs.declared.entry.Entry.{Entry}
use Rattle.symbols.specs.declared.fault.WriterFault.{WriterFault}
use Rattle.cards.specs.Cards.{tally}
use Rattle.cards.specs.Strings.{canonical}
use Rattle.cards.specs.Tallies.{blank}
use Rattle.commands.specs.declared.error.Failure.{Failure}
use Rattle.commands.specs.declared.error.Failure.TheVariants.{Refused, Memory}
use Rattle.history.specs.Requests.{Request, tally_of, refusals}
use Rattle.compare.specs.declared.filed.Filed.{Filed}

-- a card is filed as its own calls have it: its tally, how many of the calls were refused, and its canonical string
pub record FiledAs (es : List Entry) (rs : List Request) (f : Filed) : Type 0 where
  pub means : tally f.card ≡ tally_of es rs
  pub refused : f.refused ≡ refusals es (blank 2000) rs
  pub string : vec_items f.string ≡ canonical (tally_of es rs)

-- the calls p and q under the entries es: both cards are filed, or a string has more bytes than a buffer of 1120, and it tells how many, the first string before the second
abbrev pub Files : List Entry → List Request → List Request → Result (Filed × Filed) (Failure WriterFault) → Type 0
Files es p q (Ok f) = FiledAs es p f.0 × FiledAs es q f.1
Files es p q (Err (Refused f)) =
    ((1120 < length (canonical (tally_of es p))) × (f.needed ≡ length (canonical (tally_of es p))))
    ⊎ ((length (canonical (tally_of es p)) ≤ 1120) × (1120 < length (canonical (tally_of es q))) × (f.needed ≡ length (canonical (tally_of es q))))
Files es p q (Err (Memory e)) = ⊤
