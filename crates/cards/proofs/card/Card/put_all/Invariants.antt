use Rattle.std.proofs.Common.{◌≡◌, ◌-◌, ◌≤◌, length}
use Rattle.cards.specs.Cards.{held_by, tally}
use Rattle.cards.specs.Outcomes.{scan_outcome}
use Rattle.cards.proofs.Walks.{Left}
use Rattle.cards.proofs.card.Card.put_all.Given as goal

abbrev pub invariant-loop-element : goal.invariant-loop-element
invariant-loop-element g l =
    (l.new ≤ l.at) × (l.at ≤ length l.scan) × (length l.text ≡ 30) × (l.self.year ≡ l.initial.self.year)
    × Left (g.B.Book.entries l.book) l.initial.self.year.number l.scan l.at l.new (held_by l.self) (scan_outcome (g.B.Book.entries l.book) (tally l.initial.self) l.scan)

abbrev pub decreases-loop-element : goal.decreases-loop-element
decreases-loop-element g l = length l.scan - l.at
