use Rattle.std.proofs.Common.{◌-◌, ◌≤◌, length}
use Rattle.scans.specs.Elements.{scanned}
use Rattle.scans.specs.Reads.{counted}
use Rattle.scans.proofs.Walks.{Left}
use Rattle.scans.proofs.read.count_elements.Given as goal

abbrev pub invariant-loop-element : goal.invariant-loop-element
invariant-loop-element g l =
    (l.n ≤ l.at) × (l.at ≤ length l.scan)
    × Left (g.B.Book.entries l.book) l.year.number l.scan l.at l.n (counted 0 (scanned (g.B.Book.entries l.book) l.year.number l.scan))

abbrev pub decreases-loop-element : goal.decreases-loop-element
decreases-loop-element g l = length l.scan - l.at
