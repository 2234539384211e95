use Rattle.std.proofs.Common.{◌≡◌, ◌+◌, ◌≤◌, drop}
use Rattle.cards.specs.Cards.{tally}
use Rattle.cards.specs.Tallies.{blank}
use Rattle.history.specs.Requests.{run, refusals}
use Rattle.history.specs.Calls.{requests_of}
use Rattle.history.proofs.replay.replay.Given as goal

abbrev pub invariant-loop-call : goal.invariant-loop-call
invariant-loop-call g l =
    (run (g.B.Book.entries l.book) (tally l.card) (requests_of g.S.AsSlice.items (drop l.call-index l.calls)) ≡ run (g.B.Book.entries l.book) (blank 2000) (requests_of g.S.AsSlice.items l.calls))
    × (l.refused + refusals (g.B.Book.entries l.book) (tally l.card) (requests_of g.S.AsSlice.items (drop l.call-index l.calls)) ≡ refusals (g.B.Book.entries l.book) (blank 2000) (requests_of g.S.AsSlice.items l.calls))
    × (l.refused ≤ l.call-index)
