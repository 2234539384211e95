use Rattle.std.proofs.Common.{length, List, ℕ}
use Rattle.cards.specs.Cards.{tally}
use Rattle.cards.specs.Strings.{symbols}
use Rattle.compare.proofs.Goes.{Way, Goes}
use Rattle.compare.proofs.relabel.relabels.Given as goal

abbrev pub invariant-loop-k : goal.invariant-loop-k
invariant-loop-k g l =
    (goal.iterator-loop-k g).can_next l.k-iterator
    × (goal.iterator-loop-k g).is_finite l.k-iterator
    × ((ks : List ℕ) × Way (length (symbols (tally l.card))) l.k-iterator ks × Goes (g.B.Book.entries l.book) (tally l.card) (tally l.fresh) ks)
