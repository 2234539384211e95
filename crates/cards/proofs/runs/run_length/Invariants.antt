use Rattle.cards.proofs.Fillings.{Filling}
use Rattle.cards.proofs.runs.run_length.Given as goal

abbrev pub invariant-loop-i : goal.invariant-loop-i
invariant-loop-i l = Filling l.rows l.i l.bytes l.separator
