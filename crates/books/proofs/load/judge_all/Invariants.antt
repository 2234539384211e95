use Rattle.std.proofs.Common.{◌≡◌, take, drop}
use Rattle.books.specs.Loads.{fault_from, first_fault}
use Rattle.books.proofs.load.judge_all.Given as goal

abbrev pub invariant-loop-i : goal.invariant-loop-i
invariant-loop-i l = fault_from (take l.i l.words) (drop l.i l.words) ≡ first_fault l.words
