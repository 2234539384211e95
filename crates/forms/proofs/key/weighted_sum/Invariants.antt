use Rattle.forms.proofs.Weights.{Weighed}
use Rattle.forms.proofs.key.weighted_sum.Given as goal

abbrev pub invariant-loop-right : goal.invariant-loop-right
invariant-loop-right l = Weighed l.digits.bytes.now l.right-iterator.iter.iter.rest.now l.right-iterator.count l.sum
