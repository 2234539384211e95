use Rattle.std.proofs.Common.{◌≡◌, [], ◌∷◌, ◌++◌, arith, rules}
use Rattle.forms.proofs.Weights.{weighed-fits}
use Rattle.forms.proofs.key.weighted_sum.Goals as goal

pub overflow_add-sum : goal.overflow_add-sum
overflow_add-sum c =
    let e : c.loop-right.right-iterator.iter.iter.rest.now ≡ c.next.new.self.iter.iter.rest.now ++ c.in-Some.b.now ∷ [] = search rules in
    let n : c.in-Some.right ≡ c.loop-right.right-iterator.count = search rules in
    let w = rw e at c.loop-right.invariant in
    let few = weighed-fits _ _ _ _ _ w c.args.digits.only c.weight.result (rw n at c.weight.ensures) c.requires in
    rw c.from.ensures (omega (arith, few))
