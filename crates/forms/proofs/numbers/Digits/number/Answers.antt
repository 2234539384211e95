use Rattle.std.proofs.Common.{arith}
use Rattle.forms.specs.Figures.{number_small}
use Rattle.forms.proofs.numbers.Digits.number.Goals as goal

pub overflow_mul-n : goal.overflow_mul-n
overflow_mul-n c = omega (arith, number_small c.loop-b.n c.loop-b.b-index c.args.self.bytes.now c.loop-b.invariant c.args.self.only c.requires)

pub overflow_add-n : goal.overflow_add-n
overflow_add-n c = omega (arith, number_small c.loop-b.n c.loop-b.b-index c.args.self.bytes.now c.loop-b.invariant c.args.self.only c.requires)
