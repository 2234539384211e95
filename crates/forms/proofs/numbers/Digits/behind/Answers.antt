use Rattle.std.proofs.lemmas.List.{take_rest}
use Rattle.forms.specs.Bytes.{digit}
use Rattle.forms.specs.Figures.{every_drop}
use Rattle.forms.proofs.numbers.Digits.behind.Goals as goal

pub invariant_of-result : goal.invariant_of-result
invariant_of-result c =
    record { only = rw (take_rest c.args.self.bytes.now c.args.i) (every_drop digit c.args.i c.args.self.bytes.now c.args.self.only) }
