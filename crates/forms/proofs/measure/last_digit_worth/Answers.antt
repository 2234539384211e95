use Rattle.std.proofs.Common.{◌-◌}
use Rattle.forms.specs.Figures.{pow_some}
use Rattle.forms.proofs.measure.last_digit_worth.Goals as goal

pub returns-clause-some : goal.returns-clause-some
returns-clause-some c = rw c.pow.ensures (pow_some (5 - c.args.decimals))
