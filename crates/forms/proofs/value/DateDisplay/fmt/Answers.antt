use Rattle.forms.proofs.Padding.{padded_two, padded_four}
use Rattle.forms.proofs.value.DateDisplay.fmt.Goals as goal

pub returns-clause-writes : goal.returns-clause-writes
returns-clause-writes g c =
    let d = c.args.self.now in
    rw (c.laid_out.ensures, c.laid_out-2.ensures, c.laid_out-3.ensures, padded_four _ d.year, padded_two _ d.month, padded_two _ d.day) at c.write.ensures.writes
