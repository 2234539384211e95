use Rattle.forms.proofs.Padding.{padded_two}
use Rattle.forms.proofs.value.StampDisplay.fmt.Goals as goal

pub returns-clause-writes : goal.returns-clause-writes
returns-clause-writes g c =
    let s = c.args.self.now in
    rw (c.laid_out.ensures, c.laid_out-2.ensures, padded_two _ s.hour, padded_two _ s.minute) at c.write.ensures.writes
