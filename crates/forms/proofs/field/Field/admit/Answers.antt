use Rattle.std.proofs.Common.{arith, rules}
use Rattle.forms.proofs.Prefixes.{every-short, every-whole}
use Rattle.forms.proofs.field.Field.admit.Goals as goal

pub returns-then-k-self : goal.returns-then-k-self
returns-then-k-self g c =
    let barred = every-short g.C.ByteClass.holds c.args.self.bytes.now (omega (arith, c.passed-k.ensures, c.if-k-self.true)) in search rules

pub returns : goal.returns
returns g c =
    let all = every-whole g.C.ByteClass.holds c.args.self.bytes.now (omega (arith, c.passed-k.ensures, c.if-k-self.false)) in search rules
