use Rattle.std.proofs.Common.{arith}
use Rattle.std.proofs.lemmas.List.{take_rest}
use Rattle.scans.proofs.Fronts.{length-behind}
use Rattle.scans.proofs.element.next_element.Goals as goal

pub returns : goal.returns
returns g c =
    let was = rw (take_rest c.args.scan.now c.args.at) at c.in_ok-element.ensures.is in
    let left = length-behind c.args.scan.now c.args.at in
    let within = c.in_ok-element.ensures.within in
    (c.if-at-scan.false, within.0, omega (arith, within, left, c.if-at-scan.false), was)
