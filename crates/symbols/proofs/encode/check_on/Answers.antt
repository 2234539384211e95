use Rattle.std.proofs.Common.{◌+◌, ◌*◌, ◌%◌, get_or, ap, ◌∙◌, arith}
use Rattle.symbols.proofs.Checks.{sum_more}
use Rattle.symbols.proofs.encode.check_on.Goals as goal

pub loop-j-preserved : goal.loop-j-preserved
loop-j-preserved c =
    let p = c.args.place in let j = c.loop-j.j in let xs = c.args.more.now in (
      c.weighed-s.ensures ∙ ap (λ s. (s + (p + j) % 103 * get_or xs j 0) % 103) c.loop-j.invariant.0 ∙ sum_more c.args.sum p xs j c.loop-j-test.true,
      omega (arith, c.weighed-s.ensures),
    )
