use Rattle.std.proofs.Common.{sym, ◌∙◌, rules}
use Rattle.commands.proofs.Readings.{from_start, past_most}
use Rattle.commands.proofs.number.number.Goals as goal

pub returns-in_err-n : goal.returns-in_err-n
returns-in_err-n c =
    c.from_residual.ensures
    ∙ sym (past_most c.args.most c.loop-b.n c.args.bytes.now c.loop-b.b-index c.loop-b-test.true c.from.result (search rules) c.from.ensures c.in_err-n.ensures)
    ∙ c.loop-b.invariant.1 ∙ from_start c.args.most c.args.bytes.now (search rules)
