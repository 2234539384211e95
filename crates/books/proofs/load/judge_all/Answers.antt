use Rattle.std.proofs.Common.{sym, ◌∙◌}
use Rattle.std.proofs.lemmas.Result.{err_from_is_err_and}
use Rattle.books.proofs.Judged.{no_fault_sound, fault_no_book, judged-fault, judged-all}
use Rattle.books.proofs.load.judge_all.Goals as goal

pub returns-in_err-judge : goal.returns-in_err-judge
returns-in_err-judge c =
    let ws = c.args.words.now in
    let fault = sym c.loop-i.invariant ∙ judged-fault ws c.loop-i.i c.loop-i-test.true _ c.in_err-judge.ensures in
    let p = err_from_is_err_and c.from_residual.result c.from_residual.ensures.1 in
    rw (p.1, p.2) (record { fault = fault; book = fault_no_book ws _ fault })

pub returns : goal.returns
returns c =
    let ws = c.args.words.now in
    let none = judged-all ws c.loop-i.i c.loop-i-test.false c.loop-i.invariant in
    record { fault = none; book = no_fault_sound ws none }
