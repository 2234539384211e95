use Rattle.std.proofs.Common.{◌+◌, Ok, sym, subst, arith}
use Rattle.std.proofs.lemmas.Result.{err_from_is_err_and}
use Rattle.scans.specs.Elements.{scanned}
use Rattle.scans.specs.Reads.{Reads, counted}
use Rattle.scans.proofs.Spelled.{read_as_spelled}
use Rattle.scans.proofs.Walks.{Left, left_more, left_fault, left_none}
use Rattle.scans.proofs.read.count_elements.Goals as goal

pub returns-in_err-element-clause-is : goal.returns-in_err-element-clause-is
returns-in_err-element-clause-is g c =
    let q = err_from_is_err_and c.from_residual.result c.from_residual.ensures.1 in
    let was = c.in_err-element.ensures in
    rw (q.1, q.2) (left_fault (g.B.Book.entries c.args.book.now) c.args.year.number c.args.scan.now c.loop-element.at c.loop-element.n _ c.loop-element.invariant.2 _ was.0 was.1)

pub loop-element-preserved : goal.loop-element-preserved
loop-element-preserved g c =
    let es = g.B.Book.entries c.args.book.now in
    let was = subst (λ o. Reads (g.B.Book.entries c.args.book.now) c.args.year.number c.loop-element.at c.args.scan.now c.loop-element.writing c.next_element.new.out (Ok o)) c.in-Some.is c.in_ok-element.ensures in
    let inv = c.loop-element.invariant in
    let t = was.3.1 in
    let next = was.3.3 in
    (omega (arith, inv, was.1), was.2, subst (λ at. Left (g.B.Book.entries c.args.book.now) c.args.year.number c.args.scan.now at (c.loop-element.n + 1) (counted 0 (scanned (g.B.Book.entries c.args.book.now) c.args.year.number c.args.scan.now))) (sym next) (left_more (g.B.Book.entries c.args.book.now) c.args.year.number c.args.scan.now c.loop-element.at c.loop-element.n _ inv.2 was.3.0 t was.0 (omega (arith, was.1, next)) was.3.2))

pub returns-clause-is : goal.returns-clause-is
returns-clause-is g c =
    let was = subst (λ o. Reads (g.B.Book.entries c.args.book.now) c.args.year.number c.loop-element.at c.args.scan.now c.loop-element.writing c.next_element.new.out (Ok o)) c.in_default-2.is c.in_ok-element.ensures in
    left_none (g.B.Book.entries c.args.book.now) c.args.year.number c.args.scan.now c.loop-element.at c.loop-element.n _ c.loop-element.invariant.2 was.0

pub returns-in_default-clause-spelled : goal.returns-in_default-clause-spelled
returns-in_default-clause-spelled g c = read_as_spelled _ (g.B.Book.lawful c.args.book.now) (g.B.Book.apart c.args.book.now)

pub returns-in_default-2-clause-spelled : goal.returns-in_default-2-clause-spelled
returns-in_default-2-clause-spelled g c = read_as_spelled _ (g.B.Book.lawful c.args.book.now) (g.B.Book.apart c.args.book.now)

pub returns-in_default-3-clause-spelled : goal.returns-in_default-3-clause-spelled
returns-in_default-3-clause-spelled g c = read_as_spelled _ (g.B.Book.lawful c.args.book.now) (g.B.Book.apart c.args.book.now)

pub returns-in_default-4-clause-spelled : goal.returns-in_default-4-clause-spelled
returns-in_default-4-clause-spelled g c = read_as_spelled _ (g.B.Book.lawful c.args.book.now) (g.B.Book.apart c.args.book.now)

pub returns-in_err-element-clause-spelled : goal.returns-in_err-element-clause-spelled
returns-in_err-element-clause-spelled g c = read_as_spelled _ (g.B.Book.lawful c.args.book.now) (g.B.Book.apart c.args.book.now)

pub returns-clause-spelled : goal.returns-clause-spelled
returns-clause-spelled g c = read_as_spelled _ (g.B.Book.lawful c.args.book.now) (g.B.Book.apart c.args.book.now)
