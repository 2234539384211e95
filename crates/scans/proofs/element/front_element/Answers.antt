use Rattle.std.proofs.Common.{◌≤◌, length, sym, refl, ◌∙◌, arith, rules}
use Rattle.std.proofs.lemmas.Result.{err_from_is_err_and}
use Rattle.scans.proofs.Fronts.{found-fits, behind, front-barred, front-element, gap_same}
use Rattle.scans.proofs.element.front_element.Goals as goal

pub slice_bounds-after-count : goal.slice_bounds-after-count
slice_bounds-after-count g c =
    let h : c.in-Some.entry.ident.digits ≤ length c.args.rest.now = found-fits (g.B.Book.entries c.args.book.now) c.args.rest.now c.in-Some.entry c.in-Some.ensures in search rules

pub slice_bounds-after-start : goal.slice_bounds-after-start
slice_bounds-after-start g c =
    let h : c.in-Some.entry.ident.digits ≤ length c.args.rest.now = found-fits (g.B.Book.entries c.args.book.now) c.args.rest.now c.in-Some.entry c.in-Some.ensures in search rules

pub returns-in_err-reading-clause-is : goal.returns-in_err-reading-clause-is
returns-in_err-reading-clause-is g c =
    let e = c.in-Some.entry in
    let q = err_from_is_err_and c.from_residual.result c.from_residual.ensures.1 in
    let a = behind c.args.rest.now c.from-digits.result c.in-Some.entry.ident.digits c.from-digits.ensures in
    let judged = rw (a, c.from-digits.ensures) at c.in_err-reading.ensures in
    let u = rw a at c.until_separator.ensures.is in
    let long = rw u at c.in-Some-field_length.ensures.is in
    rw (q.1, q.2) (front-barred (g.B.Book.entries c.args.book.now) c.args.year.number c.args.at c.args.rest.now c.in-Some.entry c.if-rest-eq-SEPARATOR.false (sym c.in-Some.ensures) c.in-Some-field_length.n (sym long) c.in_err-reading.field-0.0 judged.0, judged.1)

pub returns-clause-is : goal.returns-clause-is
returns-clause-is g c =
    let a = behind c.args.rest.now c.from-digits.result c.in-Some.entry.ident.digits c.from-digits.ensures in
    let judged = rw (a, c.from-digits.ensures) at c.in_ok-reading.ensures in
    let u = rw a at c.until_separator.ensures.is in
    let long = rw u at c.in-Some-field_length.ensures.is in
    let is = front-element (g.B.Book.entries c.args.book.now) c.args.year.number c.args.at c.args.rest.now c.in-Some.entry c.if-rest-eq-SEPARATOR.false (sym c.in-Some.ensures) c.in-Some-field_length.n (sym long) judged.0 in
    let gap_is = c.separator_ahead.ensures.is ∙ gap_same c.args.rest.now c.from-digits.result c.in-Some.entry.ident.digits c.in-Some-field_length.n c.from-digits.ensures in
    (_, _, is, omega (arith, c.from-digits.ensures, gap_is), refl, record { value = judged.1; long = judged.2; wrote = judged.3 })
