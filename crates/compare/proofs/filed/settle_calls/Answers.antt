use Rattle.std.proofs.Common.{◌≡◌, vec_items, Ok, MatchResult, subst, refl, rules}
use Rattle.std.proofs.lemmas.Result.{err_from_is_err_and}
use Rattle.commands.specs.declared.error.Failure.TheVariants.{Refused}
use Rattle.history.specs.Calls.{requests_of}
use Rattle.history.specs.Settling.{Settles}
use Rattle.compare.proofs.Filings.{filed, refused}
use Rattle.compare.proofs.filed.settle_calls.Goals as goal

pub returns : goal.returns
returns g c =
    let es = g.B.Book.entries c.args.book.now in
    let p = requests_of vec_items c.args.first.now in
    let q = requests_of vec_items c.args.second.now in
    let a = c.in_ok-first_out.first_out in
    let b = c.in_ok-second_out.second_out in
    let is : c.settle.result ≡ Ok (c.in_ok-one.one, c.in_ok-one.other) = search rules in
    let does = subst (λ r. Settles es p q c.as_mut_slice.result.now c.settle.new.first_out c.as_mut_slice-2.result.now c.settle.new.second_out r) is c.settle.ensures.does in (
      filed es p c.in_ok-one.one c.as_mut_slice.result.now c.settle.new.first_out a.items a.len c.truncate.new.self does.1 (search rules) c.truncate.ensures.items,
      filed es q c.in_ok-one.other c.as_mut_slice-2.result.now c.settle.new.second_out b.items b.len c.truncate-2.new.self does.2 (search rules) c.truncate-2.ensures.items,
    )

pub returns-in_err-one : goal.returns-in_err-one
returns-in_err-one g c =
    let es = g.B.Book.entries c.args.book.now in
    let p = requests_of vec_items c.args.first.now in
    let q = requests_of vec_items c.args.second.now in
    let why : MatchResult c.settle.result (λ _. ⊥) (λ f. c.in_err-one.field-0.0 ≡ Refused f) = search rules in
    let no = refused es p q c.as_mut_slice.result.now c.as_mut_slice-2.result.now c.settle.new.first_out c.settle.new.second_out 1120 c.settle.result c.in_err-one.field-0.0 (search rules) (search rules) refl c.settle.ensures.does why in
    let e = err_from_is_err_and c.from_residual-in_err-one.result c.from_residual-in_err-one.ensures.1 in
    rw (e.1, e.2) no
