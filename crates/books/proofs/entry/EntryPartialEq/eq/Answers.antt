use Rattle.std.proofs.Common.{◌≡◌, ◌&&◌, true, eqb, rules}
use denote.Enum.Bare.{sameb}
use Rattle.forms.specs.contracts.kind.FormKind.{the_type}
use Rattle.books.proofs.Alike.{entries_alike}
use Rattle.books.proofs.entry.EntryPartialEq.eq.Goals as goal

pub returns-then-self-other-clause-decides : goal.returns-then-self-other-clause-decides
returns-then-self-other-clause-decides c =
    let d = c.args.self.now in
    let e = c.args.other.now in
    let h : (((eqb d.ident.digits e.ident.digits && eqb d.ident.number e.ident.number) && sameb the_type d.form e.form) && eqb d.shortest e.shortest) ≡ true = search rules in
    let a = entries_alike d e in
    rw h at a
