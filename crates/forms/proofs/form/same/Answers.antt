use Rattle.forms.specs.Writings.{decides_same}
use Rattle.forms.proofs.form.same.Goals as goal

pub returns : goal.returns
returns g c =
    let year = c.args.year in
    let w = c.in_ok-m.ensures.1 in
    let x = c.in_ok-n.ensures.1 in
    let apart = g.met.F.Form.apart year.number c.args.a.now c.args.b.now (year.first, year.last) w.stands x.stands in
    (w.stands, x.stands, decides_same _ _ _ year.number c.args.a.now c.args.b.now _ _ _ _ _ _ w x apart.1 c.eq.result c.eq.ensures)
