use Rattle.std.proofs.Common.{ℕ, ◌-◌, ◌/◌, ◌^◌, ap, ◌∙◌, arith}
use Rattle.books.specs.Texts.{whole}
use Rattle.forms.specs.Figures.{pow_some}
use Rattle.books.proofs.Digits.{lead_small, lead_is}
use Rattle.books.proofs.ident.Ident.whole_length.Goals as goal

pub nonzero_div-self : goal.nonzero_div-self
nonzero_div-self c = grind (arith, pow_some)

pub overflow_cast-self : goal.overflow_cast-self
overflow_cast-self c =
    let self = c.args.self.now in
    let e = ap (λ (d : ℕ). self.number / 10 ^ (d - 2)) c.from.ensures in
    let p = ap (λ k. self.number / k) c.pow.ensures in
    omega (arith, e, p, lead_small self.number self.digits self.least self.most self.fits)

pub returns : goal.returns
returns c =
    let self = c.args.self.now in
    c.predefined_length.ensures
    ∙ ap whole (ap (λ k. self.number / k) c.pow.ensures ∙ ap (λ (d : ℕ). self.number / 10 ^ (d - 2)) c.from.ensures ∙ lead_is self.number self.digits self.least self.most self.fits)
