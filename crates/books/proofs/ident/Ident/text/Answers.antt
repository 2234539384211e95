use Rattle.std.proofs.Common.{◌-◌, drop, ap, ◌∙◌}
use Rattle.forms.specs.Bytes.{last_digits}
use Rattle.books.proofs.Digits.{last_of_four}
use Rattle.books.proofs.ident.Ident.text.Goals as goal

pub returns : goal.returns
returns c =
    let self = c.args.self.now in
    ap (drop (4 - self.digits)) (c.last_digits.ensures ∙ ap (last_digits 4) c.from.ensures) ∙ last_of_four self.number self.digits self.least self.most
