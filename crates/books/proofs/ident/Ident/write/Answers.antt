use Rattle.std.proofs.Common.{◌++◌, length, drop, ap, ◌∙◌}
use Rattle.forms.specs.Figures.{length-last_digits}
use Rattle.books.proofs.ident.Ident.write.Goals as goal

pub returns-clause-count : goal.returns-clause-count
returns-clause-count c = ap length (c.as_slice-digits.ensures ∙ c.text-text.ensures) ∙ length-last_digits c.args.self.now.digits c.args.self.now.number

pub returns-clause-text : goal.returns-clause-text
returns-clause-text c =
    let own = c.as_slice-digits.ensures ∙ c.text-text.ensures in
    let many = ap length own ∙ length-last_digits c.args.self.now.digits c.args.self.now.number in
    λ k. (c.copy_from_slice.ensures.after ∙ own) k ++ drop (many k) c.args.out.now
