use Rattle.std.proofs.Common.{not, ◌&&◌, sym, ap, ◌∙◌}
use Rattle.books.specs.Texts.{overlap}
use Rattle.books.specs.Entries as entries
use Rattle.cards.proofs.Steps.{same_told}
use Rattle.cards.proofs.search.is_crossed.Goals as goal

pub returns : goal.returns
returns c =
    ap (λ b. not c.same.result && b) c.overlaps.ensures
    ∙ sym (ap (λ b. not b && overlap (entries.text c.args.entry.now) (entries.text c.args.row.now.entry)) (same_told c.args.entry.now c.args.row.now.entry c.same.result c.same.ensures))
