use Rattle.std.proofs.Common.{◌∙◌}
use Rattle.books.proofs.Fronts.{rank_tested}
use Rattle.books.proofs.ident.Ident.comes_before.Goals as goal

pub returns : goal.returns
returns c =
    rank_tested _ _ _ _ _ _ _ c.predefined.ensures c.predefined-2.ensures (c.as_slice.ensures ∙ c.text-text.ensures) (c.as_slice-2.ensures ∙ c.text-theirs.ensures) c.lt.ensures
