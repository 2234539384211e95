use Rattle.std.proofs.Common.{◌∙◌}
use Rattle.books.proofs.Fronts.{front-tested}
use Rattle.books.proofs.ident.Ident.begins.Goals as goal

pub returns : goal.returns
returns c =
    let h = front-tested c.as_slice.result.now c.args.shown.now c.starts_with.result c.starts_with.ensures.value in
    rw (c.as_slice.ensures ∙ c.text.ensures) at h
