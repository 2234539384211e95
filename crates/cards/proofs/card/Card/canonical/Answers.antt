use Rattle.std.proofs.Common.{◌≡◌, false, map, ap, ◌∙◌, subst}
use Rattle.cards.specs.Rows.{held_in, first_held}
use Rattle.cards.specs.Strings.{spelled, spelled_after, Writes}
use Rattle.cards.proofs.Spells.{spelled-after}
use Rattle.cards.proofs.card.Card.canonical.Goals as goal

pub returns : goal.returns
returns c =
    let s = c.args.self.now in
    let bytes : c.as_slice.result.now ≡ spelled (first_held s.len s.rows) = c.as_slice.ensures ∙ c.spell.ensures ∙ ap (λ rs. spelled_after false (map held_in rs)) c.held.ensures ∙ spelled-after (first_held s.len s.rows) in
    subst (λ xs. Writes xs c.args.out.now c.write_over.new.out c.write_over.result) bytes c.write_over.ensures
