use Rattle.std.proofs.Common.{◌≡◌, ◌<◌, ◌++◌, length, get_or, take, drop, sym, ap, ◌∙◌, subst}
use Rattle.std.proofs.lemmas.List.{get_or-map, length-map}
use Rattle.std.proofs.lemmas.Bool.{ltb-true}
use Rattle.forms.specs.Values.{written}
use Rattle.cards.specs.Rows.{held_in, first_held}
use Rattle.cards.specs.Tallies.{Held}
use Rattle.cards.proofs.Tellings.{row_told}
use Rattle.cards.proofs.card.Card.element.Goals as goal

pub returns : goal.returns
returns c =
    let s = c.args.self.now in
    let held = c.held.ensures in
    let at : c.in_ok-row.row.now ≡ get_or (take s.len s.rows) c.args.place c.in_ok-row.row.now = c.in_ok-row.ensures.lookup.1 ∙ ap (λ rs. get_or rs c.args.place c.in_ok-row.row.now) held in
    let below : c.args.place < length (take s.len s.rows) = subst (λ rs. c.args.place < length rs) held (ltb-true c.args.place (length c.held.result.now) (sym c.in_ok-row.ensures.lookup.0)) in
    let w = c.write-len.ensures in
    let t = row_told c.in_ok-row.row.now c.args.text.now c.write-len.new.text c.write-len.result w.long w.wrote c.told-text in
    let is : (d : Held) → get_or (first_held s.len s.rows) c.args.place d ≡ held_in c.in_ok-row.row.now =
    λ d. get_or-map held_in (take s.len s.rows) c.args.place c.in_ok-row.row.now d below ∙ ap held_in (sym at) in (
      subst (λ n. c.args.place < n) (sym (length-map (take s.len s.rows) held_in)) below,
      λ d. (
        ap (λ h. h.entry.ident) (is d),
        ap (λ h. h.value) (is d) ∙ sym t,
        w.long ∙ ap (λ h. length (written h.value)) (sym (is d)),
        w.wrote ∙ ap (λ h. written h.value ++ drop c.write-len.result c.args.text.now) (sym (is d)),
      ),
    )
