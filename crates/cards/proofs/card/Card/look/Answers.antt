use Rattle.std.proofs.Common.{◌≡◌, ◌-◌, ◌<◌, get_or, Some, sym, refl, ap, ◌∙◌, arith}
use Rattle.cards.specs.Rows.{held_in, first_held}
use Rattle.cards.proofs.Finds.{place_in, long_in}
use Rattle.cards.proofs.Places.{place_none, place_under}
use Rattle.cards.proofs.Puts.{first_at}
use Rattle.cards.proofs.card.Card.look.Goals as goal

pub returns-in_err-place : goal.returns-in_err-place
returns-in_err-place c =
    let s = c.args.self.now in
    rw c.from_residual.ensures (place_none c.args.ident.now 0 (first_held c.args.self.now.len c.args.self.now.rows) (sym (place_in c.args.self.now.len c.args.self.now.rows _ c.held.ensures c.args.ident.now _ c.in_err-place.ensures.is)), refl)

pub returns : goal.returns
returns c =
    let s = c.args.self.now in
    let k = c.in_ok-place.place in
    let r = c.index-self-place.result in
    let below : c.in_ok-place.place < c.args.self.now.len = (let a = long_in s.len s.rows _ c.held.ensures (omega (arith, s.long, s.within)) in let b = c.in_ok-place.ensures.within in omega arith) in
    let at = first_at c.args.self.now.len c.args.self.now.rows c.in_ok-place.place c.index-self-place.result (held_in c.index-self-place.result) below (omega (arith, c.args.self.now.long, c.args.self.now.within)) c.index-self-place.is in
    let u = place_under c.args.ident.now 0 c.in_ok-place.place (first_held c.args.self.now.len c.args.self.now.rows) (sym (place_in c.args.self.now.len c.args.self.now.rows _ c.held.ensures c.args.ident.now _ c.in_ok-place.ensures.is)) in
    let none : c.in_ok-place.place - 0 ≡ c.in_ok-place.place = omega arith in
    let e = c.tell.ensures in
    (u.value (held_in c.index-self-place.result) ∙ ap (λ j. Some (get_or (first_held c.args.self.now.len c.args.self.now.rows) j (held_in c.index-self-place.result)).value) none ∙ ap (λ h. Some h.value) at ∙ ap (λ q. Some (held_in q).value) c.index-self-place.is ∙ ap Some (sym e.0), e.1)
