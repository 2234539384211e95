use Rattle.std.proofs.Common.{is_some, Ok, sym, refl, ap, ◌∙◌, arith}
use Rattle.std.proofs.lemmas.Bool.{cond-true, cond-false}
use Rattle.cards.specs.Rows.{first_held}
use Rattle.cards.proofs.Finds.{place_in, long_in}
use Rattle.cards.proofs.Places.{place_none}
use Rattle.cards.proofs.Puts.{Shrunk, card_shrunk}
use Rattle.cards.proofs.card.Card.strike.Goals as goal
use Rattle.cards.proofs.card.Card.strike.Goals.{After-close_up}

less : (c : After-close_up) → Shrunk c.args.self.now.year.number c.args.self.now.len c.args.ident.now c.args.self.now.rows c.close_up.new.rows
less c =
    let s = c.args.self.now in
    let long = long_in s.len s.rows _ c.held.ensures (omega (arith, s.long, s.within)) in
    let within = c.in-Some.ensures.within in
    card_shrunk s.year.number s.len c.in-Some.place c.args.ident.now s.rows c.close_up.new.rows s.long s.within s.kept
    (place_in s.len s.rows _ c.held.ensures c.args.ident.now _ c.in-Some.ensures.is) (omega (arith, long, within)) c.close_up.ensures

pub returns-in_default : goal.returns-in_default
returns-in_default c =
    let s = c.args.self.now in
    let none = place_none c.args.ident.now 0 (first_held s.len s.rows) (sym (place_in s.len s.rows _ c.held.ensures c.args.ident.now _ c.in_default.ensures.is)) in
    (cond-false _ _ _ (ap is_some none), refl)

pub invariant_of-self : goal.invariant_of-self
invariant_of-self c =
    let g = less (goal.at.invariant_of-self c).After-close_up in
    record { long = g.long; within = omega (arith, c.args.self.now.within); kept = g.kept }

pub returns : goal.returns
returns c =
    let g = less (goal.at.returns c).After-close_up in
    (cond-true _ _ _ g.there ∙ ap Ok (sym g.held), refl)
