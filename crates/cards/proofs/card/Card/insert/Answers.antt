use Rattle.std.proofs.Common.{refl, arith}
use Rattle.cards.specs.Rows.{held_in}
use Rattle.cards.proofs.Finds.{seat_in, long_in}
use Rattle.cards.proofs.Puts.{Grown, card_grown}
use Rattle.cards.proofs.card.Card.insert.Goals as goal
use Rattle.cards.proofs.card.Card.insert.Goals.{After-make_room}

more : (c : After-make_room) → Grown c.args.self.now.year.number c.args.self.now.len c.args.self.now.rows c.make_room.new.rows c.args.new
more c =
    let s = c.args.self.now in
    let long = long_in s.len s.rows _ c.held.ensures (omega (arith, s.long, s.within)) in
    let within = c.seat_of-place.ensures.within in
    card_grown s.year.number s.len c.seat_of-place.result s.rows c.make_room.new.rows c.args.new s.long c.requires.room s.kept
    (seat_in s.len s.rows _ c.held.ensures (held_in c.args.new) _ c.seat_of-place.ensures.is) (omega (arith, long, within)) c.requires.free c.requires.absent c.requires.lawful c.make_room.ensures

pub invariant_of-self : goal.invariant_of-self
invariant_of-self c =
    let g = more (goal.at.invariant_of-self c).After-make_room in
    record { long = g.long; within = omega (arith, c.requires.room); kept = g.kept }

pub returns : goal.returns
returns c = record { year = refl; held = (more (goal.at.returns c).After-make_room).held }
