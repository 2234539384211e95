use Rattle.cards.proofs.Moves.{opened_is}
use Rattle.cards.proofs.change.make_room.Goals as goal

pub returns : goal.returns
returns c = opened_is c.args.rows.now c.args.place c.args.new c.rotate_right.new.self c.requires c.rotate_right.ensures.after
