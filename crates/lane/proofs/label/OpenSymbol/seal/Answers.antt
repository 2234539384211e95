use Rattle.std.proofs.Common.{vec_items, rules}
use Rattle.lane.specs.Labels.{held}
use Rattle.lane.proofs.Buffers.{sealed}
use Rattle.lane.proofs.label.OpenSymbol.seal.Goals as goal

pub returns-in-Ok : goal.returns-in-Ok
returns-in-Ok c =
    let was = c.args.self in
    sealed was.state c.in-Ok.n was.buffer.len (held was) c.as_mut_slice.result.now c.seal.new.buf was.buffer.items (vec_items c.truncate.new.self) c.as_mut_slice.ensures.value (search rules) (search rules) c.truncate.ensures.items c.in-Ok.ensures.does
