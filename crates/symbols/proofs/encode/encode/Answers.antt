use Rattle.std.proofs.Common.{◌++◌, arith}
use Rattle.buffers.specs.Shown.{shown}
use Rattle.symbols.specs.Encoding.{values, set_after}
use Rattle.symbols.proofs.Turns.{Turned, target_fits, turned, has_room}
use Rattle.symbols.proofs.encode.encode.Goals as goal
use Rattle.symbols.proofs.encode.encode.Goals.{In-Some}

turn : (c : In-Some) → Turned c.loop-coded.set c.in-Some.coded.set c.loop-coded.rest.now c.in-Some.coded.rest.now c.in-Some.coded.value (shown c.loop-coded.out)
    (shown c.args.out.now ++ values c.args.start c.args.element.now) (set_after c.args.start c.args.element.now)
turn c =
    let v = c.loop-coded.invariant in
    turned _ _ _ _ _ _ _ _ v.wrote v.goes (target_fits c.args.start c.args.element.now (shown c.args.out.now) c.requires.room c.requires.short) c.in-Some.ensures.steps

pub unwrap-requires : goal.unwrap-requires
unwrap-requires c =
    let t = turn (goal.at.unwrap-requires c).In-Some in
    has_room _ _ c.push.result (λ f e. omega (arith, e.0, t.room)) c.push.ensures
