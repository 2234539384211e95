use Rattle.std.proofs.Common.{refl, ◌≡◌, ◌+◌, Bool, true, false, cond, not, ap, ◌∙◌, arith}
use mir.Val.{bool_byte}
use Rattle.cards.proofs.Fillings.{fill-starts, fill_on, fill_stops}
use Rattle.cards.proofs.runs.run_length.Goals as goal

pub loop-i-init : goal.loop-i-init
loop-i-init c = fill-starts c.args.rows.now c.requires

pub returns-then-with-gt-MOST : goal.returns-then-with-gt-MOST
returns-then-with-gt-MOST c =
    let f =
    fill_stops c.args.rows.now c.loop-i.i c.loop-i.bytes c.loop-i.separator (c.loop-i.bytes + c.loop-i.separator + c.piece_length.result) c.loop-i.invariant c.index-rows-i.result c.loop-i-test.true c.index-rows-i.is
    (omega (arith, c.piece_length.ensures.is)) c.if-with-gt-MOST.true in
    record { some = f.some; within = f.within; short = f.short; cut = f.cut }

byte : (b : Bool) → bool_byte b ≡ cond b 1 0
byte true = refl
byte false = refl

pub loop-i-preserved : goal.loop-i-preserved
loop-i-preserved c =
    fill_on c.args.rows.now c.loop-i.i c.loop-i.bytes c.loop-i.separator (c.loop-i.bytes + c.loop-i.separator + c.piece_length.result) c.loop-i.invariant c.index-rows-i.result c.loop-i-test.true c.index-rows-i.is
    (omega (arith, c.piece_length.ensures.is)) c.from-separator.result c.if-with-gt-MOST.false
    (c.from-separator.ensures ∙ byte (not c.predefined.result) ∙ ap (λ b. cond (not b) 1 0) c.predefined.ensures)
