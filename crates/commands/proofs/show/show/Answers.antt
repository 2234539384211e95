use Rattle.std.proofs.Common.{take, vec_items, ◌∙◌}
use Rattle.commands.specs.Shows.{shown_bytes}
use Rattle.commands.proofs.ShowsBack.{shown_all, taken_back, bytes_back}
use Rattle.commands.proofs.show.show.Goals as goal

pub returns-in-Err : goal.returns-in-Err
returns-in-Err c =
    record {
      after = c.truncate.ensures.items ∙ taken_back (vec_items c.args.out.now) (shown_bytes (take c.loop-b.b-index c.args.bytes.now)) (vec_items c.show_byte.new.out) c.len-before.result (c.len-before.ensures ∙ c.args.out.now.ok.0) (c.in-Err.ensures ∙ c.loop-b.invariant);
      back = bytes_back c.args.bytes.now c.type_inv.bytes;
    }

pub returns : goal.returns
returns c =
    record {
      after = c.loop-b.invariant ∙ shown_all (vec_items c.args.out.now) c.args.bytes.now c.loop-b.b-index c.loop-b-test.false;
      back = bytes_back c.args.bytes.now c.type_inv.bytes;
    }
