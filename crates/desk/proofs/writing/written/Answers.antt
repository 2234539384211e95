use Rattle.std.proofs.Common.{length, take, drop, ap, ◌∙◌, rules}
use Rattle.std.proofs.lemmas.List.{take_at}
use Rattle.desk.proofs.writing.written.Goals as goal

pub returns : goal.returns
returns g c =
    let buffer = c.in_ok-buffer.buffer in
    let after = c.write.new.arg2 in (
      c.in_ok-n.n,
      record { before = c.as_mut_slice.result.now; after = after; long = search rules; stays = search rules; wrote = search rules },
      c.truncate.ensures.items ∙ ap (take c.in_ok-n.n) (take_at after (drop (length after) buffer.items) buffer.len (search rules)),
    )
