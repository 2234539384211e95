use Rattle.std.proofs.Common.{length, refl, arith}
use Rattle.std.proofs.lemmas.Bool.{cond-false, le-ltb}
use Rattle.symbols.proofs.Overs.{over_two}
use Rattle.symbols.proofs.Runs.{stands-first}
use Rattle.symbols.proofs.writer.begin.Goals as goal

pub returns : goal.returns
returns c =
    let w = over_two 0 105 102 c.args.buf.now _ (omega arith) refl in
    record { is = cond-false _ _ _ (le-ltb (length c.args.buf.now) 2 (omega arith)); wrote = w; stands = stands-first _ c.args.buf.now _ refl w }
