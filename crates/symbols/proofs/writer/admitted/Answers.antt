use Rattle.std.proofs.Common.{◌≡◌, ◌+◌, cond, length, ap, rules}
use Rattle.symbols.proofs.Calls.{admits}
use Rattle.symbols.proofs.writer.admitted.Goals as goal

pub returns : goal.returns
returns c =
    let s : c.from.result ≡ cond c.args.symbol.now.pending 1 0 = search rules in
    admits _ _ _ c.args.element.now c.if-wrong_length.ensures c.clean_bytes-place.ensures c.if-place-element.false
    (ap (λ k. c.args.symbol.now.bytes + (k + length c.args.element.now)) s) c.if-length-gt48.false
