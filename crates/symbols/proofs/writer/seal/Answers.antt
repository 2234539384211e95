use Rattle.std.proofs.Common.{rules}
use Rattle.symbols.proofs.Runs.{counts_right, reads_back, seals_by}
use Rattle.symbols.proofs.writer.seal.Goals as goal

pub returns : goal.returns
returns c =
    record {
      does = seals_by c.args.symbol c.args.buf.now c.close.new.buf c.close.result c.map_err.result _ (λ f p k. search rules) c.map_err.ensures.cases c.close.ensures;
      counts = counts_right;
      reads = reads_back;
    }
