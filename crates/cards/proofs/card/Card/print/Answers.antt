use Rattle.std.proofs.Common.{map, sym}
use Rattle.cards.specs.Rows.{held_in}
use Rattle.cards.proofs.Chosen.{short_runs}
use Rattle.cards.proofs.Fitting.{rows_fit}
use Rattle.cards.proofs.card.Card.print.Goals as goal

pub write_symbol-n-requires : goal.write_symbol-n-requires
write_symbol-n-requires c =
    record {
      short = short_runs c.held.result.now c.args.k (map held_in c.in-Some.run'.now) (sym c.in-Some.ensures);
      fit = rows_fit c.in-Some.run'.now;
    }
