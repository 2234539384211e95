use Rattle.std.proofs.Common.{map, inl, arith}
use Rattle.std.proofs.lemmas.List.{length-map}
use Rattle.cards.specs.Rows.{held_in}
use Rattle.cards.proofs.Fillings.{runs_few}
use Rattle.cards.proofs.runs.count_runs.Goals as goal

pub count-requires-clause-fits : goal.count-requires-clause-fits
count-requires-clause-fits c =
    let few = runs_few (map held_in c.args.rows.now) in
    let long = length-map c.args.rows.now held_in in
    inl (omega (arith, few, long, c.requires))
