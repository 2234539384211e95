-- Each worked scan holds, by computation.
use Rattle.std.proofs.Common.{refl}
use Rattle.std.specs.Fmt.{digits}
use Rattle.scans.specs.Elements.{elements}
use Rattle.cards.specs.Tallies.{put}
use Rattle.cards.specs.Outcomes.{puts}
use Rattle.worked.specs.Scans.{Holds, no_weight, seven, trade_item, disordered, variant, dated_lot}

pub no_weight-holds : Holds no_weight
unfolding elements puts put
no_weight-holds = record { read = refl; taken = refl; filed = refl; printed = refl }

pub seven-holds : Holds seven
unfolding elements puts put digits
seven-holds = record { read = refl; taken = refl; filed = refl; printed = refl }

pub trade_item-holds : Holds trade_item
unfolding elements puts put
trade_item-holds = record { read = refl; taken = refl; filed = refl; printed = refl }

pub disordered-holds : Holds disordered
unfolding elements puts put
disordered-holds = record { read = refl; taken = refl; filed = refl; printed = refl }

pub variant-holds : Holds variant
unfolding elements puts put
variant-holds = record { read = refl; taken = refl; filed = refl; printed = refl }

pub dated_lot-holds : Holds dated_lot
unfolding elements puts put
dated_lot-holds = record { read = refl; taken = refl; filed = refl; printed = refl }
