use Rattle.std.proofs.Common.{refl}
use Rattle.history.proofs.halls_stand.Goals as goal
use Rattle.history.proofs.Halls.{halls_stand}

pub returns : goal.returns
returns c = record { law = halls_stand; none = refl }
