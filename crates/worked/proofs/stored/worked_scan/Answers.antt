use Rattle.worked.proofs.Cases.{worked_cases}
use Rattle.worked.proofs.stored.worked_scan.Goals as goal

pub returns-clause-worked : goal.returns-clause-worked
returns-clause-worked c = worked_cases
