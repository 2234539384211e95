use Rattle.std.proofs.Common.{◌≡◌, ◌≤◌, drop}
use Rattle.commands.proofs.Readings.{read_on}
use Rattle.commands.proofs.number.number.Given as goal

abbrev pub invariant-loop-b : goal.invariant-loop-b
invariant-loop-b l =
    (l.n ≤ l.most)
    × (read_on l.most l.n (drop l.b-index l.bytes) ≡ read_on l.most 0 l.bytes)
