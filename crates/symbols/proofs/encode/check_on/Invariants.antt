use Rattle.std.proofs.Common.{◌≡◌, ◌+◌, ◌%◌, ◌<◌, take}
use Rattle.symbols.specs.Reading.{weighted}
use Rattle.symbols.proofs.encode.check_on.Given as goal

abbrev pub invariant-loop-j : goal.invariant-loop-j
invariant-loop-j l = (l.s ≡ (l.sum + weighted l.place (take l.j l.more)) % 103) × (l.s < 103)
