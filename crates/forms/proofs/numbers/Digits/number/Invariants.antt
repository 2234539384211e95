use Rattle.std.proofs.Common.{◌≡◌, drop}
use Rattle.forms.specs.Bytes.{number_on, number}
use Rattle.forms.proofs.numbers.Digits.number.Given as goal

abbrev pub invariant-loop-b : goal.invariant-loop-b
invariant-loop-b l = number_on l.n (drop l.b-index l.self.bytes.now) ≡ number l.self.bytes.now
