use Rattle.std.proofs.Common.{◌≡◌, ◌+◌, [], drop}
use Rattle.buffers.specs.Shown.{shown}
use Rattle.symbols.specs.Reading.{read_on}
use Rattle.symbols.proofs.reader.read_body.Given as goal

abbrev pub invariant-loop-i : goal.invariant-loop-i
invariant-loop-i l = read_on l.set (l.i + 2) (shown l.text) (drop l.i l.body) ≡ read_on l.fn.start 2 [] l.body
