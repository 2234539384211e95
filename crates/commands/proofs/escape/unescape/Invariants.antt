use Rattle.std.proofs.Common.{◌≡◌, length, vec_items}
use Rattle.commands.specs.Escapes.{unescaped}
use Rattle.commands.proofs.Unescapes.{onto}
use Rattle.commands.proofs.escape.unescape.Given as goal

abbrev pub invariant-loop-rest : goal.invariant-loop-rest
invariant-loop-rest l = onto (vec_items l.out) (unescaped l.rest) ≡ unescaped l.writing

abbrev pub decreases-loop-rest : goal.decreases-loop-rest
decreases-loop-rest l = length l.rest
