use Rattle.std.proofs.Common.{◌≡◌, map, vec_items}
use Rattle.commands.specs.Numerals.{all_numbers}
use Rattle.commands.specs.Words.{arguments}
use Rattle.commands.proofs.Unescapes.{onto}
use Rattle.commands.proofs.arguments.all_numbers.Given as goal

abbrev pub invariant-loop-piece : goal.invariant-loop-piece
invariant-loop-piece g l =
    (goal.iterator-loop-piece g).can_next l.piece-iterator
    × (goal.iterator-loop-piece g).is_finite l.piece-iterator
    × (onto (map g.T.Width.worth (vec_items l.out)) (all_numbers g.T.Width.MOST (arguments l.piece-iterator.tail.now))
    ≡ all_numbers g.T.Width.MOST (arguments l.fn.tail))
