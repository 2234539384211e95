use Rattle.std.proofs.Common.{◌≡◌, ◌*◌, ◌≤◌, false, ◌++◌, map, length, drop}
use Rattle.buffers.specs.Shown.{shown}
use Rattle.cards.specs.Rows.{held_in}
use Rattle.cards.specs.Strings.{spelled_after}
use Rattle.cards.proofs.strings.spell.Given as goal

abbrev pub invariant-loop-row : goal.invariant-loop-row
invariant-loop-row l =
    (length (shown l.string) ≤ 35 * l.row-index)
    × (shown l.string ++ spelled_after l.pending (map held_in (drop l.row-index l.rows)) ≡ spelled_after false (map held_in l.rows))
