use Rattle.std.proofs.Common.{◌≡◌, ◌+◌, ◌≤◌, map, length, take, drop}
use Rattle.symbols.specs.Encoding.{joined_after}
use Rattle.symbols.specs.Writing.{Stands}
use Rattle.cards.specs.Rows.{held_in}
use Rattle.cards.specs.Strings.{piece}
use Rattle.cards.proofs.print.write_symbol.Given as goal

abbrev pub invariant-loop-row : goal.invariant-loop-row
invariant-loop-row l =
    (length l.symbol ≡ 100)
    × (l.open.bytes + length (joined_after l.open.pending (map piece (map held_in (drop l.row-index l.rows)))) ≤ 48)
    × Stands (map piece (map held_in (take l.row-index l.rows))) l.open l.symbol
