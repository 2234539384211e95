-- The years in which a card can stand.
use Rattle.std.specs.Prelude.{ℕ, ◌≤◌}

abbrev pub InSpan : ℕ → Type 0
InSpan y = (2000 ≤ y) × (y ≤ 2199)
