-- What rows hold.
use Rattle.std.specs.Prelude.{ℕ, List, map, take}
use Rattle.forms.specs.Values.{told}
use Rattle.cards.specs.declared.row.Row.{Row}
use Rattle.cards.specs.Tallies.{Held}

-- the element that a row holds
abbrev pub held_in : Row → Held
held_in r = record { entry = r.entry; value = told r.value r.text }

-- the elements that the first n rows hold
abbrev pub first_held : ℕ → List Row → List Held
first_held n rows = map held_in (take n rows)
