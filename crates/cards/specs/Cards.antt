-- The tally of a card.
use Rattle.std.specs.Prelude.{List}
use Rattle.cards.specs.declared.card.Card.{Card}
use Rattle.cards.specs.Rows.{first_held}
use Rattle.cards.specs.Tallies.{Held, Tally}

-- the elements that a card holds
abbrev pub held_by : Card → List Held
held_by c = first_held c.len c.rows

-- what a card means, as it is read off its rows
abbrev pub tally : Card → Tally
tally c = record { year = c.year.number; held = held_by c }
