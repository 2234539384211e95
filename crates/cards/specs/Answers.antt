-- How a call on a card answers: as its outcome says, and the card at its end has the outcome's tally; refused, the whole card is what it was.
use Rattle.std.specs.Prelude.{◌≡◌, ℕ, List, Ok, Err, Result}
use Rattle.cards.specs.declared.card.Card.{Card}
use Rattle.cards.specs.declared.fault.CardFault.{CardFault}
use Rattle.cards.specs.Cards.{held_by, tally}
use Rattle.cards.specs.Tallies.{Held, Tally, Put}

-- a call that puts elements on a card, refused by faults of the type F: how many idents came to be held; the year stays
abbrev pub Puts : {F : Type 0} → Result Put F → Card → Card → Result ℕ F → Type 0
Puts outcome before after (Ok n) = (outcome ≡ Ok (record { new = n; held = held_by after })) × (after.year ≡ before.year)
Puts outcome before after (Err e) = (outcome ≡ Err e) × (after ≡ before)

-- the same of a call on a copy, which is of no use where it is refused
abbrev pub PutsOn : {F : Type 0} → Result Put F → Card → Card → Result ℕ F → Type 0
PutsOn outcome before after (Ok n) = (outcome ≡ Ok (record { new = n; held = held_by after })) × (after.year ≡ before.year)
PutsOn outcome before after (Err e) = outcome ≡ Err e

-- a strike
abbrev pub Strikes : Result (List Held) CardFault → Card → Card → Result (Unit {0}) CardFault → Type 0
Strikes outcome before after (Ok u) = (outcome ≡ Ok (held_by after)) × (after.year ≡ before.year)
Strikes outcome before after (Err e) = (outcome ≡ Err e) × (after ≡ before)

-- a turn
abbrev pub Turns : Result Tally CardFault → Card → Card → Result (Unit {0}) CardFault → Type 0
Turns outcome before after (Ok u) = outcome ≡ Ok (tally after)
Turns outcome before after (Err e) = (outcome ≡ Err e) × (after ≡ before)
