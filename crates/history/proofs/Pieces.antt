-- The symbol of a run that stands in a year.
use Rattle.std.proofs.Common.{◌≡◌, ℕ, ◌≤◌, List, length, Ok}
use Rattle.books.specs.Entries.{In}
use Rattle.symbols.specs.Reading.{decoded}
use Rattle.cards.specs.Tallies.{Held}
use Rattle.cards.specs.Strings.{spelled, symbol_of}
use Rattle.cards.proofs.Pieces as pieces
use Rattle.history.proofs.Stands.{Stands, fit}

-- it is read back to the elements as they are spelled
pub symbol_read : (y : ℕ) (xs : List Held) → ((x : Held) → In x xs → Stands y x) → length (spelled xs) ≤ 48 → decoded (symbol_of xs) ≡ Ok (spelled xs)
symbol_read y xs h l = pieces.symbol_read xs (λ x i. fit y x (h x i)) l
