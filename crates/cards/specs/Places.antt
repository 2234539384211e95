-- Places among the elements of a card.
use Rattle.std.specs.Prelude.{ℕ, ◌+◌, cond, not, List, [], ◌∷◌, Some, None, Option}
use Rattle.std.specs.List.{prefix_len}
use Rattle.std.specs.Str.{bytes_eq}
use Rattle.cards.specs.Tallies.{Held, ident, precedes}

-- the place of the one under an ident, counted from n
abbrev pub place_of : List ℕ → ℕ → List Held → Option ℕ
place_of i n [] = None
place_of i n (x ∷ xs) = cond (bytes_eq i (ident x)) (Some n) (place_of i (n + 1) xs)

-- the place that x gets: how many stand before the first that it precedes
abbrev pub seat : Held → List Held → ℕ
seat x hs = prefix_len (λ z. not (precedes x z)) hs
