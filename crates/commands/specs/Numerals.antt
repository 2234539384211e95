-- Numbers as a line writes them: in decimal, with any count of zeros in front.
use Rattle.std.specs.Prelude.{ℕ, Bool, false, cond, ◌&&◌, List, [], ◌∷◌, Some, None, Option, nat_le}
use Rattle.forms.specs.Bytes.{digit, every, number}
use Rattle.commands.specs.Escapes.{before}

-- one or more digits, and nothing else
abbrev pub numeral : List ℕ → Bool
numeral [] = false
numeral (b ∷ bs) = every digit (b ∷ bs)

-- the number that the bytes write, if they are a numeral and it is at most `most`
abbrev pub number_up_to : ℕ → List ℕ → Option ℕ
number_up_to most bs = cond (numeral bs && nat_le (number bs) most) (Some (number bs)) None

-- the number of exactly one argument
abbrev pub only_number : ℕ → List (List ℕ) → Option ℕ
only_number most [] = None
only_number most (p ∷ []) = number_up_to most p
only_number most (p ∷ q ∷ ps) = None

-- the number of at most one argument: `default` where there is none
abbrev pub number_or : ℕ → ℕ → List (List ℕ) → Option ℕ
number_or default most [] = Some default
number_or default most (p ∷ ps) = only_number most (p ∷ ps)

-- the numbers of any count of arguments
abbrev pub all_numbers : ℕ → List (List ℕ) → Option (List ℕ)
all_numbers most [] = Some []
all_numbers most (p ∷ ps) = before (number_up_to most p) (all_numbers most ps)
