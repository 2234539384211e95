-- Idents by their text, the digits that write them.
use Rattle.std.specs.Prelude.{ℕ, ◌^◌, ◌<◌, ◌≤◌, Bool, true, false, cond, ◌&&◌, ◌||◌, List, [], ◌∷◌, take, is_some, Some, None, Option, ◌==◌, nat_lt}
use Rattle.forms.specs.Bytes.{within, number}

-- two to four digits can write the number
abbrev pub IsIdent : ℕ → ℕ → Type 0
IsIdent digits n = (2 ≤ digits) × (digits ≤ 4) × (n < 10 ^ digits)

-- the second list begins with the first
abbrev pub starts : List ℕ → List ℕ → Bool
starts [] ys = true
starts (x ∷ xs) [] = false
starts (x ∷ xs) (y ∷ ys) = x == y && starts xs ys

-- one of the two equals or begins the other
abbrev pub overlap : List ℕ → List ℕ → Bool
overlap xs ys = starts xs ys || starts ys xs

-- the first stands before the second, as words do in a dictionary
abbrev pub comes_first : List ℕ → List ℕ → Bool
comes_first xs [] = false
comes_first [] (y ∷ ys) = true
comes_first (x ∷ xs) (y ∷ ys) = nat_lt x y || (x == y && comes_first xs ys)

-- the number that the first two digits write
abbrev pub lead : List ℕ → ℕ
lead text = number (take 2 text)

-- the length of ident and field together that an ident's first two digits predefine
abbrev pub whole : ℕ → Option ℕ
whole two =
    cond (two == 0) (Some 20)
    (cond (within 1 3 two || two == 41) (Some 16)
    (cond (two == 4) (Some 18)
    (cond (within 11 19 two) (Some 8)
    (cond (two == 20) (Some 4)
    (cond (within 31 36 two) (Some 10)
    None)))))

-- the first two digits predefine a length
abbrev pub predefined : List ℕ → Bool
predefined text = is_some (whole (lead text))

-- what the order of entries goes by: predefined first, and then the text
abbrev pub rank : List ℕ → List ℕ
rank text = cond (predefined text) 0 1 ∷ text
