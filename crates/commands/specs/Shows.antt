-- Bytes as they are shown.
use Rattle.std.specs.Prelude.{◌≡◌, ℕ, ◌+◌, ◌/◌, ◌%◌, Bool, cond, not, ◌&&◌, List, [], ◌∷◌, Some, ◌==◌, nat_lt}
use Rattle.std.specs.List.{flat_map}
use Rattle.forms.specs.Bytes.{within}
use Rattle.commands.specs.Escapes.{unescaped}

-- the capital hexadecimal digit of that value
abbrev pub hex_digit : ℕ → ℕ
hex_digit n = cond (nat_lt n 10) (48 + n) (55 + n)

-- the bytes that are shown as themselves: 32 to 126, but for the backslash and '^'
abbrev pub plain : ℕ → Bool
plain b = within 32 126 b && (not (b == 92) && not (b == 94))

-- what shows a byte
abbrev pub shown_byte : ℕ → List ℕ
shown_byte b = cond (b == 29) (94 ∷ []) (cond (plain b) (b ∷ []) (92 ∷ hex_digit (b / 16) ∷ hex_digit (b % 16) ∷ []))

-- what shows bytes
abbrev pub shown_bytes : List ℕ → List ℕ
shown_bytes bs = flat_map shown_byte bs

-- what is shown of the bytes reads back as those bytes
abbrev pub ReadsBack : List ℕ → Type 0
ReadsBack bs = unescaped (shown_bytes bs) ≡ Some bs
