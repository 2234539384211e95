-- Bytes as a line writes them: '^' (94) is byte 29, a backslash (92) and two hexadecimal digits are that byte, any other byte is itself.
use Rattle.std.specs.Prelude.{ℕ, ◌+◌, ◌-◌, ◌*◌, cond, List, [], ◌∷◌, Some, None, Option, ◌==◌}
use Rattle.forms.specs.Bytes.{within}

-- the value of a hexadecimal digit, in capitals or not
abbrev pub hex_value : ℕ → Option ℕ
hex_value b = cond (within 48 57 b) (Some (b - 48)) (cond (within 65 70 b) (Some (b - 55)) (cond (within 97 102 b) (Some (b - 87)) None))

-- the byte that two hexadecimal digits write
abbrev pub hex_byte : Option ℕ → Option ℕ → Option ℕ
hex_byte None low = None
hex_byte (Some h) None = None
hex_byte (Some h) (Some l) = Some (16 * h + l)

-- the byte that a byte other than a backslash stands for
abbrev pub plain_byte : ℕ → ℕ
plain_byte b = cond (b == 94) 29 b

-- a byte and what stands behind it
abbrev pub with_rest : List ℕ → Option ℕ → Option (ℕ × List ℕ)
with_rest rest None = None
with_rest rest (Some b) = Some (b, rest)

-- the byte that a backslash and what stands behind it begin with, and the rest
abbrev pub escaped_byte : List ℕ → Option (ℕ × List ℕ)
escaped_byte [] = None
escaped_byte (h ∷ []) = None
escaped_byte (h ∷ l ∷ rest) = with_rest rest (hex_byte (hex_value h) (hex_value l))

-- the byte that the front of a writing stands for, and the rest
abbrev pub front_byte : List ℕ → Option (ℕ × List ℕ)
front_byte [] = None
front_byte (b ∷ rest) = cond (b == 92) (escaped_byte rest) (Some (plain_byte b, rest))

-- one byte more in front
abbrev pub before : Option ℕ → Option (List ℕ) → Option (List ℕ)
before None bs = None
before (Some b) None = None
before (Some b) (Some bs) = Some (b ∷ bs)

-- the bytes that a writing stands for, if each of its backslashes has two hexadecimal digits behind it
unfoldable pub unescaped : List ℕ → Option (List ℕ)
unescaped [] = Some []
unescaped (b ∷ []) = cond (b == 92) None (Some (plain_byte b ∷ []))
unescaped (b ∷ h ∷ []) = cond (b == 92) None (before (Some (plain_byte b)) (unescaped (h ∷ [])))
unescaped (b ∷ h ∷ l ∷ bs) =
    cond (b == 92) (before (hex_byte (hex_value h) (hex_value l)) (unescaped bs)) (before (Some (plain_byte b)) (unescaped (h ∷ l ∷ bs)))
