-- The front of a writing, by its bytes.
use Rattle.std.proofs.Common.{◌≡◌, ℕ, List, ◌∷◌, Some}
use Rattle.std.proofs.lemmas.Bool.{ne_eqb}
use Rattle.commands.specs.Escapes.{front_byte}

-- a byte that is itself
pub front-plain_byte : (x : ℕ) (xs : List ℕ) → (x ≡ 92 → ⊥) → (x ≡ 94 → ⊥) → front_byte (x ∷ xs) ≡ Some (x, xs)
front-plain_byte x xs n m = let s = ne_eqb x 92 n in let t = ne_eqb x 94 m in rw (s, t)
