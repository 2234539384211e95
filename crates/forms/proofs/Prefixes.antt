-- The bytes of a class in front.
use Rattle.std.proofs.Common.{◌≡◌, ℕ, ◌+◌, ◌<◌, ◌≤◌, Bool, true, false, cond, ◌&&◌, List, [], ◌∷◌, length, refl, arith}
use Rattle.std.specs.List.{prefix_len}
use Rattle.forms.specs.Bytes.{every}

pub every-short : (p : ℕ → Bool) (xs : List ℕ) → prefix_len p xs < length xs → every p xs ≡ false
every-short p [] h = absurd (omega arith)
every-short p (x ∷ xs) h =
    let P : Bool → Type 0 = λ b. cond b (1 + prefix_len p xs) 0 < length (x ∷ xs) → (b && every p xs) ≡ false in
    elim (p x) as P [ true ↦ (λ k. every-short p xs (omega arith)) | false ↦ (λ k. refl) ] h

pub every-whole : (p : ℕ → Bool) (xs : List ℕ) → length xs ≤ prefix_len p xs → every p xs ≡ true
every-whole p [] h = refl
every-whole p (x ∷ xs) h =
    let P : Bool → Type 0 = λ b. length (x ∷ xs) ≤ cond b (1 + prefix_len p xs) 0 → (b && every p xs) ≡ true in
    elim (p x) as P [ true ↦ (λ k. every-whole p xs (omega arith)) | false ↦ (λ k. absurd (omega arith)) ] h
