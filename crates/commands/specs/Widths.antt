-- Numbers that a type of 8, 16 or 32 bits holds.
use Rattle.std.specs.Prelude.{◌≡◌, ℕ, ◌≤◌, ◌<◌, ◌^◌, Ok, Err, Result, IsOkAnd, OkIff}
use Rattle.std.proofs.Common.{arith}

-- what holds a number, if it is small enough, holds it
holds : {E : Type 0} (most n : ℕ) (P : Type 0) (r : Result ℕ E) → (n ≤ most → P) → n ≤ most → OkIff r P n → IsOkAnd r (λ x. x ≡ n)
holds most n P (Ok x) small l h = h.1
holds most n P (Err e) small l h = absurd (h (small l))

pub u8_holds : {E : Type 0} (n : ℕ) (r : Result ℕ E) → n ≤ 255 → OkIff r (n < 2 ^ 8) n → IsOkAnd r (λ x. x ≡ n)
u8_holds n r = holds 255 n (n < 2 ^ 8) r (λ l. omega arith)

pub u16_holds : {E : Type 0} (n : ℕ) (r : Result ℕ E) → n ≤ 65535 → OkIff r (n < 2 ^ 16) n → IsOkAnd r (λ x. x ≡ n)
u16_holds n r = holds 65535 n (n < 2 ^ 16) r (λ l. omega arith)

pub u32_holds : {E : Type 0} (n : ℕ) (r : Result ℕ E) → n ≤ 4294967295 → OkIff r (n < 2 ^ 32) n → IsOkAnd r (λ x. x ≡ n)
u32_holds n r = holds 4294967295 n (n < 2 ^ 32) r (λ l. omega arith)
