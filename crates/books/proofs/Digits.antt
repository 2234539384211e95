-- The digits of an ident.
use Rattle.std.proofs.Common.{◌≡◌, ℕ, ◌-◌, ◌/◌, ◌^◌, ◌<◌, ◌≤◌, ◌⊎◌, drop, sym, refl, subst, ⊎_elim, arith}
use Rattle.forms.specs.Bytes.{last_digits}
use Rattle.books.specs.Texts.{lead}

one_of : (d : ℕ) → 2 ≤ d → d ≤ 4 → (d ≡ 2) ⊎ ((d ≡ 3) ⊎ (d ≡ 4))
one_of d l h = grind arith

-- what holds of two, three and four digits holds of each ident's
pub at_digits : (P : ℕ → Type 0) → P 2 → P 3 → P 4 → (d : ℕ) → 2 ≤ d → d ≤ 4 → P d
at_digits P p q r d l h = ⊎_elim (λ e. subst P (sym e) p) (⊎_elim (λ e. subst P (sym e) q) (λ e. subst P (sym e) r)) (one_of d l h)

-- the last digits of four are the ident's
pub last_of_four : (n d : ℕ) → 2 ≤ d → d ≤ 4 → drop (4 - d) (last_digits 4 n) ≡ last_digits d n
last_of_four n = at_digits (λ d. drop (4 - d) (last_digits 4 n) ≡ last_digits d n) refl refl refl

-- the first two digits, as a number
pub lead_is : (n d : ℕ) → 2 ≤ d → d ≤ 4 → n < 10 ^ d → n / 10 ^ (d - 2) ≡ lead (last_digits d n)
lead_is n = at_digits (λ d. n < 10 ^ d → n / 10 ^ (d - 2) ≡ lead (last_digits d n)) (λ h. omega arith) (λ h. omega arith) (λ h. omega arith)

pub lead_small : (n d : ℕ) → 2 ≤ d → d ≤ 4 → n < 10 ^ d → n / 10 ^ (d - 2) < 100
lead_small n = at_digits (λ d. n < 10 ^ d → n / 10 ^ (d - 2) < 100) (λ h. omega arith) (λ h. omega arith) (λ h. omega arith)
