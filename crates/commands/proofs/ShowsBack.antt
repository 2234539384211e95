-- What is shown, byte by byte, and that it reads back.
use Rattle.std.proofs.Common.{◌≡◌, ℕ, ◌+◌, ◌*◌, ◌/◌, ◌%◌, ◌<◌, ◌≤◌, true, cond, eqb, List, [], ◌∷◌, ◌++◌, length, get_or, take, Some, sym, refl, ap, ◌∙◌, arith, w8, Fits}
use Rattle.std.specs.List.{AllByRecursion as All}
use Rattle.std.proofs.ByRecursion.{All-from_get_or}
use Rattle.std.proofs.lemmas.List.{take_all, take_at}
use Rattle.std.proofs.lemmas.Bool.{cond_both, eqb-true}
use Rattle.std.proofs.lemmas.Bool.Decides.{nat_tests}
use Rattle.commands.specs.Escapes.{hex_value, hex_byte, with_rest, front_byte, before, unescaped}
use Rattle.commands.specs.Shows.{hex_digit, plain, shown_byte, shown_bytes, ReadsBack}
use Rattle.commands.proofs.Fronts.{front-plain_byte}
use Rattle.commands.proofs.Unescapes.{unescaped-step}

-- what was shown is taken back
pub taken_back : (was shown out : List ℕ) (n : ℕ) → n ≡ length was → out ≡ was ++ shown → take n out ≡ was
taken_back was shown out n e is = ap (take n) is ∙ take_at was shown n (sym e)

-- all are shown
pub shown_all : (was bs : List ℕ) (i : ℕ) → length bs ≤ i → was ++ shown_bytes (take i bs) ≡ was ++ shown_bytes bs
shown_all was bs i l = ap (λ ys. was ++ shown_bytes ys) (take_all i bs l)

hex_back : (n : ℕ) → n < 16 → hex_value (hex_digit n) ≡ Some n
hex_back n l = grind (arith, nat_tests)

hex_front : (b : ℕ) (rest : List ℕ) → b < 256 → with_rest rest (hex_byte (hex_value (hex_digit (b / 16))) (hex_value (hex_digit (b % 16)))) ≡ Some (b, rest)
hex_front b rest l =
    let h : b / 16 < 16 = omega arith in
    let k : b % 16 < 16 = omega arith in
    let e : 16 * (b / 16) + b % 16 ≡ b = omega arith in
    ap (λ o. with_rest rest (hex_byte o (hex_value (hex_digit (b % 16))))) (hex_back (b / 16) h)
    ∙ ap (λ o. with_rest rest (hex_byte (Some (b / 16)) o)) (hex_back (b % 16) k)
    ∙ ap (λ n. Some (n, rest)) e

plain-not : (b : ℕ) → plain b ≡ true → (b ≡ 92 → ⊥) × (b ≡ 94 → ⊥)
plain-not b h = (λ e. grind (arith, nat_tests), λ e. grind (arith, nat_tests))

-- what shows a byte stands for it
front-shown : (b : ℕ) (rest : List ℕ) → b < 256 → front_byte (shown_byte b ++ rest) ≡ Some (b, rest)
front-shown b rest l =
    let P : List ℕ → Type 0 = λ ys. front_byte (ys ++ rest) ≡ Some (b, rest) in
    cond_both (eqb b 29) (94 ∷ []) (cond (plain b) (b ∷ []) (92 ∷ hex_digit (b / 16) ∷ hex_digit (b % 16) ∷ [])) P
    (λ e. ap (λ n. Some (n, rest)) (sym (eqb-true b 29 e)))
    (λ _. cond_both (plain b) (b ∷ []) (92 ∷ hex_digit (b / 16) ∷ hex_digit (b % 16) ∷ []) P
    (λ e. let n = plain-not b e in front-plain_byte b rest n.0 n.1)
    (λ _. hex_front b rest l))

-- what is shown reads back
reads_back : (bs : List ℕ) → All (λ b. b < 256) bs → ReadsBack bs
unfolding unescaped
reads_back [] h = refl
reads_back (b ∷ bs) h =
    unescaped-step (shown_byte b ++ shown_bytes bs) b (shown_bytes bs) (front-shown b (shown_bytes bs) h.0)
    ∙ ap (before (Some b)) (reads_back bs h.1)

pub bytes_back : (bs : List ℕ) → ((i : ℕ) → Fits w8 (get_or bs i 0)) → ReadsBack bs
bytes_back bs h = reads_back bs (All-from_get_or (λ b. b < 256) bs 0 (λ i _. omega (arith, h i)))
