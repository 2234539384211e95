-- One step of reading.
use Rattle.std.proofs.Common.{◌≡◌, ℕ, ◌+◌, ◌-◌, ◌/◌, ◌%◌, ◌≤◌, true, cond, leb, List, [], ◌∷◌, ◌++◌, length, Err, Result, refl, ap, ◌∙◌, arith}
use Rattle.std.proofs.lemmas.List.{append-nil}
use Rattle.std.proofs.lemmas.Bool.{le-leb, leb-true, and_parts, cond-true}
use Rattle.forms.specs.Bytes.{digit}
use Rattle.symbols.specs.declared.code.CodeSet.{CodeSet}
use Rattle.symbols.specs.declared.code.CodeSet.TheVariants.{B, C}
use Rattle.symbols.specs.declared.fault.SymbolFault.{SymbolFault}
use Rattle.symbols.specs.declared.fault.SymbolFault.TheVariants.{NoUse, TooLong}
use Rattle.symbols.specs.Reading.{Meaning, means, no_use, meaning, read_on}
use Rattle.symbols.specs.Encoding.{pair_of}

-- what a value's meaning makes of the reading
abbrev after : ℕ → List ℕ → List ℕ → Meaning → Result (List ℕ) SymbolFault
after p got vs (means bs t) = cond (leb (length got + length bs) 48) (read_on t (p + 1) (got ++ bs) vs) (Err (TooLong p))
after p got vs no_use = Err (NoUse p)

read_by : (s : CodeSet) (p v : ℕ) (got vs : List ℕ) → read_on s p got (v ∷ vs) ≡ after p got vs (meaning s v)
read_by s p v got vs =
    let P : Meaning → Type 0 = λ m. elim m as (λ _. Result (List ℕ) SymbolFault) [
      | means bs t ↦ cond (leb (length got + length bs) 48) (read_on t (p + 1) (got ++ bs) vs) (Err (TooLong p))
      | no_use ↦ Err (NoUse p)
    ] ≡ after p got vs m in
    elim (meaning s v) as P [ means bs t ↦ refl | no_use ↦ refl ]

pub read_more : (s t : CodeSet) (p v : ℕ) (got bs vs : List ℕ) → meaning s v ≡ means bs t → length got + length bs ≤ 48 → read_on s p got (v ∷ vs) ≡ read_on t (p + 1) (got ++ bs) vs
read_more s t p v got bs vs e h = read_by s p v got vs ∙ ap (after p got vs) e ∙ cond-true _ _ _ (le-leb _ _ h)

-- a change of set
pub read_turn : (s t : CodeSet) (p v : ℕ) (got vs : List ℕ) → meaning s v ≡ means [] t → length got ≤ 48 → read_on s p got (v ∷ vs) ≡ read_on t (p + 1) got vs
read_turn s t p v got vs e h = read_more s t p v got [] vs e (omega arith) ∙ ap (λ g. read_on t (p + 1) g vs) (append-nil got)

-- what the values that are written mean
pub digit-bounds : (b : ℕ) → digit b ≡ true → (48 ≤ b) × (b ≤ 57)
digit-bounds b e = let p = and_parts _ _ e in (leb-true 48 b p.0, leb-true b 57 p.1)

pub means_pair : (a b : ℕ) → digit a ≡ true → digit b ≡ true → meaning C (pair_of a b) ≡ means (a ∷ b ∷ []) C
means_pair a b da db =
    let x = digit-bounds a da in let y = digit-bounds b db in
    let p1 : 48 + pair_of a b / 10 ≡ a = omega arith in
    let p2 : 48 + pair_of a b % 10 ≡ b = omega arith in
    cond-true _ _ _ (le-leb (pair_of a b) 99 (omega arith)) ∙ ap (λ z. means (z ∷ (48 + pair_of a b % 10) ∷ []) C) p1 ∙ ap (λ z. means (a ∷ z ∷ []) C) p2

pub means_byte : (a : ℕ) → 32 ≤ a → a ≤ 127 → meaning B (a - 32) ≡ means (a ∷ []) B
means_byte a l h =
    let p : (a - 32) + 32 ≡ a = omega arith in
    cond-true _ _ _ (le-leb (a - 32) 95 (omega arith)) ∙ ap (λ x. means (x ∷ []) B) p

pub means_sep : (s : CodeSet) → meaning s 102 ≡ means (29 ∷ []) s
means_sep B = refl
means_sep C = refl
