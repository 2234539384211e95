-- A number alone in its arguments is one piece.
use Rattle.std.proofs.Common.{◌≡◌, ℕ, false, eqb, ◌⊎◌, List, [], ◌∷◌, None, sym, refl, ap, ◌∙◌, inl, inr, ⊎_elim}
use Rattle.std.proofs.lemmas.Bool.{eqb-true, and_right, cases_Bool}
use Rattle.forms.specs.Bytes.{digit, every}
use Rattle.commands.specs.Numerals.{number_up_to, only_number}
use Rattle.commands.specs.Words.{longer, pieces}

-- two pieces or more, so that not all bytes are digits
record Several (bs : List ℕ) : Type 0 where
  first : List ℕ
  second : List ℕ
  others : List (List ℕ)
  are : pieces bs ≡ first ∷ second ∷ others
  mixed : every digit bs ≡ false

-- an empty piece before the pieces of bs
after-space : (bs : List ℕ) → every digit (32 ∷ bs) ≡ false → (pieces bs ≡ bs ∷ []) ⊎ Several bs → Several (32 ∷ bs)
after-space bs e h =
    ⊎_elim
    (λ one. record { first = []; second = bs; others = []; are = ap (λ ps. [] ∷ ps) one; mixed = e })
    (λ more. record { first = []; second = more.first; others = more.second ∷ more.others; are = ap (λ ps. [] ∷ ps) more.are; mixed = e })
    h

-- one byte more in the first piece
after-byte : (b : ℕ) (bs : List ℕ) → eqb b 32 ≡ false → (pieces bs ≡ bs ∷ []) ⊎ Several bs → (pieces (b ∷ bs) ≡ (b ∷ bs) ∷ []) ⊎ Several (b ∷ bs)
after-byte b bs t h =
    let go : pieces (b ∷ bs) ≡ longer b (pieces bs) = rw t in
    ⊎_elim
    (λ one. inl (go ∙ ap (longer b) one))
    (λ more. inr (record { first = b ∷ more.first; second = more.second; others = more.others; are = go ∙ ap (longer b) more.are; mixed = and_right (digit b) (every digit bs) more.mixed }))
    h

cut_up : (bs : List ℕ) → (pieces bs ≡ bs ∷ []) ⊎ Several bs
cut_up [] = inl refl
cut_up (b ∷ bs) =
    ⊎_elim
    (λ t. let e = eqb-true b 32 t in let s = after-space bs refl (cut_up bs) in inr (rw e s))
    (λ t. after-byte b bs t (cut_up bs))
    (cases_Bool (eqb b 32))

no_numeral : (most : ℕ) (bs : List ℕ) → every digit bs ≡ false → number_up_to most bs ≡ None
no_numeral most [] e = refl
no_numeral most (b ∷ bs) e = rw e

pub only_number_lem : (most : ℕ) (bs : List ℕ) → number_up_to most bs ≡ only_number most (pieces bs)
only_number_lem most bs =
    ⊎_elim
    (λ one. sym (ap (only_number most) one))
    (λ more. no_numeral most bs more.mixed ∙ sym (ap (only_number most) more.are))
    (cut_up bs)
