-- The arguments in a tail, one behind each space.
use Rattle.std.proofs.Common.{◌≡◌, ℕ, ◌<◌, true, false, eqb, List, [], ◌∷◌, length, refl, ⊎_elim, one-add, arith}
use Rattle.std.proofs.lemmas.Bool.{cases_Bool}
use Rattle.commands.specs.Words.{word, tail, behind, pieces, arguments}

-- the first piece stands before the first space, and the others are the arguments behind it
pieces-word : (bs : List ℕ) → pieces bs ≡ word bs ∷ arguments (tail bs)
pieces-word [] = refl
pieces-word (b ∷ bs) =
    ⊎_elim
    (λ (t : eqb b 32 ≡ true). rw t)
    (λ (t : eqb b 32 ≡ false). rw (t, pieces-word bs, one-add))
    (cases_Bool (eqb b 32))

-- so the first argument, and the others
pub arguments-step : (bs : List ℕ) → 0 < length bs → arguments bs ≡ word (behind bs) ∷ arguments (tail (behind bs))
arguments-step [] l = absurd (omega arith)
arguments-step (b ∷ bs) l = pieces-word bs
