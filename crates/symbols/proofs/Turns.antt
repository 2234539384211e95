-- One turn of the writer's loop.
use Rattle.std.proofs.Common.{◌≡◌, ℕ, ◌+◌, ◌<◌, ◌≤◌, List, [], ◌∷◌, ◌++◌, length, Ok, Err, Result, sym, refl, ap, ◌∙◌, arith}
use Rattle.std.proofs.lemmas.List.{length-append, append_assoc}
use Rattle.std.specs.Result.{MatchResult, IsOk}
use Rattle.symbols.specs.declared.code.CodeSet.{CodeSet}
use Rattle.symbols.specs.Encoding.{Steps, values, set_after}
use Rattle.symbols.proofs.Aheads.{values-few}

-- what is to be written fits
pub target_fits : (s : CodeSet) (e got : List ℕ) → length got ≤ 1 → length e ≤ 48 → length (got ++ values s e) ≤ 97
target_fits s e got h k = omega (arith, length-append got (values s e), values-few s e)

-- a turn: W is to be written in all, and S is the set that it ends in
pub record Turned (s t : CodeSet) (xs ys : List ℕ) (v : ℕ) (got W : List ℕ) (S : CodeSet) : Type 0 where
  pub room : length got + 1 ≤ 97
  pub wrote : (got ++ (v ∷ [])) ++ values t ys ≡ W
  pub goes : set_after t ys ≡ S
  pub less : length (values t ys) < length (values s xs)

pub turned : (s t : CodeSet) (xs ys : List ℕ) (v : ℕ) (got W : List ℕ) (S : CodeSet)
    → got ++ values s xs ≡ W → set_after s xs ≡ S → length W ≤ 97 → Steps s xs v t ys → Turned s t xs ys v got W S
turned s t xs ys v got W S inv goes few w =
    let a = length-append got (values s xs) in
    record {
      room = omega (arith, a, ap length inv, ap length w.vals);
      wrote = append_assoc got (v ∷ []) (values t ys) ∙ ap (λ x. got ++ x) (sym w.vals) ∙ inv;
      goes = sym w.goes ∙ goes;
      less = omega (arith, ap length w.vals);
    }

-- a call that can fail for one reason alone succeeds where there is none
pub has_room : {T E : Type 0} (P : T → Type 0) (Q : E → Type 0) (r : Result T E) → ((f : E) → Q f → ⊥) → MatchResult r P Q → IsOk r
has_room P Q (Ok x) n m = refl
has_room P Q (Err f) n m = absurd (n f m)
