-- The fewest decimals are the first that suffice.
use Rattle.std.proofs.Common.{◌≡◌, ℕ, ◌-◌, ◌%◌, ◌^◌, Bool, true, false, cond, Some, None, Option, nat_eq, [], ◌∷◌, refl}
use Rattle.std.specs.Option.{option_map, unwrap_or}
use Rattle.std.specs.List.{find}
use Rattle.forms.specs.Measures.{fewest}

picked : (a b c d e : Bool) (n : ℕ) → unwrap_or (cond a (Some 0) (cond b (Some 1) (cond c (Some 2) (cond d (Some 3) (cond e (Some 4) None))))) n ≡ cond a 0 (cond b 1 (cond c 2 (cond d 3 (cond e 4 n))))
picked true b c d e n = refl
picked false true c d e n = refl
picked false false true d e n = refl
picked false false false true e n = refl
picked false false false false true n = refl
picked false false false false false n = refl

pub first-fewest : (n : ℕ) → unwrap_or (find (λ d. nat_eq (n % 10 ^ (5 - d)) 0) (0 ∷ 1 ∷ 2 ∷ 3 ∷ 4 ∷ [])) 5 ≡ fewest n
first-fewest n = picked _ _ _ _ _ 5

pub map_same : (o : Option ℕ) → option_map (λ d. d) o ≡ o
map_same (Some d) = refl
map_same None = refl
