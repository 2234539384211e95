use Rattle.std.proofs.Common.{◌≡◌, ℕ, ◌≤◌, List, [], ◌∷◌, ◌++◌, map, length, Some, None, Option, sym, refl, ap, ◌∙◌, subst}
use Rattle.std.specs.Option.{option_map}
use Rattle.std.specs.List.{slice_get}
use Rattle.std.specs.Iterator.{YieldsFirstBy, Yields, SkipsThenYields}
use Rattle.std.proofs.lemmas.List.{length-map, append-nil}
use Rattle.std.proofs.lemmas.Option.{slice_get_past}
use Rattle.cards.specs.Rows.{held_in}
use Rattle.cards.specs.Strings.{runs}
use Rattle.cards.proofs.runs.nth_run.Goals as goal

-- what stands behind some elements of a list
behind : {B : Type 0} (ys zs : List B) → slice_get (ys ++ zs) (length ys) ≡ slice_get zs 0
behind [] zs = refl
behind (y ∷ ys) zs = behind ys zs

module _ {S A B : Type 0} (view : A → B) (rest : S → List B) where
  -- what was given stands before what is left
  given_front : (s : S) (xs : List A) (t : S) → Yields (YieldsFirstBy view rest) s xs t → rest s ≡ map view xs ++ rest t
  given_front s [] t y = ap rest y
  given_front s (x ∷ xs) t y = y.1 ∙ ap (λ ys. view x ∷ ys) (given_front y.0 xs t y.2)

  nth_is : (s : S) (n : ℕ) (r : Option A) (u : S) → SkipsThenYields (YieldsFirstBy view rest) s n r u → option_map view r ≡ slice_get (rest s) n
  nth_is s n None u h =
      let all = given_front s h.0 h.1.0 h.1.1 ∙ ap (λ ys. map view h.0 ++ ys) h.1.2.0 ∙ append-nil (map view h.0) in
      sym (slice_get_past (rest s) n (subst (λ m. m ≤ n) (sym (ap length all ∙ length-map h.0 view)) h.2))
  nth_is s n (Some x) u h =
      let all = given_front s h.0 h.1.0 h.1.1 ∙ ap (λ ys. map view h.0 ++ ys) h.1.2 in
      sym (ap (λ ys. slice_get ys n) all ∙ ap (slice_get (map view h.0 ++ (view x ∷ rest u))) (sym (length-map h.0 view ∙ h.2)) ∙ behind (map view h.0) (view x ∷ rest u))

pub returns : goal.returns
returns c = nth_is (λ run. map held_in run.now) (λ s. runs (map held_in s.rest.now)) (record { rest = c.args.rows }) c.args.k c.nth.result c.nth.new.self c.nth.ensures.ran
