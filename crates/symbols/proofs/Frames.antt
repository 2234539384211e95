-- The tests of a symbol's frame.
use Rattle.std.proofs.Common.{◌≡◌, ℕ, ◌+◌, ◌-◌, ◌≤◌, true, List, [], ◌∷◌, ◌++◌, length, get_or, take, drop, sym, refl, ap, ◌∙◌, arith}
use Rattle.std.proofs.lemmas.List.{length-append, take_at, get_or_at, get_or-append_right}
use Rattle.std.proofs.lemmas.Bool.{le-ltb, eq-eqb, cond-false, not_from_true}
use Rattle.symbols.specs.declared.code.CodeSet.TheVariants.{C}
use Rattle.symbols.specs.Reading.{read_on, starts, start_set, check_of, decoded}

-- past all of them
pub decoded-body : (vs : List ℕ) → 4 ≤ length vs → starts (get_or vs 0 0) ≡ true → get_or vs 1 0 ≡ 102
    → get_or vs (length vs - 1) 0 ≡ 106 → get_or vs (length vs - 2) 0 ≡ check_of (take (length vs - 2) vs)
    → decoded vs ≡ read_on (start_set (get_or vs 0 0)) 2 [] (drop 2 (take (length vs - 2) vs))
decoded-body vs h s m l c =
    cond-false _ _ _ (le-ltb _ _ h) ∙ cond-false _ _ _ (not_from_true _ s) ∙ cond-false _ _ _ (not_from_true _ (eq-eqb _ _ m))
    ∙ cond-false _ _ _ (not_from_true _ (eq-eqb _ _ l)) ∙ cond-false _ _ _ (not_from_true _ (eq-eqb _ _ c))

-- values between the opening and the close of a symbol
pub decoded-sealed : (vs : List ℕ) (c : ℕ) → c ≡ check_of (105 ∷ 102 ∷ vs) → decoded (105 ∷ 102 ∷ (vs ++ (c ∷ 106 ∷ []))) ≡ read_on C 2 [] vs
decoded-sealed vs c ec =
    let xs : List ℕ = 105 ∷ 102 ∷ vs in
    let ys : List ℕ = c ∷ 106 ∷ [] in
    let l : length (xs ++ ys) ≡ length xs + 2 = length-append xs ys in
    let l2 : length (xs ++ ys) - 2 ≡ length xs = omega arith in
    let l1 : length (xs ++ ys) - 1 ≡ length xs + 1 = omega arith in
    let t : take (length (xs ++ ys) - 2) (xs ++ ys) ≡ xs = ap (λ n. take n (xs ++ ys)) l2 ∙ take_at xs ys (length xs) refl in
    let g : get_or (xs ++ ys) (length (xs ++ ys) - 2) 0 ≡ c = ap (λ n. get_or (xs ++ ys) n 0) l2 ∙ get_or_at xs c (106 ∷ []) 0 (length xs) refl in
    let o : length xs + 1 - length xs ≡ 1 = omega arith in
    let f : get_or (xs ++ ys) (length (xs ++ ys) - 1) 0 ≡ 106 =
    ap (λ n. get_or (xs ++ ys) n 0) l1 ∙ get_or-append_right xs ys (length xs) (length xs + 1) 0 refl (omega arith) ∙ ap (λ n. get_or ys n 0) o in
    decoded-body (xs ++ ys) (omega arith) refl refl f (g ∙ ec ∙ ap check_of (sym t)) ∙ ap (λ zs. read_on C 2 [] (drop 2 zs)) t
