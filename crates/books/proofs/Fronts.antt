-- Lists of bytes that begin with another, and their order.
use Rattle.std.proofs.Common.{◌≡◌, ℕ, Bool, true, false, cond, not, eqb, List, [], ◌∷◌, ◌++◌, length, take, drop, Some, refl, ap, ◌∙◌, arith}
use Rattle.std.proofs.lemmas.Slice.Eq.{starts_is}
use Rattle.std.proofs.lemmas.Cmp.{same_from_slice_cmp_tested}
use Rattle.std.proofs.lemmas.Bool.{and_parts, eqb-true, eq-eqb}
use Rattle.std.proofs.lemmas.Bool.Decides.{nat_tests, same_from_decides, Decides-eqb}
use Rattle.std.specs.Cmp.Lexicographic.{pointwise, slice_partial_cmp}
use Rattle.std.specs.Ordering.{is_some_and, is_lt, nat_cmp, bool_cmp, partial_ordering_then}
use Rattle.books.specs.Texts.{starts, comes_first, predefined, rank}

-- a list begins with another where it is that list and something behind it
pub starts-front : (p s : List ℕ) → starts p s ≡ true → s ≡ p ++ drop (length p) s
starts-front [] s e = refl
starts-front (x ∷ p) [] e = let z : ◌≡◌ {A = ℕ} 0 1 = cc in absurd (omega arith)
starts-front (x ∷ p) (y ∷ s) e =
    let both = and_parts (eqb x y) (starts p s) e in
    let h = eqb-true x y both.0 in
    let t = starts-front p s both.1 in
    cc

pub starts-own : (p rest : List ℕ) → starts p (p ++ rest) ≡ true
starts-own [] rest = refl
starts-own (x ∷ p) rest = let h = eq-eqb x x refl in rw h (starts-own p rest)

-- what the library's test answers is the definition's answer
pub front-tested : (p s : List ℕ) (r : Bool) → r ≡ pointwise eqb p (take (length p) s) → r ≡ starts p s
front-tested p s r m =
    let said = starts_is Decides-eqb s p r m in
    same_from_decides r (starts p s) (said.0, λ e. said.1 (drop (length p) s) e)
    (starts-front p s, λ e. ap (starts p) e ∙ starts-own p (drop (length p) s))

-- what the library's order answers is the definition's answer
pub order_tested : (xs ys : List ℕ) (r : Bool) → r ≡ is_some_and is_lt (slice_partial_cmp (λ x y. Some (nat_cmp x y)) xs ys) → r ≡ comes_first xs ys
order_tested =
    same_from_slice_cmp_tested nat_cmp is_lt comes_first refl (λ _ _. refl) (λ _ _. refl)
    (λ x y xs ys o h. grind (arith, nat_tests))

-- of keys of a flag and a text, what the library's order answers is the definition's answer
pub rank_tested : (t u a b : List ℕ) (p q r : Bool) → p ≡ predefined t → q ≡ predefined u → a ≡ t → b ≡ u
    → r ≡ is_some_and is_lt (partial_ordering_then (Some (bool_cmp (not p) (not q))) (slice_partial_cmp (λ x y. Some (nat_cmp x y)) a b))
    → r ≡ comes_first (rank t) (rank u)
rank_tested t u a b p q r ep eq ea eb h = let d = by_flags p q a b r h in rw (ep, eq, ea, eb) at d
  where
    by_flags : (p q : Bool) (xs ys : List ℕ) (r : Bool)
        → r ≡ is_some_and is_lt (partial_ordering_then (Some (bool_cmp (not p) (not q))) (slice_partial_cmp (λ x y. Some (nat_cmp x y)) xs ys))
        → r ≡ comes_first (cond p 0 1 ∷ xs) (cond q 0 1 ∷ ys)
    by_flags true true xs ys r h = order_tested xs ys r h
    by_flags true false xs ys r h = h
    by_flags false true xs ys r h = h
    by_flags false false xs ys r h = order_tested xs ys r h
