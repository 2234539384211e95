-- Lists in canonical order: what an insertion does, and that two with the same members are equal.
use Rattle.std.proofs.Common.{◌≡◌, ℕ, suc, ◌≤◌, true, false, cond, ◌⊎◌, List, [], ◌∷◌, length, sym, refl, ap, ◌∙◌, subst, ap₂, inl, inr, ⊎_elim, suc-le-suc, zero-le, arith}
use Rattle.std.specs.Str.{bytes_eq}
use Rattle.std.proofs.lemmas.Bool.{cond_both, both_ways}
use Rattle.books.specs.Texts.{comes_first, rank, predefined}
use Rattle.books.specs.Entries.{In}
use Rattle.books.proofs.Orders.{first_not_same, first_then, first_or_same}
use Rattle.cards.specs.Tallies.{Held, ident, precedes, insert, without}

-- every member of the first is one of the second
abbrev pub Within : {A : Type 0} → List A → List A → Type 0
Within {A} xs ys = (a : A) → In a xs → In a ys

abbrev pub First : Held → Held → Type 0
First x z = precedes x z ≡ true

-- in canonical order, no two alike
abbrev pub Rising : List Held → Type 0
Rising [] = Unit {0}
Rising (x ∷ xs) = ((z : Held) → In z xs → First x z) × Rising xs

pub first_not : (x z : Held) → ident x ≡ ident z → First x z → ⊥
first_not x z e f = both_ways (precedes x z) (ap (λ i. comes_first (rank (ident x)) (rank i)) (sym e) ∙ first_not_same (rank (ident x))) f

first_trans : (x y z : Held) → First x y → First y z → First x z
first_trans x y z = first_then (rank (ident x)) (rank (ident y)) (rank (ident z))

rank-back : (a b : ℕ) (xs ys : List ℕ) → a ∷ xs ≡ b ∷ ys → xs ≡ ys
rank-back a b xs ys e = cc

first_other : (x z : Held) → precedes x z ≡ false → (ident x ≡ ident z → ⊥) → First z x
first_other x z p n =
    ⊎_elim (λ e. absurd (n (rank-back (cond (predefined (ident x)) 0 1) (cond (predefined (ident z)) 0 1) (ident x) (ident z) e)))
    (⊎_elim (λ f. absurd (both_ways (precedes x z) p f)) (λ f. f))
    (first_or_same (rank (ident x)) (rank (ident z)))

-- INSERTION

pub insert-has : (x : Held) (zs : List Held) → In x (insert x zs)
insert-has x [] = inl refl
insert-has x (z ∷ zs) = cond_both (precedes x z) (x ∷ z ∷ zs) (z ∷ insert x zs) (In x) (λ _. inl refl) (λ _. inr (insert-has x zs))

pub insert-keeps : (x : Held) (zs : List Held) → Within zs (insert x zs)
insert-keeps x [] a i = absurd i
insert-keeps x (z ∷ zs) a i =
    cond_both (precedes x z) (x ∷ z ∷ zs) (z ∷ insert x zs) (In a) (λ _. inr i) (λ _. ⊎_elim inl (λ j. inr (insert-keeps x zs a j)) i)

pub insert-from : (x : Held) (zs : List Held) (a : Held) → In a (insert x zs) → (a ≡ x) ⊎ In a zs
insert-from x [] a i = i
insert-from x (z ∷ zs) a i =
    cond_both (precedes x z) (x ∷ z ∷ zs) (z ∷ insert x zs) (λ l. In a l → (a ≡ x) ⊎ In a (z ∷ zs)) (λ _ j. j)
    (λ _. ⊎_elim (λ e. inr (inl e)) (λ j. ⊎_elim inl (λ k. inr (inr k)) (insert-from x zs a j))) i

pub insert-length : (x : Held) (zs : List Held) → length (insert x zs) ≡ suc (length zs)
insert-length x [] = refl
insert-length x (z ∷ zs) =
    cond_both (precedes x z) (x ∷ z ∷ zs) (z ∷ insert x zs) (λ l. length l ≡ suc (suc (length zs))) (λ _. refl) (λ _. ap suc (insert-length x zs))

pub insert-rising : (x : Held) (zs : List Held) → Rising zs → ((z : Held) → In z zs → ident x ≡ ident z → ⊥) → Rising (insert x zs)
insert-rising x [] r n = ((λ z i. absurd i), tt)
insert-rising x (z ∷ zs) r n =
    cond_both (precedes x z) (x ∷ z ∷ zs) (z ∷ insert x zs) Rising
    (λ p. ((λ a. ⊎_elim (λ e. subst (First x) (sym e) p) (λ i. first_trans x z a p (r.0 a i))), r))
    (λ p.
    let q : First z x = first_other x z p (n z (inl refl)) in
    ((λ a i. ⊎_elim (λ e. subst (First z) (sym e) q) (r.0 a) (insert-from x zs a i)), insert-rising x zs r.1 (λ a i. n a (inr i))))

-- REMOVAL

pub without-within : (i : List ℕ) (xs : List Held) → Within (without i xs) xs
without-within i [] a j = j
without-within i (x ∷ xs) a j =
    cond_both (bytes_eq i (ident x)) xs (x ∷ without i xs) (λ l. In a l → In a (x ∷ xs)) (λ _ k. inr k)
    (λ _. ⊎_elim inl (λ k. inr (without-within i xs a k))) j

pub without-rising : (i : List ℕ) (xs : List Held) → Rising xs → Rising (without i xs)
without-rising i [] r = tt
without-rising i (x ∷ xs) r =
    cond_both (bytes_eq i (ident x)) xs (x ∷ without i xs) Rising (λ _. r.1)
    (λ _. ((λ a j. r.0 a (without-within i xs a j)), without-rising i xs r.1))

-- MEMBERS

below_within : (z : Held) (xs zs : List Held) → ((a : Held) → In a xs → First z a) → Within xs (z ∷ zs) → Within xs zs
below_within z xs zs b w a i = ⊎_elim (λ e. absurd (first_not z z refl (subst (First z) e (b a i)))) (λ j. j) (w a i)

-- a rising list has no more members than one that has them all
pub rising-shorter : (xs zs : List Held) → Rising xs → Rising zs → Within xs zs → length xs ≤ length zs
rising-shorter [] zs r s w = zero-le
rising-shorter (x ∷ xs) [] r s w = absurd (w x (inl refl))
rising-shorter (x ∷ xs) (z ∷ zs) r s w =
    ⊎_elim
    (λ e. suc-le-suc (rising-shorter xs zs r.1 s.1 (below_within z xs zs (λ a i. subst (λ q. First q a) e (r.0 a i)) (λ a i. w a (inr i)))))
    (λ j.
    let b : (a : Held) → In a (x ∷ xs) → First z a = λ a. ⊎_elim (λ e. subst (First z) (sym e) (s.0 x j)) (λ i. first_trans z x a (s.0 x j) (r.0 a i)) in
    let h = rising-shorter (x ∷ xs) zs r s.1 (below_within z (x ∷ xs) zs b w) in
    omega arith)
    (w x (inl refl))

-- an ident is held once
pub rising-one : (xs : List Held) → Rising xs → (x z : Held) → In x xs → In z xs → ident x ≡ ident z → x ≡ z
rising-one [] r x z i j e = absurd i
rising-one (a ∷ rest) r x z i j e =
    ⊎_elim
    (λ p. ⊎_elim (λ q. p ∙ sym q) (λ q. absurd (first_not a z (ap ident (sym p) ∙ e) (r.0 z q))) j)
    (λ p. ⊎_elim (λ q. absurd (first_not a x (ap ident (sym q) ∙ sym e) (r.0 x p))) (λ q. rising-one rest r.1 x z p q e) j)
    i

pub rising-same : (xs zs : List Held) → Rising xs → Rising zs → Within xs zs → Within zs xs → xs ≡ zs
rising-same [] [] r s v w = refl
rising-same [] (z ∷ zs) r s v w = absurd (w z (inl refl))
rising-same (x ∷ xs) [] r s v w = absurd (v x (inl refl))
rising-same (x ∷ xs) (z ∷ zs) r s v w =
    let e : x ≡ z =
    ⊎_elim (λ p. p) (λ i. ⊎_elim sym (λ j. absurd (first_not x x refl (first_trans x z x (r.0 z j) (s.0 x i)))) (w z (inl refl))) (v x (inl refl)) in
    ap₂ ◌∷◌ e (rising-same xs zs r.1 s.1
    (below_within z xs zs (λ a i. subst (λ q. First q a) e (r.0 a i)) (λ a i. v a (inr i)))
    (below_within x zs xs (λ a i. subst (λ q. First q a) (sym e) (s.0 a i)) (λ a i. w a (inr i))))
