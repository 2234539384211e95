-- The order of texts: no two come before each other, and of two that differ one comes first.
use Rattle.std.proofs.Common.{◌≡◌, ℕ, ◌<◌, Bool, true, false, cond, eqb, ltb, ◌⊎◌, List, [], ◌∷◌, length, sym, refl, ap, ◌∙◌, inl, inr, ⊎_elim, arith}
use Rattle.std.proofs.lemmas.Bool.{false≢true, and_parts, and_from, or_cases, or_left, or_right, ltb-true, lt-ltb, le-ltb, eqb-true, eq-eqb, cases_order}
use Rattle.forms.specs.Bytes.{number}
use Rattle.forms.specs.Figures.{length-last_digits, number-last_digits}
use Rattle.books.specs.declared.ident.Ident.{Ident}
use Rattle.books.specs.Texts.{comes_first, predefined, rank}
use Rattle.books.specs.Entries.{ident_text}
use Rattle.books.proofs.Alike.{same_ident}

pub first_not_same : (xs : List ℕ) → comes_first xs xs ≡ false
first_not_same [] = refl
first_not_same (x ∷ xs) =
    let a = le-ltb x x (omega arith) in
    let b = eq-eqb x x refl in
    rw (a, b) (first_not_same xs)

-- by the first place at which they differ
first_cases : (x y : ℕ) (xs ys : List ℕ) → comes_first (x ∷ xs) (y ∷ ys) ≡ true → (x < y) ⊎ ((x ≡ y) × (comes_first xs ys ≡ true))
first_cases x y xs ys h =
    ⊎_elim (λ l. inl (ltb-true x y l)) (λ e. let p = and_parts (eqb x y) (comes_first xs ys) e in inr (eqb-true x y p.0, p.1)) (or_cases (ltb x y) _ h)

first_less : (x y : ℕ) (xs ys : List ℕ) → x < y → comes_first (x ∷ xs) (y ∷ ys) ≡ true
first_less x y xs ys l = or_left (ltb x y) _ (lt-ltb x y l)

first_tail : (x y : ℕ) (xs ys : List ℕ) → x ≡ y → comes_first xs ys ≡ true → comes_first (x ∷ xs) (y ∷ ys) ≡ true
first_tail x y xs ys e h = or_right (ltb x y) _ (and_from (eqb x y) _ (eq-eqb x y e) h)

pub first_then : (xs ys zs : List ℕ) → comes_first xs ys ≡ true → comes_first ys zs ≡ true → comes_first xs zs ≡ true
first_then xs ys [] p q = absurd (false≢true q)
first_then xs [] (z ∷ zs) p q = absurd (false≢true p)
first_then [] (y ∷ ys) (z ∷ zs) p q = refl
first_then (x ∷ xs) (y ∷ ys) (z ∷ zs) p q =
    ⊎_elim
    (λ l. ⊎_elim (λ m. first_less x z xs zs (omega arith)) (λ m. first_less x z xs zs (omega arith)) (first_cases y z ys zs q))
    (λ l. ⊎_elim (λ m. first_less x z xs zs (omega arith)) (λ m. first_tail x z xs zs (l.0 ∙ m.0) (first_then xs ys zs l.1 m.1)) (first_cases y z ys zs q))
    (first_cases x y xs ys p)

pub first_or_same : (xs ys : List ℕ) → (xs ≡ ys) ⊎ ((comes_first xs ys ≡ true) ⊎ (comes_first ys xs ≡ true))
first_or_same [] [] = inl refl
first_or_same [] (y ∷ ys) = inr (inl refl)
first_or_same (x ∷ xs) [] = inr (inr refl)
first_or_same (x ∷ xs) (y ∷ ys) =
    ⊎_elim
    (λ e. ⊎_elim (λ t. inl (λ k. e k ∷ t k)) (⊎_elim (λ f. inr (inl (first_tail x y xs ys e f))) (λ f. inr (inr (first_tail y x ys xs (sym e) f)))) (first_or_same xs ys))
    (⊎_elim (λ l. inr (inl (first_less x y xs ys l))) (λ l. inr (inr (first_less y x ys xs l))))
    (cases_order x y)

-- a predefined ident stands before one that is not
pub predefined-first : (t u : List ℕ) → predefined t ≡ true → predefined u ≡ false → comes_first (rank t) (rank u) ≡ true
predefined-first t u p q = rw (p, q)

-- of idents of one kind, the first as text stands first
pub same_kind_by_text : (t u : List ℕ) → predefined t ≡ predefined u → comes_first (rank t) (rank u) ≡ comes_first t u
same_kind_by_text t u e =
    let h : (b : Bool) → comes_first (cond b 0 1 ∷ t) (cond b 0 1 ∷ u) ≡ comes_first t u = λ b. elim b as (λ v. comes_first (cond v 0 1 ∷ t) (cond v 0 1 ∷ u) ≡ comes_first t u) [ true ↦ refl | false ↦ refl ] in
    rw e (h (predefined u))

-- idents with one text are one ident
pub same_text : (i j : Ident) → ident_text i ≡ ident_text j → i ≡ j
same_text i j e =
    same_ident i j (sym (length-last_digits i.digits i.number) ∙ ap length e ∙ length-last_digits j.digits j.number)
    (sym (number-last_digits i.digits i.number i.fits) ∙ ap number e ∙ number-last_digits j.digits j.number j.fits)
