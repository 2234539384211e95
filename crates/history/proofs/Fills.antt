-- The runs of a list: one behind the other they are the list, and none has more bytes than a symbol holds.
use Rattle.std.proofs.Common.{◌≡◌, ℕ, zero, suc, ◌<◌, ◌≤◌, leb, ◌⊎◌, List, [], ◌∷◌, ◌++◌, length, get_or, sym, refl, ap, ◌∙◌, subst, inl, inr, ⊎_elim, append_assoc, arith, length-append}
use Rattle.std.proofs.lemmas.Bool.{cond_both, leb-true}
use Rattle.books.specs.Entries.{In}
use Rattle.cards.specs.Tallies.{Held}
use Rattle.cards.specs.Strings.{piece, spelled, fill, runs}
use Rattle.history.proofs.Sorts.{Within, Rising}
use Rattle.history.proofs.Stands.{Stands}
use Rattle.cards.proofs.Pieces.{piece-long}

-- LISTS OF LISTS

-- lists one behind the other
abbrev pub flat : {A : Type 0} → List (List A) → List A
flat [] = []
flat (xs ∷ xss) = xs ++ flat xss

module _ {A : Type 0} where
  in_left : (xs ys : List A) → Within xs (xs ++ ys)
  in_left [] ys a i = absurd i
  in_left (x ∷ xs) ys a i = ⊎_elim inl (λ j. inr (in_left xs ys a j)) i

  in_right : (xs ys : List A) → Within ys (xs ++ ys)
  in_right [] ys a i = i
  in_right (x ∷ xs) ys a i = inr (in_right xs ys a i)

  in_cases : (xs ys : List A) (a : A) → In a (xs ++ ys) → In a xs ⊎ In a ys
  in_cases [] ys a i = inr i
  in_cases (x ∷ xs) ys a i = ⊎_elim (λ e. inl (inl e)) (λ j. ⊎_elim (λ k. inl (inr k)) inr (in_cases xs ys a j)) i

  flat_has : (xss : List (List A)) (xs : List A) → In xs xss → Within xs (flat xss)
  flat_has [] xs i a j = absurd i
  flat_has (ys ∷ yss) xs i a j = ⊎_elim (λ e. in_left ys (flat yss) a (subst (In a) e j)) (λ k. in_right ys (flat yss) a (flat_has yss xs k a j)) i

  -- the number of a list that has it
  pub record Numbered (a : A) (xss : List (List A)) : Type 0 where
    pub number : ℕ
    pub below : number < length xss
    pub there : In a (get_or xss number [])

  pub flat-at : (xss : List (List A)) (a : A) → In a (flat xss) → Numbered a xss
  flat-at [] a i = absurd i
  flat-at (xs ∷ xss) a i =
      ⊎_elim (λ j. record { number = 0; below = omega arith; there = j })
      (λ j. let n = flat-at xss a j in let b = n.below in record { number = suc n.number; below = omega arith; there = n.there })
      (in_cases xs (flat xss) a i)

  pub in_at : (xs : List A) (k : ℕ) (d : A) → k < length xs → In (get_or xs k d) xs
  in_at [] k d l = absurd (omega arith)
  in_at (x ∷ xs) zero d l = inl refl
  in_at (x ∷ xs) (suc k) d l = inr (in_at xs k d (omega arith))

rising-left : (xs ys : List Held) → Rising (xs ++ ys) → Rising xs
rising-left [] ys r = tt
rising-left (x ∷ xs) ys r = ((λ z i. r.0 z (in_left xs ys z i)), rising-left xs ys r.1)

rising-right : (xs ys : List Held) → Rising (xs ++ ys) → Rising ys
rising-right [] ys r = r
rising-right (x ∷ xs) ys r = rising-right xs ys r.1

flat-rising : (xss : List (List Held)) (xs : List Held) → In xs xss → Rising (flat xss) → Rising xs
flat-rising [] xs i r = absurd i
flat-rising (ys ∷ yss) xs i r =
    ⊎_elim (λ e. subst Rising (sym e) (rising-left ys (flat yss) r)) (λ j. flat-rising yss xs j (rising-right ys (flat yss) r)) i

-- RUNS

fill-flat : (run xs : List Held) → flat (fill run xs) ≡ run ++ xs
fill-flat run [] = refl
fill-flat run (x ∷ xs) =
    cond_both (leb (length (spelled (run ++ x ∷ []))) 48) (fill (run ++ x ∷ []) xs) (run ∷ fill (x ∷ []) xs) (λ l. flat l ≡ run ++ (x ∷ xs))
    (λ _. fill-flat (run ++ x ∷ []) xs ∙ append_assoc run (x ∷ []) xs)
    (λ _. ap (λ r. run ++ r) (fill-flat (x ∷ []) xs))

-- one behind the other, the runs of a list are the list
pub runs-flat : (hs : List Held) → flat (runs hs) ≡ hs
runs-flat [] = refl
runs-flat (x ∷ xs) = fill-flat (x ∷ []) xs

pub runs-within : (hs : List Held) (run : List Held) → In run (runs hs) → Within run hs
runs-within hs run i a j = subst (In a) (runs-flat hs) (flat_has (runs hs) run i a j)

pub runs-rising : (hs : List Held) (run : List Held) → In run (runs hs) → Rising hs → Rising run
runs-rising hs run i r = flat-rising (runs hs) run i (subst Rising (sym (runs-flat hs)) r)

-- a single element has at most 4 digits of ident and 30 bytes of field
one_short : (y : ℕ) (x : Held) → Stands y x → length (spelled (x ∷ [])) ≤ 48
one_short y x s =
    let a = length-append (piece x) [] in
    let b = piece-long x in
    let c = x.entry.ident.most in
    let d = x.entry.most in
    let e = s.most in
    omega arith

fill-short : (y : ℕ) (run xs : List Held) → length (spelled run) ≤ 48 → ((x : Held) → In x xs → Stands y x) → (r : List Held) → In r (fill run xs) → length (spelled r) ≤ 48
fill-short y run [] l h r i = ⊎_elim (λ e. subst (λ q. length (spelled q) ≤ 48) (sym e) l) (λ j. absurd j) i
fill-short y run (x ∷ xs) l h r i =
    cond_both (leb (length (spelled (run ++ x ∷ []))) 48) (fill (run ++ x ∷ []) xs) (run ∷ fill (x ∷ []) xs) (λ q. In r q → length (spelled r) ≤ 48)
    (λ p. fill-short y (run ++ x ∷ []) xs (leb-true _ 48 p) (λ z j. h z (inr j)) r)
    (λ _. ⊎_elim (λ e. subst (λ q. length (spelled q) ≤ 48) (sym e) l) (fill-short y (x ∷ []) xs (one_short y x (h x (inl refl))) (λ z j. h z (inr j)) r))
    i

-- each run fits a symbol
pub runs-short : (y : ℕ) (hs : List Held) → ((x : Held) → In x hs → Stands y x) → (r : List Held) → In r (runs hs) → length (spelled r) ≤ 48
runs-short y [] h r i = absurd i
runs-short y (x ∷ xs) h r i = fill-short y (x ∷ []) xs (one_short y x (h x (inl refl))) (λ z j. h z (inr j)) r i
