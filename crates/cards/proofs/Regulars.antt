-- What is done to a card keeps its order, and its idents apart.
use Rattle.std.proofs.Common.{◌≡◌, ℕ, Bool, true, false, not, ◌&&◌, ◌||◌, List, [], ◌∷◌, drop, Some, None, sym, refl, ap, ◌∙◌, ⊎_elim, arith}
use Rattle.std.specs.Str.{bytes_eq}
use Rattle.std.proofs.lemmas.Slice.Eq.{bytes_eq-Decides}
use Rattle.std.proofs.lemmas.Bool.{and_parts, and_from, and_cases, or_parts, or_left, or_right, cases_Bool, both_ways, cond_both, cond-true, cond-false, not-true, not-false, not_from_false}
use Rattle.books.specs.Texts.{starts, overlap, rank}
use Rattle.books.specs.Entries as entries
use Rattle.books.proofs.Orders.{first_then, first_or_same}
use Rattle.cards.specs.Tallies.{Held, ident, precedes, insert, look, without, crossed}
use Rattle.cards.specs.Regular.{leads, ordered, stands, all_stand, regular}
use Rattle.cards.proofs.Sames.{entry-same}

-- an ident equals itself, so it overlaps itself
starts-self : (xs : List ℕ) → starts xs xs ≡ true
starts-self [] = refl
starts-self (x ∷ xs) = and_from _ _ (let d = (bytes_eq-Decides (x ∷ []) (x ∷ [])).1 refl in (and_parts _ _ d).0) (starts-self xs)

-- the ident of x neither equals nor begins nor is begun by one of theirs
abbrev pub apart : Held → List Held → Bool
apart x [] = true
apart x (z ∷ zs) = not (overlap (ident x) (ident z)) && apart x zs

-- where no entry crosses it and its ident is not held, an element is apart from what is held
pub apart_from : (x : Held) (hs : List Held) → crossed x.entry hs ≡ false → look (ident x) hs ≡ None → apart x hs ≡ true
apart_from x [] c l = refl
apart_from x (z ∷ zs) c l =
    let o = or_parts _ _ c in
    ⊎_elim
    (λ held. absurd (let w : None ≡ Some z.value = sym l ∙ cond-true _ _ _ held in grind arith))
    (λ other.
    let rest = apart_from x zs o.1 (sym (cond-false _ _ _ other) ∙ l) in
    and_from _ _
    (⊎_elim
    (λ s. absurd (both_ways _ other ((bytes_eq-Decides (ident x) (ident z)).1 (ap entries.text (entry-same x.entry z.entry (not-false _ s))))))
    (λ v. not_from_false _ v)
    (and_cases _ _ o.0))
    rest)
    (cases_Bool (bytes_eq (ident x) (ident z)))

-- equal idents overlap
pub same_overlap : (x z : Held) → ident x ≡ ident z → overlap (ident x) (ident z) ≡ true
same_overlap x z e = ap (λ t. starts (ident x) t || starts t (ident x)) (sym e) ∙ or_left _ _ (starts-self (ident x))

-- idents that do not overlap stand in one order or the other
either_first : (x z : Held) → overlap (ident x) (ident z) ≡ false → precedes x z ≡ false → precedes z x ≡ true
either_first x z o p =
    ⊎_elim
    (λ e. absurd (both_ways _ o (same_overlap x z (ap (drop 1) e))))
    (⊎_elim (λ f. absurd (both_ways _ p f)) (λ f. f))
    (first_or_same (rank (ident x)) (rank (ident z)))

overlap-swap : (xs ys : List ℕ) → overlap xs ys ≡ overlap ys xs
overlap-swap xs ys = elim (starts xs ys) as (λ a. (a || starts ys xs) ≡ (starts ys xs || a)) [
  | true ↦ sym (or_right (starts ys xs) true refl)
  | false ↦ (let P : Bool → Type 0 = λ b. (false || b) ≡ (b || false) in elim (starts ys xs) as P [ true ↦ refl | false ↦ refl ])
]

-- what stands before z stands before all that z leads
leads-on : (x z : Held) (zs : List Held) → precedes x z ≡ true → apart x zs ≡ true → leads z zs ≡ true → leads x zs ≡ true
leads-on x z [] p a l = refl
leads-on x z (w ∷ ws) p a l =
    let b = and_parts _ _ a in
    let m = and_parts _ _ l in
    let q = and_parts _ _ m.0 in
    and_from _ _ (and_from _ _ (first_then (rank (ident x)) (rank (ident z)) (rank (ident w)) p q.0) b.0) (leads-on x z ws p b.1 m.1)

-- z leads what x has been put into, where it led the rest and stands before x
leads-insert : (z x : Held) (zs : List Held) → precedes z x ≡ true → overlap (ident z) (ident x) ≡ false → leads z zs ≡ true → leads z (insert x zs) ≡ true
leads-insert z x [] p o l = and_from _ _ (and_from _ _ p (not_from_false _ o)) refl
leads-insert z x (w ∷ ws) p o l =
    let m = and_parts _ _ l in
    cond_both (precedes x w) (x ∷ w ∷ ws) (w ∷ insert x ws) (λ hs. leads z hs ≡ true)
    (λ _. and_from _ _ (and_from _ _ p (not_from_false _ o)) l)
    (λ _. and_from _ _ m.0 (leads-insert z x ws p o m.1))

pub ordered-insert : (x : Held) (hs : List Held) → apart x hs ≡ true → ordered hs ≡ true → ordered (insert x hs) ≡ true
ordered-insert x [] a o = refl
ordered-insert x (z ∷ zs) a o =
    let b = and_parts _ _ a in
    let m = and_parts _ _ o in
    let clear : overlap (ident x) (ident z) ≡ false = not-true _ b.0 in
    cond_both (precedes x z) (x ∷ z ∷ zs) (z ∷ insert x zs) (λ hs. ordered hs ≡ true)
    (λ p. and_from _ _ (and_from _ _ (and_from _ _ p b.0) (leads-on x z zs p b.1 m.0)) o)
    (λ p. and_from _ _ (leads-insert z x zs (either_first x z clear p) (overlap-swap (ident z) (ident x) ∙ clear) m.0) (ordered-insert x zs b.1 m.1))

leads-without : (i : List ℕ) (z : Held) (hs : List Held) → leads z hs ≡ true → leads z (without i hs) ≡ true
leads-without i z [] l = refl
leads-without i z (w ∷ ws) l =
    let m = and_parts _ _ l in
    cond_both (bytes_eq i (ident w)) ws (w ∷ without i ws) (λ hs. leads z hs ≡ true) (λ _. m.1) (λ _. and_from _ _ m.0 (leads-without i z ws m.1))

pub ordered-without : (i : List ℕ) (hs : List Held) → ordered hs ≡ true → ordered (without i hs) ≡ true
ordered-without i [] o = refl
ordered-without i (w ∷ ws) o =
    let m = and_parts _ _ o in
    cond_both (bytes_eq i (ident w)) ws (w ∷ without i ws) (λ hs. ordered hs ≡ true) (λ _. m.1) (λ _. and_from _ _ (leads-without i w ws m.0) (ordered-without i ws m.1))

pub stand_insert : (y : ℕ) (x : Held) (hs : List Held) → stands y x ≡ true → all_stand y hs ≡ true → all_stand y (insert x hs) ≡ true
stand_insert y x [] s a = and_from _ _ s refl
stand_insert y x (z ∷ zs) s a =
    let m = and_parts _ _ a in
    cond_both (precedes x z) (x ∷ z ∷ zs) (z ∷ insert x zs) (λ hs. all_stand y hs ≡ true) (λ _. and_from _ _ s a) (λ _. and_from _ _ m.0 (stand_insert y x zs s m.1))

pub stand_without : (y : ℕ) (i : List ℕ) (hs : List Held) → all_stand y hs ≡ true → all_stand y (without i hs) ≡ true
stand_without y i [] a = refl
stand_without y i (w ∷ ws) a =
    let m = and_parts _ _ a in
    cond_both (bytes_eq i (ident w)) ws (w ∷ without i ws) (λ hs. all_stand y hs ≡ true) (λ _. m.1) (λ _. and_from _ _ m.0 (stand_without y i ws m.1))

-- a card stays regular when an element is put on it that neither crosses nor is held, and when one is struck
pub regular-insert : (y : ℕ) (x : Held) (hs : List Held) → crossed x.entry hs ≡ false → look (ident x) hs ≡ None → stands y x ≡ true → regular y hs ≡ true → regular y (insert x hs) ≡ true
regular-insert y x hs c l s r =
    let m = and_parts _ _ r in
    and_from _ _ (ordered-insert x hs (apart_from x hs c l) m.0) (stand_insert y x hs s m.1)

pub regular-without : (y : ℕ) (i : List ℕ) (hs : List Held) → regular y hs ≡ true → regular y (without i hs) ≡ true
regular-without y i hs r = let m = and_parts _ _ r in and_from _ _ (ordered-without i hs m.0) (stand_without y i hs m.1)
