-- What happens to the elements of a card when rows are put in and taken out.
use Rattle.std.proofs.Common.{◌≡◌, ℕ, zero, suc, ◌+◌, ◌-◌, ◌<◌, ◌≤◌, min, Bool, true, false, cond, T, List, [], ◌∷◌, ◌++◌, map, length, get_or, take, drop, is_some, Some, None, Ok, Err, sym, refl, ap, ◌∙◌, subst, ⊎_elim, arith, length-take}
use Rattle.std.specs.Str.{bytes_eq}
use Rattle.std.proofs.lemmas.Slice.Eq.{bytes_eq-Decides}
use Rattle.std.proofs.lemmas.List.{map-append, take-map, drop-map, length-map, get_or-map, get_or-take}
use Rattle.std.proofs.lemmas.Bool.{and_parts, or_parts, and_cases, both_ways, not-false, cond-true, cond-false, lt-ltb, le-ltb}
use Rattle.std.proofs.lemmas.Bool.Decides.{same_from_decides}
use Rattle.forms.specs.Values.{written}
use Rattle.scans.specs.declared.fault.ScanFault.TheVariants.{Clash, Differs, Full}
use Rattle.cards.specs.declared.row.Row.{Row}
use Rattle.cards.specs.Codes.{same_meaning}
use Rattle.cards.specs.Rows.{held_in, first_held}
use Rattle.cards.specs.Tallies.{Held, ident, insert, look, without, crossed, joins, put}
use Rattle.cards.specs.Places.{place_of, seat}
use Rattle.cards.specs.Regular.{stands, all_stand, regular}
use Rattle.cards.proofs.Moves.{take-opened, take-closed, length-opened, length-closed}
use Rattle.cards.proofs.Places.{Under, place_under, insert-seat}
use Rattle.cards.proofs.Regulars.{same_overlap, regular-insert, regular-without}
use Rattle.cards.proofs.Sames.{entry-same, meaning-same, meaning-itself}
use Rattle.cards.proofs.Standing.{same_written}

pub first_long : (n : ℕ) (rows : List Row) → n ≤ length rows → length (first_held n rows) ≡ n
first_long n rows h = length-map (take n rows) held_in ∙ length-take n rows ∙ (let z : min n (length rows) ≡ n = omega arith in z)

pub first_at : (n : ℕ) (rows : List Row) (k : ℕ) (r : Row) (d : Held) → k < n → n ≤ length rows → r ≡ get_or rows k r → get_or (first_held n rows) k d ≡ held_in r
first_at n rows k r d h l e =
    get_or-map held_in (take n rows) k r d (let a = length-take n rows in omega arith) ∙ ap held_in (get_or-take n rows k r h ∙ sym e)

-- one row more
pub grown : (n k : ℕ) (rows after : List Row) (r : Row) → k ≡ seat (held_in r) (first_held n rows) → k ≤ n → n < length rows → after ≡ take k rows ++ r ∷ take (length rows - 1 - k) (drop k rows) → first_held (n + 1) after ≡ insert (held_in r) (first_held n rows)
grown n k rows after r e h l is =
    ap (first_held (n + 1)) is
    ∙ ap (map held_in) (take-opened n k rows r h l)
    ∙ map-append held_in (take k (take n rows)) (r ∷ drop k (take n rows))
    ∙ ap (λ xs. xs ++ held_in r ∷ map held_in (drop k (take n rows))) (sym (take-map held_in k (take n rows)))
    ∙ ap (λ xs. take k (first_held n rows) ++ held_in r ∷ xs) (sym (drop-map held_in k (take n rows)))
    ∙ ap (λ j. take j (first_held n rows) ++ held_in r ∷ drop j (first_held n rows)) e
    ∙ sym (insert-seat (held_in r) (first_held n rows))

-- one row less
pub shrunk : (n k : ℕ) (rows after : List Row) → k < n → n ≤ length rows → after ≡ take k rows ++ (drop (k + 1) rows ++ take 1 (drop k rows)) → first_held (n - 1) after ≡ take k (first_held n rows) ++ drop (suc k) (first_held n rows)
shrunk n k rows after h l is =
    ap (first_held (n - 1)) is
    ∙ ap (map held_in) (take-closed n k rows h l)
    ∙ map-append held_in (take k (take n rows)) (drop (suc k) (take n rows))
    ∙ ap (λ xs. xs ++ map held_in (drop (suc k) (take n rows))) (sym (take-map held_in k (take n rows)))
    ∙ ap (λ xs. take k (first_held n rows) ++ xs) (sym (drop-map held_in (suc k) (take n rows)))

pub all_true : (b : Bool) → T b → b ≡ true
all_true true t = refl
all_true false t = absurd t

pub true_all : (b : Bool) → b ≡ true → T b
true_all b e = subst T (sym e) tt

-- ANSWERS OF A PUT

module _ (p : ℕ) (hs : List Held) (x : Held) where
  pub put-clash : true ≡ crossed x.entry hs → put p hs x ≡ Err (Clash p)
  unfolding put
  put-clash c = cond-true _ _ _ (sym c)

  module _ (c : false ≡ crossed x.entry hs) where
    pub put-joins : put p hs x ≡ joins (look (ident x) hs) p hs x
    unfolding put
    put-joins = cond-false _ _ _ (sym c)

    pub put_full : look (ident x) hs ≡ None → 32 ≤ length hs → put p hs x ≡ Err (Full p)
    put_full n h = put-joins ∙ ap (λ o. joins o p hs x) n ∙ cond-false _ _ _ (le-ltb (length hs) 32 h)

    pub put-added : look (ident x) hs ≡ None → length hs < 32 → put p hs x ≡ Ok (record { new = 1; held = insert x hs })
    put-added n h = put-joins ∙ ap (λ o. joins o p hs x) n ∙ cond-true _ _ _ (lt-ltb (length hs) 32 h)

    -- an element that is held is of the same entry
    crossed-at : (zs : List Held) (k : ℕ) (d : Held) → crossed x.entry zs ≡ false → k < length zs → ident x ≡ ident (get_or zs k d) → x.entry ≡ (get_or zs k d).entry
    crossed-at [] k d n l e = absurd (omega arith)
    crossed-at (z ∷ zs) zero d n l e =
        ⊎_elim
        (λ s. entry-same x.entry z.entry (not-false _ s))
        (λ o. absurd (both_ways _ o (same_overlap x z e)))
        (and_cases _ _ (or_parts _ _ n).0)
    crossed-at (z ∷ zs) (suc k) d n l e = crossed-at zs k d (or_parts _ _ n).1 (omega arith) e

    stands_at : (y : ℕ) (zs : List Held) (k : ℕ) (d : Held) → all_stand y zs ≡ true → k < length zs → stands y (get_or zs k d) ≡ true
    stands_at y [] k d a l = absurd (omega arith)
    stands_at y (z ∷ zs) zero d a l = (and_parts _ _ a).0
    stands_at y (z ∷ zs) (suc k) d a l = stands_at y zs k d (and_parts _ _ a).1 (omega arith)

    -- values are the same where their writings are
    same_value : (y k : ℕ) (z : Held) → all_stand y hs ≡ true → stands y x ≡ true → k < length hs → get_or hs k z ≡ z → ident x ≡ ident z → same_meaning x.value z.value ≡ bytes_eq (written x.value) (written z.value)
    same_value y k z a s l at e =
        let entry : x.entry ≡ z.entry = crossed-at hs k z (sym c) l (e ∙ ap ident (sym at)) ∙ ap (λ h. h.entry) at in
        let other : stands y z ≡ true = ap (stands y) (sym at) ∙ stands_at y hs k z a l in
        same_from_decides (same_meaning x.value z.value) _ (meaning-same _ _, meaning-itself _ _)
        (λ t. same_written y x z s other entry ((bytes_eq-Decides _ _).0 t), λ v. (bytes_eq-Decides _ _).1 (ap written v))

    module _ (y k : ℕ) (z : Held) (a : regular y hs ≡ true) (s : stands y x ≡ true) (here : Some k ≡ place_of (ident x) 0 hs) (at : get_or hs k z ≡ z) where
      there : Under (ident x) 0 k hs
      there = place_under (ident x) 0 k hs (sym here)

      no_shift : k - 0 ≡ k
      no_shift = omega arith

      pub put-again : (r : Bool) → r ≡ bytes_eq (written x.value) (written z.value) → put p hs x ≡ cond r (Ok (record { new = 0; held = hs })) (Err (Differs p))
      put-again r is =
          let within : k < length hs = (let w = there.within in let n = no_shift in omega arith) in
          let held : get_or hs (k - 0) z ≡ z = ap (λ j. get_or hs j z) no_shift ∙ at in
          let found : look (ident x) hs ≡ Some z.value = there.value z ∙ ap (λ h. Some h.value) held in
          let e : ident x ≡ ident z = there.same z ∙ ap ident held in
          put-joins ∙ ap (λ o. joins o p hs x) found
          ∙ ap (λ b. cond b (Ok (record { new = 0; held = hs })) (Err (Differs p))) (same_value y k z (and_parts _ _ a).1 s within at e ∙ sym is)

-- CARDS

found_some : (i : List ℕ) (hs : List Held) (k : ℕ) → k - 0 < length hs → k - 0 ≡ k → ((d : Held) → look i hs ≡ Some (get_or hs (k - 0) d).value) → is_some (look i hs) ≡ true
found_some i [] k w e v = absurd (omega arith)
found_some i (h ∷ hs) k w e v = ap is_some (v h)

-- a card with one row more
pub record Grown (y n : ℕ) (rows after : List Row) (r : Row) : Type 0 where
  pub long : length after ≡ 32
  pub held : first_held (n + 1) after ≡ insert (held_in r) (first_held n rows)
  pub kept : T (regular y (first_held (n + 1) after))

pub card_grown : (y n k : ℕ) (rows after : List Row) (r : Row) → length rows ≡ 32 → n < 32 → T (regular y (first_held n rows))
    → k ≡ seat (held_in r) (first_held n rows) → k ≤ n
    → crossed r.entry (first_held n rows) ≡ false → look (ident (held_in r)) (first_held n rows) ≡ None → stands y (held_in r) ≡ true
    → after ≡ take k rows ++ r ∷ take (length rows - 1 - k) (drop k rows) → Grown y n rows after r
card_grown y n k rows after r long room kept seat-is few free absent lawful is =
    let held = grown n k rows after r seat-is few (omega arith) is in
    record {
      long = ap length is ∙ length-opened k rows r (omega arith) ∙ long;
      held = held;
      kept = true_all _ (ap (regular y) held ∙ regular-insert y (held_in r) (first_held n rows) free absent lawful (all_true _ kept));
    }

-- a card with one row less
pub record Shrunk (y n : ℕ) (i : List ℕ) (rows after : List Row) : Type 0 where
  pub long : length after ≡ 32
  pub held : first_held (n - 1) after ≡ without i (first_held n rows)
  pub there : is_some (look i (first_held n rows)) ≡ true
  pub kept : T (regular y (first_held (n - 1) after))

pub card_shrunk : (y n k : ℕ) (i : List ℕ) (rows after : List Row) → length rows ≡ 32 → n ≤ 32 → T (regular y (first_held n rows))
    → Some k ≡ place_of i 0 (first_held n rows) → k < n
    → after ≡ take k rows ++ (drop (k + 1) rows ++ take 1 (drop k rows)) → Shrunk y n i rows after
card_shrunk y n k i rows after long few kept place below is =
    let u = place_under i 0 k (first_held n rows) (sym place) in
    let none : k - 0 ≡ k = omega arith in
    let held = shrunk n k rows after below (omega arith) is ∙ ap (λ j. take j (first_held n rows) ++ drop (suc j) (first_held n rows)) (sym none) ∙ sym u.rest in
    record {
      long = ap length is ∙ length-closed k rows (omega arith) ∙ long;
      held = held;
      there = found_some i (first_held n rows) k u.within none u.value;
      kept = true_all _ (ap (regular y) held ∙ regular-without y i (first_held n rows) (all_true _ kept));
    }
