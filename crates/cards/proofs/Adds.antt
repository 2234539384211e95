-- What a scan adds to what is held.
use Rattle.std.proofs.Common.{◌≡◌, ℕ, zero, suc, ◌+◌, ◌≤◌, false, cond, T, ltb, ◌⊎◌, List, [], ◌∷◌, length, drop, Some, None, Ok, Err, Option, Result, sym, refl, ap, ◌∙◌, subst, inl, inr, ⊎_elim, arith, length-drop}
use Rattle.std.specs.Str.{bytes_eq}
use Rattle.std.proofs.lemmas.Slice.Eq.{bytes_eq-Decides}
use Rattle.std.proofs.lemmas.Bool.{cond_both, cond-true, cond-false, cases_Bool, both_ways}
use Rattle.forms.specs.Values.{Meaning}
use Rattle.books.specs.Texts.{starts}
use Rattle.books.specs.Entries.{all_lawful, prefix_free}
use Rattle.books.proofs.Fronts.{starts-front}
use Rattle.books.specs.declared.entry.Entry.{Entry}
use Rattle.scans.specs.declared.fault.ScanFault.{ScanFault}
use Rattle.scans.specs.declared.fault.ScanFault.TheVariants.{NoMark}
use Rattle.scans.specs.Elements.{Element, Front, front, mark}
use Rattle.scans.specs.Spelling.{Spells, Lawful}
use Rattle.scans.proofs.Spelled.{Fronted, fronted}
use Rattle.cards.specs.Codes.{same_meaning}
use Rattle.cards.specs.Tallies.{Held, ident, precedes, insert, look, crossed, Tally, Put, joins, put}
use Rattle.cards.specs.Outcomes.{held_as, on_front, on_put, puts, scan_outcome}
use Rattle.cards.specs.Adding.{Grows, Adds}
use Rattle.cards.proofs.Sames.{meaning-same}
use Rattle.cards.proofs.Walks.{puts_none}

-- ONE ELEMENT

length-insert : (x : Held) (hs : List Held) → length (insert x hs) ≡ suc (length hs)
length-insert x [] = refl
length-insert x (z ∷ zs) =
    cond_both (precedes x z) (x ∷ z ∷ zs) (z ∷ insert x zs) (λ hs. length hs ≡ suc (suc (length zs))) (λ _. refl) (λ _. ap suc (length-insert x zs))

-- what is looked up once an element has been put in whose ident was not held
look-insert : (i : List ℕ) (x : Held) (hs : List Held) → look (ident x) hs ≡ None → look i (insert x hs) ≡ cond (bytes_eq i (ident x)) (Some x.value) (look i hs)
look-insert i x [] n = refl
look-insert i x (z ∷ zs) n =
    cond_both (precedes x z) (x ∷ z ∷ zs) (z ∷ insert x zs) (λ hs. look i hs ≡ cond (bytes_eq i (ident x)) (Some x.value) (look i (z ∷ zs)))
    (λ _. refl)
    (λ _. ⊎_elim
    (λ held. absurd (let w : None ≡ Some z.value = sym n ∙ cond-true _ _ _ held in grind arith))
    (λ other.
    let inner = look-insert i x zs (sym (cond-false _ _ _ other) ∙ n) in
    ⊎_elim
    (λ same.
    let e : i ≡ ident z = (bytes_eq-Decides i (ident z)).0 same in
    let no : bytes_eq i (ident x) ≡ false = ⊎_elim (λ y. absurd (both_ways _ other ((bytes_eq-Decides (ident x) (ident z)).1 (sym ((bytes_eq-Decides i (ident x)).0 y) ∙ e)))) (λ f. f) (cases_Bool (bytes_eq i (ident x))) in
    cond-true _ _ _ same ∙ sym (cond-false _ _ _ no ∙ cond-true _ _ _ same))
    (λ apart. cond-false _ _ _ apart ∙ inner ∙ ap (λ o. cond (bytes_eq i (ident x)) (Some x.value) o) (sym (cond-false _ _ _ apart)))
    (cases_Bool (bytes_eq i (ident z))))
    (cases_Bool (bytes_eq (ident x) (ident z))))

-- what is held once x has been put on
record Joined (hs : List Held) (x : Held) (q : Put) : Type 0 where
  there : look (ident x) q.held ≡ Some x.value
  kept : (i : List ℕ) (v : Meaning) → look i hs ≡ Some v → look i q.held ≡ Some v
  only : (i : List ℕ) (v : Meaning) → look i q.held ≡ Some v → (look i hs ≡ Some v) ⊎ ((look i hs ≡ None) × (ident x ≡ i) × (x.value ≡ v))
  counted : length q.held ≡ length hs + q.new

abbrev Good : List Held → Held → Result Put ScanFault → Type 0
Good hs x (Ok q) = Joined hs x q
Good hs x (Err e) = Unit {0}

again-good : (hs : List Held) (x : Held) (w : Meaning) → look (ident x) hs ≡ Some w → x.value ≡ w → Joined hs x (record { new = 0; held = hs })
again-good hs x w l e = record { there = l ∙ ap Some (sym e); kept = λ i v h. h; only = λ i v h. inl h; counted = omega arith }

added-good : (hs : List Held) (x : Held) → look (ident x) hs ≡ None → Joined hs x (record { new = 1; held = insert x hs })
added-good hs x n =
    record {
      there = look-insert (ident x) x hs n ∙ cond-true _ _ _ ((bytes_eq-Decides (ident x) (ident x)).1 refl);
      kept = λ i v h. look-insert i x hs n ∙ ⊎_elim
          (λ same. absurd (let w : None ≡ Some v = sym n ∙ ap (λ j. look j hs) (sym ((bytes_eq-Decides i (ident x)).0 same)) ∙ h in grind arith))
          (λ other. cond-false _ _ _ other ∙ h)
          (cases_Bool (bytes_eq i (ident x)));
      only = λ i v h.
          let g = sym (look-insert i x hs n) ∙ h in
          ⊎_elim
          (λ same.
          let e : i ≡ ident x = (bytes_eq-Decides i (ident x)).0 same in
          let z : Some x.value ≡ Some v = sym (cond-true _ _ _ same) ∙ g in
          let w : x.value ≡ v = cc in
          inr (ap (λ j. look j hs) e ∙ n, sym e, w))
          (λ other. inl (sym (cond-false _ _ _ other) ∙ g))
          (cases_Bool (bytes_eq i (ident x)));
      counted = (let l = length-insert x hs in omega arith);
    }

joins-good : (o : Option Meaning) (p : ℕ) (hs : List Held) (x : Held) → look (ident x) hs ≡ o → Good hs x (joins o p hs x)
joins-good (Some w) p hs x l = cond_both (same_meaning x.value w) _ _ (Good hs x) (λ s. again-good hs x w l (meaning-same _ _ s)) (λ _. tt)
joins-good None p hs x l = cond_both (ltb (length hs) 32) _ _ (Good hs x) (λ _. added-good hs x l) (λ _. tt)

put-good : (p : ℕ) (hs : List Held) (x : Held) → Good hs x (put p hs x)
unfolding put
put-good p hs x = cond_both (crossed x.entry hs) _ _ (Good hs x) (λ _. tt) (λ _. joins-good (look (ident x) hs) p hs x refl)

-- ELEMENTS ONE AFTER THE OTHER

grows_none : (y : ℕ) (hs : List Held) → Grows y hs [] hs
grows_none y hs = record { all = λ x m. absurd m; kept = λ i v h. h; only = λ i v h. inl h }

grows_more : (y : ℕ) (hs gs : List Held) (x : Element) (xs : List Element) (q : Put) → Joined hs (held_as y x) q → Grows y q.held xs gs → Grows y hs (x ∷ xs) gs
grows_more y hs gs x xs q j g =
    record {
      all = λ z m. ⊎_elim
          (λ e. let E : Element → Type 0 = λ w. look (ident (held_as y w)) gs ≡ Some (held_as y w).value in subst E (sym e) (g.kept (ident (held_as y x)) (held_as y x).value j.there))
          (g.all z)
          m;
      kept = λ i v h. g.kept i v (j.kept i v h);
      only = λ i v h. ⊎_elim
          (λ k. ⊎_elim inl (λ n. inr (n.0, (x, inl refl, n.1, n.2))) (j.only i v k))
          (λ n. inr (before-none i n.0, (n.1.0, inr n.1.1, n.1.2, n.1.3)))
          (g.only i v h);
    }
  where
    before-none : (i : List ℕ) → look i q.held ≡ None → look i hs ≡ None
    before-none i n =
        let at : (o : Option Meaning) → look i hs ≡ o → look i hs ≡ None
        = λ o. elim o as (λ o. look i hs ≡ o → look i hs ≡ None) [
          | None ↦ λ e. e
          | Some w ↦ λ e. absurd (let z : None ≡ Some w = sym n ∙ j.kept i w e in grind arith)
        ] in
        at (look i hs) refl

module _ (es : List Entry) (all : T (all_lawful es)) (free : T (prefix_free es)) (y : ℕ) where
  -- the bytes s are put on what is held, and n idents came to be held before
  record Added (hs : List Held) (n : ℕ) (s : List ℕ) (q : Put) : Type 0 where
    elements : List Element
    spelled : Spells es s elements
    lawful : Lawful y elements
    grows : Grows y hs elements q.held
    counted : length q.held + n ≡ length hs + q.new

  added_more : (hs : List Held) (n : ℕ) (s : List ℕ) (q r : Put) (f : Front) → Fronted es all free y s f → Joined hs (held_as y f.element) r → Added r.held (n + r.new) (drop f.taken s) q → Added hs n s q
  added_more hs n s q r f seen j inner =
      record {
        elements = f.element ∷ inner.elements;
        spelled = (seen.between, drop f.taken s, seen.is, seen.known, seen.apart, inner.spelled);
        lawful = (seen.lawful, inner.lawful);
        grows = grows_more y hs q.held f.element inner.elements r j inner.grows;
        counted = (let a = inner.counted in let b = j.counted in omega arith);
      }

  puts-add : (k : ℕ) (hs : List Held) (n p : ℕ) (s : List ℕ) (q : Put) → length s ≤ k → puts k es y hs n p s ≡ Ok q → Added hs n s q
  unfolding puts
  puts-add k hs n p [] q h e =
      let z : Ok (record { new = n; held = hs }) ≡ Ok q = sym (puts_none es y k hs n p) ∙ e in
      let w : ◌≡◌ {A = Put} (record { new = n; held = hs }) q = cc in
      subst (Added hs n []) w (record { elements = []; spelled = refl; lawful = tt; grows = grows_none y hs; counted = refl })
  puts-add zero hs n p (b ∷ s) q h e = absurd (omega arith)
  puts-add (suc k) hs n p (b ∷ s) q h e =
      let behind : (f : Front) → Fronted es all free y (b ∷ s) f → (r : Result Put ScanFault) → Good hs (held_as y f.element) r
      → on_put r (λ r. puts k es y r.held (n + r.new) (p + f.taken) (drop f.taken (b ∷ s))) ≡ Ok q → Added hs n (b ∷ s) q
      = λ f seen r. elim r as (λ r. Good hs (held_as y f.element) r → on_put r (λ r. puts k es y r.held (n + r.new) (p + f.taken) (drop f.taken (b ∷ s))) ≡ Ok q → Added hs n (b ∷ s) q) [
        | Err x ↦ λ good was. absurd (let z : ◌≡◌ {A = ℕ} 0 1 = cc in omega arith)
        | Ok r ↦ λ good was.
            let shorter : length (drop f.taken (b ∷ s)) ≤ k = (let l = length-drop f.taken (b ∷ s) in let g = seen.some in omega arith) in
            added_more hs n (b ∷ s) q r f seen good (puts-add k r.held (n + r.new) (p + f.taken) (drop f.taken (b ∷ s)) q shorter was)
      ] in
      let first : (r : Result Front ScanFault) → front es y p (b ∷ s) ≡ r
      → on_front r (λ f. on_put (put p hs (held_as y f.element)) (λ r. puts k es y r.held (n + r.new) (p + f.taken) (drop f.taken (b ∷ s)))) ≡ Ok q → Added hs n (b ∷ s) q
      = λ r. elim r as (λ r. front es y p (b ∷ s) ≡ r → on_front r (λ f. on_put (put p hs (held_as y f.element)) (λ r. puts k es y r.held (n + r.new) (p + f.taken) (drop f.taken (b ∷ s)))) ≡ Ok q → Added hs n (b ∷ s) q) [
        | Err x ↦ λ is was. absurd (let z : ◌≡◌ {A = ℕ} 0 1 = cc in omega arith)
        | Ok f ↦ λ is was. behind f (fronted es all free y (b ∷ s) p f is) (put p hs (held_as y f.element)) (put-good p hs (held_as y f.element)) was
      ] in
      first (front es y p (b ∷ s)) refl e

-- AN ACCEPTED SCAN

pub scan_adds : (es : List Entry) → T (all_lawful es) → T (prefix_free es) → (t : Tally) (s : List ℕ) (q : Put) → scan_outcome es t s ≡ Ok q → Adds es t s q
scan_adds es all free t s q e =
    ⊎_elim
    (λ marked.
    let a = puts-add es all free t.year (length s) t.held 0 3 (drop 3 s) q (let l = length-drop 3 s in omega arith) (sym (cond-true _ _ _ marked) ∙ e) in
    record {
      elements = a.elements;
      spelled = record { body = drop 3 s; marked = starts-front mark s marked; spelled = a.spelled; lawful = a.lawful };
      grows = a.grows;
      counted = (let c = a.counted in omega arith);
    })
    (λ other. absurd (let z : Err NoMark ≡ Ok q = sym (cond-false _ _ _ other) ∙ e in let w : ◌≡◌ {A = ℕ} 0 1 = cc in omega arith))
    (cases_Bool (starts mark s))
