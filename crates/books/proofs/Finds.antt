-- What a book finds, from what every book is: a list of lawful entries, of which no ident equals or begins another.
use Rattle.std.proofs.Common.{◌≡◌, ℕ, Bool, true, false, cond, not, T, eqb, List, [], ◌∷◌, ◌++◌, length, drop, Some, None, Option, sym, refl, ap, ◌∙◌, inl, inr, ⊎_elim, arith}
use Rattle.std.proofs.lemmas.Bool.{false≢true, and_parts, eqb-true, eq-eqb, both_ways, not-true, cases_Bool}
use Rattle.books.specs.declared.entry.Entry.{Entry}
use Rattle.books.specs.Texts.{starts, overlap}
use Rattle.books.specs.Lawful.{lawful}
use Rattle.books.specs.Entries.{text, all_lawful, apart_from_all, prefix_free, found, In}
use Rattle.books.proofs.Fronts.{starts-front, starts-own}
use Rattle.books.proofs.Grows.{overlap-swap}

-- a test that holds
pub holds : (b : Bool) → T b → b ≡ true
holds true t = refl
holds false t = absurd t

-- of two texts that both begin a third, one equals or begins the other
pub both-begin : (xs ys s : List ℕ) → starts xs s ≡ true → starts ys s ≡ true → overlap xs ys ≡ true
both-begin [] ys s p q = refl
both-begin (x ∷ xs) [] s p q = refl
both-begin (x ∷ xs) (y ∷ ys) [] p q = absurd (false≢true p)
both-begin (x ∷ xs) (y ∷ ys) (z ∷ s) p q =
    let a = and_parts (eqb x z) (starts xs s) p in
    let b = and_parts (eqb y z) (starts ys s) q in
    let ex = eqb-true x z a.0 in
    let ey = eqb-true y z b.0 in
    let one : eqb x y ≡ true = eq-eqb x y (ex ∙ sym ey) in
    let two : eqb y x ≡ true = eq-eqb y x (ey ∙ sym ex) in
    rw (one, two) (both-begin xs ys s a.1 b.1)

-- an entry of a list that a text is apart from does not overlap it
apart_in : (t : List ℕ) (es : List Entry) (e : Entry) → apart_from_all t es ≡ true → In e es → overlap t (text e) ≡ false
apart_in t [] e a i = absurd i
apart_in t (d ∷ es) e a i =
    let p = and_parts (not (overlap t (text d))) (apart_from_all t es) a in
    ⊎_elim (λ h. ap (λ x. overlap t (text x)) h ∙ not-true (overlap t (text d)) p.0) (λ h. apart_in t es e p.1 h) i

free_one : (es : List Entry) → prefix_free es ≡ true → (d e : Entry) → In d es → In e es → overlap (text d) (text e) ≡ true → d ≡ e
free_one [] p d e i j o = absurd i
free_one (x ∷ es) p d e i j o =
    let q = and_parts (apart_from_all (text x) es) (prefix_free es) p in
    ⊎_elim
    (λ a. ⊎_elim (λ b. a ∙ sym b)
    (λ b. absurd (both_ways (overlap (text d) (text e)) (ap (λ y. overlap (text y) (text e)) a ∙ apart_in (text x) es e q.0 b) o)) j)
    (λ a. ⊎_elim
    (λ b. absurd (both_ways (overlap (text d) (text e)) (overlap-swap (text d) (text e) ∙ ap (λ y. overlap (text y) (text d)) b ∙ apart_in (text x) es d q.0 a) o))
    (λ b. free_one es q.1 d e a b o) j) i

found-cases : (s : List ℕ) (es : List Entry) (e : Entry) → found es s ≡ Some e → In e es × (starts (text e) s ≡ true)
found-cases s [] e h = let z : ◌≡◌ {A = ℕ} 0 1 = cc in absurd (omega arith)
found-cases s (d ∷ es) e h =
    ⊎_elim
    (λ b. let i : e ≡ d = same_some e d (sym h ∙ ap (λ v. cond v (Some d) (found es s)) b) in (inl i, ap (λ y. starts (text y) s) i ∙ b))
    (λ b. let t = found-cases s es e (sym (ap (λ v. cond v (Some d) (found es s)) b) ∙ h) in (inr t.0, t.1))
    (cases_Bool (starts (text d) s))
  where
    same_some : (x y : Entry) → Some x ≡ Some y → x ≡ y
    same_some x y p = cc

none_begins : (s : List ℕ) (es : List Entry) → found es s ≡ None → (e : Entry) → In e es → starts (text e) s ≡ false
none_begins s [] h e i = absurd i
none_begins s (d ∷ es) h e i =
    ⊎_elim
    (λ b. let n = sym h ∙ ap (λ v. cond v (Some d) (found es s)) b in absurd (never d n))
    (λ b. ⊎_elim (λ p. ap (λ y. starts (text y) s) p ∙ b) (λ p. none_begins s es (sym (ap (λ v. cond v (Some d) (found es s)) b) ∙ h) e p) i)
    (cases_Bool (starts (text d) s))
  where
    never : (x : Entry) → None ≡ Some x → ⊥
    never x p = let z : ◌≡◌ {A = ℕ} 0 1 = cc in omega arith

-- an entry that begins the bytes, in some list, is found or another is
some_found : (s : List ℕ) (es : List Entry) (o : Option Entry) → found es s ≡ o → (e : Entry) → In e es → starts (text e) s ≡ true → (d : Entry) × (found es s ≡ Some d)
some_found s es None h e i b = absurd (both_ways (starts (text e) s) (none_begins s es h e i) b)
some_found s es (Some d) h e i b = (d, h)

module _ (es : List Entry) (all : T (all_lawful es)) (free : T (prefix_free es)) where
  -- what is found is of the book
  pub found_in : (s : List ℕ) (e : Entry) → found es s ≡ Some e → In e es
  found_in s e h = (found-cases s es e h).0

  -- and its ident's text begins the bytes
  pub found-begins : (s : List ℕ) (e : Entry) → found es s ≡ Some e → s ≡ text e ++ drop (length (text e)) s
  found-begins s e h = starts-front (text e) s (found-cases s es e h).1

  -- where nothing is found, no entry's ident begins the bytes
  pub found_none : (s : List ℕ) → found es s ≡ None → (e : Entry) → In e es → (rest : List ℕ) → s ≡ text e ++ rest → ⊥
  found_none s h e i rest p =
      both_ways (starts (text e) s) (none_begins s es h e i) (ap (starts (text e)) p ∙ starts-own (text e) rest)

  -- entries whose idents overlap are one entry
  pub one_entry : (d e : Entry) → In d es → In e es → overlap (text d) (text e) ≡ true → d ≡ e
  one_entry = free_one es (holds (prefix_free es) free)

  -- an entry of the book is found in its ident's text, whatever follows
  pub finds_own : (e : Entry) → In e es → (rest : List ℕ) → found es (text e ++ rest) ≡ Some e
  finds_own e i rest =
      let s = text e ++ rest in
      let b = starts-own (text e) rest in
      let d = some_found s es (found es s) refl e i b in
      let h = found-cases s es d.0 d.1 in
      d.1 ∙ ap Some (one_entry d.0 e h.0 i (both-begin (text d.0) (text e) s h.1 b))

  -- and it is lawful
  pub lawful-in : (e : Entry) → In e es → T (lawful e.ident.digits e.ident.number e.form e.shortest e.longest)
  lawful-in e i = e.ok
