-- An empty card that takes all symbols of another, one by one.
use Rattle.std.proofs.Common.{◌≡◌, ℕ, zero, suc, ◌+◌, ◌-◌, ◌<◌, ◌≤◌, Bool, true, false, cond, eqb, T, ◌⊎◌, List, [], ◌∷◌, ◌++◌, length, get_or, is_some, Some, None, Option, MatchOption, Ok, Err, Result, sym, refl, ap, ◌∙◌, subst, inl, inr, ⊎_elim, arith}
use Rattle.std.specs.List.{range_with_len}
use Rattle.std.specs.Bool.{MatchBool}
use Rattle.std.specs.Iterator.Adapters.{chain_first, chain_second, chain_first_done, chain_second_done, chain_steps, rev_source, rev_steps}
use Rattle.std.specs.Range.{range_steps, range_steps_back}
use Rattle.std.specs.declared.iter.Chain.{Chain}
use Rattle.std.specs.declared.iter.Rev.{Rev}
use Rattle.std.specs.declared.ops.Range.{Range}
use Rattle.std.proofs.lemmas.Bool.{and_parts, and_from, le-leb, eqb-true, eqb-false, cases_Bool}
use Rattle.forms.specs.Bytes.{within}
use Rattle.forms.specs.Years.{InSpan}
use Rattle.books.specs.Entries.{In, all_lawful, prefix_free}
use Rattle.books.specs.declared.entry.Entry.{Entry}
use Rattle.symbols.specs.declared.fault.SymbolFault.{SymbolFault}
use Rattle.cards.specs.Answers.{Turns}
use Rattle.cards.specs.Cards.{tally}
use Rattle.cards.specs.Outcomes.{take_outcome, turn_unless, turn_outcome}
use Rattle.cards.specs.Strings.{canonical, symbols}
use Rattle.cards.specs.Tallies.{Tally, Put, blank, first_outside}
use Rattle.cards.specs.declared.card.Card.{Card}
use Rattle.cards.specs.declared.fault.CardFault.{CardFault}
use Rattle.cards.specs.declared.fault.CardFault.TheVariants.{NoSuchYear}
use Rattle.history.specs.Laws.{takes, Numbers}
use Rattle.history.specs.Requests as request
use Rattle.history.specs.Requests.{Request, answer, after, run, leaves, holding, or_kept, tally_of, accepted, MeansSame}
use Rattle.history.proofs.Halls.{law_of_the_halls}
use Rattle.compare.specs.Relabels.{Takes}

-- the numbers below n, from the last down
abbrev pub down_from : ℕ → List ℕ
down_from zero = []
down_from (suc n) = n ∷ down_from n

-- the numbers below n, from k on
abbrev pub up_from : ℕ → ℕ → List ℕ
up_from k n = range_with_len k (n - k)

-- the numbers that are left of a way down from `end`, unless it is done, and then up from `start` to n
abbrev pub ahead : Bool → ℕ → ℕ → ℕ → List ℕ
ahead done end start n = cond done (up_from start n) (down_from end ++ up_from start n)

-- a way down to 0 and then up to n, at some place, with the numbers ks ahead
pub record Way (n : ℕ) (it : Chain (Rev (Range ℕ)) (Range ℕ)) (ks : List ℕ) : Type 0 where
  pub bottom : chain_first_done it ≡ false → (rev_source (chain_first it)).start ≡ 0
  pub low : chain_first_done it ≡ false → (rev_source (chain_first it)).end ≤ n
  pub top : (chain_second it).end ≡ n
  pub goes : chain_second_done it ≡ false
  pub left : ks ≡ ahead (chain_first_done it) (rev_source (chain_first it)).end (chain_second it).start n

-- the numbers of all symbols of t, from the last to the first and then from the first to the last
abbrev both_ways : Tally → List ℕ
both_ways t = down_from (length (symbols t)) ++ up_from 0 (length (symbols t))

-- a card of the tally u has still to take the symbols of t of the numbers ks: it accepts all, and then has taken those of t both ways
abbrev pub Goes : List Entry → Tally → Tally → List ℕ → Type 0
Goes es t u ks =
    (p : List Request) → t ≡ tally_of es p
    → (accepted es u (takes t ks) ≡ true) × (run es u (takes t ks) ≡ run es (blank t.year) (takes t (both_ways t)))

-- MEMBERS

in_left : {A : Type 0} (xs ys : List A) (a : A) → In a xs → In a (xs ++ ys)
in_left [] ys a i = absurd i
in_left (x ∷ xs) ys a i = ⊎_elim inl (λ j. inr (in_left xs ys a j)) i

in_cases : {A : Type 0} (xs ys : List A) (a : A) → In a (xs ++ ys) → In a xs ⊎ In a ys
in_cases [] ys a i = inr i
in_cases (x ∷ xs) ys a i = ⊎_elim (λ e. inl (inl e)) (λ j. ⊎_elim (λ k. inl (inr k)) (λ k. inr k) (in_cases xs ys a j)) i

in_down : (n k : ℕ) → In k (down_from n) → k < n
in_down zero k i = absurd i
in_down (suc n) k i = ⊎_elim (λ e. omega (arith, e)) (λ j. omega (arith, in_down n k j)) i

down_has : (n k : ℕ) → k < n → In k (down_from n)
down_has zero k l = absurd (omega arith)
down_has (suc n) k l =
    ⊎_elim
    (λ e. inl (eqb-true k n e))
    (λ e. let ne = eqb-false k n e in inr (down_has n k (omega (arith, l, ne))))
    (cases_Bool (eqb k n))

in_range : (a n k : ℕ) → In k (range_with_len a n) → k < a + n
in_range a zero k i = absurd i
in_range a (suc n) k i = ⊎_elim (λ e. omega (arith, e)) (λ j. omega (arith, in_range (a + 1) n k j)) i

numbers : (t : Tally) → Numbers t (both_ways t)
numbers t =
    let n = length (symbols t) in
    record {
      below = λ k i. ⊎_elim (λ j. in_down n k j) (λ j. omega (arith, in_range 0 (n - 0) k j)) (in_cases (down_from n) (up_from 0 n) k i);
      every = λ k l. in_left (down_from n) (up_from 0 n) k (down_has n k l);
    }

-- STEPS

-- one symbol further
go_on : (es : List Entry) (t u u' : Tally) (k : ℕ) (ks : List ℕ) (ok : Bool)
    → ok ≡ is_some (answer es u (request.take (get_or (symbols t) k []))) → u' ≡ after es u (request.take (get_or (symbols t) k [])) → Goes es t u (k ∷ ks)
    → ((p : List Request) → t ≡ tally_of es p → ok ≡ true) × Goes es t u' ks
go_on es t u u' k ks ok is next h = (
  λ p e. is ∙ (and_parts _ _ (h p e).0).0,
  λ p e. (ap (λ w. accepted es w (takes t ks)) next ∙ (and_parts _ _ (h p e).0).1, ap (λ w. run es w (takes t ks)) next ∙ (h p e).1),
)

-- a card of the tally u takes the symbol of the number k, and has u' then
pub takes_one : (es : List Entry) (t u u' : Tally) (k : ℕ) (ks : List ℕ) (ok : Bool) → k < length (symbols t) → Goes es t u (k ∷ ks) → Takes es (symbols t) k u u' ok
    → ((p : List Request) → t ≡ tally_of es p → ok ≡ true) × Goes es t u' ks
takes_one es t u u' k ks ok lt h takes = go_on es t u u' k ks ok (takes lt).0 (takes lt).1 h

-- BEGINNING AND END

-- a card straight from its making, after a turn
abbrev turning : ℕ → List Request
turning y = request.turn y ∷ []

turned : (es : List Entry) (y : ℕ) (a b : Card) (r : Result (Unit {0}) CardFault) → tally a ≡ blank 2000 → Turns (turn_outcome (tally a) y) a b r
    → tally b ≡ tally_of es (turning y)
turned es y a b (Ok u) e h = sym (ap (λ o. or_kept (blank 2000) (leaves (λ w. w) o)) (ap (λ w. turn_outcome w y) (sym e) ∙ h))
turned es y a b (Err f) e h =
    ap tally h.1 ∙ e ∙ sym (ap (λ o. or_kept (blank 2000) (leaves (λ w. w) o)) (ap (λ w. turn_outcome w y) (sym e) ∙ h.0))

turned_empty : (es : List Entry) (y : ℕ) → InSpan y → tally_of es (turning y) ≡ blank y
turned_empty es y s =
    let w : within 2000 2199 y ≡ true = and_from _ _ (le-leb 2000 y s.0) (le-leb y 2199 s.1) in
    ap (λ b. or_kept (blank 2000) (leaves (λ u. u) (cond b (turn_unless (first_outside y 0 []) (blank 2000) y) (Err NoSuchYear)))) w

-- symbols leave the year
year_stays : (es : List Entry) (t : Tally) (r : Result Put SymbolFault) → (or_kept t (leaves (λ (q : Put). holding t q.held) r)).year ≡ t.year
year_stays es t (Ok q) = refl
year_stays es t (Err f) = refl

years_stay : (es : List Entry) (t u : Tally) (ks : List ℕ) → (run es u (takes t ks)).year ≡ u.year
years_stay es t u [] = refl
years_stay es t u (k ∷ ks) =
    years_stay es t (after es u (request.take (get_or (symbols t) k []))) ks ∙ year_stays es u (take_outcome es u (get_or (symbols t) k []))

module _ (es : List Entry) (all : T (all_lawful es)) (free : T (prefix_free es)) (t : Tally) (y : ℕ) (span : InSpan y) (is : y ≡ t.year) where
  empty : tally_of es (turning y) ≡ blank t.year
  empty = turned_empty es y span ∙ ap blank is

  law : (p : List Request) → t ≡ tally_of es p
      → (accepted es (tally_of es (turning y)) (takes t (both_ways t)) ≡ true) × MeansSame (tally_of es (turning y ++ takes t (both_ways t))) (tally_of es p)
  law p e =
      subst (λ (w : Tally). (accepted es (tally_of es (turning y)) (takes w (both_ways t)) ≡ true) × MeansSame (tally_of es (turning y ++ takes w (both_ways t))) (tally_of es p)) (sym e)
      ((law_of_the_halls es all free).1 p (turning y) (both_ways t) (ap (λ w. w.held) empty) (ap (λ w. w.year) (empty ∙ ap (λ w. blank w.year) e)) (subst (λ (w : Tally). Numbers w (both_ways t)) e (numbers t)))

  -- the empty card, with all symbols ahead
  pub start : (a b : Card) (r : Result (Unit {0}) CardFault) (count : ℕ) → tally a ≡ blank 2000 → Turns (turn_outcome (tally a) y) a b r → count ≡ length (symbols t)
      → (count ≤ length (symbols t)) × Goes es t (tally b) (down_from count ++ up_from 0 (length (symbols t)))
  start a b r count e h long =
      let u = turned es y a b r e h in (
        omega (arith, long),
        subst (λ (n : ℕ). Goes es t (tally b) (down_from n ++ up_from 0 (length (symbols t)))) (sym long)
            (λ p m. (ap (λ w. accepted es w (takes t (both_ways t))) u ∙ (law p m).0, ap (λ w. run es w (takes t (both_ways t))) (u ∙ empty))),
      )

  -- no symbol is left: the string is the one of t
  pub finish : (u : Tally) (string again : List ℕ) → Goes es t u [] → again ≡ canonical u
      → (p : List Request) → t ≡ tally_of es p → string ≡ canonical t → again ≡ string
  finish u string again h is' p e s =
      let taken : tally_of es (turning y ++ takes t (both_ways t)) ≡ run es (blank t.year) (takes t (both_ways t)) = ap (λ w. run es w (takes t (both_ways t))) empty in
      let u-is : u ≡ run es (blank t.year) (takes t (both_ways t)) = (h p e).1 in
      let years : (tally_of es (turning y ++ takes t (both_ways t))).year ≡ (tally_of es p).year =
      ap (λ w. w.year) taken ∙ years_stay es t (blank t.year) (both_ways t) ∙ ap (λ w. w.year) e in
      is' ∙ ap canonical (u-is ∙ sym taken) ∙ ((law_of_the_halls es all free).0 (turning y ++ takes t (both_ways t)) p years).1 (law p e).1 ∙ ap canonical (sym e) ∙ sym s

up_more : (k n : ℕ) → k < n → up_from k n ≡ k ∷ up_from (k + 1) n
up_more k n l = let on : n - k ≡ suc (n - (k + 1)) = omega (arith, l) in ap (range_with_len k) on

down_more : (m k : ℕ) → m ≡ k + 1 → down_from m ≡ k ∷ down_from k
down_more m k e = let on : m ≡ suc k = omega (arith, e) in ap down_from on

module _ (n : ℕ) (f g s t : Range ℕ) (two : Bool) where
  -- the way up answers r
  abbrev Second : Bool → Option ℕ → Type 0
  Second one r = MatchBool two (r ≡ None) (range_steps (λ (x y : ℕ). y - x) (λ (x y : ℕ). y ≡ x + 1) s r t) × (one ≡ true)

  -- the chain answers r
  abbrev Answers : Bool → Bool → Option ℕ → Type 0
  Answers done one r =
      MatchBool done (Second one r)
      ((o : Option ℕ) × range_steps_back (λ (x y : ℕ). y - x) (λ (x y : ℕ). y ≡ x + 1) f o g
      × MatchOption o (Second one r) (λ x. (r ≡ Some x) × (t ≡ s) × (one ≡ false)))

  climbs : (k : ℕ) (one : Bool) → two ≡ false → s.end ≡ n → Second one (Some k) → (k < n) × (up_from s.start n ≡ k ∷ ahead one g.end t.start n) × (t.end ≡ n) × (one ≡ true)
  climbs k one off e h =
      let a : range_steps (λ (x y : ℕ). y - x) (λ (x y : ℕ). y ≡ x + 1) s (Some k) t = subst (λ b. MatchBool b (Some k ≡ None) (range_steps (λ (x y : ℕ). y - x) (λ (x y : ℕ). y ≡ x + 1) s (Some k) t)) off h.0 in
      let within : s.start < n = omega (arith, a.1.0, e) in (
        omega (arith, within, a.1.1),
        up_more s.start n within ∙ ap (λ j. j ∷ up_from (s.start + 1) n) (sym a.1.1) ∙ ap (λ j. k ∷ up_from j n) (sym a.1.2) ∙ ap (λ b. k ∷ ahead b g.end t.start n) (sym h.1),
        a.0 ∙ e,
        h.1,
      )

  further : (k : ℕ) (done one : Bool) → (done ≡ false → f.start ≡ 0) → (done ≡ false → f.end ≤ n) → two ≡ false → s.end ≡ n → Answers done one (Some k)
      → (k < n) × (ahead done f.end s.start n ≡ k ∷ ahead one g.end t.start n) × (t.end ≡ n) × (one ≡ false → g.start ≡ 0) × (one ≡ false → g.end ≤ n)
  further k true one z l off e h =
      let c = climbs k one off e h in (c.0, c.1, c.2, λ x. absurd (cc), λ x. absurd (cc))
  further k false one z l off e (None, a, h) =
      let c = climbs k one off e h in
      let none : f.end ≡ 0 = omega (arith, a.1.0, z refl) in
      (c.0, ap (λ m. down_from m ++ up_from s.start n) none ∙ c.1, c.2, λ x. absurd (cc), λ x. absurd (cc))
  further k false one z l off e (Some x, a, h) =
      let is : k ≡ x = cc in
      let here : f.end ≡ k + 1 = a.1.2 ∙ ap (λ m. m + 1) (sym a.1.1 ∙ sym is) in
      let next : g.end ≡ k = sym a.1.1 ∙ sym is in
      let low : f.end ≤ n = l refl in (
        omega (arith, here, low),
        ap (λ ks. ks ++ up_from s.start n) (down_more f.end k here) ∙ ap (λ m. k ∷ (down_from m ++ up_from s.start n)) (sym next) ∙ ap (λ r. k ∷ (down_from g.end ++ up_from r.start n)) (sym h.1) ∙ ap (λ b. k ∷ ahead b g.end t.start n) (sym h.2),
        ap (λ r. r.end) h.1 ∙ e,
        λ _. a.0 ∙ z refl,
        λ _. omega (arith, here, low, next),
      )

  ends : (done one : Bool) → (done ≡ false → f.start ≡ 0) → two ≡ false → s.end ≡ n → Answers done one None → ahead done f.end s.start n ≡ []
  ends true one z off e h =
      let a : range_steps (λ (x y : ℕ). y - x) (λ (x y : ℕ). y ≡ x + 1) s None t = subst (λ b. MatchBool b (◌≡◌ {A = Option ℕ} None None) (range_steps (λ (x y : ℕ). y - x) (λ (x y : ℕ). y ≡ x + 1) s None t)) off h.0 in
      let none : n - s.start ≡ 0 = omega (arith, a.1.0, e) in
      ap (range_with_len s.start) none
  ends false one z off e (None, b, h) =
      let a : range_steps (λ (x y : ℕ). y - x) (λ (x y : ℕ). y ≡ x + 1) s None t = subst (λ b. MatchBool b (◌≡◌ {A = Option ℕ} None None) (range_steps (λ (x y : ℕ). y - x) (λ (x y : ℕ). y ≡ x + 1) s None t)) off h.0 in
      let none : n - s.start ≡ 0 = omega (arith, a.1.0, e) in
      let down : f.end ≡ 0 = omega (arith, b.1.0, z refl) in
      ap (λ m. down_from m ++ up_from s.start n) down ∙ ap (range_with_len s.start) none
  ends false one z off e (Some x, a, h) = absurd (cc)

-- a step along the way gives the first number that is ahead
abbrev pub Steps : Chain (Rev (Range ℕ)) (Range ℕ) → Option ℕ → Chain (Rev (Range ℕ)) (Range ℕ) → Type 0
Steps s r t = chain_steps (rev_steps (range_steps_back (λ (x y : ℕ). y - x) (λ (x y : ℕ). y ≡ x + 1))) (range_steps (λ (x y : ℕ). y - x) (λ (x y : ℕ). y ≡ x + 1)) s r t

pub on : (n : ℕ) (s t : Chain (Rev (Range ℕ)) (Range ℕ)) (k : ℕ) (ks : List ℕ) → Way n s ks → Steps s (Some k) t → (k < n) × ((rest : List ℕ) × (ks ≡ k ∷ rest) × Way n t rest)
on n s t k ks w h =
    let r = further n (rev_source (chain_first s)) (rev_source (chain_first t)) (chain_second s) (chain_second t) (chain_second_done s) k (chain_first_done s) (chain_first_done t) w.bottom w.low w.goes w.top h.1 in
    (r.0, (ahead (chain_first_done t) (rev_source (chain_first t)).end (chain_second t).start n, w.left ∙ r.1, record { bottom = r.3; low = r.4; top = r.2; goes = h.0 ∙ w.goes; left = refl }))

pub over : (n : ℕ) (s t : Chain (Rev (Range ℕ)) (Range ℕ)) (ks : List ℕ) → Way n s ks → Steps s None t → ks ≡ []
over n s t ks w h = w.left ∙ ends n (rev_source (chain_first s)) (rev_source (chain_first t)) (chain_second s) (chain_second t) (chain_second_done s) (chain_first_done s) (chain_first_done t) w.bottom w.goes w.top h.1
