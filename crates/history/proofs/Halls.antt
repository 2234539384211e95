-- The law of the halls.
use Rattle.std.proofs.Common.{◌≡◌, ℕ, ◌<◌, ◌≤◌, true, ◌&&◌, T, List, [], ◌∷◌, ◌++◌, length, get_or, is_some, Some, Ok, Err, Result, sym, refl, ap, ◌∙◌, subst, inl, inr, ⊎_elim}
use Rattle.std.proofs.lemmas.List.{get_or-map, length-map}
use Rattle.books.specs.Entries.{In, all_lawful, prefix_free}
use Rattle.books.specs.declared.entry.Entry.{Entry}
use Rattle.books.proofs.Finds.{one_entry}
use Rattle.scans.specs.Elements.{mark}
use Rattle.scans.specs.declared.fault.ScanFault.{ScanFault}
use Rattle.cards.specs.Tallies.{Held, Tally, Put, blank, ident, look}
use Rattle.cards.specs.Outcomes.{scan_outcome, in_symbol, take_data, take_outcome}
use Rattle.cards.specs.Strings.{spelled, canonical, runs, symbol_of, symbols}
use Rattle.history.specs.Requests.{Request, take, holding, leaves, answer, or_kept, after, run, tally_of, accepted, MeansSame}
use Rattle.history.specs.Laws.{FiledAlike, takes, Numbers, Relabelled, LawOfTheHalls, ReadsBackAnywhere, HallsStand}
use Rattle.history.proofs.Sorts.{Within, rising-same, rising-one}
use Rattle.history.proofs.Looks.{look-has, look_is}
use Rattle.history.proofs.Stands.{Stands}
use Rattle.history.proofs.Regulars.{Regular, Sound, blank-regular, part_regular, tally-sound}
use Rattle.history.proofs.Rescans.{overlap-same, scans_in, scans_whole}
use Rattle.history.proofs.Pieces.{symbol_read}
use Rattle.history.proofs.Fills.{runs-flat, runs-within, runs-rising, runs-short, flat-at, in_at}

-- FILED ALIKE

-- what a scan leaves on a card
abbrev held_of : Result Put ScanFault → List Held
held_of (Ok q) = q.held
held_of (Err e) = []

module _ (es : List Entry) (all : T (all_lawful es)) (free : T (prefix_free es)) where
  means_within : (t u : Tally) → Sound es t → Sound es u → MeansSame t u → Within t.held u.held
  means_within t u S U m x i =
      let a = look_is t.held x (λ z j e. rising-one t.held S.regular.rising z x j i e) i in
      let h = look-has (ident x) u.held x.value (sym (m (ident x)) ∙ a) in
      let d : h.held.entry ≡ x.entry =
      one_entry es all free h.held.entry x.entry (U.regular.known h.held h.among) (S.regular.known x i) (overlap-same (ident h.held) (ident x) h.under) in
      let v = h.value in
      let e : h.held ≡ x = λ k. record { entry = d k; value = v k } in
      subst (λ z. In z u.held) e h.among

  -- tallies that mean the same hold the same
  means_held : (t u : Tally) → Sound es t → Sound es u → MeansSame t u → t.held ≡ u.held
  means_held t u S U m =
      rising-same t.held u.held S.regular.rising U.regular.rising (means_within t u S U m) (means_within u t U S (λ i. sym (m i)))

  pub filed_alike : FiledAlike es
  filed_alike p q y =
      let S = tally-sound es all free p in
      let U = tally-sound es all free q in (
        (λ e i.
            let a = scans_whole es all free (tally_of es p).year (tally_of es p).held S.regular in
            let b = scans_whole es all free (tally_of es q).year (tally_of es q).held U.regular in
            let c : scan_outcome es (blank (tally_of es p).year) (mark ++ canonical (tally_of es p)) ≡ scan_outcome es (blank (tally_of es q).year) (mark ++ canonical (tally_of es q))
            = λ k. scan_outcome es (blank (y k)) (mark ++ e k) in
            ap (look i) (ap held_of (sym a ∙ c ∙ b))),
        (λ m. ap spelled (means_held (tally_of es p) (tally_of es q) S U m)),
      )

  -- A SYMBOL IS TAKEN

  -- the symbol of a run is taken as its elements are scanned
  take-scans : (y : ℕ) (u : Tally) (xs : List Held) (q : Put) → ((x : Held) → In x xs → Stands y x) → length (spelled xs) ≤ 48
      → scan_outcome es u (mark ++ spelled xs) ≡ Ok q → take_outcome es u (symbol_of xs) ≡ Ok q
  take-scans y u xs q h l e = ap (take_data es u) (symbol_read y xs h l) ∙ ap in_symbol e

  -- a run of a regular list is read back from its symbol, on an empty card
  run-whole : (y : ℕ) (hs xs : List Held) → Regular es y hs → In xs (runs hs) → take_outcome es (blank y) (symbol_of xs) ≡ Ok (record { new = length xs; held = xs })
  run-whole y hs xs R i =
      let w = runs-within hs xs i in
      take-scans y (blank y) xs (record { new = length xs; held = xs }) (λ x j. R.stands x (w x j)) (runs-short y hs R.stands xs i)
      (scans_whole es all free y xs (part_regular es y xs hs R (runs-rising hs xs i R.rising) w))

  pub reads_back : (y : ℕ) (hs : List Held) → Regular es y hs
      → (scan_outcome es (blank y) (mark ++ spelled hs) ≡ Ok (record { new = length hs; held = hs }))
      × ((xs : List Held) → In xs (runs hs) → take_outcome es (blank y) (symbol_of xs) ≡ Ok (record { new = length xs; held = xs }))
  reads_back y hs R = (scans_whole es all free y hs R, λ xs i. run-whole y hs xs R i)

  -- RELABELLED

  module _ (t : Tally) (R : Regular es t.year t.held) where
    abbrev having : List Held → Tally
    having us = record { year = t.year; held = us }

    -- one symbol of t, taken on a part of t
    record TakesOne (us : List Held) (k : ℕ) : Type 0 where
      got : List Held
      is : answer es (having us) (take (get_or (symbols t) k [])) ≡ Some (having got)
      regular : Regular es t.year got
      within : Within got t.held
      old : Within us got
      new : Within (get_or (runs t.held) k []) got

    take-one : (us : List Held) (k : ℕ) → Regular es t.year us → Within us t.held → k < length (symbols t) → TakesOne us k
    take-one us k U s l =
        let l' : k < length (runs t.held) = subst (λ n. k < n) (length-map (runs t.held) symbol_of) l in
        let i = in_at (runs t.held) k [] l' in
        let w = runs-within t.held (get_or (runs t.held) k []) i in
        let r = scans_in es all free t.year t.held R us (get_or (runs t.held) k []) U s w in
        let J = r.joined in
        record {
          got = r.got.held;
          is =
              ap (λ v. answer es (having us) (take v)) (get_or-map symbol_of (runs t.held) k [] [] l')
              ∙ ap (leaves (λ (q : Put). holding (having us) q.held))
              (take-scans t.year (having us) (get_or (runs t.held) k []) r.got (λ x j. R.stands x (w x j)) (runs-short t.year t.held R.stands (get_or (runs t.held) k []) i) r.is);
          regular = J.regular;
          within = J.within;
          old = J.old;
          new = J.new;
        }

    -- several, one after the other
    record TakesAll (us : List Held) (ks : List ℕ) : Type 0 where
      got : List Held
      is : run es (having us) (takes t ks) ≡ having got
      accept : accepted es (having us) (takes t ks) ≡ true
      regular : Regular es t.year got
      within : Within got t.held
      old : Within us got
      new : (k : ℕ) → In k ks → Within (get_or (runs t.held) k []) got

    take_all : (ks : List ℕ) (us : List Held) → Regular es t.year us → Within us t.held → ((k : ℕ) → In k ks → k < length (symbols t)) → TakesAll us ks
    take_all [] us U s b =
        record { got = us; is = refl; accept = refl; regular = U; within = s; old = λ z j. j; new = λ k j. absurd j }
    take_all (k ∷ ks) us U s b =
        let o = take-one us k U s (b k (inl refl)) in
        let m = take_all ks o.got o.regular o.within (λ j i. b j (inr i)) in
        record {
          got = m.got;
          is = ap (λ a. run es (or_kept (having us) a) (takes t ks)) o.is ∙ m.is;
          accept = ap (λ a. is_some a && accepted es (or_kept (having us) a) (takes t ks)) o.is ∙ m.accept;
          regular = m.regular;
          within = m.within;
          old = λ z j. m.old z (o.old z j);
          new = λ j i z c. ⊎_elim (λ e. m.old z (o.new z (subst (λ n. In z (get_or (runs t.held) n [])) e c))) (λ i'. m.new j i' z c) i;
        }

    -- all symbols of t, in any order, on an empty card of its year
    record Rejoins (ks : List ℕ) : Type 0 where
      is : run es (blank t.year) (takes t ks) ≡ t
      accept : accepted es (blank t.year) (takes t ks) ≡ true

    rejoins : (ks : List ℕ) → Numbers t ks → Rejoins ks
    rejoins ks n =
        let m = take_all ks [] (blank-regular es t.year) (λ z i. absurd i) n.below in
        let every : Within t.held m.got =
        λ x i.
        let f = flat-at (runs t.held) x (subst (In x) (sym (runs-flat t.held)) i) in
        m.new f.number (n.every f.number (subst (λ c. f.number < c) (sym (length-map (runs t.held) symbol_of)) f.below)) x f.there in
        let e : m.got ≡ t.held = rising-same m.got t.held m.regular.rising R.rising m.within every in
        record { is = m.is ∙ ap having e; accept = m.accept }

  run-append : (t : Tally) (p q : List Request) → run es t (p ++ q) ≡ run es (run es t p) q
  run-append t [] q = refl
  run-append t (r ∷ p) q = run-append (after es t r) p q

  pub relabelled : Relabelled es
  relabelled p q ks h y n =
      let S = tally-sound es all free p in
      let r = rejoins (tally_of es p) S.regular ks n in
      let e : tally_of es q ≡ blank (tally_of es p).year = λ k. record { year = y k; held = h k } in
      let w : tally_of es (q ++ takes (tally_of es p) ks) ≡ tally_of es p =
      run-append (blank 2000) q (takes (tally_of es p) ks) ∙ ap (λ u. run es u (takes (tally_of es p) ks)) e ∙ r.is in
      (ap (λ u. accepted es u (takes (tally_of es p) ks)) e ∙ r.accept, λ i. ap (λ u. look i u.held) w)

  pub law_of_the_halls : LawOfTheHalls es
  law_of_the_halls = (filed_alike, relabelled)

-- under every book that has the entries held
pub reads_back_anywhere : (es : List Entry) → T (all_lawful es) → T (prefix_free es) → ReadsBackAnywhere es
reads_back_anywhere es all free rs ds all' free' known =
    let R = (tally-sound es all free rs).regular in
    reads_back ds all' free' (tally_of es rs).year (tally_of es rs).held (record { rising = R.rising; known = known; few = R.few; stands = R.stands })

pub halls_stand : HallsStand
halls_stand es all free = (law_of_the_halls es all free, reads_back_anywhere es all free)
