-- Elements put on a card, one after the other.
use Rattle.std.proofs.Common.{◌≡◌, ℕ, zero, suc, ◌+◌, ◌-◌, ◌<◌, ◌≤◌, List, [], ◌∷◌, length, drop, Ok, Err, Result, sym, refl, ap, ◌∙◌, arith, length-drop}
use Rattle.std.proofs.lemmas.List.{drop-drop, drop_all}
use Rattle.books.specs.declared.entry.Entry.{Entry}
use Rattle.scans.specs.declared.fault.ScanFault.{ScanFault}
use Rattle.scans.specs.Elements.{Element, front}
use Rattle.cards.specs.Tallies.{Held, Put, put}
use Rattle.cards.specs.Outcomes.{held_as, on_front, on_put, puts}

module _ (es : List Entry) (y : ℕ) where
  pub puts_none : (k : ℕ) (hs : List Held) (n p : ℕ) → puts k es y hs n p [] ≡ Ok (record { new = n; held = hs })
  unfolding puts
  puts_none zero hs n p = refl
  puts_none (suc k) hs n p = refl

  module _ (k : ℕ) (hs : List Held) (n p : ℕ) where
    pub puts-fault : (s : List ℕ) (e : ScanFault) → 0 < length s → front es y p s ≡ Err e → puts (suc k) es y hs n p s ≡ Err e
    unfolding puts
    puts-fault [] e h f = absurd (omega arith)
    puts-fault (b ∷ s) e h f = ap (λ r. on_front r (λ g. on_put (put p hs (held_as y g.element)) (λ q. puts k es y q.held (n + q.new) (p + g.taken) (drop g.taken (b ∷ s))))) f

    pub puts-more : (s : List ℕ) (x : Element) (t : ℕ) → 0 < length s → front es y p s ≡ Ok (record { element = x; taken = t })
        → puts (suc k) es y hs n p s ≡ on_put (put p hs (held_as y x)) (λ q. puts k es y q.held (n + q.new) (p + t) (drop t s))
    unfolding puts
    puts-more [] x t h f = absurd (omega arith)
    puts-more (b ∷ s) x t h f = ap (λ r. on_front r (λ g. on_put (put p hs (held_as y g.element)) (λ q. puts k es y q.held (n + q.new) (p + g.taken) (drop g.taken (b ∷ s))))) f

  -- what is left of a scan, with turns enough for it, put on what is held now, gives what the whole gives
  pub record Left (scan : List ℕ) (at n : ℕ) (hs : List Held) (whole : Result Put ScanFault) : Type 0 where
    pub turns : ℕ
    pub enough : length scan - at ≤ turns
    pub gives : puts turns es y hs n at (drop at scan) ≡ whole

  module _ (scan : List ℕ) (at n : ℕ) (hs : List Held) (whole : Result Put ScanFault) (l : Left scan at n hs whole) where
    some_left : at < length scan → 0 < length (drop at scan)
    some_left h = let e = length-drop at scan in omega arith

    turn_left : at < length scan → (k : ℕ) × (l.turns ≡ suc k)
    turn_left h = (l.turns - 1, (let m = l.enough in omega arith))

    -- the turn that is left
    opened : (h : at < length scan) → puts (suc (turn_left h).0) es y hs n at (drop at scan) ≡ whole
    opened h = ap (λ i. puts i es y hs n at (drop at scan)) (sym (turn_left h).1) ∙ l.gives

    pub left_more : (x : Element) (t m : ℕ) (gs : List Held) → at < length scan → 0 < t → front es y at (drop at scan) ≡ Ok (record { element = x; taken = t })
        → put at hs (held_as y x) ≡ Ok (record { new = m; held = gs }) → Left scan (at + t) (n + m) gs whole
    left_more x t m gs h s f q =
        let is : l.turns ≡ suc (turn_left h).0 = (turn_left h).1 in
        let few = l.enough in
        record {
          turns = (turn_left h).0;
          enough = omega (arith, is, few);
          gives =
              ap (puts (turn_left h).0 es y gs (n + m) (at + t)) (sym (drop-drop t at scan))
              ∙ ap (λ r. on_put r (λ q. puts (turn_left h).0 es y q.held (n + q.new) (at + t) (drop t (drop at scan)))) (sym q)
              ∙ sym (puts-more (turn_left h).0 hs n at (drop at scan) x t (some_left h) f)
              ∙ opened h;
        }

    pub left_fault : (e : ScanFault) → at < length scan → front es y at (drop at scan) ≡ Err e → whole ≡ Err e
    left_fault e h f = sym (opened h) ∙ puts-fault (turn_left h).0 hs n at (drop at scan) e (some_left h) f

    pub left_refused : (x : Element) (t : ℕ) (e : ScanFault) → at < length scan → front es y at (drop at scan) ≡ Ok (record { element = x; taken = t }) → put at hs (held_as y x) ≡ Err e → whole ≡ Err e
    left_refused x t e h f q =
        sym (opened h) ∙ puts-more (turn_left h).0 hs n at (drop at scan) x t (some_left h) f
        ∙ ap (λ r. on_put r (λ q. puts (turn_left h).0 es y q.held (n + q.new) (at + t) (drop t (drop at scan)))) q

    pub left_none : length scan ≤ at → whole ≡ Ok (record { new = n; held = hs })
    left_none h = sym l.gives ∙ ap (puts l.turns es y hs n at) (drop_all at scan h) ∙ puts_none l.turns hs n at
