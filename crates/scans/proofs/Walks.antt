-- Elements one after the other.
use Rattle.std.proofs.Common.{◌≡◌, ℕ, zero, suc, ◌+◌, ◌-◌, ◌<◌, ◌≤◌, List, [], ◌∷◌, length, drop, Ok, Err, Result, sym, refl, ap, ◌∙◌, arith, length-drop}
use Rattle.std.proofs.lemmas.List.{drop-drop, drop_all}
use Rattle.books.specs.declared.entry.Entry.{Entry}
use Rattle.scans.specs.declared.fault.ScanFault.{ScanFault}
use Rattle.scans.specs.Elements.{Element, front, before, onward, elements}
use Rattle.scans.specs.Reads.{counted}

module _ (es : List Entry) (y : ℕ) where
  pub elements-none : (k p : ℕ) → elements k es y p [] ≡ Ok []
  unfolding elements
  elements-none zero p = refl
  elements-none (suc k) p = refl

  pub elements-more : (k p : ℕ) (s : List ℕ) (x : Element) (t : ℕ) → 0 < length s → front es y p s ≡ Ok (record { element = x; taken = t }) → elements (suc k) es y p s ≡ before x (elements k es y (p + t) (drop t s))
  unfolding elements
  elements-more k p [] x t h e = absurd (omega arith)
  elements-more k p (b ∷ s) x t h e = ap (λ r. onward r (λ f. before f.element (elements k es y (p + f.taken) (drop f.taken (b ∷ s))))) e

  pub elements-fault : (k p : ℕ) (s : List ℕ) (f : ScanFault) → 0 < length s → front es y p s ≡ Err f → elements (suc k) es y p s ≡ Err f
  unfolding elements
  elements-fault k p [] f h e = absurd (omega arith)
  elements-fault k p (b ∷ s) f h e = ap (λ r. onward r (λ f. before f.element (elements k es y (p + f.taken) (drop f.taken (b ∷ s))))) e

  -- what is left of a scan, with enough turns for it, gives what the whole gives
  pub record Left (scan : List ℕ) (at n : ℕ) (whole : Result ℕ ScanFault) : Type 0 where
    pub turns : ℕ
    pub enough : length scan - at ≤ turns
    pub gives : counted n (elements turns es y at (drop at scan)) ≡ whole

  counted-before : (n : ℕ) (x : Element) (r : Result (List Element) ScanFault) → counted n (before x r) ≡ counted (n + 1) r
  counted-before n x (Ok xs) = ap Ok (let z : n + suc (length xs) ≡ n + 1 + length xs = omega arith in z)
  counted-before n x (Err e) = refl

  module _ (scan : List ℕ) (at n : ℕ) (whole : Result ℕ ScanFault) (l : Left scan at n whole) where
    some_left : at < length scan → 0 < length (drop at scan)
    some_left h = let e = length-drop at scan in omega arith

    -- there is a turn left
    turn_left : at < length scan → (k : ℕ) × (l.turns ≡ suc k)
    turn_left h = (l.turns - 1, (let m = l.enough in omega arith))

    pub left_more : (x : Element) (t : ℕ) → at < length scan → 0 < t → front es y at (drop at scan) ≡ Ok (record { element = x; taken = t }) → Left scan (at + t) (n + 1) whole
    left_more x t h s e =
        let k = (turn_left h).0 in
        let is : l.turns ≡ suc (turn_left h).0 = (turn_left h).1 in
        let m = l.enough in
        record {
          turns = (turn_left h).0;
          enough = omega (arith, is, m);
          gives =
              ap (λ r. counted (n + 1) (elements (turn_left h).0 es y (at + t) r)) (sym (drop-drop t at scan))
              ∙ sym (counted-before n x (elements (turn_left h).0 es y (at + t) (drop t (drop at scan))))
              ∙ ap (counted n) (sym (elements-more (turn_left h).0 at (drop at scan) x t (some_left h) e))
              ∙ ap (λ i. counted n (elements i es y at (drop at scan))) (sym is)
              ∙ l.gives;
        }

    pub left_fault : (f : ScanFault) → at < length scan → front es y at (drop at scan) ≡ Err f → Err f ≡ whole
    left_fault f h e =
        sym (ap (counted n) (elements-fault (turn_left h).0 at (drop at scan) f (some_left h) e))
        ∙ ap (λ i. counted n (elements i es y at (drop at scan))) (sym (turn_left h).1)
        ∙ l.gives

    pub left_none : length scan ≤ at → Ok n ≡ whole
    left_none h =
        ap Ok (let z : n ≡ n + 0 = omega arith in z)
        ∙ sym (ap (counted n) (elements-none l.turns at))
        ∙ ap (λ s. counted n (elements l.turns es y at s)) (sym (drop_all at scan h))
        ∙ l.gives
