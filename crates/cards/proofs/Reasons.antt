-- Why a scan is refused on a card.
use Rattle.std.proofs.Common.{◌≡◌, ℕ, zero, suc, ◌+◌, ◌-◌, ◌<◌, ◌≤◌, Bool, true, false, cond, T, ltb, List, [], ◌∷◌, length, drop, Some, None, Ok, Err, Option, Result, sym, refl, ap, ◌∙◌, subst, inl, inr, ⊎_elim, arith, length-drop}
use Rattle.std.proofs.lemmas.Bool.{cond-true, cond-false, cases_Bool, both_ways}
use Rattle.forms.specs.Values.{Meaning}
use Rattle.books.specs.Texts.{starts}
use Rattle.books.specs.Entries.{all_lawful, prefix_free}
use Rattle.books.specs.declared.entry.Entry.{Entry}
use Rattle.books.proofs.Fronts.{starts-front, starts-own}
use Rattle.scans.specs.declared.fault.ScanFault.{ScanFault}
use Rattle.scans.specs.declared.fault.ScanFault.TheVariants.{NoMark, Clash, Differs, Full}
use Rattle.scans.specs.Elements.{Element, Front, front, mark}
use Rattle.scans.specs.Spelling.{Begins}
use Rattle.scans.proofs.Spelled.{Fronted, fronted, gap-none, Takes, takes}
use Rattle.cards.specs.Codes.{same_meaning}
use Rattle.cards.specs.Tallies.{Held, ident, insert, look, crossed, Tally, Put, joins, put}
use Rattle.cards.specs.Outcomes.{held_as, on_front, on_put, puts, scan_outcome}
use Rattle.cards.specs.Adding.{AllPut, Told, Stops, Reason, ScanLaw}
use Rattle.cards.proofs.Adds.{scan_adds}
use Rattle.cards.proofs.Walks.{puts_none, puts-fault, puts-more}

-- WHERE AN ELEMENT IS PUT ON THE CARD, ITS PLACE IS OF NO MATTER

either_place : (b : Bool) (r : Result Put ScanFault) (d e : ScanFault) (q : Put) → cond b r (Err d) ≡ Ok q → cond b r (Err e) ≡ Ok q
either_place true r d e q h = h
either_place false r d e q h = absurd (let z : ◌≡◌ {A = ℕ} 0 1 = cc in omega arith)

joins-place : (o : Option Meaning) (p u : ℕ) (hs : List Held) (x : Held) (q : Put) → joins o p hs x ≡ Ok q → joins o u hs x ≡ Ok q
joins-place (Some w) p u hs x q = either_place (same_meaning x.value w) (Ok (record { new = 0; held = hs })) (Differs p) (Differs u) q
joins-place None p u hs x q = either_place (ltb (length hs) 32) (Ok (record { new = 1; held = insert x hs })) (Full p) (Full u) q

put-place : (p u : ℕ) (hs : List Held) (x : Held) (q : Put) → put p hs x ≡ Ok q → put u hs x ≡ Ok q
unfolding put
put-place p u hs x q h =
    ⊎_elim
    (λ c. absurd (let z : Err (Clash p) ≡ Ok q = sym (cond-true _ _ _ c) ∙ h in let w : ◌≡◌ {A = ℕ} 0 1 = cc in omega arith))
    (λ c. cond-false _ _ _ c ∙ joins-place (look (ident x) hs) p u hs x q (sym (cond-false _ _ _ c) ∙ h))
    (cases_Bool (crossed x.entry hs))

some_long : (s : List ℕ) → (s ≡ [] → ⊥) → 0 < length s
some_long [] h = absurd (h refl)
some_long (b ∷ s) h = omega arith

module _ (es : List Entry) (all : T (all_lawful es)) (free : T (prefix_free es)) (y : ℕ) where
  -- the bytes s, which stand at the place p, stop on what is held
  record Stopped (hs : List Held) (p : ℕ) (s : List ℕ) (e : ScanFault) : Type 0 where
    elements : List Element
    rest : List ℕ
    begins : Begins es y s elements rest
    some : rest ≡ [] → ⊥
    short : length rest ≤ length s
    held : List Held
    joined : AllPut y hs elements held
    told : Told es y held (p + (length s - length rest)) rest e

  -- FROM THE OUTCOME TO THE REASON

  stopped_here : (hs : List Held) (p b : ℕ) (s : List ℕ) (e : ScanFault) → Told es y hs p (b ∷ s) e → Stopped hs p (b ∷ s) e
  stopped_here hs p b s e h =
      record {
        elements = [];
        rest = b ∷ s;
        begins = refl;
        some = λ z. let w : ◌≡◌ {A = ℕ} 0 1 = cc in omega arith;
        short = omega arith;
        held = hs;
        joined = refl;
        told = subst (λ k. Told es y hs k (b ∷ s) e) (let z : p ≡ p + (length (b ∷ s) - length (b ∷ s)) = omega arith in z) h;
      }

  stopped_more : (hs : List Held) (p : ℕ) (s : List ℕ) (e : ScanFault) (f : Front) (q : Put) → Fronted es all free y s f → put p hs (held_as y f.element) ≡ Ok q → Stopped q.held (p + f.taken) (drop f.taken s) e → Stopped hs p s e
  stopped_more hs p s e f q seen was inner =
      let long = length-drop f.taken s in
      let short = inner.short in
      let some = some_long inner.rest inner.some in
      record {
        elements = f.element ∷ inner.elements;
        rest = inner.rest;
        begins = (seen.between, drop f.taken s, seen.is, seen.known, seen.apart, seen.closed, seen.lawful, inner.begins);
        some = inner.some;
        short = omega arith;
        held = inner.held;
        joined = (q, put-place p 0 hs (held_as y f.element) q was, inner.joined);
        told = subst (λ k. Told es y inner.held k inner.rest e) (let z : p + f.taken + (length (drop f.taken s) - length inner.rest) ≡ p + (length s - length inner.rest) = omega arith in z) inner.told;
      }

  puts-stop : (k : ℕ) (hs : List Held) (n p : ℕ) (s : List ℕ) (e : ScanFault) → length s ≤ k → puts k es y hs n p s ≡ Err e → Stopped hs p s e
  unfolding puts
  puts-stop k hs n p [] e h was = absurd (let z : Ok (record { new = n; held = hs }) ≡ Err e = sym (puts_none es y k hs n p) ∙ was in let w : ◌≡◌ {A = ℕ} 0 1 = cc in omega arith)
  puts-stop zero hs n p (b ∷ s) e h was = absurd (omega arith)
  puts-stop (suc k) hs n p (b ∷ s) e h was =
      let behind : (f : Front) → front es y p (b ∷ s) ≡ Ok f → (r : Result Put ScanFault) → put p hs (held_as y f.element) ≡ r
      → on_put r (λ r. puts k es y r.held (n + r.new) (p + f.taken) (drop f.taken (b ∷ s))) ≡ Err e → Stopped hs p (b ∷ s) e
      = λ f seen r. elim r as (λ r. put p hs (held_as y f.element) ≡ r → on_put r (λ r. puts k es y r.held (n + r.new) (p + f.taken) (drop f.taken (b ∷ s))) ≡ Err e → Stopped hs p (b ∷ s) e) [
        | Err x ↦ λ is was. stopped_here hs p b s e (inr (f, seen, is ∙ was))
        | Ok q ↦ λ is was.
            let good = fronted es all free y (b ∷ s) p f seen in
            let shorter : length (drop f.taken (b ∷ s)) ≤ k = (let l = length-drop f.taken (b ∷ s) in let g = good.some in omega arith) in
            stopped_more hs p (b ∷ s) e f q good is (puts-stop k q.held (n + q.new) (p + f.taken) (drop f.taken (b ∷ s)) e shorter was)
      ] in
      let first : (r : Result Front ScanFault) → front es y p (b ∷ s) ≡ r
      → on_front r (λ f. on_put (put p hs (held_as y f.element)) (λ r. puts k es y r.held (n + r.new) (p + f.taken) (drop f.taken (b ∷ s)))) ≡ Err e → Stopped hs p (b ∷ s) e
      = λ r. elim r as (λ r. front es y p (b ∷ s) ≡ r → on_front r (λ f. on_put (put p hs (held_as y f.element)) (λ r. puts k es y r.held (n + r.new) (p + f.taken) (drop f.taken (b ∷ s)))) ≡ Err e → Stopped hs p (b ∷ s) e) [
        | Err x ↦ λ is was. stopped_here hs p b s e (inl (is ∙ ap Err (let w : x ≡ e = cc in w)))
        | Ok f ↦ λ is was. behind f is (put p hs (held_as y f.element)) refl was
      ] in
      first (front es y p (b ∷ s)) refl was

  -- FROM THE REASON TO THE OUTCOME

  told-puts : (k : ℕ) (hs : List Held) (n p : ℕ) (s : List ℕ) (e : ScanFault) → 0 < length s → Told es y hs p s e → puts (suc k) es y hs n p s ≡ Err e
  told-puts k hs n p s e h =
      ⊎_elim
      (λ f. puts-fault es y k hs n p s e h f)
      (λ t. puts-more es y k hs n p s t.0.element t.0.taken h t.1
      ∙ ap (λ r. on_put r (λ q. puts k es y q.held (n + q.new) (p + t.0.taken) (drop t.0.taken s))) t.2)

  -- the first of the elements that bytes begin with
  first_takes : (p : ℕ) (s : List ℕ) (x : Element) (xs : List Element) (rest : List ℕ) → (b : Begins es y s (x ∷ xs) rest) → Takes es all free y p s x b.1
  first_takes p s x xs rest b = takes es all free y p s x b.0 b.1 b.2 b.3 b.4 b.6 (λ z. gap-none b.1 (b.5 z))

  begins_long : (s : List ℕ) (xs : List Element) (rest : List ℕ) → Begins es y s xs rest → length rest ≤ length s
  begins_long s [] rest b = (let e = ap length b in omega arith)
  begins_long s (x ∷ xs) rest b = let inner = begins_long b.1 xs rest b.7 in let here = (first_takes 0 s x xs rest b).shorter in omega arith

  stop_puts : (k : ℕ) (hs : List Held) (n p : ℕ) (s : List ℕ) (xs : List Element) (rest : List ℕ) (gs : List Held) (e : ScanFault)
      → length s ≤ k → Begins es y s xs rest → 0 < length rest → AllPut y hs xs gs → Told es y gs (p + (length s - length rest)) rest e → puts k es y hs n p s ≡ Err e
  stop_puts zero hs n p s xs rest gs e h b l a t = absurd (let z = begins_long s xs rest b in omega arith)
  stop_puts (suc k) hs n p s [] rest gs e h b l a t =
      let here : Told es y hs (p + (length s - length rest)) s e = subst (λ r. Told es y hs (p + (length s - length rest)) r e) (sym b) (subst (λ g. Told es y g (p + (length s - length rest)) rest e) (sym a) t) in
      let long = ap length b in
      told-puts k hs n p s e (omega arith) (subst (λ i. Told es y hs i s e) (let z : p + (length s - length rest) ≡ p = omega arith in z) here)
  stop_puts (suc k) hs n p s (x ∷ xs) rest gs e h b l a t =
      let f : Takes es all free y p s x b.1 = first_takes p s x xs rest b in
      let long = f.long in
      let short = f.shorter in
      let inside = begins_long b.1 xs rest b.7 in
      puts-more es y k hs n p s x f.taken (omega arith) f.seen
      ∙ ap (λ r. on_put r (λ q. puts k es y q.held (n + q.new) (p + f.taken) (drop f.taken s))) (put-place 0 p hs (held_as y x) a.0 a.1)
      ∙ ap (puts k es y a.0.held (n + a.0.new) (p + f.taken)) f.left
      ∙ stop_puts k a.0.held (n + a.0.new) (p + f.taken) b.1 xs rest gs e (omega arith) b.7 l a.2
      (subst (λ i. Told es y gs i rest e) (let z : p + (length s - length rest) ≡ p + f.taken + (length b.1 - length rest) = omega arith in z) t)

-- THE LAW

module _ (es : List Entry) (all : T (all_lawful es)) (free : T (prefix_free es)) (t : Tally) (s : List ℕ) (e : ScanFault) where
  told-reason : scan_outcome es t s ≡ Err e → Reason es t s e
  told-reason was =
      ⊎_elim
      (λ marked.
      let a = puts-stop es all free t.year (length s) t.held 0 3 (drop 3 s) e (let l = length-drop 3 s in omega arith) (sym (cond-true _ _ _ marked) ∙ was) in
      let long = length-drop 3 s in
      let short = a.short in
      let some = some_long a.rest a.some in
      inr (record {
        body = drop 3 s;
        marked = starts-front mark s marked;
        elements = a.elements;
        rest = a.rest;
        begins = a.begins;
        some = a.some;
        held = a.held;
        joined = a.joined;
        told = subst (λ k. Told es t.year a.held k a.rest e) (let z : 3 + (length (drop 3 s) - length a.rest) ≡ length s - length a.rest = omega arith in z) a.told;
      }))
      (λ other.
      let z : Err NoMark ≡ Err e = sym (cond-false _ _ _ other) ∙ was in
      let w : e ≡ NoMark = cc in
      inl (λ body m. both_ways _ other (ap (starts mark) m ∙ starts-own mark body), w))
      (cases_Bool (starts mark s))

  stops_told : Stops es t s e → scan_outcome es t s ≡ Err e
  stops_told a =
      let body : drop 3 s ≡ a.body = ap (drop 3) a.marked in
      let long : length s ≡ 3 + length a.body = (let l = ap length a.marked in omega arith) in
      let short : length a.rest ≤ length a.body = begins_long es all free t.year a.body a.elements a.rest a.begins in
      cond-true _ _ _ (ap (starts mark) a.marked ∙ starts-own mark a.body)
      ∙ ap (puts (length s) es t.year t.held 0 3) body
      ∙ stop_puts es all free t.year (length s) t.held 0 3 a.body a.elements a.rest a.held e (omega arith) a.begins (some_long a.rest a.some) a.joined
      (subst (λ k. Told es t.year a.held k a.rest e) (let z : length s - length a.rest ≡ 3 + (length a.body - length a.rest) = omega arith in z) a.told)

  reason_told : Reason es t s e → scan_outcome es t s ≡ Err e
  reason_told =
      ⊎_elim
      (λ none. ⊎_elim (λ marked. absurd (none.0 (drop 3 s) (starts-front mark s marked))) (λ other. cond-false _ _ _ other ∙ ap Err (sym none.1)) (cases_Bool (starts mark s)))
      stops_told

pub scan_law : (es : List Entry) → T (all_lawful es) → T (prefix_free es) → ScanLaw es
scan_law es all free t s = (scan_adds es all free t s, λ e. (told-reason es all free t s e, reason_told es all free t s e))
