-- A scan is read to a list of elements exactly where it spells them and each field is lawful.
use Rattle.std.proofs.Common.{◌≡◌, ℕ, zero, suc, ◌+◌, ◌-◌, ◌/◌, ◌%◌, ◌^◌, ◌<◌, ◌≤◌, Bool, true, false, cond, not, ◌&&◌, T, eqb, leb, ◌⊎◌, List, [], ◌∷◌, ◌++◌, length, get_or, take, drop, Some, None, Ok, Err, Option, Result, sym, refl, ap, ◌∙◌, subst, inl, inr, ⊎_elim, arith, length-append, length-drop}
use Rattle.std.proofs.lemmas.List.{take-append-drop, take_at, drop_at, drop-drop, length-take-le}
use Rattle.std.proofs.lemmas.List.Sums.{prefix_len-le-length}
use Rattle.std.proofs.lemmas.Bool.{and_parts, and_from, cond_both, cond-true, cond-false, cases_Bool, both_ways, leb-true, le-leb, eqb-true, eq-eqb, ne_eqb}
use Rattle.forms.specs.Bytes.{within, every, last_digits}
use Rattle.forms.specs.Kinds.{kind_lawful, kind_fault}
use Rattle.forms.specs.declared.fault.FieldFault.{FieldFault}
use Rattle.forms.specs.Figures.{length-last_digits}
use Rattle.forms.proofs.KindLaws.{kind_judged}
use Rattle.books.specs.Texts.{starts, predefined}
use Rattle.books.specs.Entries.{text, found, all_lawful, prefix_free}
use Rattle.books.specs.declared.entry.Entry.{Entry}
use Rattle.books.proofs.Finds.{found_in, found-begins, finds_own}
use Rattle.books.proofs.Fronts.{starts-front, starts-own}
use Rattle.books.proofs.Lengths.{predefined-fixed}
use Rattle.scans.specs.declared.fault.ScanFault.{ScanFault}
use Rattle.scans.specs.declared.fault.ScanFault.TheVariants.{NoMark}
use Rattle.scans.specs.Elements.{Element, Front, plain, run, field_length, gap, judged, at_field, at_entry, front, before, onward, elements, mark}
use Rattle.scans.specs.Spelling.{Known, Gap, Spells, Lawful, ReadAsSpelled}
use Rattle.scans.proofs.Fronts.{front-element}
use Rattle.scans.proofs.Walks.{elements-none, elements-more}

-- BYTES BEFORE THE NEXT SEPARATOR

-- no separator stands among them
every-run : (n : ℕ) (s : List ℕ) → n ≤ run s → every plain (take n s) ≡ true
every-run zero s h = refl
every-run (suc n) [] h = absurd (omega arith)
every-run (suc n) (b ∷ s) h =
    let P : Bool → Type 0 = λ p. suc n ≤ cond p (1 + run s) 0 → (p && every plain (take n s)) ≡ true in
    elim (plain b) as P [ true ↦ (λ k. every-run n s (omega arith)) | false ↦ (λ k. absurd (omega arith)) ] h

-- and then comes one, or the end
run_ends : (s : List ℕ) → (drop (run s) s ≡ []) ⊎ (gap (drop (run s) s) ≡ 1)
run_ends [] = inl refl
run_ends (b ∷ s) =
    ⊎_elim
    (λ e. inr (ap (λ p. gap (drop (cond (not p) (1 + run s) 0) (b ∷ s))) e ∙ ap (λ p. cond p 1 0) e))
    (λ e.
    let one : drop (1 + run s) (b ∷ s) ≡ drop (run s) s = ap (λ k. drop k (b ∷ s)) (let z : 1 + run s ≡ suc (run s) = omega arith in z) in
    ⊎_elim (λ h. inl (ap (λ p. drop (cond (not p) (1 + run s) 0) (b ∷ s)) e ∙ (one ∙ h))) (λ h. inr (ap (λ p. gap (drop (cond (not p) (1 + run s) 0) (b ∷ s))) e ∙ (ap gap one ∙ h))) (run_ends s))
    (cases_Bool (eqb b 29))

-- what holds none goes on into what follows
run-append : (f t : List ℕ) → every plain f ≡ true → run (f ++ t) ≡ length f + run t
run-append [] t h = omega arith
run-append (b ∷ f) t h =
    let p = and_parts _ _ h in
    cond-true (plain b) (1 + run (f ++ t)) 0 p.0 ∙ ap (λ n. 1 + n) (run-append f t p.1) ∙ (let z : 1 + (length f + run t) ≡ suc (length f) + run t = omega arith in z)

gap-cases : (s : List ℕ) → (take (gap s) s ≡ 29 ∷ []) ⊎ ((take (gap s) s ≡ []) × (gap s ≡ 0))
gap-cases [] = inr (refl, refl)
gap-cases (b ∷ s) =
    ⊎_elim
    (λ e. inl (ap (λ p. take (cond p 1 0) (b ∷ s)) e ∙ ap (λ c. c ∷ []) (eqb-true b 29 e)))
    (λ e. inr (ap (λ p. take (cond p 1 0) (b ∷ s)) e, ap (λ p. cond p 1 0) e))
    (cases_Bool (eqb b 29))

-- where no separator was taken off, none stands in front
gap-closed : (s : List ℕ) → take (gap s) s ≡ [] → get_or (drop (gap s) s) 0 0 ≡ 29 → ⊥
gap-closed [] none first = omega arith
gap-closed (b ∷ s) none first =
    ⊎_elim
    (λ e. let z : b ∷ [] ≡ [] = ap (λ p. take (cond p 1 0) (b ∷ s)) (sym e) ∙ none in let w : ◌≡◌ {A = ℕ} 0 1 = cc in omega arith)
    (λ e. both_ways (eqb b 29) e (eq-eqb b 29 (ap (λ p. get_or (drop (cond p 1 0) (b ∷ s)) 0 0) (sym e) ∙ first)))
    (cases_Bool (eqb b 29))

pub gap-none : (s : List ℕ) → (get_or s 0 0 ≡ 29 → ⊥) → gap s ≡ 0
gap-none [] h = refl
gap-none (b ∷ s) h = ap (λ p. cond p 1 0) (ne_eqb b 29 h)

-- IDENTS

pub text-long : (e : Entry) → length (text e) ≡ e.ident.digits
text-long e = length-last_digits e.ident.digits e.ident.number

digits_first : (d n : ℕ) (t : List ℕ) → 1 ≤ d → get_or (last_digits d n ++ t) 0 0 ≡ 29 → ⊥
digits_first zero n t h e = omega arith
digits_first (suc d) n t h e = let z : 48 + n / 10 ^ d % 10 ≡ 29 = e in omega arith

-- an ident does not begin with a separator
pub text-first : (e : Entry) (s t : List ℕ) → s ≡ text e ++ t → get_or s 0 0 ≡ 29 → ⊥
text-first e s t is h = digits_first e.ident.digits e.ident.number t (let l = e.ident.least in omega arith) (ap (λ r. get_or r 0 0) (sym is) ∙ h)

-- THE LENGTH OF A FIELD

record Fixed (e : Entry) (u n : ℕ) : Type 0 where
  fixed : predefined (text e) ≡ true
  is : n ≡ e.longest
  enough : e.longest ≤ u

record Free (e : Entry) (u n : ℕ) : Type 0 where
  free : predefined (text e) ≡ false
  is : n ≡ u
  least : e.shortest ≤ u
  most : u ≤ e.longest

length-cases : (e : Entry) (u n : ℕ) → field_length e u ≡ Some n → Fixed e u n ⊎ Free e u n
length-cases e u n h =
    ⊎_elim
    (λ p. ⊎_elim
    (λ q. inl (record { fixed = p; is = (let z : Some e.longest ≡ Some n = sym (cond-true _ _ _ p ∙ cond-true _ _ _ q) ∙ h in grind arith); enough = leb-true _ _ q }))
    (λ q. absurd (let z : None ≡ Some n = sym (cond-true _ _ _ p ∙ cond-false _ _ _ q) ∙ h in grind arith))
    (cases_Bool (leb e.longest u)))
    (λ p. ⊎_elim
    (λ q. let w = and_parts _ _ q in inr (record { free = p; is = (let z : Some u ≡ Some n = sym (cond-false _ _ _ p ∙ cond-true _ _ _ q) ∙ h in grind arith); least = leb-true _ _ w.0; most = leb-true _ _ w.1 }))
    (λ q. absurd (let z : None ≡ Some n = sym (cond-false _ _ _ p ∙ cond-false _ _ _ q) ∙ h in grind arith))
    (cases_Bool (within e.shortest e.longest u)))
    (cases_Bool (predefined (text e)))

module _ (es : List Entry) (all : T (all_lawful es)) (free : T (prefix_free es)) (y : ℕ) where
  -- WHAT IS READ IS SPELLED

  pub record Fronted (s : List ℕ) (f : Front) : Type 0 where
    pub between : List ℕ
    pub is : s ≡ text f.element.entry ++ (f.element.field ++ (between ++ drop f.taken s))
    pub known : Known es f.element
    pub apart : Gap f.element between (drop f.taken s)
    pub closed : between ≡ [] → get_or (drop f.taken s) 0 0 ≡ 29 → ⊥
    pub lawful : kind_lawful f.element.entry.form y f.element.field
    pub some : 0 < f.taken

  abbrev Good : List ℕ → Result Front ScanFault → Type 0
  Good s (Err e) = Unit {0}
  Good s (Ok f) = Fronted s f

  module _ (s : List ℕ) (p : ℕ) (e : Entry) (here : found es s ≡ Some e) (n : ℕ) (long : field_length e (run (drop e.ident.digits s)) ≡ Some n) where
    after : List ℕ
    after = drop e.ident.digits s

    rest : List ℕ
    rest = drop n (drop e.ident.digits s)

    cut_within : n ≤ run (drop e.ident.digits s)
    cut_within = ⊎_elim (λ c. let a = c.is in let b = c.enough in omega arith) (λ c. let a = c.is in omega arith) (length-cases e _ n long)

    field_long : length (take n (drop e.ident.digits s)) ≡ n
    field_long = length-take-le n (drop e.ident.digits s) (let w = prefix_len-le-length plain (drop e.ident.digits s) in let c = cut_within in omega arith)

    cut_known : Known es (record { entry = e; field = take n (drop e.ident.digits s) })
    cut_known =
        let l = field_long in
        record {
          listed = found_in es all free s e here;
          least = ⊎_elim (λ c. let f = predefined-fixed e c.fixed in let a = c.is in omega arith) (λ c. let a = c.is in let b = c.least in omega arith) (length-cases e _ n long);
          most = ⊎_elim (λ c. let a = c.is in omega arith) (λ c. let a = c.is in let b = c.most in omega arith) (length-cases e _ n long);
          plainly = every-run n (drop e.ident.digits s) cut_within;
        }

    onward-is : drop (e.ident.digits + n + gap (drop n (drop e.ident.digits s))) s ≡ drop (gap (drop n (drop e.ident.digits s))) (drop n (drop e.ident.digits s))
    onward-is = sym (drop-drop _ (e.ident.digits + n) s) ∙ ap (drop (gap (drop n (drop e.ident.digits s)))) (sym (drop-drop n e.ident.digits s))

    cut_is : s ≡ text e ++ (take n (drop e.ident.digits s) ++ (take (gap (drop n (drop e.ident.digits s))) (drop n (drop e.ident.digits s)) ++ drop (e.ident.digits + n + gap (drop n (drop e.ident.digits s))) s))
    cut_is =
        found-begins es all free s e here
        ∙ ap (λ d. text e ++ drop d s) (text-long e)
        ∙ ap (λ t. text e ++ t) (sym (take-append-drop n (drop e.ident.digits s)))
        ∙ ap (λ t. text e ++ (take n (drop e.ident.digits s) ++ t)) (sym (take-append-drop (gap (drop n (drop e.ident.digits s))) (drop n (drop e.ident.digits s))))
        ∙ ap (λ t. text e ++ (take n (drop e.ident.digits s) ++ (take (gap (drop n (drop e.ident.digits s))) (drop n (drop e.ident.digits s)) ++ t))) (sym onward-is)

    cut_apart : Gap (record { entry = e; field = take n (drop e.ident.digits s) }) (take (gap (drop n (drop e.ident.digits s))) (drop n (drop e.ident.digits s))) (drop (e.ident.digits + n + gap (drop n (drop e.ident.digits s))) s)
    cut_apart =
        ⊎_elim inl
        (λ none. inr (
          none.0,
          ⊎_elim
              (λ c. inl c.fixed)
              (λ c. inr (onward-is ∙ ap (λ g. drop g (drop n (drop e.ident.digits s))) none.1 ∙ ap (λ m. drop m (drop e.ident.digits s)) c.is
              ∙ ⊎_elim (λ end. end) (λ one. absurd (let z : gap (drop n (drop e.ident.digits s)) ≡ 1 = ap (λ m. gap (drop m (drop e.ident.digits s))) c.is ∙ one in let w = none.1 in omega arith)) (run_ends (drop e.ident.digits s))))
              (length-cases e _ n long),
        ))
        (gap-cases (drop n (drop e.ident.digits s)))

    cut_closed : take (gap (drop n (drop e.ident.digits s))) (drop n (drop e.ident.digits s)) ≡ [] → get_or (drop (e.ident.digits + n + gap (drop n (drop e.ident.digits s))) s) 0 0 ≡ 29 → ⊥
    cut_closed none first = gap-closed (drop n (drop e.ident.digits s)) none (ap (λ r. get_or r 0 0) (sym onward-is) ∙ first)

    field_good : (o : Option FieldFault) → kind_fault e.form y (p + e.ident.digits) (take n (drop e.ident.digits s)) ≡ o → Good s (judged o e (take n (drop e.ident.digits s)) (e.ident.digits + n + gap (drop n (drop e.ident.digits s))))
    field_good (Some f) h = tt
    field_good None h =
        record {
          between = take (gap (drop n (drop e.ident.digits s))) (drop n (drop e.ident.digits s));
          is = cut_is;
          known = cut_known;
          apart = cut_apart;
          closed = cut_closed;
          lawful = (kind_judged e.form y (p + e.ident.digits) (take n (drop e.ident.digits s))).stands h;
          some = (let l = e.ident.least in omega arith);
        }

  length-good : (s : List ℕ) (p : ℕ) (e : Entry) → found es s ≡ Some e → (o : Option ℕ) → field_length e (run (drop e.ident.digits s)) ≡ o → Good s (at_field e y p (drop e.ident.digits s) o)
  length-good s p e here None h = tt
  length-good s p e here (Some n) h = field_good s p e here n h _ refl

  entry-good : (s : List ℕ) (p : ℕ) (o : Option Entry) → found es s ≡ o → Good s (at_entry o y p s)
  entry-good s p None h = tt
  entry-good s p (Some e) h = length-good s p e h _ refl

  front-good : (s : List ℕ) (p : ℕ) → Good s (front es y p s)
  front-good s p = cond_both (eqb (get_or s 0 0) 29) _ _ (Good s) (λ _. tt) (λ _. entry-good s p (found es s) refl)

  -- what is read in front is an element that the book knows, lawful in the year
  pub fronted : (s : List ℕ) (p : ℕ) (f : Front) → front es y p s ≡ Ok f → Fronted s f
  fronted s p f e = subst (Good s) e (front-good s p)

  abbrev Spelled : List ℕ → List Element → Type 0
  Spelled s xs = Spells es s xs × Lawful y xs

  reads_spelled : (k p : ℕ) (s : List ℕ) (xs : List Element) → length s ≤ k → elements k es y p s ≡ Ok xs → Spelled s xs
  unfolding elements
  reads_spelled k p [] xs h e =
      let z : Ok [] ≡ Ok xs = sym (elements-none es y k p) ∙ e in
      let w : ◌≡◌ {A = List Element} [] xs = cc in
      subst (Spelled []) w (refl, tt)
  reads_spelled zero p (b ∷ s) xs h e = absurd (omega arith)
  reads_spelled (suc k) p (b ∷ s) xs h e =
      let behind : (f : Front) → Fronted (b ∷ s) f → (r : Result (List Element) ScanFault) → elements k es y (p + f.taken) (drop f.taken (b ∷ s)) ≡ r → before f.element r ≡ Ok xs → Spelled (b ∷ s) xs
      = λ f good r. elim r as (λ r. elements k es y (p + f.taken) (drop f.taken (b ∷ s)) ≡ r → before f.element r ≡ Ok xs → Spelled (b ∷ s) xs) [
        | Err x ↦ λ is was. absurd (let z : ◌≡◌ {A = ℕ} 0 1 = cc in omega arith)
        | Ok ys ↦ λ is was.
            let shorter : length (drop f.taken (b ∷ s)) ≤ k = (let l = length-drop f.taken (b ∷ s) in let g = good.some in omega arith) in
            let inner = reads_spelled k (p + f.taken) (drop f.taken (b ∷ s)) ys shorter is in
            let z : f.element ∷ ys ≡ xs = cc in
            subst (Spelled (b ∷ s)) z ((good.between, drop f.taken (b ∷ s), good.is, good.known, good.apart, inner.0), (good.lawful, inner.1))
      ] in
      let first : (r : Result Front ScanFault) → Good (b ∷ s) r → onward r (λ f. before f.element (elements k es y (p + f.taken) (drop f.taken (b ∷ s)))) ≡ Ok xs → Spelled (b ∷ s) xs
      = λ r. elim r as (λ r. Good (b ∷ s) r → onward r (λ f. before f.element (elements k es y (p + f.taken) (drop f.taken (b ∷ s)))) ≡ Ok xs → Spelled (b ∷ s) xs) [
        | Err x ↦ λ good was. absurd (let z : ◌≡◌ {A = ℕ} 0 1 = cc in omega arith)
        | Ok f ↦ λ good was. behind f good _ refl was
      ] in
      first (front es y p (b ∷ s)) (front-good (b ∷ s) p) e

  -- WHAT IS SPELLED IS READ

  -- elements that are spelled do not begin with a separator
  spelled-first : (s : List ℕ) (xs : List Element) → Spells es s xs → gap s ≡ 0
  spelled-first s [] h = ap gap h
  spelled-first s (x ∷ xs) h = gap-none s (text-first x.entry s (x.field ++ (h.0 ++ h.1)) h.2)

  -- the element x is read in front of s, and `rest` stands behind it
  pub record Takes (p : ℕ) (s : List ℕ) (x : Element) (rest : List ℕ) : Type 0 where
    pub taken : ℕ
    pub seen : front es y p s ≡ Ok (record { element = x; taken = taken })
    pub left : drop taken s ≡ rest
    pub long : taken + length rest ≡ length s
    pub shorter : length rest < length s

  module _ (p : ℕ) (s : List ℕ) (x : Element) (between rest : List ℕ) (is : s ≡ text x.entry ++ (x.field ++ (between ++ rest))) (known : Known es x) (apart : Gap x between rest) (lawful : kind_lawful x.entry.form y x.field) (first : between ≡ [] → gap rest ≡ 0) where
    behind-ident : drop x.entry.ident.digits s ≡ x.field ++ (between ++ rest)
    behind-ident = ap (drop x.entry.ident.digits) is ∙ drop_at (text x.entry) (x.field ++ (between ++ rest)) x.entry.ident.digits (text-long x.entry)

    gap-long : gap (between ++ rest) ≡ length between
    gap-long = ⊎_elim (λ e. ap (λ b. gap (b ++ rest)) e ∙ ap length (sym e)) (λ e. ap (λ b. gap (b ++ rest)) e.0 ∙ first e.0 ∙ ap length (sym e.0)) apart

    runs_on : run (drop x.entry.ident.digits s) ≡ length x.field + run (between ++ rest)
    runs_on = ap run behind-ident ∙ run-append x.field (between ++ rest) known.plainly

    -- a field that is not predefined ends there
    free_ends : predefined (text x.entry) ≡ false → run (between ++ rest) ≡ 0
    free_ends other =
        ⊎_elim (λ e. ap (λ b. run (b ++ rest)) e)
        (λ e. ap (λ b. run (b ++ rest)) e.0 ∙ ⊎_elim (λ yes'. absurd (both_ways _ other yes')) (λ end. ap run end) e.1) apart

    field_length_lem : field_length x.entry (run (drop x.entry.ident.digits s)) ≡ Some (length x.field)
    field_length_lem =
        let least = known.least in
        let most = known.most in
        ⊎_elim
        (λ is-fixed.
        let fixed = predefined-fixed x.entry is-fixed in
        cond-true (predefined (text x.entry)) _ _ is-fixed ∙ cond-true (leb x.entry.longest (run (drop x.entry.ident.digits s))) _ _ (le-leb x.entry.longest (run (drop x.entry.ident.digits s)) (let r = runs_on in omega arith)) ∙ ap Some (let z : x.entry.longest ≡ length x.field = omega arith in z))
        (λ other.
        let whole : run (drop x.entry.ident.digits s) ≡ length x.field = (let r = runs_on in let f = free_ends other in omega arith) in
        cond-false _ _ _ other ∙ ap (λ u. cond (within x.entry.shortest x.entry.longest u) (Some u) None) whole ∙ cond-true _ _ _ (and_from _ _ (le-leb _ _ least) (le-leb _ _ most)))
        (cases_Bool (predefined (text x.entry)))

    field_there : take (length x.field) (drop x.entry.ident.digits s) ≡ x.field
    field_there = ap (take (length x.field)) behind-ident ∙ take_at x.field (between ++ rest) (length x.field) refl

    rest_there : drop (length x.field) (drop x.entry.ident.digits s) ≡ between ++ rest
    rest_there = ap (drop (length x.field)) behind-ident ∙ drop_at x.field (between ++ rest) (length x.field) refl

    front-spelled : front es y p s ≡ Ok (record { element = x; taken = x.entry.ident.digits + length x.field + length between })
    front-spelled =
        front-element es y p s x.entry (text-first x.entry s (x.field ++ (between ++ rest)) is) (ap (found es) is ∙ finds_own es all free x.entry known.listed (x.field ++ (between ++ rest))) (length x.field) field_length_lem
        (ap (kind_fault x.entry.form y (p + x.entry.ident.digits)) field_there ∙ (kind_judged x.entry.form y (p + x.entry.ident.digits) x.field).clean lawful)
        ∙ ap (λ f. Ok (record { element = record { entry = x.entry; field = f }; taken = x.entry.ident.digits + length x.field + gap (drop (length x.field) (drop x.entry.ident.digits s)) })) field_there
        ∙ ap (λ g. Ok (record { element = x; taken = x.entry.ident.digits + length x.field + g })) (ap gap rest_there ∙ gap-long)

    pub takes : Takes p s x rest
    takes =
        let l = ap length is ∙ length-append (text x.entry) (x.field ++ (between ++ rest)) in
        let m = length-append x.field (between ++ rest) in
        let n = length-append between rest in
        let t = text-long x.entry in
        let d = x.entry.ident.least in
        record {
          taken = x.entry.ident.digits + length x.field + length between;
          seen = front-spelled;
          left =
              sym (drop-drop (length between) (x.entry.ident.digits + length x.field) s)
              ∙ ap (drop (length between)) (sym (drop-drop (length x.field) x.entry.ident.digits s) ∙ rest_there)
              ∙ drop_at between rest (length between) refl;
          long = omega arith;
          shorter = omega arith;
        }

  spelled-reads : (k p : ℕ) (s : List ℕ) (xs : List Element) → length s ≤ k → Spells es s xs → Lawful y xs → elements k es y p s ≡ Ok xs
  spelled-reads k p s [] h is lawful = ap (elements k es y p) is ∙ elements-none es y k p
  spelled-reads k p s (x ∷ xs) h is lawful =
      let t : Takes p s x is.1 = takes p s x is.0 is.1 is.2 is.3 is.4 lawful.0 (λ _. spelled-first is.1 xs is.5) in
      let short = t.shorter in
      let turns : k ≡ suc (k - 1) = omega arith in
      ap (λ k. elements k es y p s) turns
      ∙ elements-more es y (k - 1) p s x t.taken (omega arith) t.seen
      ∙ ap (λ r. before x (elements (k - 1) es y (p + t.taken) r)) t.left
      ∙ ap (before x) (spelled-reads (k - 1) (p + t.taken) is.1 xs (omega arith) is.5 lawful.1)

-- THE LAW

pub read_as_spelled : (es : List Entry) → T (all_lawful es) → T (prefix_free es) → ReadAsSpelled es
read_as_spelled es all free y s xs = (
  λ e. ⊎_elim
      (λ marked.
      let got : elements (length s) es y 3 (drop 3 s) ≡ Ok xs = sym (cond-true _ _ _ marked) ∙ e in
      let both = reads_spelled es all free y (length s) 3 (drop 3 s) xs (let l = length-drop 3 s in omega arith) got in
      record { body = drop 3 s; marked = starts-front mark s marked; spelled = both.0; lawful = both.1 })
      (λ other. absurd (let z : Err NoMark ≡ Ok xs = sym (cond-false _ _ _ other) ∙ e in let w : ◌≡◌ {A = ℕ} 0 1 = cc in omega arith))
      (cases_Bool (starts mark s)),
  λ c.
      let body : drop 3 s ≡ c.body = ap (drop 3) c.marked in
      cond-true _ _ _ (ap (starts mark) c.marked ∙ starts-own mark c.body)
      ∙ ap (elements (length s) es y 3) body
      ∙ spelled-reads es all free y (length s) 3 c.body xs (let l = ap length c.marked in omega arith) c.spelled c.lawful,
)
