-- Whole runs of begin, add and seal.
use Rattle.std.proofs.Common.{◌≡◌, ℕ, ◌+◌, ◌%◌, ◌≤◌, Bool, true, false, cond, ltb, List, [], ◌∷◌, ◌++◌, length, take, Ok, Err, Result, sym, refl, ap, ◌∙◌, subst, arith}
use Rattle.std.specs.List.{prefix_len}
use Rattle.std.proofs.lemmas.List.{append-nil, append_assoc, length-append}
use Rattle.std.proofs.lemmas.Bool.{cond_both, ltb-false}
use Rattle.forms.specs.Bytes.{allowed}
use Rattle.symbols.specs.declared.state.Open.{Open}
use Rattle.std.proofs.lemmas.Result.{err_from_is_err_and}
use Rattle.std.specs.Result.{MatchResult, IsErrAnd}
use Rattle.symbols.specs.declared.fault.WriterFault.{WriterFault}
use Rattle.symbols.specs.declared.fault.AddFault.{AddFault}
use Rattle.symbols.specs.Reading.{weighted, read_on, check_of, decoded}
use Rattle.symbols.specs.Encoding.{separated, misfits, fixed_length, clean, joined_after, joined}
use Rattle.symbols.specs.Writing.{Stage, stage, Over, opening, fresh, written, grown, next, taken, closing, taken_all, written_all, Stands, Closes, Seals}
use Rattle.symbols.specs.Laws.{CountsRight, ReadsBack}
use Rattle.symbols.proofs.Checks.{check_append}
use Rattle.symbols.proofs.Aheads.{all-text, clean-passes}
use Rattle.symbols.proofs.Rounds.{reads_on}
use Rattle.symbols.proofs.Frames.{decoded-sealed}
use Rattle.symbols.proofs.Overs.{over_two, over_front}

-- what is known of an element that is taken
pub record Took (s : Stage) (e : List ℕ) (t : Stage) : Type 0 where
  pub is : t ≡ next s e
  pub text : prefix_len allowed e ≡ length e
  pub short : grown s e ≤ 48

abbrev Tells : Stage → List ℕ → Result Stage AddFault → Type 0
Tells s e (Ok t) = Took s e t
Tells s e (Err f) = Unit {0}

tells_taken : (s : Stage) (e : List ℕ) → Tells s e (taken s e)
tells_taken s e =
    cond_both (misfits (length e) (fixed_length e)) _ _ (Tells s e) (λ _. tt) (λ _.
    cond_both (ltb (clean e) (length e)) _ _ (Tells s e) (λ _. tt) (λ c.
    cond_both (ltb 48 (grown s e)) _ _ (Tells s e) (λ _. tt) (λ g.
    record { is = refl; text = clean-passes e (ltb-false (clean e) (length e) c); short = ltb-false 48 (grown s e) g })))

pub took : (s t : Stage) (e : List ℕ) → taken s e ≡ Ok t → Took s e t
took s t e h = subst (Tells s e) h (tells_taken s e)

-- the first add of a run
abbrev pub goes_on : List (List ℕ) → Result Stage AddFault → Result Stage AddFault
goes_on es (Ok t) = taken_all t es
goes_on es (Err f) = Err f

pub run_by : (s : Stage) (e : List ℕ) (es : List (List ℕ)) → taken_all s (e ∷ es) ≡ goes_on es (taken s e)
run_by s e es =
    let P : Result Stage AddFault → Type 0 = λ r. elim r as (λ _. Result Stage AddFault) [ Ok t ↦ taken_all t es | Err f ↦ Err f ] ≡ goes_on es r in
    elim (taken s e) as P [ Ok t ↦ refl | Err f ↦ refl ]

pub record Ran (s : Stage) (e : List ℕ) (es : List (List ℕ)) (t : Stage) : Type 0 where
  pub first : taken s e ≡ Ok (next s e)
  pub text : prefix_len allowed e ≡ length e
  pub short : grown s e ≤ 48
  pub rest : taken_all (next s e) es ≡ Ok t

ran_on : (s t : Stage) (e : List ℕ) (es : List (List ℕ)) (r : Result Stage AddFault) → taken s e ≡ r → goes_on es r ≡ Ok t → Ran s e es t
ran_on s t e es (Ok u) h k =
    let o = took s u e h in
    record { first = h ∙ ap Ok o.is; text = o.text; short = o.short; rest = ap (λ x. taken_all x es) (sym o.is) ∙ k }
ran_on s t e es (Err f) h k = let z : ◌≡◌ {A = ℕ} 0 1 = cc in absurd (omega arith)

ran : (s t : Stage) (e : List ℕ) (es : List (List ℕ)) → taken_all s (e ∷ es) ≡ Ok t → Ran s e es t
ran s t e es h = ran_on s t e es (taken s e) refl (sym (run_by s e es) ∙ h)

same_ok : (s t : Stage) → ◌≡◌ {A = Result Stage AddFault} (Ok s) (Ok t) → s ≡ t
same_ok s t e = cc

-- the running check value and the count are those of what is written
pub record Counts (t : Stage) (xs : List ℕ) : Type 0 where
  pub sum : t.sum ≡ check_of xs
  pub len : t.len ≡ length xs
  pub some : 1 ≤ length xs

counts_more : (s : Stage) (e xs : List ℕ) → Counts s xs → Counts (next s e) (xs ++ written s e)
counts_more s e xs c =
    let w = written s e in
    let l : length (xs ++ w) ≡ length xs + length w = length-append xs w in
    record {
      sum = ap (λ n. (n + weighted s.len w) % 103) c.sum ∙ ap (λ n. (check_of xs + weighted n w) % 103) c.len ∙ check_append xs w c.some;
      len = ap (λ n. n + length w) c.len ∙ sym l;
      some = omega (arith, c.some);
    }

counts_run : (s t : Stage) (es : List (List ℕ)) (xs : List ℕ) → taken_all s es ≡ Ok t → Counts s xs → Counts t (xs ++ written_all s es)
counts_run s t [] xs h c = subst (λ (u : Stage). Counts u (xs ++ [])) (same_ok s t h) (subst (Counts s) (sym (append-nil xs)) c)
counts_run s t (e ∷ es) xs h c =
    subst (Counts t) (append_assoc xs (written s e) (written_all (next s e) es))
    (counts_run (next s e) t es (xs ++ written s e) (ran s t e es h).rest (counts_more s e xs c))

counts_opened : (t : Stage) (es : List (List ℕ)) → taken_all fresh es ≡ Ok t → Counts t (opening ++ written_all fresh es)
counts_opened t es h = counts_run fresh t es opening h (record { sum = refl; len = refl; some = omega arith })

pub sep_long : (p : Bool) (e : List ℕ) → length (cond p (29 ∷ []) [] ++ e) ≡ cond p 1 0 + length e
sep_long true e = omega arith
sep_long false e = omega arith

-- and its bytes are those of the elements joined
bytes_run : (s t : Stage) (es : List (List ℕ)) → taken_all s es ≡ Ok t → t.bytes ≡ s.bytes + length (joined_after s.pending es)
bytes_run s t [] h = let e = ap (λ (x : Stage). x.bytes) (same_ok s t h) in omega arith
bytes_run s t (e ∷ es) h =
    let b : List ℕ = cond s.pending (29 ∷ []) [] in let js = joined_after (separated e) es in
    let i = bytes_run (next s e) t es (ran s t e es h).rest in
    let k : length (b ++ (e ++ js)) ≡ cond s.pending 1 0 + length e + length js =
    ap length (sym (append_assoc b e js)) ∙ length-append (b ++ e) js ∙ ap (λ n. n + length js) (sep_long s.pending e) in
    omega arith

pub counts_right : CountsRight
counts_right es t h =
    let c = counts_opened t es h in
    record { len = c.len; sum = c.sum; bytes = bytes_run fresh t es h ∙ omega arith }

-- what is written reads back
reads_run : (s t : Stage) (es : List (List ℕ)) (got : List ℕ) → taken_all s es ≡ Ok t → length got ≡ s.bytes
    → (p : ℕ) → read_on s.set p got (written_all s es) ≡ Ok (got ++ joined_after s.pending es)
reads_run s t [] got h l p = ap Ok (sym (append-nil got))
reads_run s t (e ∷ es) got h l p =
    let r = ran s t e es h in
    let b : List ℕ = cond s.pending (29 ∷ []) [] in let js = joined_after (separated e) es in
    let k : length (got ++ (b ++ e)) ≡ grown s e =
    length-append got (b ++ e) ∙ ap (λ n. length got + n) (sep_long s.pending e) ∙ ap (λ n. n + (cond s.pending 1 0 + length e)) l in
    reads_on s.pending s.set e got (written_all (next s e) es) (got ++ (b ++ (e ++ js))) (all-text e r.text) (omega (arith, r.short))
    (λ q. reads_run (next s e) t es (got ++ (b ++ e)) r.rest k q ∙ ap Ok (append_assoc got (b ++ e) js ∙ ap (λ x. got ++ x) (append_assoc b e js))) p

pub reads_back : ReadsBack
reads_back es t h =
    decoded-sealed (written_all fresh es) t.sum (counts_opened t es h).sum ∙ reads_run fresh t es [] h refl 2

-- one element more
taken-push : (s u t : Stage) (es : List (List ℕ)) (e : List ℕ) → taken_all s es ≡ Ok u → taken u e ≡ Ok t → taken_all s (es ++ (e ∷ [])) ≡ Ok t
taken-push s u t [] e h k = run_by s e [] ∙ ap (λ x. goes_on [] (taken x e)) (same_ok s u h) ∙ ap (goes_on []) k
taken-push s u t (x ∷ es) e h k =
    let r = ran s u x es h in
    run_by s x (es ++ (e ∷ [])) ∙ ap (goes_on (es ++ (e ∷ []))) r.first ∙ taken-push (next s x) u t es e r.rest k

written-push : (s u : Stage) (es : List (List ℕ)) (e : List ℕ) → taken_all s es ≡ Ok u → written_all s (es ++ (e ∷ [])) ≡ written_all s es ++ written u e
written-push s u [] e h = append-nil (written s e) ∙ ap (λ x. written x e) (same_ok s u h)
written-push s u (x ∷ es) e h =
    ap (λ y. written s x ++ y) (written-push (next s x) u es e (ran s u x es h).rest) ∙ sym (append_assoc (written s x) (written_all (next s x) es) (written u e))

-- what stands in a buffer, one call on
front_long : (es : List (List ℕ)) (o : Open) (buf : List ℕ) → Stands es o buf → length (take o.len buf) ≡ o.len
front_long es o buf s = ap length s.wrote ∙ sym (counts_opened (stage o) es s.run).len

pub stands-first : (o : Open) (before after : List ℕ) → stage o ≡ fresh → Over 0 opening before after → Stands [] o after
stands-first o before after e w =
    record { run = ap Ok (sym e); wrote = over_front 0 o.len opening before after w refl (ap (λ (s : Stage). s.len) e) }

pub stands-more : (was o : Open) (e before after : List ℕ) → taken (stage was) e ≡ Ok (stage o) → Over was.len (written (stage was) e) before after
    → (es : List (List ℕ)) → Stands es was before → Stands (es ++ (e ∷ [])) o after
stands-more was o e before after k w es s =
    let l : o.len ≡ was.len + length (written (stage was) e) = ap (λ (x : Stage). x.len) (took (stage was) (stage o) e k).is in
    record {
      run = taken-push fresh (stage was) (stage o) es e s.run k;
      wrote = over_front was.len o.len (written (stage was) e) before after w (front_long es was before s) l
          ∙ ap (λ x. x ++ written (stage was) e) s.wrote ∙ append_assoc opening (written_all fresh es) (written (stage was) e)
          ∙ ap (λ x. opening ++ x) (sym (written-push fresh (stage was) es e s.run));
    }

pub stands-sealed : (n : ℕ) (was : Open) (before after : List ℕ) → n ≡ was.len + 2 → Over was.len (closing (stage was)) before after
    → (es : List (List ℕ)) → Stands es was before → decoded (take n after) ≡ Ok (joined es)
stands-sealed n was before after e w es s =
    ap decoded (over_front was.len n (closing (stage was)) before after w (front_long es was before s) e
    ∙ ap (λ x. x ++ closing (stage was)) s.wrote ∙ append_assoc opening (written_all fresh es) (closing (stage was)))
    ∙ reads_back es (stage was) s.run

-- what seal answers, from what the close of the symbol did
pub seals_by : (was : Open) (before after : List ℕ) (r : Result ℕ WriterFault) (u : Result ℕ (Open × WriterFault)) (Q : WriterFault → Open × WriterFault → Type 0)
    → ((f : WriterFault) (p : Open × WriterFault) → Q f p → p ≡ (was, f)) → MatchResult r (λ n. u ≡ Ok n) (λ f. IsErrAnd u (Q f))
    → Closes r (stage was) before after → Seals u was before after
seals_by was before after (Ok n) u Q q e d =
    let w = over_two was.len was.sum 106 before after (omega (arith, d.1, d.2)) d.3 in
    rw e (record { is = d.0; wrote = w; stands = stands-sealed n was before after d.1 w })
seals_by was before after (Err f) u Q q e d =
    let p = err_from_is_err_and u e in
    rw (p.1, q f p.0 p.2) (d.0, refl, d.1)
