-- The symbol of a run is written with no refusal.
use Rattle.std.proofs.Common.{◌≡◌, ℕ, zero, suc, ◌+◌, ◌≤◌, Bool, true, false, cond, ltb, List, [], ◌∷◌, ◌++◌, map, length, take, drop, Ok, Err, Result, sym, refl, ap, ◌∙◌, subst, ⊎_elim, append_assoc, arith, length-append}
use Rattle.std.proofs.lemmas.List.{length-take-le}
use Rattle.std.proofs.lemmas.Bool.{and_parts, and_from, cond-false, le-ltb}
use Rattle.books.specs.Entries.{In}
use Rattle.symbols.specs.Encoding.{values, separated, joined_after}
use Rattle.symbols.specs.Writing.{Stage, stage, Over, opening, fresh, written, grown, next, within_room, adding, closing, sealing, written_all, Stands}
use Rattle.symbols.specs.declared.state.Open.{Open}
use Rattle.symbols.specs.declared.fault.AddFault.{AddFault}
use Rattle.symbols.specs.declared.fault.WriterFault.{WriterFault}
use Rattle.symbols.proofs.Aheads.{values-few}
use Rattle.symbols.proofs.Overs.{over_front}
use Rattle.symbols.proofs.Runs.{sep_long}
use Rattle.cards.specs.declared.row.Row.{Row}
use Rattle.cards.specs.Rows.{held_in}
use Rattle.cards.specs.Tallies.{Held}
use Rattle.cards.specs.Regular.{fits, all_fit}
use Rattle.cards.specs.Strings.{piece, spelled, reached, symbol_of}
use Rattle.cards.proofs.Fitting.{Fits, fitting}
use Rattle.cards.proofs.Pieces.{spelled-joined, piece-taken, run-taken}

-- ELEMENTS THAT FIT

pub fit_drop : (n : ℕ) (rows : List Row) → all_fit (map held_in rows) ≡ true → all_fit (map held_in (drop n rows)) ≡ true
fit_drop zero rows a = a
fit_drop (suc n) [] a = a
fit_drop (suc n) (r ∷ rows) a = fit_drop n rows (and_parts (fits (held_in r)) _ a).1

pub fit_take : (n : ℕ) (rows : List Row) → all_fit (map held_in rows) ≡ true → all_fit (map held_in (take n rows)) ≡ true
fit_take zero rows a = refl
fit_take (suc n) [] a = a
fit_take (suc n) (r ∷ rows) a = let p = and_parts (fits (held_in r)) _ a in and_from _ _ p.0 (fit_take n rows p.1)

fit_in : (hs : List Held) → all_fit hs ≡ true → (x : Held) → In x hs → Fits x
fit_in [] a x i = absurd i
fit_in (z ∷ zs) a x i = let p = and_parts (fits z) (all_fit zs) a in ⊎_elim (λ e. subst Fits (sym e) (fitting z p.0)) (fit_in zs p.1 x) i

-- ONE SYMBOL

same_ok : {F : Type 0} (s t : Stage) → ◌≡◌ {A = Result Stage F} (Ok s) (Ok t) → s ≡ t
same_ok s t e = cc

-- the elements es are still to be added to a symbol
abbrev pub Room : Open → List (List ℕ) → Type 0
Room o es = o.bytes + length (joined_after o.pending es) ≤ 48

pub begun_room : (o : Open) (buf : List ℕ) (hs : List Held) → Stands [] o buf → length (spelled hs) ≤ 48 → Room o (map piece hs)
begun_room o buf hs s l =
    subst (λ (t : Stage). t.bytes + length (joined_after t.pending (map piece hs)) ≤ 48) (same_ok fresh (stage o) s.run)
    (let e = ap length (spelled-joined hs) in omega arith)

gap-long : (p : Bool) (vs : List ℕ) → length (cond p (102 ∷ []) [] ++ vs) ≡ cond p 1 0 + length vs
gap-long true vs = let z : length (102 ∷ vs) ≡ 1 + length vs = omega arith in z
gap-long false vs = let z : length vs ≡ 0 + length vs = omega arith in z

module _ (o : Open) (x : Held) (es : List (List ℕ)) (f : Fits x) (room : Room o (piece x ∷ es)) where
  grows : grown (stage o) (piece x) + length (joined_after (separated (piece x)) es) ≤ 48
  grows =
      let a = sep_long o.pending (piece x ++ joined_after (separated (piece x)) es) in
      let b = length-append (piece x) (joined_after (separated (piece x)) es) in
      omega (arith, a, b, room)

  pub adds : (n : ℕ) → n ≡ 100 → adding (stage o) (piece x) n ≡ Ok (next (stage o) (piece x))
  adds n e =
      let long = gap-long o.pending (values o.set (piece x)) in
      let few = values-few o.set (piece x) in
      ap (within_room n) (piece-taken x (stage o) f (omega (arith, grows)))
      ∙ cond-false (ltb n (o.len + length (written (stage o) (piece x)))) _ _ (le-ltb n _ (omega (arith, long, few, grows, o.few, e)))

  -- it is never refused
  pub never : (n : ℕ) (e : List ℕ) (g : AddFault) → n ≡ 100 → e ≡ piece x → adding (stage o) e n ≡ Err g → ⊥
  never n e g h is r =
      let w : ◌≡◌ {A = Result Stage AddFault} (Ok (next (stage o) (piece x))) (Err g) = sym (adds n h) ∙ ap (λ b. adding (stage o) b n) (sym is) ∙ r in
      let z : ◌≡◌ {A = ℕ} 0 1 = cc in
      absurd (omega arith)

  pub room_on : (n : ℕ) (e : List ℕ) (o' : Open) → n ≡ 100 → e ≡ piece x → adding (stage o) e n ≡ Ok (stage o') → Room o' es
  room_on n e o' h is r =
      subst (λ (t : Stage). t.bytes + length (joined_after t.pending es) ≤ 48)
      (same_ok (next (stage o) (piece x)) (stage o') (sym (adds n h) ∙ ap (λ b. adding (stage o) b n) (sym is) ∙ r)) grows

-- the whole symbol
pub record Whole (hs : List Held) (n : ℕ) (after : List ℕ) : Type 0 where
  pub within : n ≤ 100
  pub wrote : take n after ≡ symbol_of hs

same_count : (m n : ℕ) → ◌≡◌ {A = Result ℕ WriterFault} (Ok m) (Ok n) → n ≡ m
same_count m n e = cc

pub sealed : (hs : List Held) (o : Open) (n : ℕ) (before after : List ℕ) → all_fit hs ≡ true → length (spelled hs) ≤ 48 → length before ≡ 100
    → Stands (map piece hs) o before → sealing (stage o) (length before) ≡ Ok n → Over o.len (closing (stage o)) before after → Whole hs n after
sealed hs o n before after fit short long s is over =
    let few = o.few in
    let most = o.short in
    let count : n ≡ o.len + 2 =
    same_count (o.len + 2) n (sym (cond-false (ltb (length before) (o.len + 2)) _ _ (le-ltb (length before) (o.len + 2) (omega (arith, few, most, long)))) ∙ is) in
    let joint = ap length (spelled-joined hs) in
    let ran : stage o ≡ reached fresh (map piece hs) = same_ok (stage o) (reached fresh (map piece hs)) (sym s.run ∙ run-taken fresh hs (fit_in hs fit) (omega (arith, joint, short))) in
    record {
      within = omega (arith, count, few, most);
      wrote =
          over_front o.len n (closing (stage o)) before after over (length-take-le o.len before (omega (arith, few, most, long))) count
          ∙ ap (λ b. b ++ closing (stage o)) s.wrote
          ∙ append_assoc opening (written_all fresh (map piece hs)) (closing (stage o))
          ∙ ap (λ t. opening ++ (written_all fresh (map piece hs) ++ closing t)) ran;
    }
