-- How the rows of a card are cut into the runs of its symbols.
use Rattle.std.proofs.Common.{◌≡◌, ℕ, suc, ◌+◌, ◌*◌, ◌<◌, ◌≤◌, Bool, true, false, cond, not, leb, List, [], ◌∷◌, ◌++◌, map, length, get_or, take, drop, sym, refl, ap, ◌∙◌, arith, length-append}
use Rattle.std.proofs.lemmas.List.{map_more, at_drop_all}
use Rattle.std.proofs.lemmas.Bool.{cond-true, cond-false, cond_both, le-leb, lt-leb}
use Rattle.symbols.proofs.Runs.{sep_long}
use Rattle.books.specs.Texts.{predefined}
use Rattle.cards.specs.declared.row.Row.{Row}
use Rattle.cards.specs.Rows.{held_in}
use Rattle.cards.specs.Tallies.{Held, ident}
use Rattle.cards.specs.Strings.{piece, spelled, spelled_after, fill, runs}
use Rattle.cards.proofs.Spells.{spelled-after, piece-long}
use Rattle.cards.proofs.Steps.{row_step}

-- whether a separator is due before what follows elements
abbrev pub pending_after : Bool → List Held → Bool
pending_after p [] = p
pending_after p (x ∷ xs) = pending_after (not (predefined (ident x))) xs

pending_more : (p : Bool) (xs : List Held) (x : Held) → pending_after p (xs ++ x ∷ []) ≡ not (predefined (ident x))
pending_more p [] x = refl
pending_more p (z ∷ zs) x = pending_more (not (predefined (ident z))) zs x

-- the bytes of one element more
after_more : (p : Bool) (xs : List Held) (x : Held) → length (spelled_after p (xs ++ x ∷ [])) ≡ length (spelled_after p xs) + (cond (pending_after p xs) 1 0 + length (piece x))
after_more p [] x = let a = sep_long p (piece x ++ []) in let b = length-append (piece x) [] in omega arith
after_more p (z ∷ zs) x =
    let a = sep_long p (piece z ++ spelled_after (not (predefined (ident z))) (zs ++ x ∷ [])) in
    let b = length-append (piece z) (spelled_after (not (predefined (ident z))) (zs ++ x ∷ [])) in
    let c = sep_long p (piece z ++ spelled_after (not (predefined (ident z))) zs) in
    let d = length-append (piece z) (spelled_after (not (predefined (ident z))) zs) in
    let e = after_more (not (predefined (ident z))) zs x in
    omega arith

spelled-more : (xs : List Held) (x : Held) → length (spelled (xs ++ x ∷ [])) ≡ length (spelled xs) + (cond (pending_after false xs) 1 0 + length (piece x))
spelled-more xs x =
    ap length (sym (spelled-after (xs ++ x ∷ []))) ∙ after_more false xs x ∙ ap (λ l. length l + (cond (pending_after false xs) 1 0 + length (piece x))) (spelled-after xs)

-- an element has at most 34 bytes
pub piece-short : (r : Row) → length (piece (held_in r)) ≤ 34
piece-short r = let l = (piece-long r).0 in let a = r.entry.ident.most in let b = r.short in omega arith

at_most_one : (b : Bool) → cond b 1 0 ≤ 1
at_most_one true = omega arith
at_most_one false = omega arith

-- FILLING A SYMBOL

-- after i rows the symbol has `size` bytes, and `due` more before the next element
pub record Filling (rows : List Row) (i size due : ℕ) : Type 0 where
  pub bytes : size ≡ length (spelled (map held_in (take i rows)))
  pub pending : due ≡ cond (pending_after false (map held_in (take i rows))) 1 0
  pub few : size ≤ 48
  pub one : due ≤ 1
  pub near : size + due ≤ 35 * i
  pub left : fill (map held_in (take i rows)) (map held_in (drop i rows)) ≡ runs (map held_in rows)

-- the first symbol has the first r rows
pub record Filled (rows : List Row) (r : ℕ) : Type 0 where
  pub some : 0 < r
  pub within : r ≤ length rows
  pub short : length (spelled (map held_in (take r rows))) ≤ 48
  pub cut : runs (map held_in rows) ≡ map held_in (take r rows) ∷ runs (map held_in (drop r rows))

pub fill-starts : (rows : List Row) → 0 < length rows → Filling rows 0 0 0
fill-starts [] h = absurd (omega arith)
fill-starts (r ∷ rows) h =
    record {
      bytes = refl;
      pending = refl;
      few = omega arith;
      one = omega arith;
      near = omega arith;
      left =
          cond-true (leb (length (spelled (held_in r ∷ []))) 48) _ _
          (le-leb _ 48 (let a = length-append (piece (held_in r)) [] in let b = piece-short r in omega arith));
    }

module _ (rows : List Row) (i size due with : ℕ) (f : Filling rows i size due) (r : Row) (below : i < length rows) (at : r ≡ get_or rows i r) (sum : with ≡ size + (due + length (piece (held_in r)))) where
  -- one row more
  more : map held_in (take (i + 1) rows) ≡ map held_in (take i rows) ++ held_in r ∷ []
  more = map_more held_in rows i r below ∙ ap (λ z. map held_in (take i rows) ++ held_in z ∷ []) (sym at)

  with_is : with ≡ length (spelled (map held_in (take i rows) ++ held_in r ∷ []))
  with_is =
      let a = spelled-more (map held_in (take i rows)) (held_in r) in
      let b = f.bytes in
      let c = f.pending in
      omega (arith, a, b, c, sum)

  step : fill (map held_in (take i rows)) (map held_in (drop i rows)) ≡ fill (map held_in (take i rows)) (held_in r ∷ map held_in (drop (i + 1) rows))
  step = row_step (λ rs. fill (map held_in (take i rows)) (map held_in rs)) rows i r below at

  -- the row joins the symbol
  pub fill_on : (due' : ℕ) → with ≤ 48 → due' ≡ cond (not (predefined (ident (held_in r)))) 1 0 → Filling rows (i + 1) with due'
  fill_on due' l e =
      record {
        bytes = with_is ∙ ap (λ hs. length (spelled hs)) (sym more);
        pending = e ∙ ap (λ b. cond b 1 0) (sym (ap (pending_after false) more ∙ pending_more false (map held_in (take i rows)) (held_in r)));
        few = l;
        one = (let d = at_most_one (not (predefined (ident (held_in r)))) in omega (arith, d, e));
        near = (let n = f.near in let p = piece-short r in let d = at_most_one (not (predefined (ident (held_in r)))) in omega (arith, n, p, d, e, sum));
        left =
            ap (λ hs. fill hs (map held_in (drop (i + 1) rows))) more
            ∙ sym (cond-true (leb (length (spelled (map held_in (take i rows) ++ held_in r ∷ []))) 48) _ _ (le-leb _ 48 (omega (arith, with_is, l))))
            ∙ sym step ∙ f.left;
      }

  -- the row begins the next
  pub fill_stops : 48 < with → Filled rows i
  fill_stops g =
      record {
        some = (let n = f.near in let p = piece-short r in omega (arith, n, p, sum, g));
        within = omega (arith, below);
        short = (let n = f.few in let b = f.bytes in omega (arith, n, b));
        cut =
            sym f.left ∙ step ∙ cond-false (leb (length (spelled (map held_in (take i rows) ++ held_in r ∷ []))) 48) _ _ (lt-leb _ 48 (omega (arith, with_is, g)))
            ∙ ap (λ l. map held_in (take i rows) ∷ l) (sym (row_step (λ rs. runs (map held_in rs)) rows i r below at));
      }

-- no row is left
pub fill-ends : (rows : List Row) (i size due : ℕ) → Filling rows i size due → i ≡ length rows → 0 < length rows → Filled rows i
fill-ends rows i size due f e h =
    record {
      some = omega (arith, e, h);
      within = omega (arith, e);
      short = (let n = f.few in let b = f.bytes in omega (arith, n, b));
      cut =
          sym f.left
          ∙ at_drop_all (λ rs. fill (map held_in (take i rows)) (map held_in rs)) rows i (omega (arith, e))
          ∙ ap (λ l. map held_in (take i rows) ∷ l) (sym (at_drop_all (λ rs. runs (map held_in rs)) rows i (omega (arith, e))));
    }

-- GOING OVER SYMBOLS

-- after `skipped` symbols the row at the place `from` is the next
pub record Skipping (rows : List Row) (skipped from : ℕ) : Type 0 where
  pub each : skipped ≤ from
  pub within : from ≤ length rows
  pub counted : skipped ≤ length (runs (map held_in rows))
  pub rest : runs (map held_in (drop from rows)) ≡ drop skipped (runs (map held_in rows))

-- a row is left: it begins the next symbol, which has r rows
pub record Next (rows : List Row) (skipped from r : ℕ) : Type 0 where
  pub below : skipped < length (runs (map held_in rows))
  pub is : get_or (runs (map held_in rows)) skipped [] ≡ map held_in (take r (drop from rows))

-- there are not more symbols than elements
fill_few : (run xs : List Held) → length (fill run xs) ≤ 1 + length xs
fill_few run [] = omega arith
fill_few run (x ∷ xs) =
    let b = leb (length (spelled (run ++ x ∷ []))) 48 in
    cond_both b (fill (run ++ x ∷ []) xs) (run ∷ fill (x ∷ []) xs) (λ (ys : List (List Held)). length ys ≤ 1 + suc (length xs)) (λ h. let a = fill_few (run ++ x ∷ []) xs in omega arith) (λ h. let a = fill_few (x ∷ []) xs in omega arith)

pub runs_few : (hs : List Held) → length (runs hs) ≤ length hs
runs_few [] = omega arith
runs_few (x ∷ xs) = let a = fill_few (x ∷ []) xs in omega arith
