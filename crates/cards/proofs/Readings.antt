-- Elements that were read, as rows.
use Rattle.std.proofs.Common.{◌≡◌, ℕ, ◌≤◌, true, T, ltb, List, length, take, drop, Some, None, Ok, Err, Option, Result, sym, ap, ◌∙◌, subst, arith, length-append}
use Rattle.std.proofs.lemmas.List.{take_at}
use Rattle.std.proofs.lemmas.Bool.{cond_both}
use Rattle.forms.specs.Years.{InSpan}
use Rattle.forms.specs.Values.{Meaning, told, written}
use Rattle.forms.specs.declared.judge.Reading.{Reading}
use Rattle.books.specs.Entries.{all_lawful, prefix_free}
use Rattle.books.specs.declared.entry.Entry.{Entry}
use Rattle.scans.specs.declared.fault.ScanFault.{ScanFault}
use Rattle.scans.specs.Elements.{Element, front}
use Rattle.scans.specs.Reads as reads
use Rattle.scans.proofs.Spelled.{fronted}
use Rattle.cards.specs.Codes.{same_meaning}
use Rattle.cards.specs.Tallies.{Held, look, ident, crossed, Put, joins, put}
use Rattle.cards.specs.Outcomes.{held_as}
use Rattle.cards.specs.Regular.{stands}
use Rattle.cards.proofs.Standing.{field_stands}
use Rattle.cards.proofs.Fitting.{Fits, field_fits}

-- what was read has its writing in front
pub record Beside (r : Reading) (xs : List ℕ) : Type 0 where
  pub short : r.len ≤ 30
  pub wrote : take r.len xs ≡ written (told r.value xs)

pub read_beside : (m : Meaning) (before after : List ℕ) (r : Reading) → length after ≡ 30 → reads.Held m before after r → Beside r after
read_beside m before after r l h =
    record {
      short = (let a = ap length h.wrote ∙ length-append (written m) (drop r.len before) in let b = h.long in omega arith);
      wrote = ap (take r.len) h.wrote ∙ take_at (written m) (drop r.len before) r.len (sym h.long) ∙ ap written (sym h.value);
    }

-- an element that was read stands in its year
pub read_stands : (es : List Entry) → T (all_lawful es) → T (prefix_free es) → (y p : ℕ) (s : List ℕ) (x : Element) (t : ℕ) → InSpan y → front es y p s ≡ Ok (record { element = x; taken = t }) → stands y (held_as y x) ≡ true
read_stands es all free y p s x t h e = field_stands x.entry y x.field h (fronted es all free y s p (record { element = x; taken = t }) e).lawful

-- and is written as its entry allows
pub read_fits : (es : List Entry) → T (all_lawful es) → T (prefix_free es) → (y p : ℕ) (s : List ℕ) (x : Element) (t : ℕ) → InSpan y → front es y p s ≡ Ok (record { element = x; taken = t }) → Fits (held_as y x)
read_fits es all free y p s x t h e =
    let g = fronted es all free y s p (record { element = x; taken = t }) e in
    field_fits y x.entry x.field h g.lawful g.known.least g.known.most

-- an element brings at most one ident
abbrev One : Result Put ScanFault → Type 0
One (Ok q) = q.new ≤ 1
One (Err e) = Unit {0}

joins-one : (o : Option Meaning) (p : ℕ) (hs : List Held) (x : Held) → One (joins o p hs x)
joins-one (Some w) p hs x = cond_both (same_meaning x.value w) _ _ One (λ _. omega arith) (λ _. tt)
joins-one None p hs x = cond_both (ltb (length hs) 32) _ _ One (λ _. omega arith) (λ _. tt)

put_one : (p : ℕ) (hs : List Held) (x : Held) → One (put p hs x)
unfolding put
put_one p hs x = cond_both (crossed x.entry hs) _ _ One (λ _. tt) (λ _. joins-one (look (ident x) hs) p hs x)

pub put-few : (p : ℕ) (hs : List Held) (x : Held) (n : ℕ) (gs : List Held) → put p hs x ≡ Ok (record { new = n; held = gs }) → n ≤ 1
put-few p hs x n gs e = subst One e (put_one p hs x)
