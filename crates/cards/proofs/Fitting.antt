-- Values whose entry takes their writing.
use Rattle.std.proofs.Common.{◌≡◌, ℕ, ◌≤◌, true, T, eqb, leb, List, [], ◌∷◌, map, length, sym, refl, ap, ◌∙◌, arith}
use Rattle.std.proofs.lemmas.Bool.{and_parts, and_from, eqb-true, leb-true, le-leb}
use Rattle.std.proofs.lemmas.List.{length-take-le}
use Rattle.forms.specs.Bytes.{allowed, every}
use Rattle.forms.specs.Kinds.{kind_lawful, kind_meaning}
use Rattle.forms.specs.Values.{written}
use Rattle.forms.specs.Years.{InSpan}
use Rattle.forms.specs.declared.kind.FormKind.{FormKind}
use Rattle.forms.specs.declared.kind.FormKind.TheVariants as form
use Rattle.forms.proofs.KindLaws.{kind_exact, kind_rewrites, kind_lengths}
use Rattle.books.specs.Lawful.{form_allows}
use Rattle.books.specs.declared.entry.Entry.{Entry}
use Rattle.books.proofs.Finds.{holds}
use Rattle.books.proofs.Lengths.{form_kept}
use Rattle.cards.specs.declared.row.Row.{Row}
use Rattle.cards.specs.Rows.{held_in}
use Rattle.cards.specs.Tallies.{Held}
use Rattle.cards.specs.Regular.{fits, all_fit}

-- the writing has a length that the entry allows, and the bytes of a text
pub record Fits (x : Held) : Type 0 where
  pub text : every allowed (written x.value) ≡ true
  pub least : x.entry.shortest ≤ length (written x.value)
  pub most : length (written x.value) ≤ x.entry.longest

pub fitting : (x : Held) → fits x ≡ true → Fits x
fitting x h =
    let p = and_parts _ _ h in
    let q = and_parts _ _ p.0 in
    record { text = p.1; least = leb-true _ _ q.0; most = leb-true _ _ q.1 }

pub fitted : (x : Held) → Fits x → fits x ≡ true
fitted x f = and_from _ _ (and_from _ _ (le-leb _ _ f.least) (le-leb _ _ f.most)) f.text

-- A LAWFUL FIELD

counts_from_one : (d s l : ℕ) → T (form_allows form.Count d s l) → s ≡ 1
counts_from_one d s l t = eqb-true s 1 (and_parts (eqb s 1) (leb l 8) (holds (form_allows form.Count d s l) t)).0

-- the writing is as long as the field, or its form is one that a single byte may be a field of
exact_or_one : (k : FormKind) (d s l n m : ℕ) → T (form_allows k d s l) → (kind_exact k ≡ true → m ≡ n) → s ≤ n → 1 ≤ m → s ≤ m
exact_or_one form.Text d s l n m t e h o = let q = e refl in omega arith
exact_or_one form.Digits d s l n m t e h o = let q = e refl in omega arith
exact_or_one form.Key d s l n m t e h o = let q = e refl in omega arith
exact_or_one form.Date d s l n m t e h o = let q = e refl in omega arith
exact_or_one form.Stamp d s l n m t e h o = let q = e refl in omega arith
exact_or_one form.Measure d s l n m t e h o = let q = e refl in omega arith
exact_or_one form.Count d s l n m t e h o = let q = counts_from_one d s l t in omega arith

-- what a lawful field means is written as its entry allows
pub field_fits : (y : ℕ) (e : Entry) (f : List ℕ) → InSpan y → kind_lawful e.form y f → e.shortest ≤ length f → length f ≤ e.longest
    → Fits (record { entry = e; value = kind_meaning e.form y f })
field_fits y e f s l least most =
    let r = kind_rewrites e.form y f s l in
    let n = kind_lengths e.form y f s l in
    record {
      text = r.text;
      least = exact_or_one e.form e.ident.digits e.shortest e.longest (length f) (length (written (kind_meaning e.form y f))) (form_kept e) n.same least n.some;
      most = (let q = n.short in omega arith);
    }

-- ROWS

-- what a row holds is written as its entry allows
pub row_fits : (r : Row) → Fits (held_in r)
row_fits r =
    let n : length (written (held_in r).value) ≡ r.len = ap length (sym r.wrote) ∙ length-take-le r.len r.text (let a = r.long in let b = r.short in omega arith) in
    record {
      text = ap (every allowed) (sym r.wrote) ∙ r.plain;
      least = (let a = r.least in omega arith);
      most = (let a = r.most in omega arith);
    }

pub rows_fit : (rows : List Row) → all_fit (map held_in rows) ≡ true
rows_fit [] = refl
rows_fit (r ∷ rows) = and_from _ _ (fitted (held_in r) (row_fits r)) (rows_fit rows)
