-- Idents and entries that say the same are equal: what a type adds to them, that they are lawful, has one proof.
use Rattle.std.proofs.Common.{◌≡◌, ◌^◌, ◌<◌, ◌≤◌, Bool, true, false, cond, ◌&&◌, T, eqb, Decides, refl, ap}
use mathlib.Core.HLevel.{is_prop→PathP}
use native.Mathlib.Bridge.{le_prop}
use lib.Dec.{T_prop}
use Rattle.std.proofs.lemmas.Bool.{false≢true}
use Rattle.std.proofs.lemmas.Bool.Decides.{Decides-eqb, Decides-and, Decides-like}
use Rattle.books.specs.declared.entry.Entry.{Entry}
use Rattle.books.specs.declared.ident.Ident.{Ident}
use denote.Enum.Bare.{same_true, true_same, sameb}
use Rattle.forms.specs.contracts.kind.FormKind.{the_type}
use Rattle.books.specs.Lawful.{lawful}

pub same_ident : (i j : Ident) → i.digits ≡ j.digits → i.number ≡ j.number → i ≡ j
same_ident i j p q = λ k. record {
  digits = p k;
  number = q k;
  least = is_prop→PathP (λ k. 2 ≤ p k) (λ k. le_prop) i.least j.least k;
  most = is_prop→PathP (λ k. p k ≤ 4) (λ k. le_prop) i.most j.most k;
  fits = is_prop→PathP (λ k. q k < 10 ^ p k) (λ k. le_prop) i.fits j.fits k;
}

pub same_entry_lem : (d e : Entry) → d.ident ≡ e.ident → d.form ≡ e.form → d.shortest ≡ e.shortest → d.longest ≡ e.longest → d ≡ e
same_entry_lem d e i f s l = λ k. record {
  ident = i k;
  form = f k;
  shortest = s k;
  longest = l k;
  least = is_prop→PathP (λ k. 1 ≤ s k) (λ k. le_prop) d.least e.least k;
  ordered = is_prop→PathP (λ k. s k ≤ l k) (λ k. le_prop) d.ordered e.ordered k;
  most = is_prop→PathP (λ k. l k ≤ 30) (λ k. le_prop) d.most e.most k;
  ok =
      is_prop→PathP (λ k. T (lawful (i k).digits (i k).number (f k) (s k) (l k))) (λ k. T_prop (lawful (i k).digits (i k).number (f k) (s k) (l k)))
      d.ok e.ok k;
}

pub idents_decided : (i j : Ident) → Decides (eqb i.digits j.digits && eqb i.number j.number) (i ≡ j)
idents_decided i j =
    Decides-like (eqb i.digits j.digits && eqb i.number j.number) (λ p. same_ident i j p.0 p.1) (λ e. (ap (λ k. k.digits) e, ap (λ k. k.number) e))
    (Decides-and (eqb i.digits j.digits) (eqb i.number j.number) (Decides-eqb i.digits j.digits) (Decides-eqb i.number j.number))

-- a test by cases
pub decided : {X : Type 0} (r : Bool) (x y : X) → cond r (x ≡ y) (x ≡ y → ⊥) → Decides r (x ≡ y)
decided true x y h = (λ _. h, λ _. refl)
decided false x y h = (λ t. absurd (false≢true t), λ e. absurd (h e))

pub entries_decided : (d e : Entry) (a b : Bool) → Decides a (d.ident ≡ e.ident) → Decides b (d.form ≡ e.form)
    → Decides (((a && b) && eqb d.shortest e.shortest) && eqb d.longest e.longest) (d ≡ e)
entries_decided d e a b p q =
    let s = eqb d.shortest e.shortest in
    let l = eqb d.longest e.longest in
    Decides-like (((a && b) && s) && l) (λ h. same_entry_lem d e h.0.0.0 h.0.0.1 h.0.1 h.1)
    (λ h. (((ap (λ x. x.ident) h, ap (λ x. x.form) h), ap (λ x. x.shortest) h), ap (λ x. x.longest) h))
    (Decides-and ((a && b) && s) l (Decides-and (a && b) s (Decides-and a b p q) (Decides-eqb d.shortest e.shortest)) (Decides-eqb d.longest e.longest))

-- the test of entries, part by part, decides whether they are one
pub entries_alike : (d e : Entry)
    → Decides ((((eqb d.ident.digits e.ident.digits && eqb d.ident.number e.ident.number) && sameb the_type d.form e.form) && eqb d.shortest e.shortest) && eqb d.longest e.longest) (d ≡ e)
entries_alike d e = entries_decided d e _ _ (idents_decided d.ident e.ident) (same_true the_type tt d.form e.form, true_same the_type d.form e.form)
