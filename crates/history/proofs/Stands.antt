-- Values that stand in a card's year: each is what its own writing means.
use Rattle.std.proofs.Common.{◌≡◌, ℕ, ◌<◌, ◌≤◌, true, false, List, length, ap, ◌∙◌, arith}
use Rattle.std.proofs.lemmas.Bool.{and_parts, leb-true, not-false}
use Rattle.forms.specs.Bytes.{allowed, digit, every, pair}
use Rattle.forms.specs.Dates.{full_year}
use Rattle.forms.specs.Kinds.{kind_lawful, kind_meaning}
use Rattle.forms.specs.Values.{Meaning, written, date_means, stamp_means}
use Rattle.forms.specs.Years.{InSpan}
use Rattle.forms.specs.declared.kind.FormKind.{FormKind}
use Rattle.forms.specs.declared.kind.FormKind.TheVariants as form
use Rattle.forms.specs.DateLaws.{date_kept, stamp_kept, century_kept}
use Rattle.forms.proofs.KindLaws.{kind_rewrites}
use Rattle.books.specs.declared.entry.Entry.{Entry}
use Rattle.cards.specs.Tallies.{Held, near, outside}
use Rattle.cards.proofs.Fitting.{Fits, field_fits}

-- in the year y the writing of the value is a lawful field of the form, and means the value
pub record Means (k : FormKind) (y : ℕ) (v : Meaning) : Type 0 where
  pub lawful : kind_lawful k y (written v)
  pub same : kind_meaning k y (written v) ≡ v

-- so it is of an element that is held, and the writing has a length that the entry allows, and the bytes of a text
pub record Stands (y : ℕ) (x : Held) : Type 0 where
  pub means : Means x.entry.form y x.value
  pub text : every allowed (written x.value) ≡ true
  pub least : x.entry.shortest ≤ length (written x.value)
  pub most : length (written x.value) ≤ x.entry.longest

-- what stands is written as its entry allows
pub fit : (y : ℕ) (x : Held) → Stands y x → Fits x
fit y x s = record { text = s.text; least = s.least; most = s.most }

-- A LAWFUL FIELD

-- what a lawful field means stands
pub field_stands : (y : ℕ) (e : Entry) (f : List ℕ) → InSpan y → kind_lawful e.form y f → e.shortest ≤ length f → length f ≤ e.longest → Stands y (record { entry = e; value = kind_meaning e.form y f })
field_stands y e f s l least most =
    let r = kind_rewrites e.form y f s l in
    let g = field_fits y e f s l least most in
    record { means = record { lawful = r.again; same = r.same }; text = g.text; least = g.least; most = g.most }

-- ANOTHER YEAR

-- in another year within whose span the value's date lies
module _ (y u : ℕ) (was : InSpan y) (now : InSpan u) where
  -- two digits that mean a year within the span mean it there too
  century : (f : List ℕ) → 1 < length f → every digit f ≡ true → near u (full_year y (pair f 0)) ≡ true → full_year u (pair f 0) ≡ full_year y (pair f 0)
  century f l d n = let p = and_parts _ _ n in century_kept y u f was now l d (leb-true _ _ p.0) (leb-true _ _ p.1)

  means_turned : (k : FormKind) (v : Meaning) → outside u v ≡ false → Means k y v → Means k u v
  means_turned form.Text v o m = record { lawful = m.lawful; same = m.same }
  means_turned form.Digits v o m = record { lawful = m.lawful; same = m.same }
  means_turned form.Key v o m = record { lawful = m.lawful; same = m.same }
  means_turned form.Date v o m =
      let l = m.lawful in
      let n = l.long in
      let r = date_kept y u (written v) (century (written v) (omega arith) l.all (not-false _ (ap (outside u) m.same ∙ o))) l in
      record { lawful = r.0; same = ap date_means r.1 ∙ m.same }
  means_turned form.Stamp v o m =
      let l = m.lawful in
      let n = l.long in
      let r = stamp_kept y u (written v) (century (written v) (omega arith) l.all (not-false _ (ap (outside u) m.same ∙ o))) l in
      record { lawful = r.0; same = ap stamp_means r.1 ∙ m.same }
  means_turned form.Measure v o m = record { lawful = m.lawful; same = m.same }
  means_turned form.Count v o m = record { lawful = m.lawful; same = m.same }

  pub stands-turned : (x : Held) → outside u x.value ≡ false → Stands y x → Stands u x
  stands-turned x o m =
      record { means = means_turned x.entry.form x.value o m.means; text = m.text; least = m.least; most = m.most }
