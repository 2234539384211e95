-- Values that are lawful in a year.
use Rattle.std.proofs.Common.{◌≡◌, ℕ, true, not, List, is_some, Some, None, Option, sym, refl, ap, ◌∙◌, arith}
use Rattle.std.proofs.lemmas.Bool.{and_parts, and_from}
use Rattle.forms.specs.Years.{InSpan}
use Rattle.forms.specs.Values.{written}
use Rattle.forms.specs.Kinds.{kind_lawful, kind_meaning}
use Rattle.forms.specs.declared.fault.FieldFault.{FieldFault}
use Rattle.forms.proofs.KindLaws.{kind_judged, kind_rewrites}
use Rattle.books.specs.declared.entry.Entry.{Entry}
use Rattle.cards.specs.Tallies.{Held}
use Rattle.cards.specs.Regular.{stands}
use Rattle.cards.proofs.Sames.{meaning-same, meaning-itself}

none_some : (o : Option FieldFault) → not (is_some o) ≡ true → o ≡ None
none_some None h = refl
none_some (Some f) h = absurd (let z : ◌≡◌ {A = ℕ} 0 1 = cc in omega arith)

-- what a lawful field means stands in its year
pub field_stands : (e : Entry) (y : ℕ) (f : List ℕ) → InSpan y → kind_lawful e.form y f → stands y (record { entry = e; value = kind_meaning e.form y f }) ≡ true
field_stands e y f s l =
    let r = kind_rewrites e.form y f s l in
    and_from _ _ (ap (λ o. not (is_some o)) ((kind_judged e.form y 0 (written (kind_meaning e.form y f))).clean r.again)) (meaning-itself _ _ r.same)

-- what stands in a year is the meaning of its writing there, and that is lawful
pub record Standing (y : ℕ) (x : Held) : Type 0 where
  pub lawful : kind_lawful x.entry.form y (written x.value)
  pub means : kind_meaning x.entry.form y (written x.value) ≡ x.value

pub standing : (y : ℕ) (x : Held) → stands y x ≡ true → Standing y x
standing y x h =
    let p = and_parts _ _ h in
    record {
      lawful = (kind_judged x.entry.form y 0 (written x.value)).stands (none_some _ p.0);
      means = meaning-same _ _ p.1;
    }

-- values of one form that stand in one year are equal where their writings are
pub same_written : (y : ℕ) (x z : Held) → stands y x ≡ true → stands y z ≡ true → x.entry ≡ z.entry → written x.value ≡ written z.value → x.value ≡ z.value
same_written y x z s t e w =
    sym (standing y x s).means ∙ ap (λ d. kind_meaning d.form y (written x.value)) e ∙ ap (kind_meaning z.entry.form y) w ∙ (standing y z t).means
