-- A card keeps its values when its year is turned: a date that lies in the new year's span stays the day it is.
use Rattle.std.proofs.Common.{◌≡◌, ℕ, ◌+◌, Bool, true, false, not, ◌&&◌, List, [], ◌∷◌, is_some, Some, None, sym, refl, ap, ◌∙◌, ⊎_elim, arith}
use Rattle.std.proofs.lemmas.Bool.{and_parts, and_from, leb-true, not-false, cases_Bool, cond-true, cond-false}
use Rattle.forms.specs.Years.{InSpan}
use Rattle.forms.specs.Values.{Meaning, written, date_means, stamp_means}
use Rattle.forms.specs.Kinds.{kind_lawful, kind_fault, kind_meaning}
use Rattle.forms.specs.declared.kind.FormKind.{FormKind}
use Rattle.forms.specs.declared.kind.FormKind.TheVariants.{Text, Digits, Key, Date, Stamp, Measure, Count}
use Rattle.forms.proofs.KindLaws.{kind_judged}
use Rattle.forms.specs.DateLaws.{date_kept, stamp_kept, century_kept}
use Rattle.cards.specs.Codes.{same_meaning}
use Rattle.cards.specs.Tallies.{Held, outside, first_outside}
use Rattle.cards.specs.Regular.{stands, all_stand, regular}
use Rattle.cards.proofs.Sames.{meaning-itself}
use Rattle.cards.proofs.Standing.{standing}

-- a value stands as one of the form k
abbrev stands_as : FormKind → ℕ → Meaning → Bool
stands_as k y v = not (is_some (kind_fault k y 0 (written v))) && same_meaning (kind_meaning k y (written v)) v

record Kept (k : FormKind) (y : ℕ) (v : Meaning) : Type 0 where
  lawful : kind_lawful k y (written v)
  means : kind_meaning k y (written v) ≡ v

kept-stands : (k : FormKind) (y : ℕ) (v : Meaning) → Kept k y v → stands_as k y v ≡ true
kept-stands k y v c =
    and_from _ _ (ap (λ o. not (is_some o)) ((kind_judged k y 0 (written v)).clean c.lawful)) (meaning-itself _ _ c.means)

module _ (y t : ℕ) (h : InSpan y) (k : InSpan t) where
  kept-turn : (f : FormKind) (v : Meaning) → Kept f y v → outside t v ≡ false → Kept f t v
  kept-turn Text v c o = record { lawful = c.lawful; means = c.means }
  kept-turn Digits v c o = record { lawful = c.lawful; means = c.means }
  kept-turn Key v c o = record { lawful = c.lawful; means = c.means }
  kept-turn Date v c o =
      let l = c.lawful in
      let w = written v in
      let long = l.long in
      let n = and_parts _ _ (not-false _ (ap (outside t) c.means ∙ o)) in
      let same = century_kept y t (written v) h k (omega arith) l.all (leb-true _ _ n.0) (leb-true _ _ n.1) in
      let r = date_kept y t (written v) same l in
      record { lawful = r.0; means = ap date_means r.1 ∙ c.means }
  kept-turn Stamp v c o =
      let l = c.lawful in
      let long = l.long in
      let n = and_parts _ _ (not-false _ (ap (outside t) c.means ∙ o)) in
      let same = century_kept y t (written v) h k (omega arith) l.all (leb-true _ _ n.0) (leb-true _ _ n.1) in
      let r = stamp_kept y t (written v) same l in
      record { lawful = r.0; means = ap stamp_means r.1 ∙ c.means }
  kept-turn Measure v c o = record { lawful = c.lawful; means = c.means }
  kept-turn Count v c o = record { lawful = c.lawful; means = c.means }

  pub turned_stands : (x : Held) → stands y x ≡ true → outside t x.value ≡ false → stands t x ≡ true
  turned_stands x s o =
      let c = standing y x s in
      kept-stands x.entry.form t x.value (kept-turn x.entry.form x.value (record { lawful = c.lawful; means = c.means }) o)

  all-turned : (n : ℕ) (hs : List Held) → all_stand y hs ≡ true → first_outside t n hs ≡ None → all_stand t hs ≡ true
  all-turned n [] a o = refl
  all-turned n (x ∷ xs) a o =
      let m = and_parts _ _ a in
      ⊎_elim
      (λ out. absurd (let z : None ≡ Some n = sym o ∙ cond-true _ _ _ out in grind arith))
      (λ inside. and_from _ _ (turned_stands x m.0 inside) (all-turned (n + 1) xs m.1 (sym (cond-false _ _ _ inside) ∙ o)))
      (cases_Bool (outside t x.value))

  pub regular-turn : (hs : List Held) → regular y hs ≡ true → first_outside t 0 hs ≡ None → regular t hs ≡ true
  regular-turn hs r o = let m = and_parts _ _ r in and_from _ _ m.0 (all-turned 0 hs m.1 o)
