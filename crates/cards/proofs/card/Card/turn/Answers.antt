use Rattle.std.proofs.Common.{◌≡◌, ℕ, ◌≤◌, Ok, Option, sym, refl, ap, ◌∙◌}
use Rattle.std.proofs.lemmas.Bool.{cond-true, and_from, le-leb}
use Rattle.cards.specs.Rows.{first_held}
use Rattle.cards.specs.Cards.{tally}
use Rattle.cards.specs.Tallies.{Tally, first_outside}
use Rattle.cards.specs.Outcomes.{turn_unless, turn_outcome}
use Rattle.cards.proofs.Finds.{outside_in}
use Rattle.cards.proofs.Puts.{all_true, true_all}
use Rattle.cards.proofs.Turns.{regular-turn}
use Rattle.cards.proofs.card.Card.turn.Goals as goal

pub invariant_of-self : goal.invariant_of-self
invariant_of-self c =
    let s = c.args.self.now in
    let t = c.in-Some.year in
    let none = sym (outside_in s.len s.rows _ c.held.ensures t.number _ c.in_default-first_outside.ensures) in
    record { long = s.long; within = s.within; kept = true_all _ (regular-turn s.year.number t.number (s.year.first, s.year.last) (t.first, t.last) (first_held s.len s.rows) (all_true _ s.kept) none) }

-- the outcome in a year that is one, by what lies outside its span
turned : (t : Tally) (y z : ℕ) → (2000 ≤ z) × (z ≤ 2199) → y ≡ z → (o : Option ℕ) → o ≡ first_outside y 0 t.held → turn_outcome t z ≡ turn_unless o t z
turned t y z span same o is =
    cond-true _ _ _ (and_from _ _ (le-leb 2000 z span.0) (le-leb z 2199 span.1)) ∙ ap (λ p. turn_unless p t z) (sym (is ∙ ap (λ x. first_outside x 0 t.held) same))

pub returns-in-Some-first_outside : goal.returns-in-Some-first_outside
returns-in-Some-first_outside c =
    let s = c.args.self.now in
    let out = outside_in s.len s.rows _ c.held.ensures c.in-Some.year.number _ c.in-Some-first_outside.ensures in
    (turned (tally s) c.in-Some.year.number c.args.number c.in-Some.ensures.0 c.in-Some.ensures.1 _ out, refl)

pub returns : goal.returns
returns c =
    let s = c.args.self.now in
    let none = outside_in s.len s.rows _ c.held.ensures c.in-Some.year.number _ c.in_default-first_outside.ensures in
    turned (tally s) c.in-Some.year.number c.args.number c.in-Some.ensures.0 c.in-Some.ensures.1 _ none ∙ ap (λ y. Ok (record { year = y; held = (tally s).held })) (sym c.in-Some.ensures.1)
