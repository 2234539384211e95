use Rattle.std.proofs.Common.{◌≡◌, ◌+◌, drop, Some, Ok, sym, ap, ◌∙◌, subst, arith}
use Rattle.std.proofs.lemmas.Result.{err_from_is_err_and}
use Rattle.forms.specs.Bytes.{allowed, every}
use Rattle.forms.specs.Values.{Meaning, told, written}
use Rattle.books.specs.declared.entry.Entry.{Entry}
use Rattle.scans.specs.Reads.{Reads, meaning}
use Rattle.cards.specs.declared.row.Row.{Row}
use Rattle.cards.specs.Rows.{held_in}
use Rattle.cards.specs.Cards.{held_by, tally}
use Rattle.cards.specs.Tallies.{Held, put}
use Rattle.cards.specs.Outcomes.{held_as, scan_outcome}
use Rattle.cards.specs.Regular.{stands}
use Rattle.cards.proofs.Readings.{Beside, read_beside, read_stands, read_fits, put-few}
use Rattle.cards.proofs.Walks.{Left, left_more, left_fault, left_refused, left_none}
use Rattle.cards.proofs.card.Card.put_all.Given.{Over}
use Rattle.cards.proofs.card.Card.put_all.Goals as goal
use Rattle.cards.proofs.card.Card.put_all.Goals.{In-Some}

held_same : (d e : Entry) (v w : Meaning) → d ≡ e → v ≡ w → ◌≡◌ {A = Held} (record { entry = d; value = v }) (record { entry = e; value = w })
held_same d e v w p q = let f : Entry → Held = λ z. record { entry = z; value = v } in let h : Meaning → Held = λ z. record { entry = e; value = z } in ap f p ∙ ap h q

-- what was read at the place
seen : (g : Over) (c : In-Some g) → Reads (g.B.Book.entries c.args.book.now) c.args.self.now.year.number c.loop-element.at c.args.scan.now c.loop-element.text c.next_element.new.out (Ok (Some c.in-Some.element))
seen g c =
    subst (λ o. Reads (g.B.Book.entries c.args.book.now) c.args.self.now.year.number c.loop-element.at c.args.scan.now c.loop-element.text c.next_element.new.out (Ok o)) c.in-Some.is c.in_ok-element.ensures

beside : (g : Over) (c : In-Some g) → Beside c.in-Some.element.reading c.next_element.new.out
beside g c = read_beside (meaning c.args.self.now.year.number (seen g c).3.0) c.loop-element.text c.next_element.new.out c.in-Some.element.reading c.next_element.array_long (seen g c).3.5

-- the row is the element that was read
row_is : (g : Over) (c : In-Some g) (r : Row) → held_in r ≡ record { entry = c.in-Some.element.entry; value = told c.in-Some.element.reading.value c.next_element.new.out } → held_in r ≡ held_as c.args.self.now.year.number (seen g c).3.0
row_is g c r e = e ∙ held_same _ _ _ _ (seen g c).3.4 (seen g c).3.5.value

pub returns-in_err-element : goal.returns-in_err-element
returns-in_err-element g c =
    let q = err_from_is_err_and c.from_residual.result c.from_residual.ensures.1 in
    let was = c.in_err-element.ensures in
    rw (q.1, q.2) (left_fault (g.B.Book.entries c.args.book.now) c.args.self.now.year.number c.args.scan.now c.loop-element.at c.loop-element.new (held_by c.loop-element.self) _ c.loop-element.invariant.4 _ was.0 was.1)

pub row_of-requires : goal.row_of-requires
row_of-requires g c =
    let d = (goal.at.row_of-requires g c).In-Some in
    let b = beside g d in
    let w = seen g d in
    let f = read_fits (g.B.Book.entries c.args.book.now) (g.B.Book.lawful c.args.book.now) (g.B.Book.apart c.args.book.now) c.args.self.now.year.number c.loop-element.at (drop c.loop-element.at c.args.scan.now) w.3.0 w.3.1 (c.args.self.now.year.first, c.args.self.now.year.last) w.3.2 in
    let few : c.in-Some.element.entry.shortest ≡ w.3.0.entry.shortest = ap (λ z. z.shortest) w.3.4 in
    let many : c.in-Some.element.entry.longest ≡ w.3.0.entry.longest = ap (λ z. z.longest) w.3.4 in
    let long = w.3.5.long in
    record {
      short = b.short;
      long = c.next_element.array_long;
      wrote = b.wrote;
      least = omega (arith, f.least);
      most = omega (arith, f.most);
      plain = ap (every allowed) (b.wrote ∙ ap written w.3.5.value) ∙ f.text;
    }

pub put-requires : goal.put-requires
put-requires g c =
    let d = (goal.at.put-requires g c).In-Some in
    let w = seen g d in
    let st = read_stands (g.B.Book.entries c.args.book.now) (g.B.Book.lawful c.args.book.now) (g.B.Book.apart c.args.book.now) c.args.self.now.year.number c.loop-element.at (drop c.loop-element.at c.args.scan.now) w.3.0 w.3.1 (c.args.self.now.year.first, c.args.self.now.year.last) w.3.2 in
    ap (λ z. stands z.number (held_in c.row_of.result)) c.loop-element.invariant.3 ∙ ap (stands c.args.self.now.year.number) (row_is g d c.row_of.result c.row_of.ensures) ∙ st

pub returns-in_err-new : goal.returns-in_err-new
returns-in_err-new g c =
    let q = err_from_is_err_and c.from_residual-in_err-new.result c.from_residual-in_err-new.ensures.1 in
    let d = (goal.at.returns-in_err-new g c).In-Some in
    let w = seen g d in
    let was = ap (put c.loop-element.at (held_by c.loop-element.self)) (sym (row_is g d c.row_of.result c.row_of.ensures)) ∙ c.in_err-new.ensures.is.0 in
    rw (q.1, q.2) (left_refused (g.B.Book.entries c.args.book.now) c.args.self.now.year.number c.args.scan.now c.loop-element.at c.loop-element.new (held_by c.loop-element.self) _ c.loop-element.invariant.4 w.3.0 w.3.1 _ w.0 w.3.2 was)

pub overflow_add-new : goal.overflow_add-new
overflow_add-new g c =
    let few = put-few c.loop-element.at (held_by c.loop-element.self) (held_in c.row_of.result) c.in_ok-new.field-0 (held_by c.put.new.self) c.in_ok-new.ensures.is.0 in
    omega (arith, few, c.loop-element.invariant.0, c.loop-element.invariant.1)

pub loop-element-preserved : goal.loop-element-preserved
loop-element-preserved g c =
    let d = (goal.at.loop-element-preserved g c).In-Some in
    let w = seen g d in
    let inv = c.loop-element.invariant in
    let few = put-few c.loop-element.at (held_by c.loop-element.self) (held_in c.row_of.result) c.in_ok-new.field-0 (held_by c.put.new.self) c.in_ok-new.ensures.is.0 in
    let was = ap (put c.loop-element.at (held_by c.loop-element.self)) (sym (row_is g d c.row_of.result c.row_of.ensures)) ∙ c.in_ok-new.ensures.is.0 in (
      omega (arith, few, inv.0, w.1),
      w.2,
      c.next_element.array_long,
      c.put.ensures.year ∙ inv.3,
      subst (λ at. Left (g.B.Book.entries c.args.book.now) c.args.self.now.year.number c.args.scan.now at (c.loop-element.new + c.in_ok-new.field-0) (held_by c.put.new.self) (scan_outcome (g.B.Book.entries c.args.book.now) (tally c.args.self.now) c.args.scan.now)) (sym w.3.3)
          (left_more (g.B.Book.entries c.args.book.now) c.args.self.now.year.number c.args.scan.now c.loop-element.at c.loop-element.new (held_by c.loop-element.self) _ inv.4 w.3.0 w.3.1 c.in_ok-new.field-0 (held_by c.put.new.self) w.0 (omega (arith, w.1, w.3.3)) w.3.2 was),
    )

pub returns : goal.returns
returns g c =
    let was = subst (λ o. Reads (g.B.Book.entries c.args.book.now) c.args.self.now.year.number c.loop-element.at c.args.scan.now c.loop-element.text c.next_element.new.out (Ok o)) c.in_default-2.is c.in_ok-element.ensures in
    (left_none (g.B.Book.entries c.args.book.now) c.args.self.now.year.number c.args.scan.now c.loop-element.at c.loop-element.new (held_by c.loop-element.self) _ c.loop-element.invariant.4 was.0, c.loop-element.invariant.3)
