use Rattle.std.proofs.Common.{◌≡◌, ◌++◌, [], length, sym, ap, ◌∙◌, subst, rules}
use Rattle.std.proofs.lemmas.Slice.Eq.{slice_eq-Decides}
use Rattle.std.proofs.lemmas.Bool.Decides.{Decides-eqb}
use Rattle.cards.specs.Cards.{tally}
use Rattle.cards.specs.Strings.{symbols}
use Rattle.compare.proofs.Goes.{down_from, up_from, Goes, start, on, over, takes_one, finish}
use Rattle.compare.proofs.relabel.relabels.Goals as goal

pub loop-k-init : goal.loop-k-init
loop-k-init g c =
    let book = c.args.book.now in
    let n = length (symbols (tally c.args.card.now)) in
    let s = start (g.B.Book.entries book) (g.B.Book.lawful book) (g.B.Book.apart book) (tally c.args.card.now) c.number.result c.number.ensures.span (c.number.ensures.is ∙ ap (λ y. y.number) c.year.ensures) c.make-fresh.result c.turn.new.self c.turn.result c.symbols-count.result c.make-fresh.ensures c.turn.ensures c.symbols-count.ensures in
    (search rules, search rules, (down_from c.symbols-count.result ++ up_from 0 n, record { bottom = search rules; low = search rules; top = search rules; goes = search rules; left = search rules }, s.1))

pub returns-then-not-branch : goal.returns-then-not-branch
returns-then-not-branch g c = λ p e s.
    let t = tally c.args.card.now in
    let w = c.loop-k.invariant.2 in
    let o = on (length (symbols t)) c.loop-k.k-iterator c.next.new.self c.in-Some.k w.0 w.1 c.in-Some.ensures.steps in
    let h = subst (λ ks. Goes (g.B.Book.entries c.args.book.now) t (tally c.loop-k.fresh) ks) o.1.1 w.2 in
    sym c.if-not-branch.true
    ∙ (takes_one (g.B.Book.entries c.args.book.now) t (tally c.loop-k.fresh) (tally c.takes.new.fresh) c.in-Some.k o.1.0 c.in_ok-takes.field-0 o.0 h c.in_ok-takes.ensures).0 p e

pub loop-k-preserved : goal.loop-k-preserved
loop-k-preserved g c =
    let t = tally c.args.card.now in
    let w = c.loop-k.invariant.2 in
    let o = on (length (symbols t)) c.loop-k.k-iterator c.next.new.self c.in-Some.k w.0 w.1 c.in-Some.ensures.steps in
    let h = subst (λ ks. Goes (g.B.Book.entries c.args.book.now) t (tally c.loop-k.fresh) ks) o.1.1 w.2 in
    (search rules, search rules, (o.1.0, o.1.2, (takes_one (g.B.Book.entries c.args.book.now) t (tally c.loop-k.fresh) (tally c.takes.new.fresh) c.in-Some.k o.1.0 c.in_ok-takes.field-0 o.0 h c.in_ok-takes.ensures).1))

pub returns : goal.returns
returns g c = λ p e s.
    let book = c.args.book.now in
    let t = tally c.args.card.now in
    let w = c.loop-k.invariant.2 in
    let none : w.0 ≡ [] = over (length (symbols t)) c.loop-k.k-iterator c.next.new.self w.0 w.1 c.in-None.ensures.steps in
    let h = subst (λ ks. Goes (g.B.Book.entries book) t (tally c.loop-k.fresh) ks) none w.2 in
    let same = finish (g.B.Book.entries book) (g.B.Book.lawful book) (g.B.Book.apart book) t c.number.result c.number.ensures.span (c.number.ensures.is ∙ ap (λ y. y.number) c.year.ensures) (tally c.loop-k.fresh) c.args.string.now c.as_slice.result.now h (c.as_slice.ensures.value ∙ c.in_ok-again.ensures) p e s in
    (slice_eq-Decides Decides-eqb c.as_slice.result.now c.args.string.now c.eq.result c.eq.ensures).1 same
