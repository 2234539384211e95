use Rattle.std.proofs.Common.{◌≡◌, ◌+◌, ◌-◌, ◌%◌, cond, [], ◌∷◌, ◌++◌, length, Ok, sym, ap, ◌∙◌, arith, rules}
use Rattle.buffers.specs.Shown.{shown}
use Rattle.symbols.specs.Reading.{weighted}
use Rattle.symbols.specs.Encoding.{values}
use Rattle.symbols.specs.Writing.{stage, written, next}
use Rattle.symbols.proofs.Aheads.{values-few}
use Rattle.symbols.proofs.Overs.{over_part, written_long}
use Rattle.symbols.proofs.Calls.{same_stage, has_room}
use Rattle.symbols.proofs.Runs.{stands-more}
use Rattle.symbols.proofs.writer.add.Goals as goal
use Rattle.symbols.proofs.writer.add.Goals.{After-as_slice-values, then-symbol, else-symbol}

values_are : (c : After-as_slice-values) → c.as_slice-values.result.now ≡ written (stage c.args.symbol) c.args.element.now
values_are c =
    let front : shown c.if-symbol.written ≡ cond c.args.symbol.pending (102 ∷ []) [] = elim c.if-symbol.branch [ then-symbol w ↦ search rules | else-symbol w ↦ search rules ] in
    c.as_slice-values.ensures ∙ c.encode-set.ensures.wrote ∙ ap (λ x. x ++ values c.args.symbol.set c.args.element.now) front

pub invariant_of-result : goal.invariant_of-result
invariant_of-result c =
    let v = ap length (values_are (goal.at.invariant_of-result c).After-as_slice-values) in
    let f = values-few c.args.symbol.set c.args.element.now in
    let l = written_long (stage c.args.symbol) c.args.element.now in
    let b = c.in-Ok.ensures.bytes in
    record { some = omega arith; few = omega arith; short = c.in-Ok.ensures.few; small = c.check_on.ensures.small }

pub returns : goal.returns
returns c =
    let was = stage c.args.symbol in let e = c.args.element.now in let buf = c.args.buf.now in
    let v = values_are (goal.at.returns c).After-as_slice-values in
    let n = length c.as_slice-values.result.now in
    let d : was.len + n - was.len ≡ length (written was e) = omega (arith, ap length v) in
    let o = over_part was.len (was.len + n - was.len) buf c.copy_from_slice.new.self (written was e) d (c.copy_from_slice.ensures.after ∙ v) in
    let t = same_stage (next was e) (was.len + n) c.check_on.result c.encode-set.result c.in-Ok.bytes c.needs_separator.result
    (ap (λ xs. was.len + length xs) v) (c.check_on.ensures.is ∙ ap (λ xs. (was.sum + weighted was.len xs) % 103) v) c.encode-set.ensures.goes c.in-Ok.ensures.bytes
    c.needs_separator.ensures in
    let h = c.in-Ok.ensures.is ∙ ap Ok (sym t) in
    record { is = has_room was _ e (length buf) h c.if-buf-len.false; wrote = o; stands = stands-more c.args.symbol _ e buf _ h o }
