use Rattle.std.proofs.Common.{◌≡◌, ◌-◌, ◌<◌, false, length, take, drop, sym, ap, ◌∙◌, arith, rules}
use Rattle.std.proofs.lemmas.List.{take_rest, length-drop}
use Rattle.symbols.specs.Encoding.{ahead}
use Rattle.symbols.proofs.Aheads.{one_ahead, rule_pair, rule_to_b, rule_to_c, rule_byte}
use Rattle.symbols.proofs.encode.code.Goals as goal
use Rattle.symbols.proofs.encode.code.Goals.{in_default-after-via-then-after-lt1, in_default-after-via-in-len1-up-after+else-digits_ahead}

pub returns-in-len1-up-after-clause-steps : goal.returns-in-len1-up-after-clause-steps
returns-in-len1-up-after-clause-steps c =
    let xs = c.args.bytes.now in
    rw c.in-C.is (rule_pair xs _ _ _ (take_rest xs 1) (take_rest _ 1) (sym c.if-digits_ahead.ensures) c.pair_value.ensures)

pub returns-in_default-after-clause-steps : goal.returns-in_default-after-clause-steps
returns-in_default-after-clause-steps c =
    let xs = c.args.bytes.now in
    let left = ap length (take_rest xs 1) ∙ length-drop 1 xs in
    let none : ahead 2 xs ≡ false = elim c.in_default-after.branch [
      | in_default-after-via-then-after-lt1 w ↦ (let short : length (take (length xs - 1) (drop 1 xs)) < 1 = search rules in one_ahead xs (omega (arith, short, left)))
      | in_default-after-via-in-len1-up-after+else-digits_ahead w ↦ sym w.if-digits_ahead.ensures
    ] in
    rw c.in-C.is (rule_to_b xs c.in-len1-up.len_at_least none)

pub returns-in-B-clause-steps : goal.returns-in-B-clause-steps
returns-in-B-clause-steps c = rw c.in-B.is (rule_to_c c.args.bytes.now (sym c.if-digits_ahead-2.ensures))

pub returns-in-B-2-clause-steps : goal.returns-in-B-2-clause-steps
returns-in-B-2-clause-steps c =
    let xs = c.args.bytes.now in
    rw (c.in-B-2.is, take_rest xs 1) (rule_byte xs c.in-len1-up.len_at_least (sym c.if-digits_ahead-2.ensures))
