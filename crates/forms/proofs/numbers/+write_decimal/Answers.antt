use Rattle.std.proofs.Common.{◌/◌, length, sym, ap, arith}
use Rattle.std.proofs.lemmas.Fmt.{decimal_digit}
use Rattle.forms.specs.Figures.{decimal_one, decimal_longer, decimal_more, decimal_short}
use Rattle.forms.proofs.numbers.+write_decimal.Goals as goal

pub bounds-out-k : goal.bounds-out-k
bounds-out-k t c = omega (arith, c.write_decimal-k.ensures.long, decimal_short (c.args.n / 10) (omega arith))

pub returns-then-n-lt10 : goal.returns-then-n-lt10
returns-then-n-lt10 t c =
    record { long = sym (ap length (decimal_digit c.args.n c.if-n-lt10.true)); wrote = decimal_one c.args.n c.args.out.now c.if-n-lt10.true (omega arith) }

pub returns-else-n-lt10 : goal.returns-else-n-lt10
returns-else-n-lt10 t c =
    let e = c.write_decimal-k.ensures in
    let few = decimal_short (c.args.n / 10) (omega arith) in
    record {
      long = decimal_longer c.args.n _ c.if-n-lt10.false (omega arith) e.long;
      wrote = decimal_more c.args.n _ c.args.out.now _ c.if-n-lt10.false (omega arith) e.long e.wrote (omega (arith, e.long, few));
    }
