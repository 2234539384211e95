use Rattle.std.proofs.Common.{◌≡◌, ◌-◌, ◌/◌, ◌^◌, length, drop}
use Rattle.forms.specs.Bytes.{last_digits}
use Rattle.forms.proofs.numbers.last_digits.Given as goal

abbrev pub invariant-loop-i : goal.invariant-loop-i
invariant-loop-i g l =
    record {
      long : length l.digits ≡ g.row.N;
      left : l.rest ≡ l.n / 10 ^ (g.row.N - l.i);
      wrote : drop l.i l.digits ≡ last_digits (g.row.N - l.i) l.n;
    }
