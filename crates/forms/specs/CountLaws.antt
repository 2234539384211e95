-- The laws of a count.
use Rattle.std.specs.Prelude.{◌≡◌, ℕ, ◌^◌, ◌<◌, true, false, List, length, decimal}
use Rattle.std.proofs.Common.{arith}
use Rattle.std.proofs.lemmas.Str.Parse.{digits_value_short}
use Rattle.std.proofs.lemmas.Fmt.{digits_decimal, digits_value-decimal, decimal_nonempty, length-decimal-le}
use Rattle.forms.specs.Laws.{Rewrites, Lengths}
use Rattle.forms.specs.Bytes.{digit, every, number}
use Rattle.forms.specs.Counts.{count_lawful, count_worth, count_writing}
use Rattle.forms.specs.Figures.{own, number_short}
use Rattle.forms.specs.Writings.{every-allowed}

module _ (y : ℕ) (f : List ℕ) (p : count_lawful y f) where
  fits : number f < 2 ^ 64
  fits = let small = number_short 8 f p.all p.short in omega arith

  pub count_lengths : Lengths false (length f) (length (decimal (number f)))
  count_lengths =
      record {
        some = decimal_nonempty (number f) fits;
        short = length-decimal-le (length f) (number f) p.some (digits_value_short own f (length f) p.all (omega arith)) fits;
        same = λ e. absurd (grind arith);
      }

  pub count_rewrites : Rewrites count_lawful count_worth count_writing y f
  count_rewrites =
      let digits : every digit (decimal (number f)) ≡ true = digits_decimal own (number f) fits in
      let l = count_lengths in
      record {
        again = record { some = l.some; short = omega (arith, l.short, p.short); all = digits };
        text = every-allowed (decimal (number f)) digits;
        same = digits_value-decimal own (number f) fits;
      }
