-- The worked cases hold, by computation.
use Rattle.std.proofs.Common.{codes, refl, arith}
use Rattle.forms.specs.Keys.{KeyLawful}
use Rattle.worked.specs.Cases.{WorkedCases}
use Rattle.worked.proofs.Scans.{no_weight-holds, seven-holds, trade_item-holds, disordered-holds, variant-holds, dated_lot-holds}

is_key : KeyLawful (codes "04841234123457")
is_key = record { some = omega arith; short = omega arith; all = refl; sums = refl }

is_no_key : KeyLawful (codes "04841234123458") → ⊥
is_no_key k = omega (arith, k.sums)

pub worked_cases : WorkedCases
worked_cases = record {
  key = λ y p. (is_key, refl);
  no_key = λ y. (is_no_key, refl);
  no_key_number = refl;
  last_year = refl;
  first_year = refl;
  month_end = (refl, refl);
  leap_day = (refl, refl);
  no_leap_day = (refl, refl);
  weight = no_weight-holds;
  count = seven-holds;
  three = trade_item-holds;
  ordered = disordered-holds;
  one_printed = variant-holds;
  two_printed = dated_lot-holds;
}
