use Rattle.std.proofs.Common.{◌≡◌, ◌^◌, ◌-◌, ◌%◌, nat_eq, refl, sym, ap, ◌∙◌, arith, rules}
use Rattle.std.specs.Option.{option_map, unwrap_or}
use Rattle.std.specs.List.{find, range_with_len}
use Rattle.std.proofs.lemmas.Iterator.{YieldsList-from_range}
use Rattle.std.proofs.lemmas.Iterator.Search.{find_from_yields_List}
use Rattle.forms.specs.MeasureLaws.{fewest-least}
use Rattle.forms.proofs.Decimals.{first-fewest, map_same}
use Rattle.forms.proofs.measure.fewest_decimals.Goals as goal

pub returns : goal.returns
returns c =
    let e : option_map (λ d. d) c.find.result ≡ find (λ d. nat_eq (c.args.value % 10 ^ (5 - d)) 0) (range_with_len 0 5) =
    find_from_yields_List (λ d. nat_eq (c.args.value % 10 ^ (5 - d)) 0) _ _ _ c.find.ensures.ran (YieldsList-from_range 0 5 5 refl refl) (λ x b q k. search rules) in
    let is = c.unwrap_or.ensures ∙ ap (λ o. unwrap_or o 5) (sym (map_same c.find.result) ∙ e) ∙ first-fewest c.args.value in
    record { is = is; most = search rules; least = λ d m h k. omega (arith, is, fewest-least c.args.value d m h k) }
