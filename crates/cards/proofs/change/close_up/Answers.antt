use Rattle.std.proofs.Common.{arith, rules}
use Rattle.std.proofs.lemmas.List.{same_lists, places}
use Rattle.cards.proofs.change.close_up.Goals as goal

pub returns : goal.returns
returns c = let e = c.rotate_left.ensures.after in same_lists _ _ (search (rules, places)) (λ k d h. grind (arith, places))
