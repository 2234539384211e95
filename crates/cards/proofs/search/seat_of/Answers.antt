use Rattle.std.proofs.Common.{◌≤◌, length, sym, ap, ◌∙◌, subst}
use Rattle.std.specs.Option.{unwrap_or}
use Rattle.cards.specs.Rows.{held_in}
use Rattle.cards.specs.Tallies.{precedes}
use Rattle.cards.proofs.Finds.{first_or_len, first_within}
use Rattle.cards.proofs.search.seat_of.Goals as goal

pub returns : goal.returns
returns c =
    let is = c.unwrap_or.ensures ∙ ap (λ o. unwrap_or o (length c.args.rows.now)) c.place_behind.ensures ∙ first_or_len (λ r. precedes (held_in c.args.new.now) (held_in r)) c.args.rows.now in
    record { is = is; within = subst (λ n. n ≤ length c.args.rows.now) (sym is) (first_within (λ r. precedes (held_in c.args.new.now) (held_in r)) c.args.rows.now) }
