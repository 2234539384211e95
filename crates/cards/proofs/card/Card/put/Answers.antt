use Rattle.std.proofs.Common.{◌≡◌, ℕ, ◌<◌, true, false, position, List, take, Some, None, Ok, Option, sym, refl, ap, ◌∙◌, arith}
use Rattle.std.specs.Str.{bytes_eq}
use Rattle.forms.specs.Values.{written}
use Rattle.cards.specs.declared.row.Row.{Row}
use Rattle.cards.specs.Rows.{held_in, first_held}
use Rattle.cards.specs.Places.{place_of}
use Rattle.cards.specs.Tallies.{ident}
use Rattle.cards.proofs.Finds.{crossed_in, place_in, long_in}
use Rattle.cards.proofs.Places.{place_none}
use Rattle.cards.proofs.Puts.{all_true, first_long, first_at, put-clash, put_full, put-added, put-again}
use Rattle.cards.proofs.card.Card.put.Goals as goal

-- the place as code finds it, under an ident that it writes
module _ (n : ℕ) (rows held : List Row) (cut : held ≡ take n rows) (new : Row) (text : List ℕ) (same : text ≡ ident (held_in new)) (o : Option ℕ) (is : o ≡ position (λ r. bytes_eq text (ident (held_in r))) held) where
  place_is : o ≡ place_of (ident (held_in new)) 0 (first_held n rows)
  place_is = place_in n rows held cut text o is ∙ ap (λ t. place_of t 0 (first_held n rows)) same

pub returns-then-crosses : goal.returns-then-crosses
returns-then-crosses c =
    let s = c.args.self.now in
    record { year = refl; is = (put-clash c.args.at (first_held s.len s.rows) (held_in c.args.new) (crossed_in s.len s.rows _ c.held.ensures c.args.new.entry _ c.if-crosses.ensures), refl) }

pub returns-then-self-ge32 : goal.returns-then-self-ge32
returns-then-self-ge32 c =
    let s = c.args.self.now in
    let hs = first_held s.len s.rows in
    let clear = crossed_in s.len s.rows _ c.held.ensures c.args.new.entry _ c.if-crosses.ensures in
    let absent = place_none (ident (held_in c.args.new)) 0 (first_held s.len s.rows) (sym (place_is s.len s.rows _ c.held-2.ensures c.args.new c.as_slice.result.now (c.as_slice.ensures ∙ c.text-ident.ensures) None c.in-None.ensures.is)) in
    let long = first_long s.len s.rows (omega (arith, s.long, s.within)) in
    record { year = refl; is = (put_full c.args.at (first_held s.len s.rows) (held_in c.args.new) clear absent (omega (arith, long)), refl) }

pub insert-requires : goal.insert-requires
insert-requires c =
    let s = c.args.self.now in
    record {
      room = omega arith;
      free = sym (crossed_in s.len s.rows _ c.held.ensures c.args.new.entry _ c.if-crosses.ensures);
      absent = place_none (ident (held_in c.args.new)) 0 (first_held s.len s.rows) (sym (place_is s.len s.rows _ c.held-2.ensures c.args.new c.as_slice.result.now (c.as_slice.ensures ∙ c.text-ident.ensures) None c.in-None.ensures.is));
      lawful = c.requires;
    }

pub returns-then-same_writing : goal.returns-then-same_writing
returns-then-same_writing c =
    let s = c.args.self.now in
    let clear = crossed_in s.len s.rows _ c.held.ensures c.args.new.entry _ c.if-crosses.ensures in
    let place = place_is s.len s.rows _ c.held-2.ensures c.args.new c.as_slice.result.now (c.as_slice.ensures ∙ c.text-ident.ensures) (Some c.in-Some.place) c.in-Some.ensures.is in
    let below : c.in-Some.place < s.len = (let a = long_in s.len s.rows _ c.held-2.ensures (omega (arith, s.long, s.within)) in let b = c.in-Some.ensures.within in omega arith) in
    let at = first_at s.len s.rows c.in-Some.place c.index-self-place.result (held_in c.index-self-place.result) below (omega (arith, s.long, s.within)) c.index-self-place.is in
    record { year = refl; is = (put-again c.args.at (first_held s.len s.rows) (held_in c.args.new) clear s.year.number c.in-Some.place (held_in c.index-self-place.result) (all_true _ s.kept) c.requires place at true (c.if-same_writing.ensures ∙ ap (λ r. bytes_eq (written (held_in c.args.new).value) (written (held_in r).value)) (sym c.index-self-place.is)), refl) }

pub returns-else-same_writing : goal.returns-else-same_writing
returns-else-same_writing c =
    let s = c.args.self.now in
    let clear = crossed_in s.len s.rows _ c.held.ensures c.args.new.entry _ c.if-crosses.ensures in
    let place = place_is s.len s.rows _ c.held-2.ensures c.args.new c.as_slice.result.now (c.as_slice.ensures ∙ c.text-ident.ensures) (Some c.in-Some.place) c.in-Some.ensures.is in
    let below : c.in-Some.place < s.len = (let a = long_in s.len s.rows _ c.held-2.ensures (omega (arith, s.long, s.within)) in let b = c.in-Some.ensures.within in omega arith) in
    let at = first_at s.len s.rows c.in-Some.place c.index-self-place.result (held_in c.index-self-place.result) below (omega (arith, s.long, s.within)) c.index-self-place.is in
    record { year = refl; is = (put-again c.args.at (first_held s.len s.rows) (held_in c.args.new) clear s.year.number c.in-Some.place (held_in c.index-self-place.result) (all_true _ s.kept) c.requires place at false (c.if-same_writing.ensures ∙ ap (λ r. bytes_eq (written (held_in c.args.new).value) (written (held_in r).value)) (sym c.index-self-place.is)), refl) }

pub returns-else-self-ge32 : goal.returns-else-self-ge32
returns-else-self-ge32 c =
    let s = c.args.self.now in
    let clear = crossed_in s.len s.rows _ c.held.ensures c.args.new.entry _ c.if-crosses.ensures in
    let absent = place_none (ident (held_in c.args.new)) 0 (first_held s.len s.rows) (sym (place_is s.len s.rows _ c.held-2.ensures c.args.new c.as_slice.result.now (c.as_slice.ensures ∙ c.text-ident.ensures) None c.in-None.ensures.is)) in
    let long = first_long s.len s.rows (omega (arith, s.long, s.within)) in
    let e = c.insert.ensures in
    record { year = e.year; is = (put-added c.args.at (first_held s.len s.rows) (held_in c.args.new) clear absent (omega (arith, long)) ∙ ap (λ hs. Ok (record { new = 1; held = hs })) (sym e.held), e.year) }
