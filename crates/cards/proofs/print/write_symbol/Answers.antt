use Rattle.std.proofs.Common.{refl, Ok, Err, Result, IsOk, ◌≡◌, ℕ, ◌+◌, ◌<◌, true, List, [], ◌∷◌, ◌++◌, map, length, get_or, take, drop, sym, ap, ◌∙◌, subst, arith}
use Rattle.std.proofs.lemmas.List.{map_more, map_push, take_all}
use Rattle.std.proofs.lemmas.Bool.{and_parts}
use Rattle.symbols.specs.declared.fault.AddFault.{AddFault}
use Rattle.symbols.specs.declared.state.Open.{Open}
use Rattle.symbols.specs.Writing.{Begins, Adds, Seals, Stands, stage, adding}
use Rattle.cards.specs.declared.row.Row.{Row}
use Rattle.cards.specs.Rows.{held_in}
use Rattle.cards.specs.Regular.{fits, all_fit}
use Rattle.cards.specs.Strings.{piece}
use Rattle.cards.proofs.Steps.{row_step}
use Rattle.cards.proofs.Fitting.{Fits, fitting}
use Rattle.cards.proofs.Prints.{Room, fit_drop, begun_room, never, room_on, sealed}
use Rattle.cards.proofs.print.write_symbol.Goals as goal

module _ (rows : List Row) (i : ℕ) (r : Row) (below : i < length rows) (at : r ≡ get_or rows i r) where
  -- the row at a place fits
  row_fits : all_fit (map held_in rows) ≡ true → Fits (held_in r)
  row_fits a = fitting (held_in r) (and_parts (fits (held_in r)) _ (sym (row_step (λ rs. all_fit (map held_in rs)) rows i r below at) ∙ fit_drop i rows a)).0

  -- one element more
  pieces_more : map piece (map held_in (take (i + 1) rows)) ≡ map piece (map held_in (take i rows)) ++ piece (held_in r) ∷ []
  pieces_more =
      ap (map piece) (map_more held_in rows i r below ∙ ap (λ z. map held_in (take i rows) ++ held_in z ∷ []) (sym at))
      ∙ map_push piece (map held_in (take i rows)) (held_in r)

  pieces-left : map piece (map held_in (drop i rows)) ≡ piece (held_in r) ∷ map piece (map held_in (drop (i + 1) rows))
  pieces-left = row_step (λ rs. map piece (map held_in rs)) rows i r below at

-- an element that is not refused is added
taken_in : (r : Result Open (Open × AddFault)) (was : Open) (e before after : List ℕ) → Adds r was e before after → ((g : AddFault) → adding (stage was) e (length before) ≡ Err g → ⊥) → IsOk r
taken_in (Ok o) was e before after a h = refl
taken_in (Err p) was e before after a h = absurd (h p.1 a.0)

pub loop-row-init : goal.loop-row-init
loop-row-init c =
    let b = subst (λ r. Begins r c.args.symbol.now c.begin.new.buf) c.unwrap-open.ensures c.begin.ensures in (
      omega (arith, c.begin.auto.buf, c.told-symbol),
      begun_room c.unwrap-open.result c.begin.new.buf (map held_in c.args.rows.now) b.stands c.requires.short,
      b.stands,
    )

pub unwrap-open-requires-in-loop-row : goal.unwrap-open-requires-in-loop-row
unwrap-open-requires-in-loop-row c =
    let inv = c.loop-row.invariant in
    let left = pieces-left c.args.rows.now c.loop-row.row-index c.row-item.result c.loop-row-test.true c.row-item.is in
    taken_in c.add.result c.loop-row.open c.as_slice.result.now c.loop-row.symbol c.add.new.buf c.add.ensures
    (λ g. never c.loop-row.open (held_in c.row-item.result) (map piece (map held_in (drop (c.loop-row.row-index + 1) c.args.rows.now)))
    (row_fits c.args.rows.now c.loop-row.row-index c.row-item.result c.loop-row-test.true c.row-item.is c.requires.fit)
    (subst (Room c.loop-row.open) left inv.1)
    (length c.loop-row.symbol) _ g inv.0 (c.as_slice.ensures ∙ c.piece.ensures))

pub loop-row-preserved : goal.loop-row-preserved
loop-row-preserved c =
    let inv = c.loop-row.invariant in
    let a = subst (λ r. Adds r c.loop-row.open c.as_slice.result.now c.loop-row.symbol c.add.new.buf) c.unwrap-open-in-loop-row.ensures c.add.ensures in
    let left = pieces-left c.args.rows.now c.loop-row.row-index c.row-item.result c.loop-row-test.true c.row-item.is in
    let more = pieces_more c.args.rows.now c.loop-row.row-index c.row-item.result c.loop-row-test.true c.row-item.is in
    let element = c.as_slice.ensures ∙ c.piece.ensures in (
      omega (arith, c.add.auto.buf, inv.0),
      room_on c.loop-row.open (held_in c.row-item.result) (map piece (map held_in (drop (c.loop-row.row-index + 1) c.args.rows.now)))
          (row_fits c.args.rows.now c.loop-row.row-index c.row-item.result c.loop-row-test.true c.row-item.is c.requires.fit)
          (subst (Room c.loop-row.open) left inv.1)
          (length c.loop-row.symbol) _ c.unwrap-open-in-loop-row.result inv.0 element a.is,
      subst (λ es. Stands es c.unwrap-open-in-loop-row.result c.add.new.buf) (ap (λ e. map piece (map held_in (take c.loop-row.row-index c.args.rows.now)) ++ e ∷ []) element ∙ sym more)
          (a.stands (map piece (map held_in (take c.loop-row.row-index c.args.rows.now))) inv.2),
    )

pub returns-clause-wrote : goal.returns-clause-wrote
returns-clause-wrote c =
    let inv = c.loop-row.invariant in
    let s = subst (λ r. Seals r c.loop-row.open c.loop-row.symbol c.seal.new.buf) c.unwrap.ensures c.seal.ensures.does in
    let all : take c.loop-row.row-index c.args.rows.now ≡ c.args.rows.now = take_all c.loop-row.row-index c.args.rows.now c.loop-row-test.false in
    let w =
    sealed (map held_in c.args.rows.now) c.loop-row.open c.unwrap.result c.loop-row.symbol c.seal.new.buf c.requires.fit c.requires.short inv.0
    (subst (λ rs. Stands (map piece (map held_in rs)) c.loop-row.open c.loop-row.symbol) all inv.2) s.is s.wrote in
    w.wrote
