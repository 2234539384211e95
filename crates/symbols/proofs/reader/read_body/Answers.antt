use Rattle.std.proofs.Common.{◌≡◌, ◌++◌, [], ◌∷◌, get_or, length, sym, ap, ◌∙◌, arith}
use Rattle.std.proofs.lemmas.List.{length-append, append-nil}
use Rattle.std.specs.Result.{is_ok}
use Rattle.buffers.specs.Shown.{shown}
use Rattle.symbols.specs.Reading.{meaning, meant}
use Rattle.symbols.proofs.Walks.{walk_more, shown_fits, ok_under}
use Rattle.symbols.proofs.reader.read_body.Goals as goal
use Rattle.symbols.proofs.reader.read_body.Goals.{in-Pair, in-Byte, in-Change}

pub loop-i-preserved : goal.loop-i-preserved
loop-i-preserved c =
    let v = get_or c.args.body.now c.loop-i.i 0 in
    let got = shown c.loop-i.text in
    let said : meaning c.loop-i.set v ≡ meant c.loop-i.set c.in_ok-said.said = let h = c.read_value.ensures in rw c.in_ok-said.ensures.ok_part at h in
    let fits = shown_fits c.match-said.text in
    elim c.match-said.branch [
      | in-Pair w ↦ (let e = (ok_under _ _ w.push-pushed.result _ _ (c.map_err.ensures.variant ∙ ap is_ok w.pushed-is) c.in_ok-map_err.was w.push-pushed.ensures).1 in
          let g : shown c.match-said.text ≡ got ++ w.in-Pair.a ∷ w.in-Pair.b ∷ [] = ap shown w.text-is ∙ e in
          walk_more _ _ _ _ _ got _ (w.in-Pair.a ∷ w.in-Pair.b ∷ []) _ c.loop-i.invariant c.loop-i-test.true (sym (said ∙ ap (meant c.loop-i.set) w.in-Pair.is)) (omega (arith, fits, ap length g, length-append got (w.in-Pair.a ∷ w.in-Pair.b ∷ []))) w.set-is g)
      | in-Byte w ↦ (let e = (ok_under _ _ w.push-pushed-in-Byte.result _ _ (c.map_err.ensures.variant ∙ ap is_ok w.pushed-is) c.in_ok-map_err.was w.push-pushed-in-Byte.ensures).1 in
          let g : shown c.match-said.text ≡ got ++ w.in-Byte.b ∷ [] = ap shown w.text-is ∙ e in
          walk_more _ _ _ _ _ got _ (w.in-Byte.b ∷ []) _ c.loop-i.invariant c.loop-i-test.true (sym (said ∙ ap (meant c.loop-i.set) w.in-Byte.is)) (omega (arith, fits, ap length g, length-append got (w.in-Byte.b ∷ []))) w.set-is g)
      | in-Change w ↦ (let g : shown c.match-said.text ≡ got ++ [] = ap shown w.text-is ∙ sym (append-nil got) in
          walk_more _ _ _ _ _ got _ [] _ c.loop-i.invariant c.loop-i-test.true (sym (said ∙ ap (meant c.loop-i.set) w.in-Change.is)) (omega (arith, shown_fits c.loop-i.text)) (w.set-is ∙ w.other-set.ensures) g)
    ]
