use Rattle.std.proofs.Common.{◌≡◌, [], ◌∷◌, Some, None, vec_items, ok_or, sym, refl, ap, ◌∙◌, rules}
use Rattle.std.proofs.lemmas.Slice.{pushed}
use Rattle.commands.specs.declared.complaint.Complaint.TheVariants.{BadEscape}
use Rattle.commands.specs.Escapes.{unescaped, front_byte}
use Rattle.commands.proofs.Unescapes.{onto, no_byte, one_byte, at_close}
use Rattle.commands.proofs.escape.unescape.Goals as goal

pub returns-in_err-b : goal.returns-in_err-b
returns-in_err-b c =
    let none : unescaped c.args.writing.now ≡ None = sym c.loop-rest.invariant ∙ no_byte (vec_items c.loop-rest.out) c.loop-rest.rest.now (search rules) (search rules) in
    search rules

pub loop-rest-preserved : goal.loop-rest-preserved
loop-rest-preserved c =
    let front : front_byte c.loop-rest.rest.now ≡ Some (c.in_ok-b.b, c.in_ok-b.behind.now) = search rules in
    ap (λ got. onto got (unescaped c.in_ok-b.behind.now)) (pushed (c.in_ok-b.b ∷ []) refl c.in_ok-push.was c.push.ensures.items)
    ∙ one_byte (vec_items c.loop-rest.out) c.loop-rest.rest.now (search rules) c.in_ok-b.b c.in_ok-b.behind.now front
    ∙ c.loop-rest.invariant

pub returns : goal.returns
returns c =
    ap (λ o. ok_or o BadEscape) (sym (at_close (vec_items c.loop-rest.out) c.loop-rest.rest.now (search rules)) ∙ c.loop-rest.invariant)
