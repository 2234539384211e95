-- One turn of the reader's loop.
use Rattle.std.proofs.Common.{◌≡◌, ℕ, ◌+◌, ◌<◌, ◌≤◌, List, ◌++◌, length, get_or, drop, Ok, Err, Result, sym, ap, ◌∙◌, arith}
use Rattle.std.proofs.lemmas.List.{at_drop_more, length-take}
use Rattle.std.proofs.lemmas.Bool.{false≢true}
use Rattle.std.specs.Result.{MatchResult, is_ok}
use Rattle.buffers.specs.declared.buffer.Buffer.{Buffer}
use Rattle.buffers.specs.Shown.{shown}
use Rattle.symbols.specs.declared.code.CodeSet.{CodeSet}
use Rattle.symbols.specs.declared.fault.SymbolFault.{SymbolFault}
use Rattle.symbols.specs.Reading.{means, meaning, read_on}
use Rattle.symbols.proofs.Steps.{read_more}

-- what is left of the body reads to R, before and after a turn
pub walk_more : (R : Result (List ℕ) SymbolFault) (s t t' : CodeSet) (i : ℕ) (got got' bs body : List ℕ)
    → read_on s (i + 2) got (drop i body) ≡ R → i < length body → means bs t ≡ meaning s (get_or body i 0) → length got + length bs ≤ 48
    → t' ≡ t → got' ≡ got ++ bs → read_on t' (i + 1 + 2) got' (drop (i + 1) body) ≡ R
walk_more R s t t' i got got' bs body inv h m l et eg =
    let e : i + 2 + 1 ≡ i + 1 + 2 = omega arith in
    ap (λ x. read_on x (i + 1 + 2) got' (drop (i + 1) body)) et
    ∙ ap (λ g. read_on t (i + 1 + 2) g (drop (i + 1) body)) eg
    ∙ ap (λ p. read_on t p (got ++ bs) (drop (i + 1) body)) (sym e)
    ∙ sym (read_more s t (i + 2) (get_or body i 0) got bs (drop (i + 1) body) (sym m) l)
    ∙ sym (at_drop_more (read_on s (i + 2) got) body i 0 h) ∙ inv

-- a buffer has no more bytes than it has room for
pub shown_fits : (b : Buffer 48) → length (shown b) ≤ 48
shown_fits b = omega (arith, length-take b.len b.bytes, b.within)

-- a call that succeeded under another fault
pub ok_under : {T D E : Type 0} (P : T → Type 0) (Q : E → Type 0) (r : Result T E) (u : Result T D) (x : T) → is_ok u ≡ is_ok r → u ≡ Ok x → MatchResult r P Q → (y : T) × P y
ok_under P Q (Ok y) u x e h m = (y, m)
ok_under P Q (Err f) u x e h m = absurd (false≢true (sym e ∙ ap is_ok h))
