-- What one call of add answers.
use Rattle.std.proofs.Common.{◌≡◌, ℕ, ◌≤◌, Bool, false, List, length, Ok, sym, ap, ◌∙◌, subst}
use Rattle.std.proofs.lemmas.Bool.{cond-false, le-ltb}
use Rattle.symbols.specs.declared.code.CodeSet.{CodeSet}
use Rattle.symbols.specs.Encoding.{misfits, fixed_length, clean}
use Rattle.symbols.specs.Writing.{Stage, grown, taken, Admitted, within_room, adding}
use Rattle.symbols.proofs.Aheads.{clean-passes}

-- an element that passes each test
pub admits : (b n : ℕ) (s : Stage) (e : List ℕ) → false ≡ misfits (length e) (fixed_length e) → n ≡ clean e → length e ≤ n → b ≡ grown s e → b ≤ 48 → Admitted b s e
admits b n s e m c h g few =
    let p : length e ≤ clean e = subst (λ (k : ℕ). length e ≤ k) c h in
    let q : grown s e ≤ 48 = subst (λ (k : ℕ). k ≤ 48) g few in
    record {
      is = cond-false _ _ _ (sym m) ∙ cond-false _ _ _ (le-ltb (clean e) (length e) p) ∙ cond-false _ _ _ (le-ltb 48 (grown s e) q);
      bytes = g;
      few = few;
      text = clean-passes e p;
    }

-- a stage is known by its parts
abbrev staged : ℕ → ℕ → CodeSet → ℕ → Bool → Stage
staged l m c b p = record { len = l; sum = m; set = c; bytes = b; pending = p }

pub same_stage : (t : Stage) (l m : ℕ) (c : CodeSet) (b : ℕ) (p : Bool) → l ≡ t.len → m ≡ t.sum → c ≡ t.set → b ≡ t.bytes → p ≡ t.pending
    → ◌≡◌ {A = Stage} (record { len = l; sum = m; set = c; bytes = b; pending = p }) t
same_stage t l m c b p el em ec eb ep =
    ap (λ x. staged x m c b p) el ∙ ap (λ x. staged t.len x c b p) em ∙ ap (λ x. staged t.len t.sum x b p) ec
    ∙ ap (λ x. staged t.len t.sum t.set x p) eb ∙ ap (λ x. staged t.len t.sum t.set t.bytes x) ep

-- in a buffer with room
pub has_room : (s t : Stage) (e : List ℕ) (room : ℕ) → taken s e ≡ Ok t → t.len ≤ room → adding s e room ≡ Ok t
has_room s t e room h l = ap (within_room room) h ∙ cond-false _ _ _ (le-ltb room t.len l)
