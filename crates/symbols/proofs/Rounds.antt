-- The values of an element read back to its bytes.
use Rattle.std.proofs.Common.{◌≡◌, ℕ, ◌+◌, ◌-◌, ◌≤◌, Bool, true, false, cond, List, [], ◌∷◌, ◌++◌, length, Ok, sym, refl, ap, ◌∙◌, arith}
use Rattle.std.specs.List.{AllByRecursion as All}
use Rattle.std.proofs.lemmas.List.{append-nil, append_assoc, length-append}
use Rattle.forms.specs.Bytes.{digit}
use Rattle.symbols.specs.declared.code.CodeSet.{CodeSet}
use Rattle.symbols.specs.declared.code.CodeSet.TheVariants.{B, C}
use Rattle.symbols.specs.Reading.{read_on}
use Rattle.symbols.specs.Encoding.{pair_of, ahead, values, set_after}
use Rattle.symbols.proofs.Steps.{read_more, read_turn, means_pair, means_byte, means_sep}
use Rattle.symbols.proofs.Aheads.{Text, two_digits, four_digits}

-- one byte of text, in set B
reads_byte : (p a : ℕ) (got vs : List ℕ) → Text a → length got + 1 ≤ 48 → read_on B p got ((a - 32) ∷ vs) ≡ read_on B (p + 1) (got ++ (a ∷ [])) vs
reads_byte p a got vs t h = read_more B B p (a - 32) got (a ∷ []) vs (means_byte a t.0 t.1) h

-- one pair, in set C
reads_pair : (p a b : ℕ) (got vs : List ℕ) → (digit a ≡ true) × (digit b ≡ true) → length got + 2 ≤ 48 → read_on C p got (pair_of a b ∷ vs) ≡ read_on C (p + 1) (got ++ (a ∷ b ∷ [])) vs
reads_pair p a b got vs e h = read_more C C p (pair_of a b) got (a ∷ b ∷ []) vs (means_pair a b e.0 e.1) h

-- an element, before what reads on to w
reads : (s : CodeSet) (e got rest w : List ℕ) → All Text e → length got + length e ≤ 48 → ((q : ℕ) → read_on (set_after s e) q (got ++ e) rest ≡ Ok w) → (p : ℕ) → read_on s p got (values s e ++ rest) ≡ Ok w
reads B [] got rest w t h k p = ap (λ g. read_on B p g rest) (sym (append-nil got)) ∙ k p
reads C [] got rest w t h k p = ap (λ g. read_on C p g rest) (sym (append-nil got)) ∙ k p
reads B (a ∷ []) got rest w t h k p = reads_byte p a got rest t.0 h ∙ k (p + 1)
reads C (a ∷ []) got rest w t h k p =
    read_turn C B p 100 got ((a - 32) ∷ rest) refl (omega arith) ∙ reads_byte (p + 1) a got rest t.0 h ∙ k (p + 1 + 1)
reads C (a ∷ b ∷ bs) got rest w t h k p =
    let P : Bool → Type 0 = λ x. ahead 2 (a ∷ b ∷ bs) ≡ x
    → ((q : ℕ) → read_on (cond x (set_after C bs) (set_after B (b ∷ bs))) q (got ++ (a ∷ b ∷ bs)) rest ≡ Ok w)
    → read_on C p got (cond x (pair_of a b ∷ values C bs) (100 ∷ (a - 32) ∷ values B (b ∷ bs)) ++ rest) ≡ Ok w in
    elim (ahead 2 (a ∷ b ∷ bs)) as P [
      | true ↦ (λ e j. reads_pair p a b got (values C bs ++ rest) (two_digits a b bs e) (omega arith)
          ∙ reads C bs (got ++ (a ∷ b ∷ [])) rest w t.1.1 (simp length-append (omega arith)) (λ q. rw (append_assoc got (a ∷ b ∷ []) bs) (j q)) (p + 1))
      | false ↦ (λ e j. read_turn C B p 100 got ((a - 32) ∷ (values B (b ∷ bs) ++ rest)) refl (omega arith)
          ∙ reads_byte (p + 1) a got (values B (b ∷ bs) ++ rest) t.0 (omega arith)
          ∙ reads B (b ∷ bs) (got ++ (a ∷ [])) rest w t.1 (simp length-append (omega arith)) (λ q. rw (append_assoc got (a ∷ []) (b ∷ bs)) (j q)) (p + 1 + 1))
    ] refl k
reads B (a ∷ b ∷ bs) got rest w t h k p =
    let P : Bool → Type 0 = λ x. ahead 4 (a ∷ b ∷ bs) ≡ x
    → ((q : ℕ) → read_on (cond x (set_after C bs) (set_after B (b ∷ bs))) q (got ++ (a ∷ b ∷ bs)) rest ≡ Ok w)
    → read_on B p got (cond x (99 ∷ pair_of a b ∷ values C bs) ((a - 32) ∷ values B (b ∷ bs)) ++ rest) ≡ Ok w in
    elim (ahead 4 (a ∷ b ∷ bs)) as P [
      | true ↦ (λ e j.
          read_turn B C p 99 got (pair_of a b ∷ (values C bs ++ rest)) refl (omega arith)
          ∙ reads_pair (p + 1) a b got (values C bs ++ rest) (four_digits a b bs e) (omega arith)
          ∙ reads C bs (got ++ (a ∷ b ∷ [])) rest w t.1.1 (simp length-append (omega arith)) (λ q. rw (append_assoc got (a ∷ b ∷ []) bs) (j q)) (p + 1 + 1))
      | false ↦ (λ e j. reads_byte p a got (values B (b ∷ bs) ++ rest) t.0 (omega arith)
          ∙ reads B (b ∷ bs) (got ++ (a ∷ [])) rest w t.1 (simp length-append (omega arith)) (λ q. rw (append_assoc got (a ∷ []) (b ∷ bs)) (j q)) (p + 1))
    ] refl k

-- the same, with the separator before it
pub reads_on : (sep : Bool) (s : CodeSet) (e got rest w : List ℕ) → All Text e → length got + (cond sep 1 0 + length e) ≤ 48
    → ((q : ℕ) → read_on (set_after s e) q (got ++ (cond sep (29 ∷ []) [] ++ e)) rest ≡ Ok w) → (p : ℕ) → read_on s p got ((cond sep (102 ∷ []) [] ++ values s e) ++ rest) ≡ Ok w
reads_on false s e got rest w t h k p = reads s e got rest w t (omega arith) k p
reads_on true s e got rest w t h k p =
    read_more s s p 102 got (29 ∷ []) (values s e ++ rest) (means_sep s) (omega arith)
    ∙ reads s e (got ++ (29 ∷ [])) rest w t (simp length-append (omega arith)) (λ q. rw (append_assoc got (29 ∷ []) e) (k q)) (p + 1)
