-- Elements written one behind the other.
use Rattle.std.proofs.Common.{◌≡◌, ℕ, ◌+◌, Bool, true, false, cond, not, List, [], ◌∷◌, ◌++◌, length, sym, refl, ap, ◌∙◌, append_assoc, arith, length-append, length-take}
use Rattle.forms.specs.Values.{written}
use Rattle.forms.specs.Figures.{length-last_digits}
use Rattle.books.specs.Texts.{predefined}
use Rattle.cards.specs.declared.row.Row.{Row}
use Rattle.cards.specs.Rows.{held_in}
use Rattle.cards.specs.Tallies.{Held, ident}
use Rattle.cards.specs.Strings.{piece, parting, ending, spelled, spelled_after}

swapped : (b : Bool) → ◌≡◌ {A = List ℕ} (cond b [] (29 ∷ [])) (cond (not b) (29 ∷ []) [])
swapped true = refl
swapped false = refl

-- the separator behind an element is the one pending before the next
ending-after : (x : Held) (xs : List Held) → ending x xs ≡ spelled_after (not (predefined (ident x))) xs
ending-after x [] = refl
ending-after x (z ∷ zs) =
    ap (λ r. parting x ++ (piece z ++ r)) (ending-after z zs)
    ∙ ap (λ r. r ++ (piece z ++ spelled_after (not (predefined (ident z))) zs)) (swapped (predefined (ident x)))

pub spelled-after : (hs : List Held) → spelled_after false hs ≡ spelled hs
spelled-after [] = refl
spelled-after (x ∷ xs) = ap (λ r. piece x ++ r) (sym (ending-after x xs))

-- the length of a row's element
pub piece-long : (r : Row) → (length (piece (held_in r)) ≡ r.entry.ident.digits + r.len) × (length (written (held_in r).value) ≡ r.len)
piece-long r =
    let w : length (written (held_in r).value) ≡ r.len = (let e = ap length r.wrote in let a = length-take r.len r.text in let l = r.long in let s = r.short in omega arith) in
    let i = length-last_digits r.entry.ident.digits r.entry.ident.number in
    (length-append (ident (held_in r)) (written (held_in r).value) ∙ (let z : length (ident (held_in r)) + length (written (held_in r).value) ≡ r.entry.ident.digits + r.len = omega arith in z), w)

-- a writing goes on: what stands, and then the rest
pub goes_on : (xs ys zs rest : List ℕ) → xs ≡ ys ++ zs → xs ++ rest ≡ ys ++ (zs ++ rest)
goes_on xs ys zs rest e = ap (λ r. r ++ rest) e ∙ append_assoc ys zs rest
