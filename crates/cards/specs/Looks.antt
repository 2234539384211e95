-- What is told of the elements that a card holds.
use Rattle.std.specs.Prelude.{◌≡◌, ℕ, ◌<◌, ◌≤◌, List, ◌++◌, length, take, drop, Some, None, Option, slice_index_or}
use Rattle.forms.specs.Values.{told, written}
use Rattle.forms.specs.declared.judge.Reading.{Reading}
use Rattle.forms.specs.declared.value.Value.{Value}
use Rattle.forms.specs.declared.value.Value.TheVariants.{Text, Key, Date, Stamp, Fraction, Whole}
use Rattle.books.specs.declared.ident.Ident.{Ident}
use Rattle.cards.specs.declared.row.Row.{Row}
use Rattle.cards.specs.Tallies.{Held, look}

-- the bytes that a value's text puts over the first of `before`: its own, at any other value none
abbrev pub Lent : Value → List ℕ → List ℕ → Type 0
Lent (Text n) before after = after ≡ take n after ++ drop (length (take n after)) before
Lent (Key k) before after = after ≡ before
Lent (Date d) before after = after ≡ before
Lent (Stamp s) before after = after ≡ before
Lent (Fraction n) before after = after ≡ before
Lent (Whole n) before after = after ≡ before

-- what a row tells of its value
abbrev pub Tells : Row → List ℕ → List ℕ → Value → Type 0
Tells row before after v = (told v after ≡ told row.value row.text) × Lent v before after

-- what is looked up under an ident: none is held and nothing is lent, or the value that is held
abbrev pub Looks : List ℕ → List Held → List ℕ → List ℕ → Option Value → Type 0
Looks i hs before after None = (look i hs ≡ None) × (after ≡ before)
Looks i hs before after (Some v) = (look i hs ≡ Some (told v after)) × Lent v before after

-- what is shown of the element at a place: its ident, its value and the value's writing
abbrev pub Shows : ℕ → List Held → List ℕ → List ℕ → Option (Ident × Reading) → Type 0
Shows k hs before after None = (length hs ≤ k) × (after ≡ before)
Shows k hs before after (Some p) =
    (k < length hs)
    × ((d : Held) → ((slice_index_or hs k d).entry.ident ≡ p.0) × ((slice_index_or hs k d).value ≡ told p.1.value after)
    × (p.1.len ≡ length (written (slice_index_or hs k d).value)) × (after ≡ written (slice_index_or hs k d).value ++ drop p.1.len before))
