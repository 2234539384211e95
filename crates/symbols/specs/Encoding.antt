-- The values of an element, and how elements follow one another in a symbol.
use Rattle.std.specs.Prelude.{◌≡◌, ℕ, ◌+◌, ◌-◌, ◌*◌, Bool, false, cond, not, ◌&&◌, List, [], ◌∷◌, ◌++◌, is_some, Some, None, Option, ◌==◌, nat_le, nat_lt, slice_index}
use Rattle.std.specs.List.{prefix_len}
use Rattle.forms.specs.Bytes.{allowed, digit, pair}
use Rattle.books.specs.Texts.{whole}
use Rattle.symbols.specs.declared.code.CodeSet.{CodeSet}
use Rattle.symbols.specs.declared.code.CodeSet.TheVariants.{B, C}

-- the value of a pair of digits
abbrev pub pair_of : ℕ → ℕ → ℕ
pair_of a b = 10 * (a - 48) + (b - 48)

-- n digits stand ahead
abbrev pub ahead : ℕ → List ℕ → Bool
ahead n bs = nat_le n (prefix_len digit bs)

-- the values of an element's bytes, from a set on. In set C two digits ahead make a pair, otherwise 100 goes to set B;
-- in set B four digits ahead cause 99, which goes to set C, otherwise the byte is written. A change of set is one step with what follows it.
abbrev pub values : CodeSet → List ℕ → List ℕ
values s [] = []
values C (a ∷ []) = 100 ∷ (a - 32) ∷ []
values C (a ∷ b ∷ bs) = cond (ahead 2 (a ∷ b ∷ bs)) (pair_of a b ∷ values C bs) (100 ∷ (a - 32) ∷ values B (b ∷ bs))
values B (a ∷ []) = (a - 32) ∷ []
values B (a ∷ b ∷ bs) = cond (ahead 4 (a ∷ b ∷ bs)) (99 ∷ pair_of a b ∷ values C bs) ((a - 32) ∷ values B (b ∷ bs))

-- the set in which they leave the symbol
abbrev pub set_after : CodeSet → List ℕ → CodeSet
set_after s [] = s
set_after C (a ∷ []) = B
set_after C (a ∷ b ∷ bs) = cond (ahead 2 (a ∷ b ∷ bs)) (set_after C bs) (set_after B (b ∷ bs))
set_after B (a ∷ []) = B
set_after B (a ∷ b ∷ bs) = cond (ahead 4 (a ∷ b ∷ bs)) (set_after C bs) (set_after B (b ∷ bs))

-- one step of that: in set s, the bytes xs are written as v, and then as ys are in set t
pub record Steps (s : CodeSet) (xs : List ℕ) (v : ℕ) (t : CodeSet) (ys : List ℕ) : Type 0 where
  pub vals : values s xs ≡ v ∷ values t ys
  pub goes : set_after s xs ≡ set_after t ys

-- the predefined lengths, of ident and field together, by an element's first two digits: those of the books
abbrev pub predefined : ℕ → Option ℕ
predefined n = whole n

-- the predefined length of an element, if its first two bytes are digits that have one
abbrev pub fixed_length : List ℕ → Option ℕ
fixed_length e = cond (digit (slice_index e 0) && digit (slice_index e 1)) (predefined (pair e 0)) None

-- an element that is not of its predefined length, or that has not even two bytes
abbrev pub misfits : ℕ → Option ℕ → Bool
misfits len (Some n) = not (len == n)
misfits len None = nat_lt len 2

-- a separator follows an element of no predefined length, if another element does
abbrev pub separated : List ℕ → Bool
separated e = not (is_some (fixed_length e))

-- how many bytes stand before the first that an element bars: of its first two one that is no digit, then one that no text may hold
abbrev pub clean : List ℕ → ℕ
clean e = cond (nat_lt (prefix_len digit e) 2) (prefix_len digit e) (prefix_len allowed e)

-- elements joined: each, and a separator where one is needed before the next; `sep` says that one stands before the first
abbrev pub joined_after : Bool → List (List ℕ) → List ℕ
joined_after sep [] = []
joined_after sep (e ∷ es) = cond sep (29 ∷ []) [] ++ (e ++ joined_after (separated e) es)

-- elements joined, from the first on
abbrev pub joined : List (List ℕ) → List ℕ
joined es = joined_after false es
