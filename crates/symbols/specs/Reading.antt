-- What a list of values says when it is read as a symbol.
use Rattle.std.specs.Prelude.{◌≡◌, ℕ, ◌+◌, ◌-◌, ◌*◌, ◌%◌, ◌≤◌, Bool, cond, not, ◌||◌, List, [], ◌∷◌, ◌++◌, length, take, drop, Ok, Err, Result, ◌==◌, nat_le, nat_lt, slice_index}
use Rattle.forms.specs.Bytes.{two}
use Rattle.symbols.specs.declared.code.CodeSet.{CodeSet}
use Rattle.symbols.specs.declared.code.CodeSet.TheVariants.{B, C}
use Rattle.symbols.specs.declared.reader.Said.{Said}
use Rattle.symbols.specs.declared.reader.Said.TheVariants.{Pair, Byte, Change}
use Rattle.symbols.specs.declared.fault.SymbolFault.{SymbolFault}
use Rattle.symbols.specs.declared.fault.SymbolFault.TheVariants.{Frame, CheckValue, NoUse, TooLong}
use Rattle.symbols.specs.Sets.{other}

-- what a value says in its set: some bytes, and the set in which reading goes on; or it has no use there
pub data Meaning : Type 0 where
  means : List ℕ → CodeSet → Meaning
  no_use : Meaning

-- in both sets 102 is the separator, byte 29
abbrev pub in_both : CodeSet → ℕ → Meaning
in_both s v = cond (v == 102) (means (29 ∷ []) s) no_use

-- in set C, 0 to 99 are two digits and 100 goes to set B; in set B, 0 to 95 are the bytes 32 to 127 and 99 goes to set C
abbrev pub meaning : CodeSet → ℕ → Meaning
meaning C v = cond (nat_le v 99) (means (two v) C) (cond (v == 100) (means [] B) (in_both C v))
meaning B v = cond (nat_le v 95) (means ((v + 32) ∷ []) B) (cond (v == 99) (means [] C) (in_both B v))

-- what the reader's answer at a value says, in its set
abbrev pub meant : CodeSet → Said → Meaning
meant s (Pair a b) = means (a ∷ b ∷ []) s
meant s (Byte b) = means (b ∷ []) s
meant s Change = means [] (other s)

-- the data of the values that stand from a place on, behind the bytes `got`; never more than 48 bytes
abbrev pub read_on : CodeSet → ℕ → List ℕ → List ℕ → Result (List ℕ) SymbolFault
read_on s place got [] = Ok got
read_on s place got (v ∷ vs) =
    elim (meaning s v) [
      | means bs t ↦ cond (nat_le (length got + length bs) 48) (read_on t (place + 1) (got ++ bs) vs) (Err (TooLong place))
      | no_use ↦ Err (NoUse place)
    ]

-- the sum of place × value, over values that stand from a place on
abbrev pub weighted : ℕ → List ℕ → ℕ
weighted place [] = 0
weighted place (v ∷ vs) = place * v + weighted (place + 1) vs

-- the check value of a start and the values behind it, whose places count from 1
abbrev pub check_of : List ℕ → ℕ
check_of [] = 0
check_of (start ∷ vs) = (start + weighted 1 vs) % 103

-- the starts: 104 for set B, 105 for set C
abbrev pub starts : ℕ → Bool
starts v = v == 104 || v == 105

-- the set that a start names
abbrev pub start_set : ℕ → CodeSet
start_set v = cond (v == 105) C B

-- what a symbol's values say: its data, or the first rule that they break, tried in this order
abbrev pub decoded : List ℕ → Result (List ℕ) SymbolFault
decoded vs =
    cond (nat_lt (length vs) 4) (Err (Frame (length vs)))
    (cond (not (starts (slice_index vs 0))) (Err (Frame 0))
    (cond (not (slice_index vs 1 == 102)) (Err (Frame 1))
    (cond (not (slice_index vs (length vs - 1) == 106)) (Err (Frame (length vs - 1)))
    (cond (not (slice_index vs (length vs - 2) == check_of (take (length vs - 2) vs))) (Err (CheckValue (length vs - 2)))
    (read_on (start_set (slice_index vs 0)) 2 [] (drop 2 (take (length vs - 2) vs)))))))

-- a reader's answer: the number of bytes of data, which stand over the first of `before`; or the fault, and the bytes of `before` stay
abbrev pub Decodes : Result ℕ SymbolFault → List ℕ → List ℕ → List ℕ → Type 0
Decodes (Ok n) vs before after = (n ≤ 48) × (decoded vs ≡ Ok (take n after)) × (drop n after ≡ drop n before)
Decodes (Err f) vs before after = (decoded vs ≡ Err f) × (after ≡ before)
