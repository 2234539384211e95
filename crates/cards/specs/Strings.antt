-- The canonical string of a card, and the symbols that print gives of it.
use Rattle.std.specs.Prelude.{◌≡◌, ℕ, ◌<◌, ◌≤◌, Bool, cond, not, List, [], ◌∷◌, ◌++◌, map, length, drop, Ok, Err, Result, nat_le, slice_index_or}
use Rattle.forms.specs.Values.{written}
use Rattle.books.specs.Texts.{predefined}
use Rattle.symbols.specs.Writing.{Stage, opening, fresh, next, closing, written_all}
use Rattle.symbols.specs.declared.fault.WriterFault.{WriterFault}
use Rattle.cards.specs.declared.fault.PrintFault.{PrintFault}
use Rattle.cards.specs.declared.fault.PrintFault.TheVariants.{NoSymbol, Short}
use Rattle.cards.specs.Tallies.{Held, Tally, ident}

-- an element as it is written: ident and writing
abbrev pub piece : Held → List ℕ
piece x = ident x ++ written x.value

-- the separator that stands behind an element that is not predefined, where another follows
abbrev pub parting : Held → List ℕ
parting x = cond (predefined (ident x)) [] (29 ∷ [])

-- what stands behind x, where xs follow
abbrev pub ending : Held → List Held → List ℕ
ending x [] = []
ending x (z ∷ zs) = parting x ++ (piece z ++ ending z zs)

-- elements one behind the other
abbrev pub spelled : List Held → List ℕ
spelled [] = []
spelled (x ∷ xs) = piece x ++ ending x xs

-- the canonical string
abbrev pub canonical : Tally → List ℕ
canonical t = spelled t.held

-- elements one behind the other, with a separator before the first where one is pending
abbrev pub spelled_after : Bool → List Held → List ℕ
spelled_after pending [] = []
spelled_after pending (x ∷ xs) = cond pending (29 ∷ []) [] ++ (piece x ++ spelled_after (not (predefined (ident x))) xs)

-- what a writer answers that is to write bytes over the first of a buffer: how many they are, and the rest stays;
-- or how many bytes are needed, and all stays
abbrev pub Writes : List ℕ → List ℕ → List ℕ → Result ℕ WriterFault → Type 0
Writes bytes before after (Ok n) = (n ≡ length bytes) × (n ≤ length before) × (after ≡ bytes ++ drop n before)
Writes bytes before after (Err f) = (f.needed ≡ length bytes) × (length before < length bytes) × (after ≡ before)

-- FILLING: each element in canonical order joins the current symbol, if there is one and its data then has at most 48 bytes,
-- else it begins the next. `run` is what the current symbol has

abbrev pub fill : List Held → List Held → List (List Held)
fill run [] = run ∷ []
fill run (x ∷ xs) =
    cond (nat_le (length (spelled (run ++ x ∷ []))) 48) (fill (run ++ x ∷ []) xs) (run ∷ fill (x ∷ []) xs)

-- the elements of each symbol
abbrev pub runs : List Held → List (List Held)
runs [] = []
runs (x ∷ xs) = fill (x ∷ []) xs

-- PRINTING

-- how far a symbol is written once elements have been added one after the other
abbrev pub reached : Stage → List (List ℕ) → Stage
reached s [] = s
reached s (e ∷ es) = reached (next s e) es

-- the symbol of a run: what begin, an add for each element and seal write, one behind the other
abbrev pub symbol_of : List Held → List ℕ
symbol_of run = opening ++ (written_all fresh (map piece run) ++ closing (reached fresh (map piece run)))

-- the symbols of a card, one for each run
abbrev pub symbols : Tally → List (List ℕ)
symbols t = map symbol_of (runs t.held)

-- what print answers of the symbol of that number: it is written; or there is none of that number, and how many there are;
-- or how many bytes it needs
abbrev pub Prints : ℕ → List (List ℕ) → List ℕ → List ℕ → Result ℕ PrintFault → Type 0
Prints k all before after (Ok n) = (k < length all) × Writes (slice_index_or all k []) before after (Ok n)
Prints k all before after (Err (NoSymbol count)) = (count ≡ length all) × (count ≤ k) × (after ≡ before)
Prints k all before after (Err (Short f)) = (k < length all) × Writes (slice_index_or all k []) before after (Err f)
