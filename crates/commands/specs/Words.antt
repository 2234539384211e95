-- How a line is cut.
use Rattle.std.specs.Prelude.{ℕ, ◌-◌, Bool, cond, not, List, [], ◌∷◌, Some, None, Option, length, take, drop, ◌==◌, slice_index}
use Rattle.std.specs.List.{prefix_len}

-- any byte but the space
abbrev pub solid : ℕ → Bool
solid b = not (b == 32)

-- what stands before the first space: all where there is none
abbrev pub word : List ℕ → List ℕ
word bs = take (prefix_len solid bs) bs

-- the first space and what stands behind it: nothing where there is none
abbrev pub tail : List ℕ → List ℕ
tail bs = drop (prefix_len solid bs) bs

-- what stands behind the space that a tail begins with
abbrev pub behind : List ℕ → List ℕ
behind bs = drop 1 bs

-- the word of a line and its tail; nothing where the line is silent, since it is empty or begins with '#' (35)
abbrev pub said : List ℕ → Option (List ℕ × List ℕ)
said [] = None
said (b ∷ bs) = cond (b == 35) None (Some (word (b ∷ bs), tail (b ∷ bs)))

-- one byte more in front of the first piece
abbrev pub longer : ℕ → List (List ℕ) → List (List ℕ)
longer b [] = (b ∷ []) ∷ []
longer b (p ∷ ps) = (b ∷ p) ∷ ps

-- the pieces between spaces: one more than there are spaces, and a piece may be empty
abbrev pub pieces : List ℕ → List (List ℕ)
pieces [] = [] ∷ []
pieces (b ∷ bs) = cond (b == 32) ([] ∷ pieces bs) (longer b (pieces bs))

-- the arguments in a tail: behind each of its spaces stands one, which may be empty
abbrev pub arguments : List ℕ → List (List ℕ)
arguments [] = []
arguments (b ∷ bs) = pieces bs

-- a line without its last byte, if that is 13
abbrev pub trimmed_line : List ℕ → List ℕ
trimmed_line bs = cond (slice_index bs (length bs - 1) == 13) (take (length bs - 1) bs) bs
