-- The laws of symbols.
use Rattle.std.specs.Prelude.{◌≡◌, ℕ, List, ◌++◌, length, Ok}
use Rattle.symbols.specs.Reading.{check_of, decoded}
use Rattle.symbols.specs.Encoding.{joined}
use Rattle.symbols.specs.Writing.{Stage, opening, fresh, taken_all, written_all, closing}

-- the symbol counts what begin and the adds wrote, has its check value, and counts the bytes of the elements joined with separators
pub record Counted (es : List (List ℕ)) (t : Stage) : Type 0 where
  pub len : t.len ≡ length (opening ++ written_all fresh es)
  pub sum : t.sum ≡ check_of (opening ++ written_all fresh es)
  pub bytes : t.bytes ≡ length (joined es)

-- it does so after every list of elements that are added one after the other
abbrev pub CountsRight : Type 0
CountsRight = (es : List (List ℕ)) (t : Stage) → taken_all fresh es ≡ Ok t → Counted es t

-- for every list of elements that are added one after the other: what begin, the adds and seal write, one behind the other,
-- is a symbol that reads back to the elements joined with separators
abbrev pub ReadsBack : Type 0
ReadsBack = (es : List (List ℕ)) (t : Stage) → taken_all fresh es ≡ Ok t → decoded (opening ++ (written_all fresh es ++ closing t)) ≡ Ok (joined es)
