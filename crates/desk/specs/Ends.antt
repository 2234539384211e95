-- The end of a line.
use Rattle.std.specs.Prelude.{ℕ, ◌-◌, cond, List, length, take, ◌==◌, slice_index}
use Rattle.commands.specs.Words.{trimmed_line}

-- a line without its last byte, if that is 10, and then without a 13 at its end; else the whole line
abbrev pub without_end : List ℕ → List ℕ
without_end bs = cond (slice_index bs (length bs - 1) == 10) (trimmed_line (take (length bs - 1) bs)) bs
