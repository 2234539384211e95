-- What a buffer has.
use Rattle.std.specs.Prelude.{ℕ, List, take}
use Rattle.buffers.specs.declared.buffer.Buffer.{Buffer}

-- its bytes
abbrev pub shown : {N : ℕ} → Buffer N → List ℕ
shown b = take b.len b.bytes
