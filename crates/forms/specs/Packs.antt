-- Bytes in memory of a fixed size.
use Rattle.std.specs.Prelude.{ℕ, ◌-◌, List, ◌++◌, length, take, replicate}
use Rattle.forms.specs.declared.packed.Packed.{Packed}

-- the bytes, in front of zeros
abbrev pub packed : (n : ℕ) → List ℕ → Packed n
packed n f = record { bytes = f ++ replicate (n - length f) 0; len = length f }

abbrev pub unpacked : {n : ℕ} → Packed n → List ℕ
unpacked p = take p.len p.bytes
