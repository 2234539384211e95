-- What a card writes, as it is handed on.
use Rattle.std.specs.Prelude.{◌≡◌, ⊤, ℕ, ◌<◌, ◌≤◌, List, [], length, take, Some, None, Ok, Err, vec_items, Option, Result, slice_index_or}
use Rattle.std.specs.Global.{Vec}
use Rattle.commands.specs.declared.error.Failure.{Failure}
use Rattle.commands.specs.declared.error.Failure.TheVariants.{Refused, Memory}
use Rattle.symbols.specs.declared.fault.WriterFault.{WriterFault}
use Rattle.cards.specs.declared.fault.PrintFault.{PrintFault}
use Rattle.cards.specs.declared.fault.PrintFault.TheVariants.{NoSymbol, Short}

-- a buffer of `room` bytes was lent to a writer, which answered r
pub record Lent {E : Type 0} (writes : List ℕ → Result ℕ E → List ℕ → Type 0) (room : ℕ) (r : Result ℕ E) : Type 0 where
  pub before : List ℕ
  pub after : List ℕ
  pub long : length before ≡ room
  pub stays : length after ≡ room
  pub wrote : writes before r after

-- a buffer of `room` bytes was lent to a writer: its first bytes, as many as the writer answers; or the writer refuses
abbrev pub Written : {E : Type 0} → (List ℕ → Result ℕ E → List ℕ → Type 0) → ℕ → Result (Vec ℕ) (Failure E) → Type 0
Written writes room (Ok v) = (n : ℕ) × (lent : Lent writes room (Ok n)) × (vec_items v ≡ take n lent.after)
Written writes room (Err (Refused e)) = Lent writes room (Err e)
Written writes room (Err (Memory e)) = ⊤

-- bytes from a buffer of `room` bytes: all of them; or how many are needed, which are more
abbrev pub StringIn : List ℕ → ℕ → Result (Vec ℕ) (Failure WriterFault) → Type 0
StringIn bytes room (Ok v) = (vec_items v ≡ bytes) × (length bytes ≤ room)
StringIn bytes room (Err (Refused f)) = (f.needed ≡ length bytes) × (room < length bytes)
StringIn bytes room (Err (Memory e)) = ⊤

-- the symbol of the number k from a buffer of `room` bytes; or there is none, and how many there are; or how many bytes are needed
abbrev pub SymbolIn : ℕ → List (List ℕ) → ℕ → Result (Vec ℕ) (Failure PrintFault) → Type 0
SymbolIn k all room (Ok v) = (k < length all) × (vec_items v ≡ slice_index_or all k []) × (length (slice_index_or all k []) ≤ room)
SymbolIn k all room (Err (Refused (NoSymbol count))) = (count ≡ length all) × (count ≤ k)
SymbolIn k all room (Err (Refused (Short f))) = (k < length all) × (f.needed ≡ length (slice_index_or all k [])) × (room < length (slice_index_or all k []))
SymbolIn k all room (Err (Memory e)) = ⊤

-- the symbol of the number k, or that there is none
abbrev pub IsSymbol : ℕ → List (List ℕ) → Option (Vec ℕ) → Type 0
IsSymbol k all (Some v) = (k < length all) × (vec_items v ≡ slice_index_or all k [])
IsSymbol k all None = length all ≤ k
