-- What the calls do to an open symbol and the buffer that it stands in.
use Rattle.std.specs.Prelude.{◌≡◌, ⊤, ℕ, List, [], length, Ok, Err, vec_items, Result, Vec}
use Rattle.std.specs.declared.alloc.Global.{Global}
use Rattle.commands.specs.declared.error.Failure.{Failure}
use Rattle.commands.specs.declared.error.Failure.TheVariants.{Refused, Memory}
use Rattle.symbols.specs.Encoding.{joined}
use Rattle.symbols.specs.Reading.{decoded}
use Rattle.symbols.specs.Writing.{Stands, Added, stage, beginning, adding, sealing}
use Rattle.symbols.specs.declared.fault.AddFault.{AddFault}
use Rattle.symbols.specs.declared.fault.WriterFault.{WriterFault}
use Rattle.lane.specs.declared.label.OpenSymbol.{OpenSymbol}

-- the bytes of the buffer
abbrev pub held : OpenSymbol → List ℕ
held o = vec_items o.buffer

-- begin, over a buffer of `room` bytes
abbrev pub Begins : Result OpenSymbol (Failure WriterFault) → ℕ → Type 0
Begins (Ok o) room = (beginning room ≡ Ok (stage o.state)) × (length (held o) ≡ room) × Stands [] o.state (held o)
Begins (Err (Refused f)) room = beginning room ≡ Err f
Begins (Err (Memory e)) room = ⊤

-- add; refused, it gives back what it was given
abbrev pub Adds : Result OpenSymbol (OpenSymbol × AddFault) → OpenSymbol → List ℕ → Type 0
Adds (Ok o) was e = Added was.state o.state e (held was) (held o)
Adds (Err p) was e = (adding (stage was.state) e (length (held was)) ≡ Err p.1) × (p.0.state ≡ was.state) × (held p.0 ≡ held was)

-- seal: as many values as it answers, and those of a whole run read back to its elements joined; refused, it gives back what it was given
abbrev pub Seals : Result (Vec ℕ Global) (OpenSymbol × WriterFault) → OpenSymbol → Type 0
Seals (Ok vs) was =
    (sealing (stage was.state) (length (held was)) ≡ Ok (length (vec_items vs)))
    × ((es : List (List ℕ)) → Stands es was.state (held was) → decoded (vec_items vs) ≡ Ok (joined es))
Seals (Err p) was = (sealing (stage was.state) (length (held was)) ≡ Err p.1) × (p.0.state ≡ was.state) × (held p.0 ≡ held was)
