-- What the calls that write a symbol do, and what runs of them come to.
use Rattle.std.specs.Prelude.{◌≡◌, ℕ, ◌+◌, ◌%◌, ◌≤◌, Bool, false, cond, List, [], ◌∷◌, ◌++◌, length, take, drop, set, Ok, Err, Result, nat_lt}
use Rattle.std.specs.List.{prefix_len}
use Rattle.forms.specs.Bytes.{allowed}
use Rattle.symbols.specs.declared.code.CodeSet.{CodeSet}
use Rattle.symbols.specs.declared.code.CodeSet.TheVariants.{C}
use Rattle.symbols.specs.declared.state.Open.{Open}
use Rattle.symbols.specs.declared.fault.WriterFault.{WriterFault}
use Rattle.symbols.specs.declared.fault.AddFault.{AddFault}
use Rattle.symbols.specs.declared.fault.AddFault.TheVariants.{Length, Barred, TooLong, Full}
use Rattle.symbols.specs.Reading.{weighted, decoded}
use Rattle.symbols.specs.Encoding.{values, set_after, fixed_length, misfits, separated, clean, joined}

-- how far a symbol is written: its values, their check value, the set and the bytes of data, and whether its last element needs a separator
pub record Stage : Type 0 where
  pub len : ℕ
  pub sum : ℕ
  pub set : CodeSet
  pub bytes : ℕ
  pub pending : Bool

-- how far an open symbol is written
abbrev pub stage : Open → Stage
stage o = record { len = o.len; sum = o.sum; set = o.set; bytes = o.bytes; pending = o.pending }

-- vs stands in `after` over what `before` has from n on, and all else is as before
abbrev pub Over : ℕ → List ℕ → List ℕ → List ℕ → Type 0
Over n vs before after = after ≡ take n before ++ (vs ++ drop (n + length vs) before)

-- the buffer lacks bytes that a call needs, counted from its start
abbrev pub full : ℕ → WriterFault
full n = record { needed = n }

-- BEGIN

-- the start of set C, and the value that marks the symbol
abbrev pub opening : List ℕ
opening = 105 ∷ 102 ∷ []

-- their check value is (105 + 1 × 102) mod 103
abbrev pub fresh : Stage
fresh = record { len = 2; sum = 1; set = C; bytes = 0; pending = false }

-- begin, in a buffer of `room` bytes
abbrev pub beginning : ℕ → Result Stage WriterFault
beginning room = cond (nat_lt room 2) (Err (full 2)) (Ok fresh)

-- ADD

-- the values of an element behind those of the symbol
abbrev pub written : Stage → List ℕ → List ℕ
written s e = cond s.pending (102 ∷ []) [] ++ values s.set e

-- the bytes of data then
abbrev pub grown : Stage → List ℕ → ℕ
grown s e = s.bytes + (cond s.pending 1 0 + length e)

-- how far the symbol is written with an element: each value weighs with its place, counted on
abbrev pub next : Stage → List ℕ → Stage
next s e =
    record {
      len = s.len + length (written s e);
      sum = (s.sum + weighted s.len (written s e)) % 103;
      set = set_after s.set e;
      bytes = grown s e;
      pending = separated e;
    }

-- the symbol with the element, in a buffer with room; or the first rule that it breaks, tried in this order
abbrev pub taken : Stage → List ℕ → Result Stage AddFault
taken s e =
    cond (misfits (length e) (fixed_length e)) (Err Length)
    (cond (nat_lt (clean e) (length e)) (Err (Barred (clean e)))
    (cond (nat_lt 48 (grown s e)) (Err (TooLong (grown s e))) (Ok (next s e))))

-- what is known of an element that is taken, and of the bytes of data with it
pub record Admitted (b : ℕ) (s : Stage) (e : List ℕ) : Type 0 where
  pub is : taken s e ≡ Ok (next s e)
  pub bytes : b ≡ grown s e
  pub few : b ≤ 48
  pub text : prefix_len allowed e ≡ length e

-- the test of an element: the bytes of data with it, or the rule that it breaks
abbrev pub Admits : Result ℕ AddFault → Stage → List ℕ → Type 0
Admits (Ok b) s e = Admitted b s e
Admits (Err f) s e = taken s e ≡ Err f

-- in a buffer of `room` bytes the last value has to fit
abbrev pub within_room : ℕ → Result Stage AddFault → Result Stage AddFault
within_room room (Ok t) = cond (nat_lt room t.len) (Err (Full (full t.len))) (Ok t)
within_room room (Err f) = Err f

-- add, in a buffer of `room` bytes
abbrev pub adding : Stage → List ℕ → ℕ → Result Stage AddFault
adding s e room = within_room room (taken s e)

-- SEAL

-- the check value of what begin and add wrote, and the stop
abbrev pub closing : Stage → List ℕ
closing s = s.sum ∷ 106 ∷ []

-- seal, in a buffer of `room` bytes
abbrev pub sealing : Stage → ℕ → Result ℕ WriterFault
sealing s room = cond (nat_lt room (s.len + 2)) (Err (full (s.len + 2))) (Ok (s.len + 2))

-- what stands then: those two values, and all else is as before
abbrev pub Closes : Result ℕ WriterFault → Stage → List ℕ → List ℕ → Type 0
Closes (Ok n) s before after = (sealing s (length before) ≡ Ok n) × (n ≡ s.len + 2) × (n ≤ length before) × (after ≡ set (set before s.len s.sum) (s.len + 1) 106)
Closes (Err f) s before after = (sealing s (length before) ≡ Err f) × (after ≡ before)

-- RUNS

-- one element is added after the other, as long as each is taken; with room enough, that is as long as add accepts each
abbrev pub taken_all : Stage → List (List ℕ) → Result Stage AddFault
taken_all s [] = Ok s
taken_all s (e ∷ es) = elim (taken s e) [ Ok t ↦ taken_all t es | Err f ↦ Err f ]

-- what those calls write, one behind the other
abbrev pub written_all : Stage → List (List ℕ) → List ℕ
written_all s [] = []
written_all s (e ∷ es) = written s e ++ written_all (next s e) es

-- the open symbol is that of a whole run, begin and an add for each of the elements, and the buffer holds what those calls wrote
pub record Stands (es : List (List ℕ)) (o : Open) (buf : List ℕ) : Type 0 where
  pub run : taken_all fresh es ≡ Ok (stage o)
  pub wrote : take o.len buf ≡ opening ++ written_all fresh es

-- THE CALLS

-- what begin did: the parts named `stands` tell what runs of calls come to
pub record Begun (o : Open) (before after : List ℕ) : Type 0 where
  pub is : beginning (length before) ≡ Ok (stage o)
  pub wrote : Over 0 opening before after
  pub stands : Stands [] o after

-- begin; refused, it leaves the buffer
abbrev pub Begins : Result Open WriterFault → List ℕ → List ℕ → Type 0
Begins (Ok o) before after = Begun o before after
Begins (Err f) before after = (beginning (length before) ≡ Err f) × (after ≡ before)

-- what add did
pub record Added (was o : Open) (e before after : List ℕ) : Type 0 where
  pub is : adding (stage was) e (length before) ≡ Ok (stage o)
  pub wrote : Over was.len (written (stage was) e) before after
  pub stands : (es : List (List ℕ)) → Stands es was before → Stands (es ++ (e ∷ [])) o after

-- add; refused, it gives the symbol back, and leaves the buffer
abbrev pub Adds : Result Open (Open × AddFault) → Open → List ℕ → List ℕ → List ℕ → Type 0
Adds (Ok o) was e before after = Added was o e before after
Adds (Err p) was e before after = (adding (stage was) e (length before) ≡ Err p.1) × (p.0 ≡ was) × (after ≡ before)

-- what seal did: the symbol of a whole run reads back to its elements joined
pub record Sealed (n : ℕ) (was : Open) (before after : List ℕ) : Type 0 where
  pub is : sealing (stage was) (length before) ≡ Ok n
  pub wrote : Over was.len (closing (stage was)) before after
  pub stands : (es : List (List ℕ)) → Stands es was before → decoded (take n after) ≡ Ok (joined es)

-- seal; refused, it gives the symbol back, and leaves the buffer
abbrev pub Seals : Result ℕ (Open × WriterFault) → Open → List ℕ → List ℕ → Type 0
Seals (Ok n) was before after = Sealed n was before after
Seals (Err p) was before after = (sealing (stage was) (length before) ≡ Err p.1) × (p.0 ≡ was) × (after ≡ before)
