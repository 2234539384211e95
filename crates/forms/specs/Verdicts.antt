-- First faults, in the order in which they are tried.
use Rattle.std.specs.Prelude.{ℕ, ◌+◌, Bool, cond, List, length, Some, None, Ok, Err, Option, Result}
use Rattle.std.specs.List.{prefix_len}
use Rattle.forms.specs.Bytes.{within, every}
use Rattle.forms.specs.declared.fault.FieldFault.{FieldFault}
use Rattle.forms.specs.declared.fault.FieldFault.TheVariants.{Length, Barred}

-- the fault, where there is one, else the next
abbrev pub first_of : Option FieldFault → Option FieldFault → Option FieldFault
first_of (Some e) next = Some e
first_of None next = next

-- what a reader answers: the fault, where there is one, else the value
abbrev pub answered : {V : Type 0} → Option FieldFault → V → Result V FieldFault
answered (Some e) v = Err e
answered None v = Ok v

-- a fault where the test fails
abbrev pub unless : Bool → FieldFault → Option FieldFault
unless b e = cond b None (Some e)

-- a field of `low` to `high` bytes, all of the class p, which begins at the place `at`:
-- a wrong length is told at the field, the first other byte where it stands
abbrev pub admitted : (ℕ → Bool) → ℕ → ℕ → ℕ → List ℕ → Option FieldFault
admitted p low high at f =
    first_of (unless (within low high (length f)) (Length at)) (unless (every p f) (Barred (at + prefix_len p f)))
