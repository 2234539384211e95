-- What is asked for, or why nothing is.
use Rattle.std.specs.Prelude.{◌≡◌, ⊤, ℕ, List, Some, None, Ok, Err, Option, Result}
use Rattle.commands.specs.declared.complaint.Complaint.{Complaint}
use Rattle.commands.specs.declared.error.Failure.{Failure}
use Rattle.commands.specs.declared.error.Failure.TheVariants.{Refused, Memory}

-- an A, or a complaint
abbrev pub Judged : Type 0 → Type 0
Judged A = Result A Complaint

-- what is judged, seen through f
abbrev pub judged : {A B : Type 0} → (A → B) → Judged A → Judged B
judged f (Ok a) = Ok (f a)
judged f (Err e) = Err e

-- what is read, seen through f, is what is meant, unless there was no memory
abbrev pub Says : {T A : Type 0} → (T → A) → Result T (Failure Complaint) → Judged A → Type 0
Says f (Ok x) meant = Ok (f x) ≡ meant
Says f (Err (Refused e)) meant = Err e ≡ meant
Says f (Err (Memory e)) meant = ⊤

-- what a line means by a rule for its word and its tail: nothing where it is silent
abbrev pub line_by : {A : Type 0} → (List ℕ → List ℕ → Judged A) → Option (List ℕ × List ℕ) → Judged (Option A)
line_by rule None = Ok None
line_by rule (Some p) = judged Some (rule p.0 p.1)
