-- What a program answers to a line.
use Rattle.std.specs.Prelude.{◌≡◌, ⊤, ℕ, List, [], ◌∷◌, ◌++◌, Some, None, Ok, Err, Option, Result}
use Rattle.commands.specs.Complaints.{complaint_text}
use Rattle.commands.specs.declared.complaint.Complaint.{Complaint}
use Rattle.commands.specs.declared.error.Failure.{Failure}
use Rattle.commands.specs.declared.error.Failure.TheVariants.{Refused, Memory}

-- what a line that was read so leaves: a silent one the program p and the text was; a complaint the program too, and its text on a line (10)
abbrev pub Leaves : {P C : Type 0} → Result (Option C) (Failure Complaint) → P → P → List ℕ → List ℕ → Type 0 → Type 0
Leaves (Ok None) p q was text ok = (q ≡ p) × (text ≡ was)
Leaves (Ok (Some c)) p q was text ok = ⊤
Leaves (Err (Refused e)) p q was text ok = (q ≡ p) × (ok → text ≡ was ++ complaint_text e ++ 10 ∷ [])
Leaves (Err (Memory e)) p q was text ok = (q ≡ p) × (text ≡ was)

-- the line is read in some way, and leaves what that way leaves
pub record Answered {P C : Type 0} (reads : Result (Option C) (Failure Complaint) → Type 0) (p q : P) (was text : List ℕ) (ok : Type 0) : Type 0 where
  pub read : Result (Option C) (Failure Complaint)
  pub may : reads read
  pub leaves : Leaves read p q was text ok
