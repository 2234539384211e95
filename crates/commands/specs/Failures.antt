-- What is told of a failure.
use Rattle.std.specs.Prelude.{ℕ, List, None, Option}
use Rattle.commands.specs.declared.error.Failure.{Failure}
use Rattle.commands.specs.declared.error.Failure.TheVariants.{Refused, Memory}

-- why it is refused, told by `text`
abbrev pub failure_text : {E : Type 0} → (E → Option (List ℕ)) → Failure E → Option (List ℕ)
failure_text text (Refused e) = text e
failure_text text (Memory e) = None
