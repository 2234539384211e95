-- What is answered to a line that is no command.
use Rattle.std.specs.Prelude.{ℕ, List, codes}
use Rattle.commands.specs.declared.complaint.Complaint.{Complaint}
use Rattle.commands.specs.declared.complaint.Complaint.TheVariants.{UnknownCommand, BadEscape, BadNumber, NoOpenSymbol, TooLate}

abbrev pub complaint_text : Complaint → List ℕ
complaint_text UnknownCommand = codes "? unknown command"
complaint_text BadEscape = codes "? bad escape"
complaint_text BadNumber = codes "? bad number"
complaint_text NoOpenSymbol = codes "? no open symbol"
complaint_text TooLate = codes "? too late"
