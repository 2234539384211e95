-- Values as they are told.
use Rattle.std.specs.Prelude.{ℕ, List, ◌++◌, codes, decimal}
use Rattle.forms.specs.Printed.{date_text, stamp_text}
use Rattle.forms.specs.declared.value.Value.{Value}
use Rattle.forms.specs.declared.value.Value.TheVariants.{Text, Key, Date, Stamp, Fraction, Whole}

-- the kind of a value, and what it is where its writing does not tell
abbrev pub value_text : Value → List ℕ
value_text (Text len) = codes "text"
value_text (Key key) = codes "key"
value_text (Date date) = codes "date " ++ date_text date
value_text (Stamp stamp) = codes "stamp " ++ stamp_text stamp
value_text (Fraction n) = codes "fraction " ++ decimal n
value_text (Whole n) = codes "whole " ++ decimal n
