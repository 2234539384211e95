-- How layers, dates and stamps are printed.
use Rattle.std.specs.Prelude.{ℕ, ◌-◌, List, ◌++◌, length, replicate, codes, decimal}
use Rattle.forms.specs.declared.fault.Layer.{Layer}
use Rattle.forms.specs.declared.fault.Layer.TheVariants.{Scan, Field, Card, Writer, Symbol, Book}
use Rattle.forms.specs.declared.value.Date.{Date}
use Rattle.forms.specs.declared.value.Stamp.{Stamp}

abbrev pub layer_name : Layer → List ℕ
layer_name Scan = codes "scan"
layer_name Field = codes "field"
layer_name Card = codes "card"
layer_name Writer = codes "writer"
layer_name Symbol = codes "symbol"
layer_name Book = codes "book"

-- a number, with zeros in front up to so many digits
abbrev pub zeros_before : ℕ → ℕ → List ℕ
zeros_before w n = replicate (w - length (decimal n)) 48 ++ decimal n

-- year, month and day
abbrev pub date_text : Date → List ℕ
date_text d = zeros_before 4 d.year ++ (codes "-" ++ (zeros_before 2 d.month ++ (codes "-" ++ zeros_before 2 d.day)))

-- the date, and behind a space hour and minute
abbrev pub stamp_text : Stamp → List ℕ
stamp_text s = date_text s.date ++ (codes " " ++ (zeros_before 2 s.hour ++ (codes ":" ++ zeros_before 2 s.minute)))
