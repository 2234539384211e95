-- What each refusal tells: its number, its layer and its place.
use Rattle.std.specs.Prelude.{ℕ}
use Rattle.forms.specs.declared.fault.Layer.{Layer}
use Rattle.forms.specs.declared.fault.Layer.TheVariants.{Scan, Field, Writer, Symbol}
use Rattle.scans.specs.Faults.{scan_number, scan_layer, scan_place}
use Rattle.symbols.specs.declared.fault.WriterFault.{WriterFault}
use Rattle.symbols.specs.declared.fault.SymbolFault.{SymbolFault}
use Rattle.symbols.specs.declared.fault.SymbolFault.TheVariants as reading
use Rattle.symbols.specs.declared.fault.AddFault.{AddFault}
use Rattle.symbols.specs.declared.fault.AddFault.TheVariants as adding

-- a buffer that is too short
abbrev pub writer_number : WriterFault → ℕ
writer_number f = 15

-- its layer
abbrev pub writer_layer : WriterFault → Layer
writer_layer f = Writer

-- its place: the bytes that are needed, counted from the buffer's start
abbrev pub writer_place : WriterFault → ℕ
writer_place f = f.needed

-- values that are no symbol
abbrev pub symbol_number : SymbolFault → ℕ
symbol_number (reading.Frame p) = 17
symbol_number (reading.CheckValue p) = 18
symbol_number (reading.NoUse p) = 19
symbol_number (reading.TooLong p) = 20
symbol_number (reading.Scan f) = scan_number f

-- their layer
abbrev pub symbol_layer : SymbolFault → Layer
symbol_layer (reading.Frame p) = Symbol
symbol_layer (reading.CheckValue p) = Symbol
symbol_layer (reading.NoUse p) = Symbol
symbol_layer (reading.TooLong p) = Symbol
symbol_layer (reading.Scan f) = scan_layer f

-- their place: the index of the value that breaks the rule
abbrev pub symbol_place : SymbolFault → ℕ
symbol_place (reading.Frame p) = p
symbol_place (reading.CheckValue p) = p
symbol_place (reading.NoUse p) = p
symbol_place (reading.TooLong p) = p
symbol_place (reading.Scan f) = scan_place f

-- an element that is not added
abbrev pub add_number : AddFault → ℕ
add_number adding.Length = 4
add_number (adding.Barred p) = 5
add_number (adding.TooLong n) = 20
add_number (adding.Full f) = writer_number f

-- its layer
abbrev pub add_layer : AddFault → Layer
add_layer adding.Length = Scan
add_layer (adding.Barred p) = Field
add_layer (adding.TooLong n) = Symbol
add_layer (adding.Full f) = writer_layer f

-- its place: the element, the barred byte, the length that the data would have, or the bytes that are needed
abbrev pub add_place : AddFault → ℕ
add_place adding.Length = 0
add_place (adding.Barred p) = p
add_place (adding.TooLong n) = n
add_place (adding.Full f) = writer_place f
