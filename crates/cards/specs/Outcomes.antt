-- What each call on a card comes to, from the book's entries, the tally and what the call was handed.
use Rattle.std.specs.Prelude.{ℕ, zero, suc, ◌+◌, cond, List, [], ◌∷◌, ◌++◌, length, drop, is_some, Some, None, Ok, Err, Option, Result}
use Rattle.forms.specs.Bytes.{within}
use Rattle.books.specs.Texts.{starts}
use Rattle.books.specs.declared.entry.Entry.{Entry}
use Rattle.scans.specs.Elements.{Element, Front, front, mark}
use Rattle.scans.specs.Reads.{meaning}
use Rattle.scans.specs.declared.fault.ScanFault.{ScanFault}
use Rattle.scans.specs.declared.fault.ScanFault.TheVariants.{NoMark}
use Rattle.symbols.specs.Reading.{decoded}
use Rattle.symbols.specs.declared.fault.SymbolFault.{SymbolFault}
use Rattle.symbols.specs.declared.fault.SymbolFault.TheVariants as symbol
use Rattle.cards.specs.declared.fault.CardFault.{CardFault}
use Rattle.cards.specs.declared.fault.CardFault.TheVariants.{NotHeld, NoSuchYear, Outside}
use Rattle.cards.specs.Tallies.{Held, Tally, Put, put, look, without, first_outside}

-- SCAN

-- an element of a scan as it would be held in the year y
abbrev pub held_as : ℕ → Element → Held
held_as y x = record { entry = x.entry; value = meaning y x }

abbrev pub on_front : {A : Type 0} → Result Front ScanFault → (Front → Result A ScanFault) → Result A ScanFault
on_front (Err e) next = Err e
on_front (Ok f) next = next f

abbrev pub on_put : {A : Type 0} → Result Put ScanFault → (Put → Result A ScanFault) → Result A ScanFault
on_put (Err e) next = Err e
on_put (Ok q) next = next q

-- the elements of the bytes s, which stand at the place p, are put on a card that holds hs, one after the other;
-- n idents came to be held before; there are turns for k elements
unfoldable pub puts : ℕ → List Entry → ℕ → List Held → ℕ → ℕ → List ℕ → Result Put ScanFault
puts k es y hs n p [] = Ok (record { new = n; held = hs })
puts zero es y hs n p (b ∷ s) = Ok (record { new = n; held = hs })
puts (suc k) es y hs n p (b ∷ s) =
    on_front (front es y p (b ∷ s)) (λ f.
    on_put (put p hs (held_as y f.element)) (λ q.
    puts k es y q.held (n + q.new) (p + f.taken) (drop f.taken (b ∷ s))))

-- how many idents came to be held that were not, and what is held then
abbrev pub scan_outcome : List Entry → Tally → List ℕ → Result Put ScanFault
scan_outcome es t s = cond (starts mark s) (puts (length s) es t.year t.held 0 3 (drop 3 s)) (Err NoMark)

-- TAKE: the symbol's data behind the mark

abbrev pub in_symbol : Result Put ScanFault → Result Put SymbolFault
in_symbol (Ok q) = Ok q
in_symbol (Err e) = Err (symbol.Scan e)

abbrev pub take_data : List Entry → Tally → Result (List ℕ) SymbolFault → Result Put SymbolFault
take_data es t (Ok bytes) = in_symbol (scan_outcome es t (mark ++ bytes))
take_data es t (Err e) = Err e

abbrev pub take_outcome : List Entry → Tally → List ℕ → Result Put SymbolFault
take_outcome es t values = take_data es t (decoded values)

-- STRIKE

abbrev pub strike_outcome : Tally → List ℕ → Result (List Held) CardFault
strike_outcome t i = cond (is_some (look i t.held)) (Ok (without i t.held)) (Err NotHeld)

-- TURN

abbrev pub turn_unless : Option ℕ → Tally → ℕ → Result Tally CardFault
turn_unless (Some n) t y = Err (Outside n)
turn_unless None t y = Ok (record { year = y; held = t.held })

abbrev pub turn_outcome : Tally → ℕ → Result Tally CardFault
turn_outcome t y = cond (within 2000 2199 y) (turn_unless (first_outside y 0 t.held) t y) (Err NoSuchYear)
