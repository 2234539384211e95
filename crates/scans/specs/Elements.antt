-- What the bytes of a scan are read to: elements one after the other, or the first fault.
use Rattle.std.specs.Prelude.{ℕ, zero, suc, ◌+◌, Bool, cond, not, List, [], ◌∷◌, length, take, drop, Some, None, Ok, Err, Option, Result, ◌==◌, nat_le, slice_index}
use Rattle.std.specs.List.{prefix_len}
use Rattle.forms.specs.Bytes.{within}
use Rattle.forms.specs.Kinds.{kind_fault}
use Rattle.forms.specs.declared.fault.FieldFault.{FieldFault}
use Rattle.books.specs.Texts.{starts, predefined}
use Rattle.books.specs.Entries.{text, found}
use Rattle.books.specs.declared.entry.Entry.{Entry}
use Rattle.scans.specs.declared.fault.ScanFault.{ScanFault}
use Rattle.scans.specs.declared.fault.ScanFault.TheVariants.{NoMark, Separator, Unknown, Length, Field}

-- an element: the entry of its ident, and its field
pub record Element : Type 0 where
  pub entry : Entry
  pub field : List ℕ

-- an element at the front of some bytes, and how many bytes it takes, with the separator behind it if there is one
pub record Front : Type 0 where
  pub element : Element
  pub taken : ℕ

-- no separator
abbrev pub plain : ℕ → Bool
plain b = not (b == 29)

-- how many bytes stand before the next separator, or the end
abbrev pub run : List ℕ → ℕ
run s = prefix_len plain s

-- how long an entry's field is that has n bytes before the next separator:
-- a predefined one has its fixed length, any other runs to the separator
abbrev pub field_length : Entry → ℕ → Option ℕ
field_length e n =
    cond (predefined (text e))
    (cond (nat_le e.longest n) (Some e.longest) None)
    (cond (within e.shortest e.longest n) (Some n) None)

-- 1 where a separator stands in front
abbrev pub gap : List ℕ → ℕ
gap [] = 0
gap (b ∷ bs) = cond (b == 29) 1 0

-- the field is judged by its form
abbrev pub judged : Option FieldFault → Entry → List ℕ → ℕ → Result Front ScanFault
judged (Some f) e field taken = Err (Field f)
judged None e field taken = Ok (record { element = record { entry = e; field = field }; taken = taken })

-- the field of an entry whose ident stands at the place p, and `after` behind it
abbrev pub at_field : Entry → ℕ → ℕ → List ℕ → Option ℕ → Result Front ScanFault
at_field e y p after None = Err (Length p)
at_field e y p after (Some n) =
    judged (kind_fault e.form y (p + e.ident.digits) (take n after)) e (take n after) (e.ident.digits + n + gap (drop n after))

abbrev pub at_entry : Option Entry → ℕ → ℕ → List ℕ → Result Front ScanFault
at_entry None y p s = Err (Unknown p)
at_entry (Some e) y p s = at_field e y p (drop e.ident.digits s) (field_length e (run (drop e.ident.digits s)))

-- the element at the front of the bytes s, which stand at the place p of a scan, in the year y
abbrev pub front : List Entry → ℕ → ℕ → List ℕ → Result Front ScanFault
front es y p s = cond (slice_index s 0 == 29) (Err (Separator p)) (at_entry (found es s) y p s)

abbrev pub before : Element → Result (List Element) ScanFault → Result (List Element) ScanFault
before x (Err e) = Err e
before x (Ok xs) = Ok (x ∷ xs)

-- what follows an element in front
abbrev pub onward : Result Front ScanFault → (Front → Result (List Element) ScanFault) → Result (List Element) ScanFault
onward (Err e) next = Err e
onward (Ok f) next = next f

-- all elements of the bytes s, of which there are at most n
unfoldable pub elements : ℕ → List Entry → ℕ → ℕ → List ℕ → Result (List Element) ScanFault
elements n es y p [] = Ok []
elements zero es y p (b ∷ s) = Ok []
elements (suc n) es y p (b ∷ s) =
    onward (front es y p (b ∷ s)) (λ f. before f.element (elements n es y (p + f.taken) (drop f.taken (b ∷ s))))

-- `]C1`
abbrev pub mark : List ℕ
mark = 93 ∷ 67 ∷ 49 ∷ []

-- the elements of a scan
abbrev pub scanned : List Entry → ℕ → List ℕ → Result (List Element) ScanFault
scanned es y s = cond (starts mark s) (elements (length s) es y 3 (drop 3 s)) (Err NoMark)
