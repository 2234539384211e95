-- Which bytes spell which elements: the grammar of a scan, without a reader's steps.
use Rattle.std.specs.Prelude.{◌≡◌, ℕ, ◌≤◌, true, ◌⊎◌, List, [], ◌∷◌, ◌++◌, length, Ok, ◌≢◌, slice_index}
use Rattle.forms.specs.Bytes.{every}
use Rattle.forms.specs.Kinds.{kind_lawful}
use Rattle.books.specs.Texts.{predefined}
use Rattle.books.specs.Entries.{text, In}
use Rattle.books.specs.declared.entry.Entry.{Entry}
use Rattle.scans.specs.Elements.{Element, plain, mark, scanned}

-- an element that a book knows: its entry is in the book, its field has a length that the entry allows and holds no separator
pub record Known (es : List Entry) (x : Element) : Type 0 where
  pub listed : In x.entry es
  pub least : x.entry.shortest ≤ length x.field
  pub most : length x.field ≤ x.entry.longest
  pub plainly : every plain x.field ≡ true

-- the separators that may and must stand between an element and the bytes behind it: at most one;
-- where the element is not predefined, one unless nothing stands behind
abbrev pub Gap : Element → List ℕ → List ℕ → Type 0
Gap x gap rest = (gap ≡ 29 ∷ []) ⊎ ((gap ≡ []) × ((predefined (text x.entry) ≡ true) ⊎ (rest ≡ [])))

-- the bytes are the elements, one behind the other: ident, field, and what must or may stand between
abbrev pub Spells : List Entry → List ℕ → List Element → Type 0
Spells es s [] = s ≡ []
Spells es s (x ∷ xs) =
    (gap : List ℕ) × (rest : List ℕ) × (s ≡ text x.entry ++ (x.field ++ (gap ++ rest))) × Known es x × Gap x gap rest × Spells es rest xs

-- every field is lawful in the year y
abbrev pub Lawful : ℕ → List Element → Type 0
Lawful y [] = Unit {0}
Lawful y (x ∷ xs) = kind_lawful x.entry.form y x.field × Lawful y xs

-- the elements stand in front of the bytes s, each lawful in the year y, and `rest` is what stands behind them; a separator
-- behind the last of them is no part of the rest
abbrev pub Begins : List Entry → ℕ → List ℕ → List Element → List ℕ → Type 0
Begins es y s [] rest = s ≡ rest
Begins es y s (x ∷ xs) rest =
    (gap : List ℕ) × (behind : List ℕ) × (s ≡ text x.entry ++ (x.field ++ (gap ++ behind))) × Known es x × Gap x gap behind
    × (gap ≡ [] → slice_index behind 0 ≢ 29) × kind_lawful x.entry.form y x.field × Begins es y behind xs rest

-- a scan of elements: the mark, the elements spelled, each field lawful
pub record Scan (es : List Entry) (y : ℕ) (s : List ℕ) (xs : List Element) : Type 0 where
  pub body : List ℕ
  pub marked : s ≡ mark ++ body
  pub spelled : Spells es body xs
  pub lawful : Lawful y xs

-- a scan is read to a list of elements exactly where it is a scan of them
abbrev pub ReadAsSpelled : List Entry → Type 0
ReadAsSpelled es =
    (y : ℕ) (s : List ℕ) (xs : List Element) → (scanned es y s ≡ Ok xs → Scan es y s xs) × (Scan es y s xs → scanned es y s ≡ Ok xs)
