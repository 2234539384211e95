-- What a book means: a list of entries, of which no ident equals or begins another.
use Rattle.std.specs.Prelude.{◌≡◌, ℕ, Bool, true, not, ◌&&◌, ◌⊎◌, List, [], ◌∷◌, Option}
use Rattle.std.specs.List.{list_all, find, cons_option, filter_map}
use Rattle.forms.specs.Bytes.{last_digits}
use Rattle.books.specs.declared.entry.Entry.{Entry}
use Rattle.books.specs.declared.ident.Ident.{Ident}
use Rattle.books.specs.Texts.{starts, overlap}
use Rattle.books.specs.Lawful.{lawful}

-- the digits that write an ident
abbrev pub ident_text : Ident → List ℕ
ident_text i = last_digits i.digits i.number

-- the digits that write an entry's ident
abbrev pub text : Entry → List ℕ
text e = ident_text e.ident

-- every entry is lawful
abbrev pub all_lawful : List Entry → Bool
all_lawful es = list_all (λ e. lawful e.ident.digits e.ident.number e.form e.shortest e.longest) es

-- no entry's ident equals, begins or is begun by the ident
abbrev pub apart_from_all : List ℕ → List Entry → Bool
apart_from_all ident es = list_all (λ e. not (overlap ident (text e))) es

-- no entry's ident equals or begins another's
abbrev pub prefix_free : List Entry → Bool
prefix_free [] = true
prefix_free (e ∷ es) = apart_from_all (text e) es && prefix_free es

-- the first entry whose ident the bytes begin with; where idents are prefix-free, the only one
abbrev pub found : List Entry → List ℕ → Option Entry
found es shown = find (λ e. starts (text e) shown) es

-- an entry that is there, before others
abbrev pub joined : Option Entry → List Entry → List Entry
joined o es = cons_option o es

-- the entries that the items of a list spell
abbrev pub listed : {A : Type 0} → (A → Option Entry) → List A → List Entry
listed spells xs = filter_map spells xs

-- the list has it
abbrev pub In : {A : Type 0} → A → List A → Type 0
In x [] = ⊥
In x (y ∷ ys) = (x ≡ y) ⊎ In x ys
