-- The law of the halls: what cards say of one another, over all lists of calls.
use Rattle.std.specs.Prelude.{◌≡◌, ℕ, ◌<◌, true, T, List, [], ◌++◌, map, length, Ok, slice_index_or}
use Rattle.books.specs.Entries.{all_lawful, prefix_free, In}
use Rattle.books.specs.declared.entry.Entry.{Entry}
use Rattle.scans.specs.Elements.{mark}
use Rattle.cards.specs.Tallies.{Held, Tally, blank}
use Rattle.cards.specs.Outcomes.{scan_outcome, take_outcome}
use Rattle.cards.specs.Strings.{canonical, runs, symbol_of, symbols}
use Rattle.history.specs.Requests.{Request, take, tally_of, accepted, MeansSame}

-- (a) cards of one year have the same canonical string exactly where they mean the same, however they came to be
abbrev pub FiledAlike : List Entry → Type 0
FiledAlike es =
    (p q : List Request) → (tally_of es p).year ≡ (tally_of es q).year
    → (canonical (tally_of es p) ≡ canonical (tally_of es q) → MeansSame (tally_of es p) (tally_of es q))
    × (MeansSame (tally_of es p) (tally_of es q) → canonical (tally_of es p) ≡ canonical (tally_of es q))

-- the symbols of a card are taken in the order ks, by their numbers from 0
abbrev pub takes : Tally → List ℕ → List Request
takes t ks = map (λ k. take (slice_index_or (symbols t) k [])) ks

-- the numbers are those of the symbols of a card: every one of them, and no other
pub record Numbers (t : Tally) (ks : List ℕ) : Type 0 where
  pub below : (k : ℕ) → In k ks → k < length (symbols t)
  pub every : (k : ℕ) → k < length (symbols t) → In k ks

-- (b) a card's symbols, taken on an empty card of its year in any order and each once or more, are all accepted,
-- and give a card that means the same
abbrev pub Relabelled : List Entry → Type 0
Relabelled es =
    (p q : List Request) (ks : List ℕ) → (tally_of es q).held ≡ [] → (tally_of es q).year ≡ (tally_of es p).year → Numbers (tally_of es p) ks
    → (accepted es (tally_of es q) (takes (tally_of es p) ks) ≡ true) × MeansSame (tally_of es (q ++ takes (tally_of es p) ks)) (tally_of es p)

-- the law of the halls: (a) and (b)
abbrev pub LawOfTheHalls : List Entry → Type 0
LawOfTheHalls es = FiledAlike es × Relabelled es

-- what a card says is read back under every book that has the entries held: its canonical string to all that it holds,
-- and each of its symbols to the symbol's run
abbrev pub ReadsBackAnywhere : List Entry → Type 0
ReadsBackAnywhere es =
    (rs : List Request) (ds : List Entry) → T (all_lawful ds) → T (prefix_free ds)
    → ((x : Held) → In x (tally_of es rs).held → In x.entry ds)
    → (scan_outcome ds (blank (tally_of es rs).year) (mark ++ canonical (tally_of es rs)) ≡ Ok (record { new = length (tally_of es rs).held; held = (tally_of es rs).held }))
    × ((run : List Held) → In run (runs (tally_of es rs).held) → take_outcome ds (blank (tally_of es rs).year) (symbol_of run) ≡ Ok (record { new = length run; held = run }))

-- both, of every book
abbrev pub HallsStand : Type 0
HallsStand = (es : List Entry) → T (all_lawful es) → T (prefix_free es) → LawOfTheHalls es × ReadsBackAnywhere es
