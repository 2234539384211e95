-- A pallet that is labelled again.
use Rattle.std.specs.Prelude.{◌≡◌, ℕ, ◌<◌, Bool, true, List, [], length, is_some, slice_index_or}
use Rattle.books.specs.declared.entry.Entry.{Entry}
use Rattle.cards.specs.Strings.{canonical}
use Rattle.cards.specs.Tallies.{Tally}
use Rattle.history.specs.Requests.{Request, take, answer, after, tally_of}

-- the symbol of the number k is put to a card of the tally t, which leaves u: whether it is accepted
abbrev pub Takes : List Entry → List (List ℕ) → ℕ → Tally → Tally → Bool → Type 0
Takes es all k t u ok = k < length all → (ok ≡ is_some (answer es t (take (slice_index_or all k [])))) × (u ≡ after es t (take (slice_index_or all k [])))

-- of a card that has come about by calls, with its canonical string, the answer is always the same: yes
abbrev pub Relabels : List Entry → Tally → List ℕ → Bool → Type 0
Relabels es t string same = (p : List Request) → t ≡ tally_of es p → string ≡ canonical t → same ≡ true
