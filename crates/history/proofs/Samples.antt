-- The definitions on a small example of the GS1 book.
use Rattle.std.proofs.Common.{◌≡◌, true, false, [], ◌∷◌, ◌++◌, length, refl}
use Rattle.books.specs.Table.{table}
use Rattle.scans.specs.Elements.{mark}
use Rattle.cards.specs.Tallies.{put, blank}
use Rattle.cards.specs.Outcomes.{puts}
use Rattle.cards.specs.Strings.{canonical, symbols}
use Rattle.history.specs.Requests.{Request, scan, turn, strike, tally_of, accepted}
use Rattle.history.specs.Laws.{takes}

-- lot B (ident 10), a separator, variant 07 (ident 20), best before the last day of 2026 (ident 15)
abbrev scanned : Request
scanned = scan (mark ++ (49 ∷ 48 ∷ 66 ∷ 29 ∷ 50 ∷ 48 ∷ 48 ∷ 55 ∷ 49 ∷ 53 ∷ 50 ∷ 54 ∷ 49 ∷ 50 ∷ 48 ∷ 48 ∷ []))

-- predefined idents come first, and the last day of the month is written out
filed : canonical (tally_of table (scanned ∷ [])) ≡ 49 ∷ 53 ∷ 50 ∷ 54 ∷ 49 ∷ 50 ∷ 51 ∷ 49 ∷ 50 ∷ 48 ∷ 48 ∷ 55 ∷ 49 ∷ 48 ∷ 66 ∷ []
unfolding puts put
filed = refl

-- 2075 is the last year in whose span the date lies
refused : accepted table (tally_of table (scanned ∷ [])) (turn 2076 ∷ []) ≡ false
unfolding puts put
refused = refl

turned : accepted table (tally_of table (scanned ∷ [])) (turn 2075 ∷ strike (49 ∷ 48 ∷ []) ∷ []) ≡ true
unfolding puts put
turned = refl

-- one symbol holds it, and taken twice on an empty card it gives the same
one_symbol : length (symbols (tally_of table (scanned ∷ []))) ≡ 1
unfolding puts put
one_symbol = refl

rejoined : accepted table (blank 2000) (takes (tally_of table (scanned ∷ [])) (0 ∷ 0 ∷ [])) ≡ true
unfolding puts put
rejoined = refl
