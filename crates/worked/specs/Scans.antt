-- Scans that were worked by hand: what the library has to make of each.
use Rattle.std.specs.Prelude.{◌≡◌, ℕ, zero, suc, true, cond, List, [], ◌∷◌, Some, None, Ok, codes, Option, ◌==◌}
use Rattle.books.specs.Table.{table}
use Rattle.scans.specs.Elements.{scanned}
use Rattle.scans.specs.Reads.{counted}
use Rattle.cards.specs.Tallies.{blank}
use Rattle.cards.specs.Strings.{canonical, symbols}
use Rattle.history.specs.Requests.{Request, scan, turn, tally_of, accepted}
use Rattle.worked.specs.declared.stored.WorkedScan.{WorkedScan}

-- the bytes of a text in which ^ stands for the separator
abbrev pub bytes : List ℕ → List ℕ
bytes [] = []
bytes (c ∷ cs) = cond (c == 94) 29 c ∷ bytes cs

-- a scan on a card of a year, and what was worked out of it: how many elements it has, the canonical string of a card that has
-- scanned it, and the values of that card's one symbol
pub record Worked : Type 0 where
  pub year : ℕ
  pub bytes : List ℕ
  pub elements : ℕ
  pub string : List ℕ
  pub symbol : List ℕ

-- the calls: a new card is turned to the year, and scans
abbrev pub calls : Worked → List Request
calls w = turn w.year ∷ scan w.bytes ∷ []

-- what was worked out of a scan is what the definitions come to, under the GS1 book
pub record Holds (w : Worked) : Type 0 where
  -- the scan has so many elements
  pub read : counted 0 (scanned table w.year w.bytes) ≡ Ok w.elements
  -- the card accepts the year and the scan
  pub taken : accepted table (blank 2000) (calls w) ≡ true
  -- this is its canonical string
  pub filed : canonical (tally_of table (calls w)) ≡ w.string
  -- this is its symbol, and it has no other
  pub printed : symbols (tally_of table (calls w)) ≡ w.symbol ∷ []

-- a weight of nothing with five decimals is written with none
abbrev pub no_weight : Worked
no_weight = record {
  year = 2000;
  bytes = codes "]C13105000000";
  elements = 1;
  string = codes "3100000000";
  symbol = 105 ∷ 102 ∷ 31 ∷ 0 ∷ 0 ∷ 0 ∷ 0 ∷ 63 ∷ 106 ∷ [];
}

-- a count is written without zeros in front
abbrev pub seven : Worked
seven = record {
  year = 2000;
  bytes = codes "]C13000000007";
  elements = 1;
  string = codes "307";
  symbol = 105 ∷ 102 ∷ 30 ∷ 100 ∷ 23 ∷ 41 ∷ 106 ∷ [];
}

-- a trade item, its lot and its serial number
abbrev pub trade_item : Worked
trade_item = record {
  year = 2026;
  bytes = bytes (codes "]C101048412341234571012345qwert^21asdfghjk");
  elements = 3;
  string = bytes (codes "01048412341234571012345qwert^21asdfghjk");
  symbol = 105 ∷ 102 ∷ 1 ∷ 4 ∷ 84 ∷ 12 ∷ 34 ∷ 12 ∷ 34 ∷ 57 ∷ 10 ∷ 12 ∷ 34 ∷ 100 ∷ 21 ∷ 81 ∷ 87 ∷ 69 ∷ 82 ∷ 84 ∷ 102 ∷ 18 ∷ 17 ∷ 65 ∷ 83 ∷ 68 ∷ 70 ∷ 71 ∷ 72 ∷ 74 ∷ 75 ∷ 64 ∷ 106 ∷ [];
}

-- a lot, a weight and a best-before month, in an order that is not canonical
abbrev pub disordered : Worked
disordered = record {
  year = 2026;
  bytes = bytes (codes "]C110AB^3103001250^15260900");
  elements = 3;
  string = codes "15260930310200012510AB";
  symbol = 105 ∷ 102 ∷ 15 ∷ 26 ∷ 9 ∷ 30 ∷ 31 ∷ 2 ∷ 0 ∷ 1 ∷ 25 ∷ 10 ∷ 100 ∷ 33 ∷ 34 ∷ 85 ∷ 106 ∷ [];
}

-- a variant
abbrev pub variant : Worked
variant = record {
  year = 2000;
  bytes = codes "]C12015";
  elements = 1;
  string = codes "2015";
  symbol = 105 ∷ 102 ∷ 20 ∷ 15 ∷ 86 ∷ 106 ∷ [];
}

-- a best-before date and a lot
abbrev pub dated_lot : Worked
dated_lot = record {
  year = 2026;
  bytes = codes "]C11526093010AB";
  elements = 2;
  string = codes "1526093010AB";
  symbol = 105 ∷ 102 ∷ 15 ∷ 26 ∷ 9 ∷ 30 ∷ 10 ∷ 100 ∷ 33 ∷ 34 ∷ 80 ∷ 106 ∷ [];
}

-- all of them
abbrev pub all : List Worked
all = no_weight ∷ seven ∷ trade_item ∷ disordered ∷ variant ∷ dated_lot ∷ []

-- the one of that number, from 0 on
abbrev pub numbered : ℕ → List Worked → Option Worked
numbered n [] = None
numbered zero (w ∷ ws) = Some w
numbered (suc n) (w ∷ ws) = numbered n ws

-- what the code keeps, as plain lists
abbrev pub kept : Option WorkedScan → Option Worked
kept None = None
kept (Some w) = Some (record { year = w.year; bytes = w.bytes.now; elements = w.elements; string = w.string.now; symbol = w.symbol.now })
