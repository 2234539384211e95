-- The two code sets.
use Rattle.symbols.specs.declared.code.CodeSet.{CodeSet}
use Rattle.symbols.specs.declared.code.CodeSet.TheVariants.{B, C}

-- a change of set goes from each to the other
abbrev pub other : CodeSet → CodeSet
other B = C
other C = B
