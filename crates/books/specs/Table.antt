-- The entries of the GS1 book, by their digits as text. `tt` says of each that it is lawful, which is computed.
use Rattle.std.specs.Prelude.{List, [], ◌∷◌}
use Rattle.forms.specs.declared.kind.FormKind.TheVariants.{Text, Digits, Key, Date, Stamp, Measure, Count}
use Rattle.books.specs.declared.entry.Entry.{Entry}
use Rattle.books.specs.Made.{entry}

abbrev pub table : List Entry
table =
    entry 2 0 Key 18 18 tt ∷
    entry 2 1 Key 14 14 tt ∷
    entry 2 2 Key 14 14 tt ∷
    entry 2 10 Text 1 20 tt ∷
    entry 2 11 Date 6 6 tt ∷
    entry 2 12 Date 6 6 tt ∷
    entry 2 13 Date 6 6 tt ∷
    entry 2 15 Date 6 6 tt ∷
    entry 2 17 Date 6 6 tt ∷
    entry 2 20 Digits 2 2 tt ∷
    entry 2 21 Text 1 20 tt ∷
    entry 3 240 Text 1 30 tt ∷
    entry 3 241 Text 1 30 tt ∷
    entry 3 250 Text 1 30 tt ∷
    entry 3 251 Text 1 30 tt ∷
    entry 2 30 Count 1 8 tt ∷
    entry 3 310 Measure 7 7 tt ∷
    entry 3 311 Measure 7 7 tt ∷
    entry 3 312 Measure 7 7 tt ∷
    entry 3 313 Measure 7 7 tt ∷
    entry 3 314 Measure 7 7 tt ∷
    entry 3 315 Measure 7 7 tt ∷
    entry 3 316 Measure 7 7 tt ∷
    entry 3 320 Measure 7 7 tt ∷
    entry 3 321 Measure 7 7 tt ∷
    entry 3 322 Measure 7 7 tt ∷
    entry 3 323 Measure 7 7 tt ∷
    entry 3 324 Measure 7 7 tt ∷
    entry 3 325 Measure 7 7 tt ∷
    entry 3 326 Measure 7 7 tt ∷
    entry 3 327 Measure 7 7 tt ∷
    entry 3 328 Measure 7 7 tt ∷
    entry 3 329 Measure 7 7 tt ∷
    entry 3 350 Measure 7 7 tt ∷
    entry 3 351 Measure 7 7 tt ∷
    entry 3 352 Measure 7 7 tt ∷
    entry 3 356 Measure 7 7 tt ∷
    entry 3 357 Measure 7 7 tt ∷
    entry 3 360 Measure 7 7 tt ∷
    entry 3 361 Measure 7 7 tt ∷
    entry 3 364 Measure 7 7 tt ∷
    entry 3 365 Measure 7 7 tt ∷
    entry 3 366 Measure 7 7 tt ∷
    entry 2 37 Count 1 8 tt ∷
    entry 3 400 Text 1 30 tt ∷
    entry 3 401 Text 1 30 tt ∷
    entry 3 402 Key 17 17 tt ∷
    entry 3 403 Text 1 30 tt ∷
    entry 3 410 Key 13 13 tt ∷
    entry 3 411 Key 13 13 tt ∷
    entry 3 412 Key 13 13 tt ∷
    entry 3 413 Key 13 13 tt ∷
    entry 3 414 Key 13 13 tt ∷
    entry 3 415 Key 13 13 tt ∷
    entry 3 420 Text 1 20 tt ∷
    entry 3 422 Digits 3 3 tt ∷
    entry 4 7003 Stamp 10 10 tt ∷
    entry 4 8005 Digits 6 6 tt ∷
    entry 4 8020 Text 1 25 tt ∷
    entry 2 90 Text 1 30 tt ∷
    entry 2 91 Text 1 30 tt ∷
    entry 2 92 Text 1 30 tt ∷
    entry 2 93 Text 1 30 tt ∷
    entry 2 94 Text 1 30 tt ∷
    entry 2 95 Text 1 30 tt ∷
    entry 2 96 Text 1 30 tt ∷
    entry 2 97 Text 1 30 tt ∷
    entry 2 98 Text 1 30 tt ∷
    entry 2 99 Text 1 30 tt ∷
    []
