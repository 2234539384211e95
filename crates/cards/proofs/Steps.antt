-- A walk over rows, one step on.
use Rattle.std.proofs.Common.{◌≡◌, ℕ, ◌+◌, ◌<◌, Bool, List, ◌∷◌, length, get_or, drop, Decides, sym, ap, ◌∙◌}
use Rattle.std.proofs.lemmas.List.{at_drop_more}
use Rattle.std.proofs.lemmas.Bool.Decides.{same_from_decides}
use Rattle.books.specs.declared.entry.Entry.{Entry}
use Rattle.cards.specs.declared.row.Row.{Row}
use Rattle.cards.specs.Codes.{same_entry}
use Rattle.cards.proofs.Sames.{entry-same, entry-itself}

pub row_step : {Y : Type 0} (F : List Row → Y) (rows : List Row) (i : ℕ) (r : Row) → i < length rows → r ≡ get_or rows i r → F (drop i rows) ≡ F (r ∷ drop (i + 1) rows)
row_step F rows i r h e = at_drop_more F rows i r h ∙ ap (λ x. F (x ∷ drop (i + 1) rows)) (sym e)

pub same_told : (d e : Entry) (r : Bool) → Decides r (d ≡ e) → same_entry d e ≡ r
same_told d e r h = same_from_decides (same_entry d e) r (entry-same d e, entry-itself d e) h
