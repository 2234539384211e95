-- What an entry's lengths keep, since it is lawful.
use Rattle.std.proofs.Common.{◌≡◌, ℕ, ◌+◌, ◌^◌, true, ◌&&◌, T, eqb, ltb, is_some, Some, None, Option, arith}
use Rattle.std.proofs.lemmas.Bool.{false≢true, and_parts, eqb-true}
use Rattle.forms.specs.Bytes.{within}
use Rattle.books.specs.declared.entry.Entry.{Entry}
use Rattle.books.specs.Texts.{lead, whole, predefined}
use Rattle.books.specs.Lawful.{in_bounds, form_allows, fills}
use Rattle.books.specs.Entries.{text}
use Rattle.books.specs.Made.{both_left, both_right}
use Rattle.books.proofs.Finds.{holds}

module _ (e : Entry) where
  allowed : T (form_allows e.form e.ident.digits e.shortest e.longest && fills (whole (lead (text e))) e.ident.digits e.shortest e.longest)
  allowed = both_right (in_bounds e.shortest e.longest) _ (both_right (ltb e.ident.number (10 ^ e.ident.digits)) _ (both_right (within 2 4 e.ident.digits) _ e.ok))

  -- its form allows its lengths
  pub form_kept : T (form_allows e.form e.ident.digits e.shortest e.longest)
  form_kept = both_left (form_allows e.form e.ident.digits e.shortest e.longest) _ allowed

  -- and it has the length that its ident predefines, if it does
  pub whole-kept : T (fills (whole (lead (text e))) e.ident.digits e.shortest e.longest)
  whole-kept = both_right (form_allows e.form e.ident.digits e.shortest e.longest) _ allowed

one_length : (o : Option ℕ) (d s l : ℕ) → is_some o ≡ true → T (fills o d s l) → s ≡ l
one_length None d s l h t = absurd (false≢true h)
one_length (Some w) d s l h t =
    let p = and_parts (eqb (d + s) w) (eqb (d + l) w) (holds (fills (Some w) d s l) t) in
    omega (arith, eqb-true (d + s) w p.0, eqb-true (d + l) w p.1)

-- a predefined entry has one length
pub predefined-fixed : (e : Entry) → predefined (text e) ≡ true → e.shortest ≡ e.longest
predefined-fixed e h = one_length (whole (lead (text e))) e.ident.digits e.shortest e.longest h (whole-kept e)
