-- The laws of the forms by name, over what their fields mean.
use Rattle.std.proofs.Common.{◌≡◌, ℕ, Bool, true, false, List, length, refl, ap, rules}
use Rattle.forms.specs.Years.{InSpan}
use Rattle.forms.specs.Laws.{Judged, Lengths, Rewrites}
use Rattle.forms.specs.Values.{written, date_means, fraction, whole}
use Rattle.forms.specs.Kinds.{kind_lawful, kind_fault, kind_meaning}
use Rattle.forms.specs.declared.kind.FormKind.{FormKind}
use Rattle.forms.specs.declared.kind.FormKind.TheVariants.{Text, Digits, Key, Date, Stamp, Measure, Count}
use Rattle.forms.specs.Writings.{every-allowed, apart_from, rewrites_as_read}
use Rattle.forms.specs.CountLaws.{count_rewrites, count_lengths}
use Rattle.forms.specs.DateLaws.{date_rewrites, stamp_as_read}
use Rattle.forms.specs.MeasureLaws.{measure_rewrites}

-- a field is lawful exactly where it has no fault
pub kind_judged : (k : FormKind) (y p : ℕ) (f : List ℕ) → Judged (kind_lawful k y f) (kind_fault k y p f)
kind_judged Text y p f = search rules
kind_judged Digits y p f = search rules
kind_judged Key y p f = search rules
kind_judged Date y p f = search rules
kind_judged Stamp y p f = search rules
kind_judged Measure y p f = search rules
kind_judged Count y p f = search rules

-- the writing of what a lawful field means
abbrev pub rewriting : FormKind → ℕ → List ℕ → List ℕ
rewriting k y f = written (kind_meaning k y f)

-- a writing is lawful, has only bytes that a text may hold, and means what was written
pub kind_rewrites : (k : FormKind) (y : ℕ) (f : List ℕ) → InSpan y → kind_lawful k y f → Rewrites (kind_lawful k) (kind_meaning k) written y f
kind_rewrites Text y f s l = rewrites_as_read (kind_lawful Text) (kind_meaning Text) written y f refl l l.all
kind_rewrites Digits y f s l = rewrites_as_read (kind_lawful Digits) (kind_meaning Digits) written y f refl l (every-allowed f l.all)
kind_rewrites Key y f s l = rewrites_as_read (kind_lawful Key) (kind_meaning Key) written y f refl l (every-allowed f l.all)
kind_rewrites Date y f s l = let r = date_rewrites y f s l in record { again = r.again; text = r.text; same = ap date_means r.same }
kind_rewrites Stamp y f s l = rewrites_as_read (kind_lawful Stamp) (kind_meaning Stamp) written y f (stamp_as_read y f s l) l (every-allowed f l.all)
kind_rewrites Measure y f s l = let r = measure_rewrites y f l in record { again = r.again; text = r.text; same = ap fraction r.same }
kind_rewrites Count y f s l = let r = count_rewrites y f l in record { again = r.again; text = r.text; same = ap whole r.same }

-- whether a writing is always as long as the field that was read
abbrev pub kind_exact : FormKind → Bool
kind_exact Text = true
kind_exact Digits = true
kind_exact Key = true
kind_exact Date = true
kind_exact Stamp = true
kind_exact Measure = true
kind_exact Count = false

pub kind_lengths : (k : FormKind) (y : ℕ) (f : List ℕ) → InSpan y → kind_lawful k y f → Lengths (kind_exact k) (length f) (length (rewriting k y f))
kind_lengths Text y f s l = search rules
kind_lengths Digits y f s l = search rules
kind_lengths Key y f s l = search rules
kind_lengths Date y f s l = search rules
kind_lengths Stamp y f s l = search rules
kind_lengths Measure y f s l = search rules
kind_lengths Count y f s l = count_lengths y f l

-- two lawful fields mean the same where their writings are equal
pub kind_apart : (k : FormKind) (y : ℕ) (f g : List ℕ) → InSpan y → kind_lawful k y f → kind_lawful k y g → rewriting k y f ≡ rewriting k y g → kind_meaning k y f ≡ kind_meaning k y g
kind_apart k y f g s l m = (apart_from (kind_lawful k) (kind_meaning k) written y f g (kind_rewrites k y f s l) (kind_rewrites k y g s m)).1
