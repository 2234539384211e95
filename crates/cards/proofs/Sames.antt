-- Codes tell entries and values apart.
use Rattle.std.proofs.Common.{◌≡◌, ℕ, true, cond, eqb, List, get_or, drop, sym, refl, ap, ◌∙◌}
use Rattle.std.proofs.lemmas.Slice.Eq.{bytes_eq-Decides}
use Rattle.forms.specs.Values.{Meaning, text, key, date, stamp, fraction, whole}
use Rattle.forms.specs.declared.kind.FormKind.{FormKind}
use Rattle.forms.specs.declared.kind.FormKind.TheVariants as form
use Rattle.books.specs.declared.entry.Entry.{Entry}
use Rattle.books.proofs.Alike.{same_ident, same_entry_lem}
use Rattle.cards.specs.Codes.{form_code, entry_code, same_entry, meaning_code, same_meaning}

form_of : ℕ → FormKind
form_of n = cond (eqb n 0) form.Text (cond (eqb n 1) form.Digits (cond (eqb n 2) form.Key (cond (eqb n 3) form.Date (cond (eqb n 4) form.Stamp (cond (eqb n 5) form.Measure form.Count)))))

form_back : (k : FormKind) → form_of (form_code k) ≡ k
unfolding form_of
form_back form.Text = refl
form_back form.Digits = refl
form_back form.Key = refl
form_back form.Date = refl
form_back form.Stamp = refl
form_back form.Measure = refl
form_back form.Count = refl

pub entry-same : (d e : Entry) → same_entry d e ≡ true → d ≡ e
entry-same d e h =
    let c : entry_code d ≡ entry_code e = (bytes_eq-Decides (entry_code d) (entry_code e)).0 h in
    same_entry_lem d e
    (same_ident d.ident e.ident (ap (λ xs. get_or xs 0 0) c) (ap (λ xs. get_or xs 1 0) c))
    (sym (form_back d.form) ∙ ap (λ xs. form_of (get_or xs 2 0)) c ∙ form_back e.form)
    (ap (λ xs. get_or xs 3 0) c) (ap (λ xs. get_or xs 4 0) c)

pub entry-itself : (d e : Entry) → d ≡ e → same_entry d e ≡ true
entry-itself d e h = (bytes_eq-Decides (entry_code d) (entry_code e)).1 (ap entry_code h)

meaning_of : List ℕ → Meaning
meaning_of xs =
    cond (eqb (get_or xs 0 0) 0) (text (drop 1 xs))
    (cond (eqb (get_or xs 0 0) 1) (key (drop 1 xs))
    (cond (eqb (get_or xs 0 0) 2) (date (get_or xs 1 0) (get_or xs 2 0) (get_or xs 3 0))
    (cond (eqb (get_or xs 0 0) 3) (stamp (get_or xs 1 0) (get_or xs 2 0) (get_or xs 3 0) (get_or xs 4 0) (get_or xs 5 0))
    (cond (eqb (get_or xs 0 0) 4) (fraction (get_or xs 1 0)) (whole (get_or xs 1 0))))))

meaning-back : (v : Meaning) → meaning_of (meaning_code v) ≡ v
unfolding meaning_of
meaning-back (text bs) = refl
meaning-back (key bs) = refl
meaning-back (date y m d) = refl
meaning-back (stamp y m d h i) = refl
meaning-back (fraction n) = refl
meaning-back (whole n) = refl

pub meaning-same : (v w : Meaning) → same_meaning v w ≡ true → v ≡ w
meaning-same v w h =
    sym (meaning-back v) ∙ ap meaning_of ((bytes_eq-Decides (meaning_code v) (meaning_code w)).0 h) ∙ meaning-back w

pub meaning-itself : (v w : Meaning) → v ≡ w → same_meaning v w ≡ true
meaning-itself v w h = (bytes_eq-Decides (meaning_code v) (meaning_code w)).1 (ap meaning_code h)
