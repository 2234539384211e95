-- An entry by its parts.
use Rattle.std.proofs.Common.{◌≡◌, ℕ, Bool, true, false, T, Some, None, Option, refl, ap, ◌∙◌, MatchOption}
use Rattle.forms.specs.declared.kind.FormKind.{FormKind}
use Rattle.books.specs.declared.entry.Entry.{Entry}
use Rattle.books.specs.declared.ident.Ident.{Ident}
use Rattle.books.specs.Lawful.{lawful}
use Rattle.books.specs.Made.{checked, entry, entry_of}
use Rattle.books.proofs.Alike.{same_ident, same_entry_lem}

checked-yes : {A : Type 0} (b : Bool) (make : T b → A) (t : T b) → Some (make t) ≡ checked b make
checked-yes true make t = refl
checked-yes false make t = absurd t

checked-no : {A : Type 0} (b : Bool) (make : T b → A) → (T b → ⊥) → None ≡ checked b make
checked-no true make n = absurd (n tt)
checked-no false make n = refl

-- unlawful parts make no entry
pub no_entry : (d n : ℕ) (f : FormKind) (s l : ℕ) → (T (lawful d n f s l) → ⊥) → None ≡ entry_of d n f s l
no_entry d n f s l = checked-no (lawful d n f s l) (entry d n f s l)

own : (e : Entry) → Some e ≡ entry_of e.ident.digits e.ident.number e.form e.shortest e.longest
own e =
    ap Some (same_entry_lem e _ (same_ident e.ident _ refl refl) refl refl refl)
    ∙ checked-yes (lawful e.ident.digits e.ident.number e.form e.shortest e.longest) (entry e.ident.digits e.ident.number e.form e.shortest e.longest) e.ok

-- an entry is the one that its parts make
pub by_parts : (e : Entry) (d n : ℕ) (f : FormKind) (s l : ℕ) → e.ident.digits ≡ d → e.ident.number ≡ n → e.form ≡ f → e.shortest ≡ s → e.longest ≡ l → Some e ≡ entry_of d n f s l
by_parts e d n f s l p q r t u = own e ∙ (λ k. entry_of (p k) (q k) (r k) (t k) (u k))

-- what is made of an ident and the other parts is what the parts make
pub made_of : (o : Option Entry) (i : Ident) (d n : ℕ) (f : FormKind) (s l : ℕ) → i.digits ≡ d → i.number ≡ n
    → MatchOption o (T (lawful i.digits i.number f s l) → ⊥) (λ e. (e.ident ≡ i) × (e.form ≡ f) × (e.shortest ≡ s) × (e.longest ≡ l))
    → o ≡ entry_of d n f s l
made_of None i d n f s l p q un = no_entry d n f s l (λ t. un (rw (p, q) t))
made_of (Some e) i d n f s l p q h = by_parts e d n f s l (ap (λ j. j.digits) h.0 ∙ p) (ap (λ j. j.number) h.0 ∙ q) h.1 h.2 h.3
