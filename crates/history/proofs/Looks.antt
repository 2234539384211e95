-- What a look-up and the test for crossed idents tell.
use Rattle.std.proofs.Common.{◌≡◌, ℕ, Bool, true, false, not, ◌&&◌, List, [], ◌∷◌, Some, None, sym, refl, ap, ◌∙◌, inl, inr, ⊎_elim, arith}
use Rattle.std.specs.Str.{bytes_eq}
use Rattle.std.proofs.lemmas.Slice.Eq.{bytes_eq-Decides}
use Rattle.std.proofs.lemmas.Bool.{cond_both, or_from, both_ways}
use Rattle.forms.specs.Values.{Meaning}
use Rattle.books.specs.Texts.{overlap}
use Rattle.books.specs.Entries as entries
use Rattle.books.specs.Entries.{In}
use Rattle.books.specs.declared.entry.Entry.{Entry}
use Rattle.cards.specs.Codes.{entry_code, same_entry, meaning_code, same_meaning}
use Rattle.cards.specs.Tallies.{Held, ident, look, crossed}

pub same_bytes : (xs ys : List ℕ) → xs ≡ ys → bytes_eq xs ys ≡ true
same_bytes xs ys = (bytes_eq-Decides xs ys).1

pub entry-itself : (d e : Entry) → d ≡ e → same_entry d e ≡ true
entry-itself d e p = same_bytes (entry_code d) (entry_code e) (ap entry_code p)

pub value_itself : (v w : Meaning) → v ≡ w → same_meaning v w ≡ true
value_itself v w p = same_bytes (meaning_code v) (meaning_code w) (ap meaning_code p)

some_none : {A : Type 0} (a : A) → Some a ≡ None → ⊥
some_none a e = let z : ◌≡◌ {A = ℕ} 0 1 = cc in omega arith

-- what is found under an ident is held there
pub record Has (i : List ℕ) (xs : List Held) (v : Meaning) : Type 0 where
  pub held : Held
  pub among : In held xs
  pub under : ident held ≡ i
  pub value : held.value ≡ v

pub look-has : (i : List ℕ) (xs : List Held) (v : Meaning) → look i xs ≡ Some v → Has i xs v
look-has i [] v e = absurd (some_none v (sym e))
look-has i (x ∷ xs) v e =
    cond_both (bytes_eq i (ident x)) (Some x.value) (look i xs) (λ o. o ≡ Some v → Has i (x ∷ xs) v)
    (λ p q. record { held = x; among = inl refl; under = sym ((bytes_eq-Decides i (ident x)).0 p); value = cc })
    (λ p q. let h = look-has i xs v q in record { held = h.held; among = inr h.among; under = h.under; value = h.value }) e

pub look_none : (i : List ℕ) (xs : List Held) → look i xs ≡ None → (x : Held) → In x xs → i ≡ ident x → ⊥
look_none i [] e x j q = j
look_none i (z ∷ zs) e x j q =
    cond_both (bytes_eq i (ident z)) (Some z.value) (look i zs) (λ o. o ≡ None → ⊥)
    (λ p n. some_none z.value n)
    (λ p n. ⊎_elim (λ r. both_ways (bytes_eq i (ident z)) p (same_bytes i (ident z) (q ∙ ap ident r))) (λ k. look_none i zs n x k q) j) e

-- where each ident is held once, an element that is held is found
pub look_is : (xs : List Held) (x : Held) → ((z : Held) → In z xs → ident z ≡ ident x → z ≡ x) → In x xs → look (ident x) xs ≡ Some x.value
look_is [] x one i = absurd i
look_is (z ∷ zs) x one i =
    cond_both (bytes_eq (ident x) (ident z)) (Some z.value) (look (ident x) zs) (λ o. o ≡ Some x.value)
    (λ p. ap (λ (q : Held). Some q.value) (one z (inl refl) (sym ((bytes_eq-Decides (ident x) (ident z)).0 p))))
    (λ p. ⊎_elim (λ r. absurd (both_ways (bytes_eq (ident x) (ident z)) p (same_bytes (ident x) (ident z) (ap ident r)))) (look_is zs x (λ q j. one q (inr j))) i)

clear : (a c : Bool) → (c ≡ true → a ≡ true) → (not a && c) ≡ false
clear true c g = refl
clear false true g = sym (g refl)
clear false false g = refl

-- no ident is crossed where an overlap means one entry
pub crossed-not : (e : Entry) (xs : List Held) → ((x : Held) → In x xs → overlap (entries.text e) (ident x) ≡ true → e ≡ x.entry) → crossed e xs ≡ false
crossed-not e [] h = refl
crossed-not e (x ∷ xs) h =
    or_from (not (same_entry e x.entry) && overlap (entries.text e) (ident x)) (crossed e xs)
    (clear (same_entry e x.entry) (overlap (entries.text e) (ident x)) (λ o. entry-itself e x.entry (h x (inl refl) o)))
    (crossed-not e xs (λ z i. h z (inr i)))
