-- Words are a book exactly where they have no first fault.
use Rattle.std.proofs.Common.{◌≡◌, ℕ, suc, ◌+◌, ◌<◌, ◌≤◌, Bool, true, false, T, leb, List, [], ◌∷◌, ◌++◌, length, get_or, take, drop, is_some, Some, None, Option, sym, refl, ap, ◌∙◌, subst}
use Rattle.std.proofs.lemmas.List.{append-nil, append_assoc, at_drop_more, at_drop_all, take_more}
use Rattle.std.proofs.lemmas.Bool.{false≢true, and_parts, leb-true}
use Rattle.books.specs.declared.entry.Entry.{Entry}
use Rattle.books.specs.declared.fault.BookFault.{BookFault}
use Rattle.books.specs.Entries.{prefix_free, joined, listed}
use Rattle.books.specs.Words.{word_entry, all_words, is_book, Sound}
use Rattle.books.specs.Loads.{word_fault, first_of, fault_from, first_fault}
use Rattle.books.proofs.Grows.{no_fault, book_more, book_less}

neither : (o later : Option BookFault) → first_of o later ≡ None → (o ≡ None) × (later ≡ None)
neither None later e = (refl, e)
neither (Some f) later e = no_fault f e

regroup : (xs : List ℕ) (w : ℕ) (ws : List ℕ) → (xs ++ w ∷ []) ++ ws ≡ xs ++ w ∷ ws
regroup xs w ws = append_assoc xs (w ∷ []) ws

from_none : (xs ws : List ℕ) → is_book xs ≡ true → fault_from xs ws ≡ None → is_book (xs ++ ws) ≡ true
from_none xs [] b e = ap is_book (append-nil xs) ∙ b
from_none xs (w ∷ ws) b e =
    let both = neither (word_fault xs w) (fault_from (xs ++ w ∷ []) ws) e in
    ap is_book (sym (regroup xs w ws)) ∙ from_none (xs ++ w ∷ []) ws (book_more xs w b both.0) both.1

to_none : (xs ws : List ℕ) → is_book (xs ++ ws) ≡ true → (is_book xs ≡ true) × (fault_from xs ws ≡ None)
to_none xs [] b = (sym (ap is_book (append-nil xs)) ∙ b, refl)
to_none xs (w ∷ ws) b =
    let more = to_none (xs ++ w ∷ []) ws (ap is_book (regroup xs w ws) ∙ b) in
    let less = book_less xs w more.0 in
    (less.0, ap (λ o. first_of o (fault_from (xs ++ w ∷ []) ws)) less.1 ∙ more.1)

is_T : (b : Bool) → b ≡ true → T b
is_T b e = subst T (sym e) tt

T-is : (b : Bool) → T b → b ≡ true
T-is b t = elim b as (λ v. T v → v ≡ true) [ true ↦ λ _. refl | false ↦ λ f. absurd f ] t

-- words with a fault are no book
pub fault_no_book : (ws : List ℕ) (f : BookFault) → first_fault ws ≡ Some f → T (is_book ws) → ⊥
fault_no_book ws f e t = no_fault f (sym e ∙ (to_none [] ws (T-is (is_book ws) t)).1)

-- one word more is judged
module _ (ws : List ℕ) (i : ℕ) (l : i < length ws) where
  judged-at : fault_from (take i ws) (drop i ws) ≡ first_of (word_fault (take i ws) (get_or ws i 0)) (fault_from (take (i + 1) ws) (drop (i + 1) ws))
  judged-at =
      at_drop_more (fault_from (take i ws)) ws i 0 l
      ∙ ap (λ xs. first_of (word_fault (take i ws) (get_or ws i 0)) (fault_from xs (drop (i + 1) ws))) (sym (take_more ws i 0 l))

  pub judged-fault : (f : BookFault) → word_fault (take i ws) (get_or ws i 0) ≡ Some f → fault_from (take i ws) (drop i ws) ≡ Some f
  judged-fault f e = judged-at ∙ ap (λ o. first_of o (fault_from (take (i + 1) ws) (drop (i + 1) ws))) e

-- every word is judged
pub judged-all : (ws : List ℕ) (i : ℕ) → length ws ≤ i → fault_from (take i ws) (drop i ws) ≡ first_fault ws → first_fault ws ≡ None
judged-all ws i l inv = sym inv ∙ at_drop_all (fault_from (take i ws)) ws i l

some_length : (o : Option Entry) (es : List Entry) → is_some o ≡ true → length (joined o es) ≡ suc (length es)
some_length None es e = absurd (false≢true e)
some_length (Some d) es e = refl

words_length : (ws : List ℕ) → all_words ws ≡ true → length ws ≡ length (listed word_entry ws)
words_length [] e = refl
words_length (w ∷ ws) e =
    let both = and_parts (is_some (word_entry w)) (all_words ws) e in
    ap suc (words_length ws both.1) ∙ sym (some_length (word_entry w) (listed word_entry ws) both.0)

-- words with no fault are a book, of as many entries as words, and at most 64
pub no_fault_sound : (ws : List ℕ) → first_fault ws ≡ None → Sound ws
no_fault_sound ws e =
    let b = from_none [] ws refl e in
    let p = and_parts (all_words ws) _ b in
    (leb-true (length ws) 64 (and_parts (prefix_free (listed word_entry ws)) (leb (length ws) 64) p.1).1, words_length ws p.0, is_T (is_book ws) b)
