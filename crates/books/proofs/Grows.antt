-- A list of words and one word more.
use Rattle.std.proofs.Common.{◌≡◌, ℕ, ◌+◌, ◌≤◌, Bool, true, false, cond, not, ◌&&◌, ◌||◌, ltb, leb, List, [], ◌∷◌, ◌++◌, length, is_some, Some, None, Option, sym, refl, ap, ◌∙◌, arith}
use Rattle.std.proofs.lemmas.List.{length_push}
use Rattle.std.proofs.lemmas.Bool.{false≢true, and_parts, and_from, ltb-true, lt-ltb, leb-true, le-leb}
use Rattle.books.specs.declared.entry.Entry.{Entry}
use Rattle.books.specs.declared.fault.BookFault.{BookFault}
use Rattle.books.specs.declared.fault.BookFault.TheVariants.{Unlawful, Overlap}
use Rattle.books.specs.Texts.{starts, overlap}
use Rattle.books.specs.Entries.{text, apart_from_all, prefix_free, joined, listed}
use Rattle.books.specs.Words.{word_entry, all_words, is_book}
use Rattle.books.specs.Loads.{judged, word_fault}

or_swap : (a b : Bool) → (a || b) ≡ (b || a)
or_swap true true = refl
or_swap true false = refl
or_swap false true = refl
or_swap false false = refl

pub overlap-swap : (xs ys : List ℕ) → overlap xs ys ≡ overlap ys xs
overlap-swap xs ys = or_swap (starts xs ys) (starts ys xs)

and_assoc : (a b c : Bool) → (a && (b && c)) ≡ ((a && b) && c)
and_assoc true b c = refl
and_assoc false b c = refl

and-cross : (a b c d : Bool) → ((a && b) && (c && d)) ≡ ((a && c) && (b && d))
and-cross true true c d = refl
and-cross true false true d = refl
and-cross true false false d = refl
and-cross false b c d = refl

apart-push : (t : List ℕ) (es : List Entry) (e : Entry) → apart_from_all t (es ++ e ∷ []) ≡ (apart_from_all t es && not (overlap t (text e)))
apart-push t [] e = elim (not (overlap t (text e))) as (λ b. (b && true) ≡ b) [ true ↦ refl | false ↦ refl ]
apart-push t (d ∷ es) e = ap (λ b. not (overlap t (text d)) && b) (apart-push t es e) ∙ and_assoc (not (overlap t (text d))) (apart_from_all t es) (not (overlap t (text e)))

-- an entry more keeps a list prefix-free where its ident is apart from the others
pub free_push : (es : List Entry) (e : Entry) → prefix_free (es ++ e ∷ []) ≡ (prefix_free es && apart_from_all (text e) es)
free_push [] e = refl
free_push (d ∷ es) e =
    let p = apart-push (text d) es e in
    let q = free_push es e in
    let r = overlap-swap (text d) (text e) in
    rw (p, q, r) (and-cross (apart_from_all (text d) es) (not (overlap (text e) (text d))) (prefix_free es) (apart_from_all (text e) es))

words_push : (ws : List ℕ) (w : ℕ) → all_words (ws ++ w ∷ []) ≡ (all_words ws && is_some (word_entry w))
words_push [] w = elim (is_some (word_entry w)) as (λ b. (b && true) ≡ b) [ true ↦ refl | false ↦ refl ]
words_push (v ∷ ws) w = ap (λ b. is_some (word_entry v) && b) (words_push ws w) ∙ and_assoc (is_some (word_entry v)) (all_words ws) (is_some (word_entry w))

joined-push : (o : Option Entry) (es fs : List Entry) → joined o (es ++ fs) ≡ joined o es ++ fs
joined-push None es fs = refl
joined-push (Some e) es fs = refl

listed-push : (ws : List ℕ) (w : ℕ) → listed word_entry (ws ++ w ∷ []) ≡ listed word_entry ws ++ joined (word_entry w) []
listed-push [] w = refl
listed-push (v ∷ ws) w = ap (joined (word_entry v)) (listed-push ws w) ∙ joined-push (word_entry v) (listed word_entry ws) (joined (word_entry w) [])

-- that words and one more, which spells the entry, are a book
abbrev Grown : List ℕ → Option Entry → Bool
Grown ws o = (all_words ws && is_some o) && (prefix_free (listed word_entry ws ++ joined o []) && leb (length ws + 1) 64)

pushed : (ws : List ℕ) (w : ℕ) → is_book (ws ++ w ∷ []) ≡ Grown ws (word_entry w)
pushed ws w = rw (words_push ws w, listed-push ws w, length_push ws w)

pub no_fault : {P : Type 0} (f : BookFault) → Some f ≡ None → P
no_fault f e = let z : ◌≡◌ {A = ℕ} 0 1 = cc in absurd (omega arith)

clear : (b c : Bool) (p : ℕ) → cond b (cond c None (Some (Overlap p))) (Some (Unlawful p)) ≡ None → (b ≡ true) × (c ≡ true)
clear true true p e = (refl, refl)
clear true false p e = no_fault (Overlap p) e
clear false c p e = no_fault (Unlawful p) e

grow : (ws : List ℕ) (o : Option Entry) → is_book ws ≡ true → judged o ws ≡ None → Grown ws o ≡ true
grow ws None b j = no_fault (Unlawful (length ws)) j
grow ws (Some e) b j =
    let ok = clear (ltb (length ws) 64) (apart_from_all (text e) (listed word_entry ws)) (length ws) j in
    let p = and_parts (all_words ws) _ b in
    let q = and_parts (prefix_free (listed word_entry ws)) _ p.1 in
    let few : length ws + 1 ≤ 64 = omega (arith, ltb-true (length ws) 64 ok.0) in
    and_from (all_words ws && true) _ (and_from (all_words ws) true p.0 refl)
    (and_from (prefix_free (listed word_entry ws ++ e ∷ [])) _ (free_push (listed word_entry ws) e ∙ and_from (prefix_free (listed word_entry ws)) _ q.0 ok.1) (le-leb (length ws + 1) 64 few))

shrink : (ws : List ℕ) (o : Option Entry) → Grown ws o ≡ true → (is_book ws ≡ true) × (judged o ws ≡ None)
shrink ws None g = absurd (false≢true (and_parts (all_words ws) false (and_parts (all_words ws && false) _ g).0).1)
shrink ws (Some e) g =
    let p = and_parts (all_words ws && true) _ g in
    let q = and_parts (prefix_free (listed word_entry ws ++ e ∷ [])) _ p.1 in
    let r = and_parts (prefix_free (listed word_entry ws)) (apart_from_all (text e) (listed word_entry ws)) (sym (free_push (listed word_entry ws) e) ∙ q.0) in
    let few = leb-true (length ws + 1) 64 q.1 in
    let under : ltb (length ws) 64 ≡ true = lt-ltb (length ws) 64 (omega arith) in (
      and_from (all_words ws) _ (and_parts (all_words ws) true p.0).0 (and_from (prefix_free (listed word_entry ws)) _ r.0 (le-leb (length ws) 64 (omega arith))),
      rw (under, r.1),
    )

-- a book and a word with no fault are a book
pub book_more : (ws : List ℕ) (w : ℕ) → is_book ws ≡ true → word_fault ws w ≡ None → is_book (ws ++ w ∷ []) ≡ true
book_more ws w b j = pushed ws w ∙ grow ws (word_entry w) b j

-- a book with one word more was a book, and the word has no fault
pub book_less : (ws : List ℕ) (w : ℕ) → is_book (ws ++ w ∷ []) ≡ true → (is_book ws ≡ true) × (word_fault ws w ≡ None)
book_less ws w b = shrink ws (word_entry w) (sym (pushed ws w) ∙ b)
