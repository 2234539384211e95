-- Elements that are spelled are read one by one.
use Rattle.std.proofs.Common.{◌≡◌, ℕ, ◌≤◌, true, T, List, [], ◌∷◌, ◌++◌, length, drop, Ok, refl, ap, ◌∙◌, inl, inr, append_assoc, arith, length-append}
use Rattle.std.proofs.lemmas.Bool.{cond_both, and_parts, and_from}
use Rattle.std.proofs.lemmas.Bool.Decides.{nat_tests}
use Rattle.forms.specs.Bytes.{allowed, every}
use Rattle.forms.specs.Values.{written}
use Rattle.books.specs.Texts.{predefined}
use Rattle.books.specs.Entries as entries
use Rattle.books.specs.Entries.{In, all_lawful, prefix_free}
use Rattle.books.specs.declared.entry.Entry.{Entry}
use Rattle.scans.specs.Elements.{Element, plain, gap, front}
use Rattle.scans.specs.Spelling.{Known, Gap}
use Rattle.scans.proofs.Spelled.{text-first, gap-none, Takes, takes}
use Rattle.cards.specs.Tallies.{Held, ident}
use Rattle.cards.specs.Outcomes.{held_as}
use Rattle.cards.specs.Strings.{piece, parting, ending, spelled}
use Rattle.cards.proofs.Pieces.{piece-long}
use Rattle.history.proofs.Stands.{Stands}

-- a text holds no separator
allowed-plain : (b : ℕ) → allowed b ≡ true → plain b ≡ true
allowed-plain b h = grind (arith, nat_tests)

every-plain : (xs : List ℕ) → every allowed xs ≡ true → every plain xs ≡ true
every-plain [] h = refl
every-plain (x ∷ xs) h = let p = and_parts _ _ h in and_from _ _ (allowed-plain x p.0) (every-plain xs p.1)

-- an element that is held, as a scan spells it
abbrev pub element_of : Held → Element
element_of x = record { entry = x.entry; field = written x.value }

-- what is read of it is held as it is
pub held-again : (y : ℕ) (x : Held) → Stands y x → held_as y (element_of x) ≡ x
held-again y x s = λ k. record { entry = x.entry; value = s.means.same k }

-- what stands between an element and those behind it
abbrev behind : Held → List Held → List ℕ
behind x [] = []
behind x (z ∷ zs) = parting x

ending-is : (x : Held) (xs : List Held) → ending x xs ≡ behind x xs ++ spelled xs
ending-is x [] = refl
ending-is x (z ∷ zs) = refl

spelled_is : (x : Held) (xs : List Held) → spelled (x ∷ xs) ≡ entries.text x.entry ++ (written x.value ++ (behind x xs ++ spelled xs))
spelled_is x xs = append_assoc (ident x) (written x.value) (ending x xs) ∙ ap (λ r. ident x ++ (written x.value ++ r)) (ending-is x xs)

apart-is : (x : Held) (xs : List Held) → Gap (element_of x) (behind x xs) (spelled xs)
apart-is x [] = inr (refl, inr refl)
apart-is x (z ∷ zs) =
    cond_both (predefined (ident x)) [] (29 ∷ []) (λ g. Gap (element_of x) g (spelled (z ∷ zs))) (λ p. inr (refl, inl p)) (λ _. inl refl)

first_is : (xs : List Held) → gap (spelled xs) ≡ 0
first_is [] = refl
first_is (x ∷ xs) = gap-none (spelled (x ∷ xs)) (text-first x.entry (spelled (x ∷ xs)) (written x.value ++ (behind x xs ++ spelled xs)) (spelled_is x xs))

ending-length : (x : Held) (xs : List Held) → length xs ≤ length (ending x xs)
ending-length x [] = omega arith
ending-length x (z ∷ zs) =
    let h = ending-length z zs in
    let l = piece-long z in
    let d = z.entry.ident.least in
    let a = length-append (parting x) (piece z ++ ending z zs) in
    let b = length-append (piece z) (ending z zs) in
    omega arith

-- every element takes up bytes
pub spelled-length : (xs : List Held) → length xs ≤ length (spelled xs)
spelled-length [] = omega arith
spelled-length (x ∷ xs) =
    let h = ending-length x xs in
    let l = piece-long x in
    let d = x.entry.ident.least in
    let b = length-append (piece x) (ending x xs) in
    omega arith

-- the first of some elements that are spelled, and those that are left
pub record Read (es : List Entry) (y p : ℕ) (x : Held) (xs : List Held) : Type 0 where
  pub taken : ℕ
  pub is : front es y p (spelled (x ∷ xs)) ≡ Ok (record { element = element_of x; taken = taken })
  pub rest : drop taken (spelled (x ∷ xs)) ≡ spelled xs

pub first_read : (es : List Entry) → T (all_lawful es) → T (prefix_free es) → (y p : ℕ) (x : Held) (xs : List Held) → In x.entry es → Stands y x → Read es y p x xs
first_read es all free y p x xs i s =
    let known : Known es (element_of x) = record { listed = i; least = s.least; most = s.most; plainly = every-plain (written x.value) s.text } in
    let t : Takes es all free y p (spelled (x ∷ xs)) (element_of x) (spelled xs) = takes es all free y p (spelled (x ∷ xs)) (element_of x) (behind x xs) (spelled xs) (spelled_is x xs) known (apart-is x xs) s.means.lawful (λ _. first_is xs) in
    record { taken = t.taken; is = t.seen; rest = t.left }
