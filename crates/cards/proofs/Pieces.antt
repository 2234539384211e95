-- The symbol of a run reads back to the run spelled.
use Rattle.std.proofs.Common.{◌≡◌, ℕ, ◌+◌, ◌≤◌, Bool, true, false, cond, not, ◌&&◌, T, eqb, ltb, List, [], ◌∷◌, ◌++◌, map, length, get_or, is_some, Some, None, Ok, Option, refl, ap, ◌∙◌, inl, inr, arith, length-append}
use Rattle.std.specs.List.{prefix_len}
use Rattle.std.proofs.lemmas.Bool.{and_parts, and_from, cond-true, cond-false, eqb-true, eq-eqb, le-ltb, not_from_true}
use Rattle.forms.specs.Bytes.{allowed, digit, every, pair}
use Rattle.forms.specs.Values.{written}
use Rattle.forms.specs.Figures.{every-last_digits}
use Rattle.forms.specs.Writings.{every-allowed}
use Rattle.books.specs.Lawful.{fills}
use Rattle.books.specs.Texts as texts
use Rattle.books.specs.Texts.{lead, whole}
use Rattle.books.specs.Entries.{In}
use Rattle.books.proofs.Finds.{holds}
use Rattle.books.proofs.Lengths.{whole-kept}
use Rattle.scans.proofs.Spelled.{text-long}
use Rattle.symbols.specs.Reading.{decoded}
use Rattle.symbols.specs.Encoding.{predefined, fixed_length, misfits, separated, clean, joined_after, joined}
use Rattle.symbols.specs.Writing.{Stage, fresh, grown, next, taken, taken_all}
use Rattle.symbols.proofs.Runs.{goes_on, run_by, sep_long, reads_back}
use Rattle.cards.specs.Tallies.{Held, ident}
use Rattle.cards.specs.Strings.{piece, parting, ending, spelled, reached, symbol_of}
use Rattle.cards.proofs.Fitting.{Fits}

-- PREDEFINED LENGTHS

-- symbols and books predefine the same lengths
predefined-alike : (n : ℕ) → predefined n ≡ whole n
predefined-alike n = refl

-- A PIECE

pub piece-long : (x : Held) → length (piece x) ≡ x.entry.ident.digits + length (written x.value)
piece-long x = length-append (ident x) (written x.value) ∙ ap (λ n. n + length (written x.value)) (text-long x.entry)

-- TWO DIGITS IN FRONT

record Digits (i w : List ℕ) : Type 0 where
  both : (digit (get_or (i ++ w) 0 0) && digit (get_or (i ++ w) 1 0)) ≡ true
  first : pair (i ++ w) 0 ≡ lead i
  ahead : 2 ≤ prefix_len digit (i ++ w)

two_digits : (i w : List ℕ) → every digit i ≡ true → 2 ≤ length i → Digits i w
two_digits [] w h l = absurd (omega arith)
two_digits (a ∷ []) w h l = absurd (omega arith)
two_digits (a ∷ b ∷ i) w h l =
    let p = and_parts _ _ h in
    let q = and_parts _ _ p.1 in
    let e : prefix_len digit (a ∷ b ∷ (i ++ w)) ≡ 1 + (1 + prefix_len digit (i ++ w)) =
    cond-true (digit a) (1 + prefix_len digit (b ∷ (i ++ w))) 0 p.0 ∙ ap (λ n. 1 + n) (cond-true (digit b) (1 + prefix_len digit (i ++ w)) 0 q.0) in
    record { both = and_from _ _ p.0 q.0; first = omega arith; ahead = omega arith }

ident-digits : (x : Held) → Digits (ident x) (written x.value)
ident-digits x =
    two_digits (ident x) (written x.value) (every-last_digits x.entry.ident.digits x.entry.ident.number)
    (let l = text-long x.entry in let d = x.entry.ident.least in omega arith)

fixed_is : (x : Held) → fixed_length (piece x) ≡ whole (lead (ident x))
fixed_is x =
    let d = ident-digits x in
    cond-true (digit (get_or (piece x) 0 0) && digit (get_or (piece x) 1 0)) (predefined (pair (piece x) 0)) None d.both
    ∙ ap whole d.first

separated-is : (x : Held) → separated (piece x) ≡ not (texts.predefined (ident x))
separated-is x = ap (λ o. not (is_some o)) (fixed_is x)

-- AN ELEMENT IS TAKEN

length-fits : (o : Option ℕ) (d s l n : ℕ) → T (fills o d s l) → 2 ≤ d → s ≤ n → n ≤ l → misfits (d + n) o ≡ false
length-fits None d s l n t h least most = le-ltb (d + n) 2 (omega arith)
length-fits (Some m) d s l n t h least most =
    let p = and_parts (eqb (d + s) m) (eqb (d + l) m) (holds (fills (Some m) d s l) t) in
    let a = eqb-true (d + s) m p.0 in
    let b = eqb-true (d + l) m p.1 in
    not_from_true (eqb (d + n) m) (eq-eqb (d + n) m (omega arith))

piece-fits : (x : Held) → Fits x → misfits (length (piece x)) (fixed_length (piece x)) ≡ false
piece-fits x s =
    ap (misfits (length (piece x))) (fixed_is x)
    ∙ ap (λ n. misfits n (whole (lead (ident x)))) (piece-long x)
    ∙ length-fits (whole (lead (ident x))) x.entry.ident.digits x.entry.shortest x.entry.longest (length (written x.value)) (whole-kept x.entry) x.entry.ident.least s.least s.most

every_append : (p : ℕ → Bool) (xs ys : List ℕ) → every p xs ≡ true → every p ys ≡ true → every p (xs ++ ys) ≡ true
every_append p [] ys h k = k
every_append p (x ∷ xs) ys h k = let q = and_parts _ _ h in and_from _ _ q.0 (every_append p xs ys q.1 k)

leading_all : (p : ℕ → Bool) (xs : List ℕ) → every p xs ≡ true → prefix_len p xs ≡ length xs
leading_all p [] h = refl
leading_all p (x ∷ xs) h =
    let q = and_parts _ _ h in
    let r = leading_all p xs q.1 in
    cond-true (p x) (1 + prefix_len p xs) 0 q.0 ∙ (let z : 1 + prefix_len p xs ≡ length (x ∷ xs) = omega arith in z)

piece-clean : (x : Held) → Fits x → clean (piece x) ≡ length (piece x)
piece-clean x s =
    let d = ident-digits x in
    cond-false (ltb (prefix_len digit (piece x)) 2) (prefix_len digit (piece x)) (prefix_len allowed (piece x)) (le-ltb (prefix_len digit (piece x)) 2 d.ahead)
    ∙ leading_all allowed (piece x) (every_append allowed (ident x) (written x.value) (every-allowed (ident x) (every-last_digits x.entry.ident.digits x.entry.ident.number)) s.text)

pub piece-taken : (x : Held) (s : Stage) → Fits x → grown s (piece x) ≤ 48 → taken s (piece x) ≡ Ok (next s (piece x))
piece-taken x s h l =
    cond-false (misfits (length (piece x)) (fixed_length (piece x))) _ _ (piece-fits x h)
    ∙ cond-false (ltb (clean (piece x)) (length (piece x))) _ _ (le-ltb (clean (piece x)) (length (piece x)) (let c = piece-clean x h in omega arith))
    ∙ cond-false (ltb 48 (grown s (piece x))) _ _ (le-ltb 48 (grown s (piece x)) l)

-- A RUN

turned : (p : Bool) → cond {A = List ℕ} (not p) (29 ∷ []) [] ≡ cond p [] (29 ∷ [])
turned true = refl
turned false = refl

parting-is : (x : Held) → cond {A = List ℕ} (separated (piece x)) (29 ∷ []) [] ≡ parting x
parting-is x = ap (λ b. cond {A = List ℕ} b (29 ∷ []) []) (separated-is x) ∙ turned (texts.predefined (ident x))

ending-joined : (x : Held) (xs : List Held) → joined_after (separated (piece x)) (map piece xs) ≡ ending x xs
ending-joined x [] = refl
ending-joined x (z ∷ zs) =
    ap (λ g. g ++ (piece z ++ joined_after (separated (piece z)) (map piece zs))) (parting-is x)
    ∙ ap (λ r. parting x ++ (piece z ++ r)) (ending-joined z zs)

-- elements are joined in a symbol as they are spelled
pub spelled-joined : (xs : List Held) → joined (map piece xs) ≡ spelled xs
spelled-joined [] = refl
spelled-joined (x ∷ xs) = ap (λ r. piece x ++ r) (ending-joined x xs)

pub run-taken : (s : Stage) (xs : List Held) → ((x : Held) → In x xs → Fits x) → s.bytes + length (joined_after s.pending (map piece xs)) ≤ 48
    → taken_all s (map piece xs) ≡ Ok (reached s (map piece xs))
run-taken s [] h l = refl
run-taken s (x ∷ xs) h l =
    let a = sep_long s.pending (piece x ++ joined_after (separated (piece x)) (map piece xs)) in
    let b = length-append (piece x) (joined_after (separated (piece x)) (map piece xs)) in
    run_by s (piece x) (map piece xs)
    ∙ ap (goes_on (map piece xs)) (piece-taken x s (h x (inl refl)) (omega arith))
    ∙ run-taken (next s (piece x)) xs (λ z i. h z (inr i)) (omega arith)

-- the symbol of a run of elements that stand, of at most 48 bytes, reads back to them
pub symbol_read : (xs : List Held) → ((x : Held) → In x xs → Fits x) → length (spelled xs) ≤ 48 → decoded (symbol_of xs) ≡ Ok (spelled xs)
symbol_read xs h l =
    let e = ap length (spelled-joined xs) in
    reads_back (map piece xs) (reached fresh (map piece xs)) (run-taken fresh xs h (omega arith))
    ∙ ap Ok (spelled-joined xs)
