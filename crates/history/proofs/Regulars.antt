-- Every tally of calls is regular.
use Rattle.std.proofs.Common.{◌≡◌, ℕ, zero, suc, ◌+◌, ◌<◌, ◌≤◌, true, false, T, ltb, List, [], ◌∷◌, ◌++◌, length, drop, is_some, Some, None, Ok, Err, Option, Result, sym, refl, ap, ◌∙◌, subst, ⊎_elim, arith}
use Rattle.std.proofs.lemmas.Bool.{cond_both, and_parts, leb-true, ltb-true}
use Rattle.forms.specs.Bytes.{within}
use Rattle.forms.specs.Values.{Meaning}
use Rattle.forms.specs.Years.{InSpan}
use Rattle.books.specs.Texts.{starts, overlap}
use Rattle.books.specs.Entries as entries
use Rattle.books.specs.Entries.{In, all_lawful, prefix_free}
use Rattle.books.specs.declared.entry.Entry.{Entry}
use Rattle.books.proofs.Finds.{one_entry}
use Rattle.scans.specs.Elements.{Front, front, mark}
use Rattle.scans.specs.declared.fault.ScanFault.{ScanFault}
use Rattle.scans.specs.declared.fault.ScanFault.TheVariants.{NoMark, Clash, Differs, Full}
use Rattle.scans.proofs.Spelled.{fronted}
use Rattle.symbols.specs.Reading.{decoded}
use Rattle.symbols.specs.declared.fault.SymbolFault.{SymbolFault}
use Rattle.cards.specs.Codes.{same_meaning}
use Rattle.cards.specs.Tallies.{Held, Tally, blank, ident, insert, look, without, crossed, Put, joins, put, outside, first_outside}
use Rattle.cards.specs.Outcomes.{held_as, on_front, on_put, puts, scan_outcome, in_symbol, take_data, strike_outcome, turn_unless, turn_outcome}
use Rattle.cards.specs.declared.fault.CardFault.TheVariants.{NotHeld, NoSuchYear}
use Rattle.history.specs.Requests.{Request, scan, take, strike, wipe, turn, holding, leaves, or_kept, after, run, tally_of}
use Rattle.history.proofs.Sorts.{Within, Rising, insert-from, insert-length, insert-rising, without-within, without-rising, rising-shorter, rising-one}
use Rattle.history.proofs.Looks.{look_none}
use Rattle.history.proofs.Stands.{Stands, field_stands, stands-turned}

-- elements in canonical order, at most 32, each of an entry of the book and standing in the year
pub record Regular (es : List Entry) (y : ℕ) (hs : List Held) : Type 0 where
  pub rising : Rising hs
  pub known : (x : Held) → In x hs → In x.entry es
  pub few : length hs ≤ 32
  pub stands : (x : Held) → In x hs → Stands y x

pub blank-regular : (es : List Entry) (y : ℕ) → Regular es y []
blank-regular es y = record { rising = tt; known = λ x i. absurd i; few = omega arith; stands = λ x i. absurd i }

-- part of what is regular, in order
pub part_regular : (es : List Entry) (y : ℕ) (xs hs : List Held) → Regular es y hs → Rising xs → Within xs hs → Regular es y xs
part_regular es y xs hs R r w =
    record {
      rising = r;
      known = λ x i. R.known x (w x i);
      few = (let l = rising-shorter xs hs r R.rising w in let f = R.few in omega arith);
      stands = λ x i. R.stands x (w x i);
    }

pub insert-regular : (es : List Entry) (y : ℕ) (hs : List Held) (x : Held) → Regular es y hs → In x.entry es → Stands y x → look (ident x) hs ≡ None → length hs < 32 → Regular es y (insert x hs)
insert-regular es y hs x R i s n l =
    record {
      rising = insert-rising x hs R.rising (look_none (ident x) hs n);
      known = λ z j. ⊎_elim (λ e. subst (λ (w : Held). In w.entry es) (sym e) i) (R.known z) (insert-from x hs z j);
      few = (let e = insert-length x hs in omega arith);
      stands = λ z j. ⊎_elim (λ e. subst (Stands y) (sym e) s) (R.stands z) (insert-from x hs z j);
    }

on_front-both : {A : Type 0} (r : Result Front ScanFault) (next : Front → Result A ScanFault) (P : Result A ScanFault → Type 0) → ((e : ScanFault) → P (Err e)) → ((f : Front) → r ≡ Ok f → P (next f)) → P (on_front r next)
on_front-both (Err e) next P n s = n e
on_front-both (Ok f) next P n s = s f refl

on_put-both : {A : Type 0} (r : Result Put ScanFault) (next : Put → Result A ScanFault) (P : Result A ScanFault → Type 0) → ((e : ScanFault) → P (Err e)) → ((q : Put) → r ≡ Ok q → P (next q)) → P (on_put r next)
on_put-both (Err e) next P n s = n e
on_put-both (Ok q) next P n s = s q refl

-- the values of a list lie within the span of a year of which the first outside is none
none_outside : (y n : ℕ) (hs : List Held) → first_outside y n hs ≡ None → (x : Held) → In x hs → outside y x.value ≡ false
none_outside y n [] e x i = absurd i
none_outside y n (z ∷ zs) e x i =
    cond_both (outside y z.value) (Some n) (first_outside y (n + 1) zs) (λ o. o ≡ None → outside y z.value ≡ outside y z.value → outside y x.value ≡ false)
    (λ p q _. absurd (let w : ◌≡◌ {A = ℕ} 0 1 = cc in omega arith))
    (λ p q _. ⊎_elim (λ r. ap (λ (w : Held). outside y w.value) r ∙ p) (none_outside y (n + 1) zs q x) i) e refl

-- a tally: its year is one that a card can have, and what it holds is regular
pub record Sound (es : List Entry) (t : Tally) : Type 0 where
  pub span : InSpan t.year
  pub regular : Regular es t.year t.held

module _ (es : List Entry) (all : T (all_lawful es)) (free : T (prefix_free es)) where
  -- idents that overlap are of one element
  pub regular-apart : (y : ℕ) (hs : List Held) → Regular es y hs → (x z : Held) → In x hs → In z hs → overlap (ident x) (ident z) ≡ true → x ≡ z
  regular-apart y hs R x z i j o =
      rising-one hs R.rising x z i j (ap entries.text (one_entry es all free x.entry z.entry (R.known x i) (R.known z j) o))

  module _ (y : ℕ) (span : InSpan y) where
    abbrev GoodPut : Result Put ScanFault → Type 0
    GoodPut (Err e) = Unit {0}
    GoodPut (Ok q) = Regular es y q.held

    joins-regular : (o : Option Meaning) (p : ℕ) (hs : List Held) (x : Held) → look (ident x) hs ≡ o → Regular es y hs → In x.entry es → Stands y x → GoodPut (joins o p hs x)
    joins-regular (Some w) p hs x e R i s = cond_both (same_meaning x.value w) (Ok (record { new = 0; held = hs })) (Err (Differs p)) GoodPut (λ _. R) (λ _. tt)
    joins-regular None p hs x e R i s =
        cond_both (ltb (length hs) 32) (Ok (record { new = 1; held = insert x hs })) (Err (Full p)) GoodPut
        (λ l. insert-regular es y hs x R i s e (ltb-true (length hs) 32 l)) (λ _. tt)

    put-regular : (p : ℕ) (hs : List Held) (x : Held) → Regular es y hs → In x.entry es → Stands y x → GoodPut (put p hs x)
    unfolding put
    put-regular p hs x R i s =
        cond_both (crossed x.entry hs) (Err (Clash p)) _ GoodPut (λ _. tt) (λ _. joins-regular (look (ident x) hs) p hs x refl R i s)

    puts-regular : (k : ℕ) (hs : List Held) (n p : ℕ) (s : List ℕ) → Regular es y hs → GoodPut (puts k es y hs n p s)
    unfolding puts
    puts-regular k hs n p [] R = R
    puts-regular zero hs n p (b ∷ s) R = R
    puts-regular (suc k) hs n p (b ∷ s) R =
        on_front-both (front es y p (b ∷ s)) _ GoodPut (λ _. tt) (λ f e.
        let g = fronted es all free y (b ∷ s) p f e in
        let x = f.element in
        let m = field_stands y x.entry x.field span g.lawful g.known.least g.known.most in
        on_put-both (put p hs (held_as y f.element)) _ GoodPut (λ _. tt) (λ q h.
        puts-regular k q.held (n + q.new) (p + f.taken) (drop f.taken (b ∷ s))
        (subst GoodPut h (put-regular p hs (held_as y f.element) R g.known.listed m))))

  scan_regular : (t : Tally) (s : List ℕ) → (S : Sound es t) → GoodPut t.year S.span (scan_outcome es t s)
  scan_regular t s S =
      cond_both (starts mark s) (puts (length s) es t.year t.held 0 3 (drop 3 s)) (Err NoMark) (GoodPut t.year S.span)
      (λ _. puts-regular t.year S.span (length s) t.held 0 3 (drop 3 s) S.regular) (λ _. tt)

  after-scan : (t : Tally) (S : Sound es t) (r : Result Put ScanFault) → GoodPut t.year S.span r → Sound es (or_kept t (leaves (λ (q : Put). holding t q.held) r))
  after-scan t S (Ok q) g = record { span = S.span; regular = g }
  after-scan t S (Err e) g = S

  after-put : (t : Tally) (S : Sound es t) (r : Result Put ScanFault) → GoodPut t.year S.span r → Sound es (or_kept t (leaves (λ (q : Put). holding t q.held) (in_symbol r)))
  after-put t S (Ok q) g = record { span = S.span; regular = g }
  after-put t S (Err e) g = S

  after-take : (t : Tally) (S : Sound es t) (d : Result (List ℕ) SymbolFault) → Sound es (or_kept t (leaves (λ (q : Put). holding t q.held) (take_data es t d)))
  after-take t S (Ok bytes) = after-put t S (scan_outcome es t (mark ++ bytes)) (scan_regular t (mark ++ bytes) S)
  after-take t S (Err e) = S

  after-strike : (t : Tally) (S : Sound es t) (i : List ℕ) → Sound es (or_kept t (leaves (holding t) (strike_outcome t i)))
  after-strike t S i =
      cond_both (is_some (look i t.held)) (Ok (without i t.held)) (Err NotHeld) (λ r. Sound es (or_kept t (leaves (holding t) r)))
      (λ _. record {
        span = S.span;
        regular = part_regular es t.year (without i t.held) t.held S.regular (without-rising i t.held S.regular.rising) (without-within i t.held);
      })
      (λ _. S)

  after_turn : (t : Tally) (S : Sound es t) (y : ℕ) → Sound es (or_kept t (leaves (λ u. u) (turn_outcome t y)))
  after_turn t S y =
      cond_both (within 2000 2199 y) (turn_unless (first_outside y 0 t.held) t y) (Err NoSuchYear) (λ r. Sound es (or_kept t (leaves (λ u. u) r)))
      (λ p. unless (first_outside y 0 t.held) refl (let q = and_parts _ _ p in (leb-true 2000 y q.0, leb-true y 2199 q.1))) (λ _. S)
    where
      unless : (o : Option ℕ) → first_outside y 0 t.held ≡ o → InSpan y → Sound es (or_kept t (leaves (λ u. u) (turn_unless o t y)))
      unless (Some n) e s = S
      unless None e s =
          let R = S.regular in
          record {
            span = s;
            regular = record { rising = R.rising; known = R.known; few = R.few; stands = λ x i. stands-turned t.year y S.span s x (none_outside y 0 t.held e x i) (R.stands x i) };
          }

  pub after-sound : (t : Tally) (r : Request) → Sound es t → Sound es (after es t r)
  after-sound t (scan s) S = after-scan t S (scan_outcome es t s) (scan_regular t s S)
  after-sound t (take values) S = after-take t S (decoded values)
  after-sound t (strike i) S = after-strike t S i
  after-sound t wipe S = record { span = S.span; regular = blank-regular es t.year }
  after-sound t (turn y) S = after_turn t S y

  pub run_sound : (t : Tally) (rs : List Request) → Sound es t → Sound es (run es t rs)
  run_sound t [] S = S
  run_sound t (r ∷ rs) S = run_sound (after es t r) rs (after-sound t r S)

  pub tally-sound : (rs : List Request) → Sound es (tally_of es rs)
  tally-sound rs = run_sound (blank 2000) rs (record { span = (omega arith, omega arith); regular = blank-regular es 2000 })
