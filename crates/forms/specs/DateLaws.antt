-- The laws of dates and stamps.
use Rattle.std.specs.Prelude.{◌≡◌, ℕ, ◌+◌, ◌-◌, ◌*◌, ◌/◌, ◌%◌, ◌<◌, ◌≤◌, true, cond, ◌||◌, List, ◌∷◌, ◌++◌, length, drop, ◌==◌, slice_index, slice_index_or, refl}
use Rattle.std.proofs.Common.{ap, sym, subst, ◌∙◌, arith}
use Rattle.std.proofs.lemmas.List.{drop_more, drop_all}
use Rattle.std.proofs.lemmas.Bool.{and_from, ne_eqb, cond_both, cond-false}
use Rattle.std.proofs.lemmas.Bool.Decides.{nat_tests}
use Rattle.forms.specs.declared.value.Date.{Date}
use Rattle.forms.specs.declared.value.Stamp.{Stamp}
use Rattle.forms.specs.Years.{InSpan}
use Rattle.forms.specs.Laws.{Rewrites}
use Rattle.forms.specs.Bytes.{digit, every, pair, two}
use Rattle.forms.specs.Dates.{full_year, leap, days_in, day_meant, date_lawful, date_worth, date_writing, stamp_lawful, stamp_worth, stamp_writing}
use Rattle.forms.specs.Figures.{digit-in, digit-of}
use Rattle.forms.specs.Writings.{every-allowed, rewrites_as_read}

pub pair_small : (f : List ℕ) (i : ℕ) → i + 1 < length f → every digit f ≡ true → pair f i < 100
pair_small f i l h = omega (arith, digit-in f i (omega arith) h, digit-in f (i + 1) l h)

-- the last two digits of the year are those that were read
pub full-two : (y yy : ℕ) → InSpan y → yy < 100 → full_year y yy % 100 ≡ yy
full-two y yy h s = grind (arith, nat_tests)

days_some : (y m : ℕ) → (28 ≤ days_in y m) × (days_in y m ≤ 31)
days_some y m =
    cond_both (m == 2) _ _ (λ v. (28 ≤ v) × (v ≤ 31))
    (λ e. cond_both (leap y) 29 28 (λ v. (28 ≤ v) × (v ≤ 31)) (λ k. (omega arith, omega arith)) (λ k. (omega arith, omega arith)))
    (λ e. cond_both (m == 4 || (m == 6 || (m == 9 || m == 11))) 30 31 (λ v. (28 ≤ v) × (v ≤ 31)) (λ k. (omega arith, omega arith)) (λ k. (omega arith, omega arith)))

-- the day that is meant is a day of its month
meant-in : (dd n : ℕ) → dd ≤ n → 28 ≤ n → (1 ≤ cond (dd == 0) n dd) × (cond (dd == 0) n dd ≤ n)
meant-in dd n h k = grind (arith, nat_tests)

-- what two digits write of a number is read as that number
two_back : (n : ℕ) → 10 * (48 + n / 10 - 48) + (48 + n % 10 - 48) ≡ n
two_back n = omega arith

six_digits : (a b c : ℕ) → a < 100 → b < 100 → c < 100 → every digit (two a ++ (two b ++ two c)) ≡ true
six_digits a b c p q r =
    and_from _ _ (digit-of (a / 10) (omega arith)) (and_from _ _ (digit-of (a % 10) (omega arith))
    (and_from _ _ (digit-of (b / 10) (omega arith)) (and_from _ _ (digit-of (b % 10) (omega arith))
    (and_from _ _ (digit-of (c / 10) (omega arith)) (and_from _ _ (digit-of (c % 10) (omega arith)) refl)))))

date_like : ℕ → ℕ → ℕ → ℕ → Date
date_like y yy mm dd = record { year = full_year y yy; month = mm; day = day_meant (full_year y yy) mm dd }

like_same : (y a b c p q r : ℕ) → a ≡ p → b ≡ q → c ≡ r → date_like y a b c ≡ date_like y p q r
like_same y a b c p q r e h k = ap (λ n. date_like y n b c) e ∙ ap (λ n. date_like y p n c) h ∙ ap (λ n. date_like y p q n) k

day_moves : (y a b c p q r : ℕ) → a ≡ p → b ≡ q → c ≡ r → r ≤ days_in (full_year y p) q → c ≤ days_in (full_year y a) b
day_moves y a b c p q r e h k le = rw (e, h, k) le

-- a day that is not 00 is meant as it is
day_again : (y yy mm dd d : ℕ) → d ≡ day_meant (full_year y yy) mm dd → 1 ≤ d → date_like y yy mm d ≡ date_like y yy mm dd
unfolding date_like
day_again y yy mm dd d e h =
    let g : ℕ → Date = λ n. record { year = full_year y yy; month = mm; day = n } in
    ap g (cond-false (d == 0) (days_in (full_year y yy) mm) d (ne_eqb d 0 (λ z. omega arith)) ∙ e)

pub date_rewrites : (y : ℕ) (f : List ℕ) → InSpan y → date_lawful y f → Rewrites date_lawful date_worth date_writing y f
unfolding date_like
date_rewrites y f h p =
    let l = p.long in
    let yy = pair f 0 in
    let mm = pair f 2 in
    let dd = pair f 4 in
    let fy = full_year y yy in
    let v = date_worth y f in
    let w = date_writing v in
    let days = days_some fy mm in
    let day = meant-in dd (days_in fy mm) p.day days.0 in
    let e0 : pair w 0 ≡ yy = two_back (fy % 100) ∙ full-two y yy h (pair_small f 0 (omega arith) p.all) in
    let e2 : pair w 2 ≡ mm = two_back mm in
    let e4 : pair w 4 ≡ v.day = two_back v.day in
    let digits : every digit w ≡ true = six_digits (fy % 100) mm v.day (omega arith) (omega (arith, p.month_high)) (omega (arith, day, days)) in
    record {
      again = record { long = refl; all = digits; month_low = omega (arith, e2, p.month_low); month_high = omega (arith, e2, p.month_high); day = day_moves y _ _ _ _ _ _ e0 e2 e4 day.1 };
      text = every-allowed w digits;
      same = like_same y _ _ _ _ _ _ e0 e2 e4 ∙ day_again y yy mm dd v.day refl day.0;
    }

-- two digits of a field, written again
twos_back : (f : List ℕ) (i : ℕ) → i + 1 < length f → every digit f ≡ true → two (pair f i) ++ drop (i + 1 + 1) f ≡ drop i f
twos_back f i h a =
    let p = digit-in f i (omega arith) a in
    let q = digit-in f (i + 1) h a in
    let x : 48 + pair f i / 10 ≡ slice_index_or f i 0 = omega arith in
    let z : 48 + pair f i % 10 ≡ slice_index_or f (i + 1) 0 = omega arith in
    sym (drop_more f i 0 (omega arith) ∙ ap (λ r. slice_index f i ∷ r) (drop_more f (i + 1) 0 h) ∙ ap (λ n. n ∷ slice_index f (i + 1) ∷ drop (i + 1 + 1) f) (sym x) ∙ ap (λ n. (48 + pair f i / 10) ∷ n ∷ drop (i + 1 + 1) f) (sym z))

-- stamps are written as read
pub stamp_as_read : (y : ℕ) (f : List ℕ) → InSpan y → stamp_lawful y f → stamp_writing (stamp_worth y f) ≡ f
stamp_as_read y f h p =
    let l = p.long in
    let a = p.all in
    let e0 : full_year y (pair f 0) % 100 ≡ pair f 0 = full-two y (pair f 0) h (pair_small f 0 (omega arith) a) in
    let t8 : two (pair f 8) ≡ drop 8 f = ap (λ r. two (pair f 8) ++ r) (sym (drop_all 10 f (omega arith))) ∙ twos_back f 8 (omega arith) a in
    let t6 : two (pair f 6) ++ two (pair f 8) ≡ drop 6 f = ap (λ r. two (pair f 6) ++ r) t8 ∙ twos_back f 6 (omega arith) a in
    let t4 : two (pair f 4) ++ (two (pair f 6) ++ two (pair f 8)) ≡ drop 4 f = ap (λ r. two (pair f 4) ++ r) t6 ∙ twos_back f 4 (omega arith) a in
    let t2 : two (pair f 2) ++ (two (pair f 4) ++ (two (pair f 6) ++ two (pair f 8))) ≡ drop 2 f = ap (λ r. two (pair f 2) ++ r) t4 ∙ twos_back f 2 (omega arith) a in
    ap (λ n. two n ++ (two (pair f 2) ++ (two (pair f 4) ++ (two (pair f 6) ++ two (pair f 8))))) e0
    ∙ ap (λ r. two (pair f 0) ++ r) t2 ∙ twos_back f 0 (omega arith) a

pub stamp_rewrites : (y : ℕ) (f : List ℕ) → InSpan y → stamp_lawful y f → Rewrites stamp_lawful stamp_worth stamp_writing y f
stamp_rewrites y f s h = rewrites_as_read _ _ _ y f (stamp_as_read y f s h) h (every-allowed f h.all)

-- only one year with those last two digits lies from 49 before to 50 after
pub full-only : (y z : ℕ) → InSpan y → y ≤ z + 49 → z ≤ y + 50 → full_year y (z % 100) ≡ z
full-only y z h p q = grind (arith, nat_tests)

-- in a year that gives the two digits the same century, a date or stamp is as lawful, and means the same
pub date_kept : (y t : ℕ) (f : List ℕ) → full_year t (pair f 0) ≡ full_year y (pair f 0) → date_lawful y f → date_lawful t f × (date_worth t f ≡ date_worth y f)
date_kept y t f e l =
    let g : ℕ → Date = λ n. record { year = n; month = pair f 2; day = day_meant n (pair f 2) (pair f 4) } in
    (record { long = l.long; all = l.all; month_low = l.month_low; month_high = l.month_high; day = subst (λ n. pair f 4 ≤ days_in n (pair f 2)) (sym e) l.day }, ap g e)

pub stamp_kept : (y t : ℕ) (f : List ℕ) → full_year t (pair f 0) ≡ full_year y (pair f 0) → stamp_lawful y f → stamp_lawful t f × (stamp_worth t f ≡ stamp_worth y f)
stamp_kept y t f e l =
    let g : ℕ → Stamp = λ n. record { date = record { year = n; month = pair f 2; day = pair f 4 }; hour = pair f 6; minute = pair f 8 } in
    (record { long = l.long; all = l.all; month_low = l.month_low; month_high = l.month_high; day_low = l.day_low; day_high = subst (λ n. pair f 4 ≤ days_in n (pair f 2)) (sym e) l.day_high; hour = l.hour; minute = l.minute }, ap g e)

-- the two digits that a lawful field begins with get the same century in every year in whose span its year lies
pub century_kept : (y t : ℕ) (f : List ℕ) → InSpan y → InSpan t → 1 < length f → every digit f ≡ true → t ≤ full_year y (pair f 0) + 49 → full_year y (pair f 0) ≤ t + 50 → full_year t (pair f 0) ≡ full_year y (pair f 0)
century_kept y t f h k l a p q =
    ap (full_year t) (sym (full-two y (pair f 0) h (pair_small f 0 l a))) ∙ full-only t (full_year y (pair f 0)) k p q
