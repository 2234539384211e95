use Rattle.std.proofs.Common.{◌≡◌, ℕ, suc, ◌+◌, ◌-◌, ◌/◌, ◌%◌, ◌^◌, ◌<◌, List, ◌∷◌, length, drop, slice_set, ap, sym, ◌∙◌, pow-suc, length-set, arith}
use Rattle.std.proofs.lemmas.List.{drop-set}
use Rattle.std.proofs.Math.Nat.{div-div-eq-div-mul}
use Rattle.forms.specs.Bytes.{last_digits}
use Rattle.forms.proofs.numbers.last_digits.Goals as goal

-- one digit more, in front of the k that are written
left-more : (n k r : ℕ) → r ≡ n / 10 ^ k → r / 10 ≡ n / 10 ^ suc k
left-more n k r e = ap (λ x. x / 10) e ∙ div-div-eq-div-mul n (10 ^ k) 10 ∙ ap (λ x. n / x) (sym (pow-suc 10 k))

wrote_more : (n k r j : ℕ) (ds : List ℕ) → j < length ds → r ≡ n / 10 ^ k → drop (j + 1) ds ≡ last_digits k n → drop j (slice_set ds j (48 + r % 10)) ≡ last_digits (suc k) n
wrote_more n k r j ds l e h = drop-set ds j (48 + r % 10) l ∙ ap (λ x. (48 + x % 10) ∷ drop (j + 1) ds) e ∙ ap (λ xs. (48 + n / 10 ^ k % 10) ∷ xs) h

pub loop-i-preserved : goal.loop-i-preserved
loop-i-preserved g c =
    let h = c.loop-i.invariant in
    let e : g.row.N - (c.loop-i.i - 1) ≡ suc (g.row.N - c.loop-i.i) = omega arith in
    let j : c.loop-i.i ≡ c.loop-i.i - 1 + 1 = omega arith in
    rw e (record {
      long = length-set c.loop-i.digits (c.loop-i.i - 1) (48 + c.loop-i.rest % 10) ∙ h.long;
      left = left-more c.args.n (g.row.N - c.loop-i.i) c.loop-i.rest h.left;
      wrote = wrote_more c.args.n (g.row.N - c.loop-i.i) c.loop-i.rest (c.loop-i.i - 1) c.loop-i.digits (omega (arith, h.long)) h.left (ap (λ k. drop k c.loop-i.digits) (sym j) ∙ h.wrote);
    })
