-- What is written over a part of a list.
use Rattle.std.proofs.Common.{◌≡◌, ℕ, ◌+◌, ◌-◌, ◌≤◌, Bool, true, false, cond, List, [], ◌∷◌, ◌++◌, length, get_or, take, drop, set, sym, ap, ◌∙◌, arith}
use borrow.Rule.Slice.PartMut.{put_mid}
use Rattle.std.proofs.lemmas.List.{set-append_right, length-take-le, length-append, append_assoc, take_at, drop_more, drop-drop, take-append-drop}
use Rattle.symbols.specs.Encoding.{values}
use Rattle.symbols.specs.Writing.{Stage, Over, written}

-- two values
pub over_two : (n y z : ℕ) (xs ys : List ℕ) → n + 2 ≤ length xs → ys ≡ set (set xs n y) (n + 1) z → Over n (y ∷ z ∷ []) xs ys
over_two n y z xs ys h i =
    let a = get_or xs n 0 in let b = get_or xs (n + 1) 0 in let t = take n xs in let r = drop (n + 2) xs in
    let l : length t ≡ n = length-take-le n xs (omega arith) in
    let o : n - n ≡ 0 = omega arith in
    let o1 : n + 1 - n ≡ 1 = omega arith in
    let e : n + 1 + 1 ≡ n + 2 = omega arith in
    let d : drop n xs ≡ a ∷ b ∷ r =
    drop_more xs n 0 (omega arith) ∙ ap (λ q. a ∷ q) (drop_more xs (n + 1) 0 (omega arith)) ∙ ap (λ k. a ∷ b ∷ drop k xs) e in
    i ∙ ap (λ x. set (set x n y) (n + 1) z) (sym (take-append-drop n xs) ∙ ap (λ q. t ++ q) d)
    ∙ ap (λ x. set x (n + 1) z) (set-append_right t (a ∷ b ∷ r) n n y l (omega arith) ∙ ap (λ k. t ++ set (a ∷ b ∷ r) k y) o)
    ∙ set-append_right t (y ∷ b ∷ r) n (n + 1) z l (omega arith) ∙ ap (λ k. t ++ set (y ∷ b ∷ r) k z) o1

-- a part
pub over_part : (a k : ℕ) (xs ys zs : List ℕ) → k ≡ length zs → ys ≡ zs → Over a zs xs (put_mid a k xs ys)
over_part a k xs ys zs e f =
    ap (λ q. take a xs ++ (ys ++ q)) (drop-drop k a xs) ∙ ap (λ n. take a xs ++ (ys ++ drop (a + n) xs)) e ∙ ap (λ q. take a xs ++ (q ++ drop (a + length zs) xs)) f

-- how many values an element adds
pub written_long : (s : Stage) (e : List ℕ) → length (written s e) ≡ cond s.pending 1 0 + length (values s.set e)
written_long s e = by s.pending
  where
    by : (p : Bool) → length (cond p (102 ∷ []) [] ++ values s.set e) ≡ cond p 1 0 + length (values s.set e)
    by true = omega arith
    by false = omega arith

-- the front of what is written over
pub over_front : (n m : ℕ) (vs before after : List ℕ) → Over n vs before after → length (take n before) ≡ n → m ≡ n + length vs → take m after ≡ take n before ++ vs
over_front n m vs before after o l e =
    let t = take n before in let r = drop (n + length vs) before in
    let a : length (t ++ vs) ≡ length t + length vs = length-append t vs in
    ap (take m) (o ∙ sym (append_assoc t vs r)) ∙ take_at (t ++ vs) r m (omega arith)
