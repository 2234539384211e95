-- A buffer that was lent as a whole and comes back.
use Rattle.std.proofs.Common.{◌≡◌, ℕ, ◌+◌, ◌≤◌, true, false, ltb, List, ◌++◌, length, take, drop, Ok, sym, ap, ◌∙◌, subst, ⊎_elim, arith}
use Rattle.std.proofs.lemmas.List.{take_at, length-take-le}
use Rattle.std.proofs.lemmas.Bool.{cases_Bool, ltb-false}
use Rattle.symbols.specs.Encoding.{joined}
use Rattle.symbols.specs.Reading.{decoded}
use Rattle.symbols.specs.Writing.{Stage, Stands, Added, Sealed, stage, sealing}
use Rattle.symbols.specs.declared.state.Open.{Open}

-- what stands in it then
pub come_back : (n : ℕ) (after items : List ℕ) → length after ≡ n → take n (after ++ drop (length after) items) ≡ after
come_back n after items l = take_at after (drop (length after) items) n l

pub added : (was o : Open) (e : List ℕ) (n : ℕ) (held before after items : List ℕ) → before ≡ held → length after ≡ n → Added was o e before after
    → Added was o e held (take n (after ++ drop (length after) items))
added was o e n held before after items is l a =
    subst (Added was o e held) (sym (come_back n after items l)) (subst (λ b. Added was o e b after) is a)

-- a symbol that is sealed has room
sealed_fits : (s : Stage) (room n : ℕ) → sealing s room ≡ Ok n → n ≤ room
sealed_fits s room n h =
    ⊎_elim
    (λ (t : ltb room (s.len + 2) ≡ true). let no : ◌≡◌ {A = ℕ} 0 1 = cc in absurd (omega arith))
    (λ (t : ltb room (s.len + 2) ≡ false). let is : n ≡ s.len + 2 = cc in omega (arith, ltb-false room (s.len + 2) t))
    (cases_Bool (ltb room (s.len + 2)))

pub sealed : (was : Open) (k n : ℕ) (held before after items values : List ℕ) → before ≡ held → length after ≡ n → length after ≡ length before
    → values ≡ take k (take n (after ++ drop (length after) items)) → Sealed k was before after
    → (sealing (stage was) (length held) ≡ Ok (length values)) × ((es : List (List ℕ)) → Stands es was held → decoded values ≡ Ok (joined es))
sealed was k n held before after items values is l same v s =
    let front = v ∙ ap (take k) (come_back n after items l) in
    let fits : k ≤ length after = omega (arith, sealed_fits (stage was) (length before) k s.is) in
    let long = ap length front ∙ length-take-le k after fits in (
      ap (λ h. sealing (stage was) (length h)) (sym is) ∙ s.is ∙ ap Ok (sym long),
      λ es h. ap decoded front ∙ s.stands es (subst (Stands es was) (sym is) h),
    )
