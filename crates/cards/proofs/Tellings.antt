-- A row's text and its value.
use Rattle.std.proofs.Common.{◌≡◌, ℕ, ◌-◌, ◌≤◌, List, [], ◌++◌, length, take, drop, sym, refl, ap, ◌∙◌, ⊎_elim, arith, length-drop, length-take}
use Rattle.std.proofs.lemmas.List.{take_at, take_all, append-nil, nil_from_length}
use Rattle.std.proofs.lemmas.Bool.{cases_lt}
use Rattle.forms.specs.Values.{text, told, written}
use Rattle.forms.specs.declared.value.Value.{Value}
use Rattle.forms.specs.declared.value.Value.TheVariants.{Text, Key, Date, Stamp, Fraction, Whole}
use Rattle.cards.specs.declared.row.Row.{Row}
use Rattle.cards.specs.Rows.{held_in}

-- bytes of which as many are taken as the list has, or as are asked for
take-front : (n len : ℕ) (xs rest : List ℕ) → length xs ≡ 30 → len ≤ 30 → take len xs ≡ take n xs → length rest ≡ 30 - len → take n (take len xs ++ rest) ≡ take n xs
take-front n len xs rest l s e r =
    let a = length-take len xs in
    let b = length-take n xs in
    let c = ap length e in
    ⊎_elim
    (λ few. ap (λ k. take k (take len xs ++ rest)) (let z : n ≡ len = omega arith in z) ∙ take_at (take len xs) rest len (omega arith) ∙ e)
    (λ many.
    let none : rest ≡ [] = nil_from_length rest (omega arith) in
    ap (λ t. take n (take len xs ++ t)) none ∙ ap (take n) (append-nil (take len xs) ∙ take_all len xs (omega arith)))
    (cases_lt n 31)

-- a value means the same beside its writing alone
pub told-front : (v : Value) (xs rest : List ℕ) (len : ℕ) → length xs ≡ 30 → len ≤ 30 → take len xs ≡ written (told v xs) → length rest ≡ 30 - len → told v (take len xs ++ rest) ≡ told v xs
told-front (Text n) xs rest len l s e r = ap text (take-front n len xs rest l s e r)
told-front (Key k) xs rest len l s e r = refl
told-front (Date d) xs rest len l s e r = refl
told-front (Stamp t) xs rest len l s e r = refl
told-front (Fraction n) xs rest len l s e r = refl
told-front (Whole n) xs rest len l s e r = refl

module _ (row : Row) (before after : List ℕ) (n : ℕ) (long : n ≡ length (written (held_in row).value)) (is : after ≡ written (held_in row).value ++ drop n before) where
  -- what was written, as it lies in the row
  pub row-written : after ≡ take row.len row.text ++ drop row.len before
  row-written =
      let len : n ≡ row.len = (let w = ap length row.wrote in let a = length-take row.len row.text in let l = row.long in let s = row.short in omega arith) in
      is ∙ ap (λ t. t ++ drop n before) (sym row.wrote) ∙ ap (λ k. take row.len row.text ++ drop k before) len

  -- its value means beside that what it means in the row
  pub row_told : length before ≡ 30 → told row.value after ≡ (held_in row).value
  row_told b = ap (told row.value) row-written ∙ told-front row.value row.text (drop row.len before) row.len row.long row.short row.wrote (length-drop row.len before ∙ ap (λ k. k - row.len) b)
