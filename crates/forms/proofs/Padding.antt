-- A number printed with zeros in front.
use Rattle.std.proofs.Common.{◌≡◌, ℕ, ◌-◌, ◌++◌, false, [], length, replicate, decimal, ap, ◌∙◌, arith}
use Rattle.std.specs.Fmt.{format_spec, styled_decimal, padded_integral, char_count}
use Rattle.std.proofs.lemmas.List.{append-nil}
use Rattle.forms.specs.Printed.{zeros_before}

padded : (w m n : ℕ) → padded_integral (format_spec 32 0 4 w m) false [] (decimal n) ≡ zeros_before w n
unfolding padded_integral char_count
padded w m n =
    let e : w - length (decimal n) - 0 - 0 ≡ w - length (decimal n) = omega arith in
    ap (λ k. replicate k 48 ++ (decimal n ++ [])) e ∙ ap (λ ds. replicate (w - length (decimal n)) 48 ++ ds) (append-nil (decimal n))

pub padded_two : (m n : ℕ) → styled_decimal (format_spec 32 0 4 2 m) n ≡ zeros_before 2 n
padded_two m n = padded 2 m n

pub padded_four : (m n : ℕ) → styled_decimal (format_spec 32 0 4 4 m) n ≡ zeros_before 4 n
padded_four m n = padded 4 m n
