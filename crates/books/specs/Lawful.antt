-- Which entries are lawful: the lengths that an ident and a form allow.
use Rattle.std.specs.Prelude.{ℕ, ◌+◌, ◌^◌, Bool, true, ◌&&◌, Some, None, Option, ◌==◌, nat_le, nat_lt}
use Rattle.forms.specs.Bytes.{last_digits, within}
use Rattle.forms.specs.declared.kind.FormKind.{FormKind}
use Rattle.forms.specs.declared.kind.FormKind.TheVariants.{Text, Digits, Key, Date, Stamp, Measure, Count}
use Rattle.books.specs.Texts.{lead, whole}

-- where a length of ident and field together is predefined, the shortest and the longest field both make it up
abbrev pub fills : Option ℕ → ℕ → ℕ → ℕ → Bool
fills None digits shortest longest = true
fills (Some total) digits shortest longest = digits + shortest == total && digits + longest == total

-- the lengths that a form allows behind an ident of so many digits
abbrev pub form_allows : FormKind → ℕ → ℕ → ℕ → Bool
form_allows Text digits shortest longest = true
form_allows Digits digits shortest longest = true
form_allows Key digits shortest longest = shortest == longest && within 2 18 longest
form_allows Date digits shortest longest = shortest == 6 && longest == 6
form_allows Stamp digits shortest longest = shortest == 10 && longest == 10
form_allows Measure digits shortest longest = digits == 3 && (shortest == 7 && longest == 7)
form_allows Count digits shortest longest = shortest == 1 && nat_le longest 8

-- a field has 1 to 30 bytes
abbrev pub in_bounds : ℕ → ℕ → Bool
in_bounds shortest longest = nat_le 1 shortest && (nat_le shortest longest && nat_le longest 30)

-- a lawful entry, by its parts: an ident of two to four digits that can write its number, and lengths that are allowed
abbrev pub lawful : ℕ → ℕ → FormKind → ℕ → ℕ → Bool
lawful digits n form shortest longest =
    within 2 4 digits && (nat_lt n (10 ^ digits)
    && (in_bounds shortest longest
    && (form_allows form digits shortest longest
    && fills (whole (lead (last_digits digits n))) digits shortest longest)))
