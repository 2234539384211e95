-- Bytes: which a text may hold, which are digits, and the numbers that digits write.
use Rattle.std.specs.Prelude.{ℕ, zero, suc, ◌+◌, ◌-◌, ◌*◌, ◌/◌, ◌%◌, ◌^◌, Bool, true, ◌&&◌, ◌||◌, List, [], ◌∷◌, ◌==◌, nat_le, slice_index}

abbrev pub within : ℕ → ℕ → ℕ → Bool
within low high b = nat_le low b && nat_le b high

-- the bytes that a text may hold: 33, 34, 37 to 63, 65 to 90, 95 and 97 to 122
abbrev pub allowed : ℕ → Bool
allowed b = within 33 34 b || (within 37 63 b || (within 65 90 b || (b == 95 || within 97 122 b)))

-- the digits
abbrev pub digit : ℕ → Bool
digit b = within 48 57 b

-- the test holds of every byte
abbrev pub every : (ℕ → Bool) → List ℕ → Bool
every p [] = true
every p (x ∷ xs) = p x && every p xs

-- the number that digits write, behind the digits of the number n
abbrev pub number_on : ℕ → List ℕ → ℕ
number_on n [] = n
number_on n (c ∷ cs) = number_on (10 * n + (c - 48)) cs

-- the number that digits write
abbrev pub number : List ℕ → ℕ
number f = number_on 0 f

-- the number that the two digits from i on write
abbrev pub pair : List ℕ → ℕ → ℕ
pair f i = 10 * (slice_index f i - 48) + (slice_index f (i + 1) - 48)

-- the two digits that write a number below a hundred
abbrev pub two : ℕ → List ℕ
two n = (48 + n / 10) ∷ (48 + n % 10) ∷ []

-- the last k digits that write n, zeros in front where it has fewer
abbrev pub last_digits : ℕ → ℕ → List ℕ
last_digits zero n = []
last_digits (suc k) n = (48 + n / 10 ^ k % 10) ∷ last_digits k n
