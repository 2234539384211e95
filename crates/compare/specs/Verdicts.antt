-- What comes of two cards beside each other.
use Rattle.std.specs.Prelude.{◌≡◌, ℕ, List, codes, ◌≢◌}
use Rattle.compare.specs.declared.verdict.Verdict.{Verdict}
use Rattle.compare.specs.declared.verdict.Verdict.TheVariants.{Same, Different, YearsDiffer}

-- the verdict on cards of the years y and z with the canonical strings s and t
abbrev pub Judges : ℕ → ℕ → List ℕ → List ℕ → Verdict → Type 0
Judges y z s t Same = (y ≡ z) × (s ≡ t)
Judges y z s t Different = (y ≡ z) × (s ≢ t)
Judges y z s t YearsDiffer = y ≡ z → ⊥

-- how it is told
abbrev pub verdict_text : Verdict → List ℕ
verdict_text Same = codes "same"
verdict_text Different = codes "different"
verdict_text YearsDiffer = codes "years differ"
