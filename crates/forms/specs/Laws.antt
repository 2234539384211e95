-- What a form shows of its fields, their values and the writings of these.
use Rattle.std.specs.Prelude.{◌≡◌, ℕ, ◌≤◌, Bool, true, ◌⊎◌, List, ◌++◌, length, drop, Some, None, Option}
use Rattle.forms.specs.declared.fault.FieldFault.{FieldFault}
use Rattle.forms.specs.Bytes.{allowed, every}

-- lawful exactly where there is no fault
pub record Judged (lawful : Type 0) (fault : Option FieldFault) : Type 0 where
  pub clean : lawful → fault ≡ None
  pub stands : fault ≡ None → lawful

-- how long a writing is, of a field of so many bytes
pub record Lengths (exact : Bool) (field writing : ℕ) : Type 0 where
  pub some : 1 ≤ writing
  pub short : writing ≤ field
  pub same : exact ≡ true → writing ≡ field

module _ {V : Type 0} (lawful : ℕ → List ℕ → Type 0) (worth : ℕ → List ℕ → V) (writing : V → List ℕ) where
  -- the writing of a field's value is as good as the field
  pub record Rewrites (y : ℕ) (f : List ℕ) : Type 0 where
    pub again : lawful y (writing (worth y f))
    pub text : every allowed (writing (worth y f)) ≡ true
    pub same : worth y (writing (worth y f)) ≡ worth y f

  -- `after` has the writing of the value of f over the first n bytes of `before`
  pub record Rewrote (y : ℕ) (f before after : List ℕ) (n : ℕ) : Type 0 where
    pub stands : lawful y f
    pub long : n ≡ length (writing (worth y f))
    pub wrote : after ≡ writing (worth y f) ++ drop n before

-- the first of two fields that has a fault, and its fault
abbrev pub FirstRefused : Option FieldFault → Option FieldFault → FieldFault → Type 0
FirstRefused a b e = (a ≡ Some e) ⊎ ((a ≡ None) × (b ≡ Some e))
