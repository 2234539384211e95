-- What a form's laws follow from.
use Rattle.std.specs.Prelude.{◌≡◌, ℕ, ◌-◌, ◌≤◌, Bool, true, List, [], ◌∷◌, ◌++◌, length, take, drop, replicate, Decides, refl, nat_eq}
use Rattle.std.proofs.Common.{sym, ap, ◌∙◌, arith}
use Rattle.std.specs.Cmp.Lexicographic.{pointwise}
use Rattle.std.proofs.lemmas.List.{take_at, drop-replicate}
use Rattle.std.proofs.lemmas.Slice.Eq.{slice_eq-Decides}
use Rattle.std.proofs.lemmas.Bool.{and_parts, and_from, leb-true}
use Rattle.std.proofs.lemmas.Bool.Decides.{Decides-like, nat_tests, Decides-eqb}
use Rattle.forms.specs.Bytes.{allowed, digit, every}
use Rattle.forms.specs.Laws.{Rewrites, Lengths, Rewrote}
use Rattle.forms.specs.Packs.{packed, unpacked}

-- what stands in front of zeros is taken again
pub taken_back : (f : List ℕ) (n : ℕ) → take (length f) (f ++ replicate n 0) ≡ f
taken_back f n = take_at f (replicate n 0) (length f) refl

-- what is put over zeros stands in front of those that are left
pub put-zeros : (f out : List ℕ) (n : ℕ) → out ≡ f ++ drop (length f) (replicate n 0) → out ≡ f ++ replicate (n - length f) 0
put-zeros f out n e = e ∙ ap (λ ys. f ++ ys) (drop-replicate {X = ℕ} (length f) n 0)

pub digit-range : (b : ℕ) → digit b ≡ true → (48 ≤ b) × (b ≤ 57)
digit-range b h = let p = and_parts _ _ h in (leb-true 48 b p.0, leb-true b 57 p.1)

-- what is packed is taken out again
pub taken_out : (n : ℕ) (f : List ℕ) → unpacked (packed n f) ≡ f
taken_out n f = taken_back f (n - length f)

digit-allowed : (b : ℕ) → digit b ≡ true → allowed b ≡ true
digit-allowed b h = let r = digit-range b h in grind (arith, nat_tests)

-- digits are bytes that a text may hold
pub every-allowed : (xs : List ℕ) → every digit xs ≡ true → every allowed xs ≡ true
every-allowed [] h = refl
every-allowed (x ∷ xs) h = let p = and_parts _ _ h in and_from _ _ (digit-allowed x p.0) (every-allowed xs p.1)

module _ {V : Type 0} (lawful : ℕ → List ℕ → Type 0) (worth : ℕ → List ℕ → V) (writing : V → List ℕ) where
  -- what a value is read from again tells it
  pub apart_from : (y : ℕ) (f g : List ℕ) → Rewrites lawful worth writing y f → Rewrites lawful worth writing y g → (worth y f ≡ worth y g → writing (worth y f) ≡ writing (worth y g)) × (writing (worth y f) ≡ writing (worth y g) → worth y f ≡ worth y g)
  apart_from y f g a b = (ap writing, λ e. sym a.same ∙ ap (worth y) e ∙ b.same)

  -- the laws of a field that is written as read
  pub rewrites_as_read : (y : ℕ) (f : List ℕ) → writing (worth y f) ≡ f → lawful y f → every allowed f ≡ true → Rewrites lawful worth writing y f
  rewrites_as_read y f e l a = record { again = rw e l; text = rw e a; same = ap (worth y) e }

  pub lengths_as_read : (y : ℕ) (f : List ℕ) → writing (worth y f) ≡ f → 1 ≤ length f → Lengths true (length f) (length (writing (worth y f)))
  lengths_as_read y f e h = rw e (record { some = h; short = omega arith; same = λ _. refl })

  -- the first n bytes are the writing
  pub front-is : (y : ℕ) (f before after : List ℕ) (n : ℕ) → Rewrote lawful worth writing y f before after n → take n after ≡ writing (worth y f)
  front-is y f before after n w =
      rw w.wrote (take_at (writing (worth y f)) (drop n before) n (sym w.long))

  pub decides_same : (y : ℕ) (f g : List ℕ) (before after before' after' : List ℕ) (m n : ℕ)
      → Rewrote lawful worth writing y f before after m
      → Rewrote lawful worth writing y g before' after' n
      → (writing (worth y f) ≡ writing (worth y g) → worth y f ≡ worth y g)
      → (s : Bool) → s ≡ pointwise nat_eq (take m after) (take n after')
      → Decides s (worth y f ≡ worth y g)
  decides_same y f g before after before' after' m n w x apart s h =
      let d = rw (front-is y f before after m w, front-is y g before' after' n x) at (slice_eq-Decides Decides-eqb (take m after) (take n after') s h) in
      Decides-like s apart (ap writing) d

-- the laws of a field whose bytes are its value
pub packed_rewrites : (n : ℕ) (lawful : ℕ → List ℕ → Type 0) (y : ℕ) (f : List ℕ) → lawful y f → every allowed f ≡ true → Rewrites lawful (λ y f. packed n f) unpacked y f
packed_rewrites n lawful y f = rewrites_as_read lawful (λ y f. packed n f) unpacked y f (taken_out n f)

pub packed_lengths : (n : ℕ) (lawful : ℕ → List ℕ → Type 0) (y : ℕ) (f : List ℕ) → 1 ≤ length f → Lengths true (length f) (length (unpacked (packed n f)))
packed_lengths n lawful y f = lengths_as_read lawful (λ y f. packed n f) unpacked y f (taken_out n f)
