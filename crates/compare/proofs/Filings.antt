-- Two cards that were settled, with their strings.
use Rattle.std.proofs.Common.{◌≡◌, ℕ, ◌<◌, ◌⊎◌, List, ◌++◌, length, take, drop, vec_items, Some, Ok, Err, Result, Vec, Global, MatchResult, sym, ap, subst, ◌∙◌, ◌≤◌, inl, inr, ⊎_elim, arith}
use Rattle.std.proofs.lemmas.Bool.{cases_lt}
use Rattle.std.proofs.lemmas.List.{take_at}
use Rattle.std.proofs.lemmas.Bool.Decides.{nat_tests}
use Rattle.books.specs.declared.entry.Entry.{Entry}
use Rattle.cards.specs.Strings.{canonical}
use Rattle.history.specs.Requests.{Request, tally_of}
use Rattle.history.specs.Settling.{SettledAs, Settles, lacking}
use Rattle.history.specs.declared.settle.Settled.{Settled}
use Rattle.symbols.specs.declared.fault.WriterFault.{WriterFault}
use Rattle.commands.specs.declared.error.Failure.{Failure}
use Rattle.commands.specs.declared.error.Failure.TheVariants.{Refused}
use Rattle.compare.specs.Filings.{FiledAs, Files}

-- a card that was settled over a buffer is filed with the buffer cut to its string
pub filed : (es : List Entry) (rs : List Request) (s : Settled) (before after items : List ℕ) (n : ℕ) (v : Vec ℕ Global) → SettledAs es rs before after s → length after ≡ n
    → vec_items v ≡ take s.len (take n (after ++ drop (length after) items)) → FiledAs es rs (record { card = s.card; refused = s.refused; string = v })
filed es rs s before after items n v h l is = record {
  means = h.means;
  refused = h.refused;
  string =
      is
      ∙ ap (take s.len) (take_at after (drop (length after) items) n l ∙ h.wrote)
      ∙ take_at (canonical (tally_of es rs)) (drop s.len before) s.len (sym h.long);
}

-- what lacks is more than a buffer has
pub lacks : (s t a b : List ℕ) (room n : ℕ) → length a ≡ room → length b ≡ room → lacking s t a b ≡ Some n
    → ((room < length s) × (n ≡ length s)) ⊎ ((length s ≤ room) × (room < length t) × (n ≡ length t))
lacks s t a b room n e f h =
    ⊎_elim
    (λ short. inl (omega arith, grind (arith, nat_tests)))
    (λ enough. inr (omega arith, grind (arith, nat_tests), grind (arith, nat_tests)))
    (cases_lt (length a) (length s))

-- what is refused
pub refused : (es : List Entry) (p q : List Request) (a b c d : List ℕ) (room : ℕ) (r : Result (Settled × Settled) WriterFault) (e : Failure WriterFault) → length a ≡ room → length b ≡ room → room ≡ 1120
    → Settles es p q a c b d r → MatchResult r (λ _. ⊥) (λ f. e ≡ Refused f) → Files es p q (Err e)
refused es p q a b c d room (Ok s) e k l m h none = absurd none
refused es p q a b c d room (Err f) e k l m h is =
    let n = lacks (canonical (tally_of es p)) (canonical (tally_of es q)) a b 1120 f.needed (k ∙ m) (l ∙ m) h.0 in
    subst (λ x. Files es p q (Err x)) (sym is) n
