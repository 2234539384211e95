-- An entry by its parts.
use Rattle.std.specs.Prelude.{ℕ, ◌^◌, Bool, true, false, ◌&&◌, T, Some, None, Option, nat_le, nat_lt}
use Rattle.std.proofs.Common.{leb→le, ltb→lt}
use Rattle.forms.specs.Bytes.{within}
use Rattle.forms.specs.declared.kind.FormKind.{FormKind}
use Rattle.books.specs.declared.entry.Entry.{Entry}
use Rattle.books.specs.Lawful.{in_bounds, lawful}

pub both_left : (a b : Bool) → T (a && b) → T a
both_left true b t = tt
both_left false b t = t

pub both_right : (a b : Bool) → T (a && b) → T b
both_right true b t = t
both_right false b t = absurd t

pub both : (a b : Bool) → T a → T b → T (a && b)
both true b s t = t
both false b s t = s

-- the entry that lawful parts make
abbrev pub entry : (digits n : ℕ) (form : FormKind) (shortest longest : ℕ) → T (lawful digits n form shortest longest) → Entry
entry digits n form shortest longest ok =
    let few : T (within 2 4 digits) = both_left (within 2 4 digits) _ ok in
    let more = both_right (within 2 4 digits) _ ok in
    let bounds : T (in_bounds shortest longest) = both_left (in_bounds shortest longest) _ (both_right (nat_lt n (10 ^ digits)) _ more) in
    let upper : T (nat_le shortest longest && nat_le longest 30) = both_right (nat_le 1 shortest) _ bounds in
    record {
      ident = record {
        digits = digits;
        number = n;
        least = leb→le 2 digits (both_left (nat_le 2 digits) (nat_le digits 4) few);
        most = leb→le digits 4 (both_right (nat_le 2 digits) (nat_le digits 4) few);
        fits = ltb→lt n (10 ^ digits) (both_left (nat_lt n (10 ^ digits)) _ more);
      };
      form = form;
      shortest = shortest;
      longest = longest;
      least = leb→le 1 shortest (both_left (nat_le 1 shortest) _ bounds);
      ordered = leb→le shortest longest (both_left (nat_le shortest longest) (nat_le longest 30) upper);
      most = leb→le longest 30 (both_right (nat_le shortest longest) (nat_le longest 30) upper);
      ok = ok;
    }

-- the value that a test that holds allows to make
abbrev pub checked : {A : Type 0} (b : Bool) → (T b → A) → Option A
checked true make = Some (make tt)
checked false make = None

-- the entry that parts make, where they are lawful
abbrev pub entry_of : ℕ → ℕ → FormKind → ℕ → ℕ → Option Entry
entry_of digits n form shortest longest = checked (lawful digits n form shortest longest) (entry digits n form shortest longest)
