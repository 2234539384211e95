-- Elements of a regular list, spelled, are accepted by any part of it.
use Rattle.std.proofs.Common.{◌≡◌, ℕ, zero, suc, ◌+◌, ◌<◌, ◌≤◌, true, false, T, ltb, List, [], ◌∷◌, ◌++◌, length, drop, Some, None, Ok, Option, sym, refl, ap, ◌∙◌, subst, inl, inr, ⊎_elim, arith}
use Rattle.std.proofs.lemmas.Bool.{lt-ltb, or_left, cond-true, cond-false}
use Rattle.forms.specs.Values.{Meaning}
use Rattle.books.specs.Texts.{starts, overlap}
use Rattle.books.specs.Entries.{In, all_lawful, prefix_free}
use Rattle.books.specs.declared.entry.Entry.{Entry}
use Rattle.books.proofs.Fronts.{starts-own}
use Rattle.scans.specs.Elements.{Front, front, mark}
use Rattle.std.proofs.lemmas.List.{append-nil}
use Rattle.cards.specs.Codes.{same_meaning}
use Rattle.cards.specs.Tallies.{Held, blank, ident, insert, look, crossed, Put, joins, put}
use Rattle.cards.specs.Outcomes.{held_as, on_front, on_put, puts, scan_outcome}
use Rattle.cards.specs.Strings.{spelled}
use Rattle.history.proofs.Sorts.{Within, insert-has, insert-keeps, insert-from, insert-length, insert-rising, rising-shorter, rising-same}
use Rattle.history.proofs.Looks.{value_itself, look-has, look_none, crossed-not}
use Rattle.history.proofs.Regulars.{Regular, blank-regular, insert-regular, regular-apart}
use Rattle.history.proofs.Spellings.{held-again, spelled-length, first_read}

pub overlap-same : (xs ys : List ℕ) → xs ≡ ys → overlap xs ys ≡ true
overlap-same xs ys e = or_left (starts xs ys) (starts ys xs) (subst (λ zs. starts xs zs ≡ true) (append-nil xs ∙ e) (starts-own xs []))

-- one element read, it is put on what is held
puts-more : (es : List Entry) (y k : ℕ) (hs : List Held) (n p : ℕ) (s : List ℕ) (f : Front) → 1 ≤ length s → front es y p s ≡ Ok f
    → puts (suc k) es y hs n p s ≡ on_put (put p hs (held_as y f.element)) (λ q. puts k es y q.held (n + q.new) (p + f.taken) (drop f.taken s))
unfolding puts
puts-more es y k hs n p [] f l e = absurd (omega arith)
puts-more es y k hs n p (b ∷ s) f l e =
    ap (λ r. on_front r (λ g. on_put (put p hs (held_as y g.element)) (λ q. puts k es y q.held (n + q.new) (p + g.taken) (drop g.taken (b ∷ s))))) e

-- of ts, us is held; with xs it is ws, and n idents came to be held
pub record Joined (es : List Entry) (y : ℕ) (ts us xs ws : List Held) (n : ℕ) : Type 0 where
  pub regular : Regular es y ws
  pub within : Within ws ts
  pub old : Within us ws
  pub new : Within xs ws
  pub count : n + length us ≡ length ws

module _ (es : List Entry) (all : T (all_lawful es)) (free : T (prefix_free es)) (y : ℕ) (ts : List Held) (R : Regular es y ts) where
  -- one element
  record PutIn (p : ℕ) (us : List Held) (x : Held) : Type 0 where
    got : Put
    is : put p us x ≡ Ok got
    joined : Joined es y ts us (x ∷ []) got.held got.new

  put_in : (p : ℕ) (us : List Held) (x : Held) → Regular es y us → Within us ts → In x ts → PutIn p us x
  unfolding put
  put_in p us x U s i = go (look (ident x) us) refl
    where
      uncrossed : crossed x.entry us ≡ false
      uncrossed = crossed-not x.entry us (λ z j o. ap (λ (q : Held). q.entry) (regular-apart es all free y ts R x z i (s z j) o))

      go : (o : Option Meaning) → look (ident x) us ≡ o → PutIn p us x
      go None n =
          let r = insert-rising x us U.rising (look_none (ident x) us n) in
          let v : Within (insert x us) ts = λ z j. ⊎_elim (λ e. subst (λ q. In q ts) (sym e) i) (s z) (insert-from x us z j) in
          let len = insert-length x us in
          let l : length us < 32 = (let a = rising-shorter (insert x us) ts r R.rising v in let b = R.few in omega arith) in
          record {
            got = record { new = 1; held = insert x us };
            is = cond-false (crossed x.entry us) _ _ uncrossed ∙ ap (λ o. joins o p us x) n ∙ cond-true (ltb (length us) 32) _ _ (lt-ltb (length us) 32 l);
            joined = record {
              regular = insert-regular es y us x U (R.known x i) (R.stands x i) n l;
              within = v;
              old = insert-keeps x us;
              new = λ z. ⊎_elim (λ e. subst (λ q. In q (insert x us)) (sym e) (insert-has x us)) (λ j. absurd j);
              count = omega arith;
            };
          }
      go (Some w) n =
          let h = look-has (ident x) us w n in
          let e : x ≡ h.held = regular-apart es all free y ts R x h.held i (s h.held h.among) (overlap-same (ident x) (ident h.held) (sym h.under)) in
          let q : same_meaning x.value w ≡ true = value_itself x.value w (ap (λ (c : Held). c.value) e ∙ h.value) in
          record {
            got = record { new = 0; held = us };
            is = cond-false (crossed x.entry us) _ _ uncrossed ∙ ap (λ o. joins o p us x) n ∙ cond-true (same_meaning x.value w) _ _ q;
            joined = record {
              regular = U;
              within = s;
              old = λ z j. j;
              new = λ z. ⊎_elim (λ c. subst (λ a. In a us) (sym (c ∙ e)) h.among) (λ j. absurd j);
              count = omega arith;
            };
          }

  -- several
  record PutsIn (k : ℕ) (us : List Held) (n p : ℕ) (xs : List Held) : Type 0 where
    got : Put
    is : puts k es y us n p (spelled xs) ≡ Ok got
    joins : (c : ℕ) × (got.new ≡ n + c) × Joined es y ts us xs got.held c

  puts-in : (xs : List Held) (k : ℕ) (us : List Held) (n p : ℕ) → length xs ≤ k → Regular es y us → Within us ts → Within xs ts → PutsIn k us n p xs
  unfolding puts
  puts-in [] k us n p l U s i =
      record {
        got = record { new = n; held = us };
        is = refl;
        joins = (0, omega arith, record { regular = U; within = s; old = λ z j. j; new = λ z j. absurd j; count = omega arith });
      }
  puts-in (x ∷ xs) zero us n p l U s i = absurd (omega arith)
  puts-in (x ∷ xs) (suc k) us n p l U s i =
      let here = i x (inl refl) in
      let m : 1 ≤ length (spelled (x ∷ xs)) = (let z = spelled-length (x ∷ xs) in omega arith) in
      let r = first_read es all free y p x xs (R.known x here) (R.stands x here) in
      let a = put_in p us x U s here in
      let J = a.joined in
      let b = puts-in xs k a.got.held (n + a.got.new) (p + r.taken) (omega arith) J.regular J.within (λ z j. i z (inr j)) in
      let H = b.joins.2 in
      let c1 = J.count in
      let c2 = H.count in
      let c3 = b.joins.1 in
      record {
        got = b.got;
        is =
            puts-more es y k us n p (spelled (x ∷ xs)) _ m r.is
            ∙ ap (λ h. on_put (put p us h) (λ q. puts k es y q.held (n + q.new) (p + r.taken) (drop r.taken (spelled (x ∷ xs))))) (held-again y x (R.stands x here))
            ∙ ap (λ o. on_put o (λ q. puts k es y q.held (n + q.new) (p + r.taken) (drop r.taken (spelled (x ∷ xs))))) a.is
            ∙ ap (puts k es y a.got.held (n + a.got.new) (p + r.taken)) r.rest
            ∙ b.is;
        joins = (
          a.got.new + b.joins.0,
          omega arith,
          record {
            regular = H.regular;
            within = H.within;
            old = λ z j. H.old z (J.old z j);
            new = λ z. ⊎_elim (λ e. H.old z (J.new z (inl e))) (H.new z);
            count = omega arith;
          },
        );
      }

  -- a scan of elements of ts, spelled, onto a part of ts
  pub record ScansIn (us xs : List Held) : Type 0 where
    pub got : Put
    pub is : scan_outcome es (record { year = y; held = us }) (mark ++ spelled xs) ≡ Ok got
    pub joined : Joined es y ts us xs got.held got.new

  pub scans_in : (us xs : List Held) → Regular es y us → Within us ts → Within xs ts → ScansIn us xs
  scans_in us xs U s i =
      let r = puts-in xs (length (mark ++ spelled xs)) us 0 3 (let l = spelled-length xs in omega arith) U s i in
      let J = r.joins.2 in
      let e = r.joins.1 in
      let c = J.count in
      record {
        got = r.got;
        is = r.is;
        joined = record { regular = J.regular; within = J.within; old = J.old; new = J.new; count = omega arith };
      }

-- what a regular list spells is read back to it, on an empty card
pub scans_whole : (es : List Entry) → T (all_lawful es) → T (prefix_free es) → (y : ℕ) (xs : List Held) → Regular es y xs
    → scan_outcome es (blank y) (mark ++ spelled xs) ≡ Ok (record { new = length xs; held = xs })
scans_whole es all free y xs R =
    let r = scans_in es all free y xs R [] xs (blank-regular es y) (λ z i. absurd i) (λ z i. i) in
    let J = r.joined in
    let e : r.got.held ≡ xs = rising-same r.got.held xs J.regular.rising R.rising J.within J.new in
    let n : r.got.new ≡ length xs = (let c = J.count in let d = ap length e in omega arith) in
    r.is ∙ (λ k. Ok (record { new = n k; held = e k }))
