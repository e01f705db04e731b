-- What `burst` lends to the call: "The call is lent a buffer of bytes; a number over 255 goes into it as 255, which is as bad (24 or 25) as the number itself."
-- Then: what is lent is just these bytes, and a burst of them is the burst of the numbers themselves.
use Prim.Native.Nat.{ℕ, zero, suc, ◌+◌, ◌≤◌, ◌<◌}
use Rattle.std.proofs.Common.{arith, ap, ltb-true, lt-ltb, le-ltb, ne_eqb}
use Rattle.std.specs.Prelude.{◌≡◌, true, false, cond, eqb, ltb, length, take, drop}
use Rattle.std.proofs.Math.Path.{refl}
use Rattle.std.proofs.Math.Bool.{Bool}
use mathlib.Core.List.{List, [], ◌∷◌, ◌++◌, map}
use Rattle.std.proofs.lemmas.List.{length-map}
use Rattle.model.specs.Told.Answer.{Done, RefusedAt}
use Rattle.model.specs.Told.{Checked}
use Rattle.model.specs.Told.Checked.{Good, Bad}
use Rattle.model.specs.Store.{Store}
use Rattle.model.specs.Map.{a_word, first_outer, first_classed, last_outer, last_class}
use Rattle.model.specs.Address.{unless}
use Rattle.model.specs.Interrupt.{delivered}
use Rattle.model.specs.Turn.{who_runs}
use Rattle.model.specs.Answer.{Step, no_interrupt, wrong_class}
use Rattle.model.specs.Answer.Outcome.{gives}
use Rattle.model.specs.Call as Call
use Rattle.model.specs.Call.{is_outer, is_class}
use Rattle.model.specs.Burst as Burst
use Rattle.model.specs.Burst.{is_list, tested, arrived, heeds_pairs, burst}
use Rattle.laws.specs.Pairs.{outer_of, class_of}

unfoldable pub in_byte : ℕ → ℕ
in_byte x = cond (ltb a_word x) a_word x

-- the first n numbers of v in bytes, and behind them what l has there
unfoldable pub gathered : ℕ → List ℕ → List ℕ → List ℕ
gathered n v l = map in_byte (take n v) ++ drop n l

-- ---- what is lent, the first n bytes, has the numbers' bytes and no others
front : (n : ℕ) (v r : List ℕ) → n ≤ length v → take n (map in_byte (take n v) ++ r) ≡ map in_byte (take n v)
front zero v r h = refl
front (suc n) [] r h = absurd (omega arith)
front (suc n) (x ∷ v) r h = ap (λ l. in_byte x ∷ l) (front n v r (omega arith))

pub lent_is : (n : ℕ) (v l : List ℕ) → n ≤ length v → take n (gathered n v l) ≡ map in_byte (take n v)
unfolding gathered
lent_is n v l h = front n v (drop n l) h

-- ---- a byte stands on the same side of every bound below 255 as its number
byte_same : (x : ℕ) → x ≤ a_word → in_byte x ≡ x
unfolding in_byte
byte_same x h = rw (le-ltb a_word x h)

above : (a x : ℕ) → a < a_word → ltb a (in_byte x) ≡ ltb a x
unfolding in_byte
above a x h = go (ltb a_word x) refl
  where
    go : (b : Bool) → ltb a_word x ≡ b → ltb a (cond b a_word x) ≡ ltb a x
    go false e = refl
    go true e = let g = ltb-true a_word x e in rw (lt-ltb a a_word h, lt-ltb a x (omega arith))

below : (a x : ℕ) → a ≤ a_word → ltb (in_byte x) a ≡ ltb x a
unfolding in_byte
below a x h = go (ltb a_word x) refl
  where
    go : (b : Bool) → ltb a_word x ≡ b → ltb (cond b a_word x) a ≡ ltb x a
    go false e = refl
    go true e = let g = ltb-true a_word x e in rw (le-ltb a_word a h, le-ltb x a (omega arith))

zero_same : (x : ℕ) → eqb (in_byte x) 0 ≡ eqb x 0
unfolding in_byte
zero_same x = go (ltb a_word x) refl
  where
    go : (b : Bool) → ltb a_word x ≡ b → eqb (cond b a_word x) 0 ≡ eqb x 0
    go false e = refl
    go true e = let g = ltb-true a_word x e in rw (ne_eqb x 0 (λ z. absurd (omega arith)))

-- ---- "which is as bad (24 or 25) as the number itself"
pub outer_same : (k : ℕ) → is_outer (in_byte k) ≡ is_outer k
unfolding Call.is_outer
outer_same k = rw (below first_outer k (omega arith), above last_outer k (omega arith))

pub class_same : (k c : ℕ) → is_class (in_byte k) (in_byte c) ≡ is_class k c
unfolding Call.is_class
class_same k c = rw (above last_class c (omega arith), below first_classed k (omega arith), zero_same c)

-- ---- of a pair that passes both tests the bytes are the numbers
outer_byte : (k : ℕ) → is_outer k ≡ true → in_byte k ≡ k
outer_byte k h = byte_same k (omega (arith, outer_of k h))

class_byte : (k c : ℕ) → is_class k c ≡ true → in_byte c ≡ c
class_byte k c h = byte_same c (omega (arith, class_of k c h))

-- ---- so the burst of the bytes is that of the numbers: the same refusals at the same places, and the same memory
module _ (S : Store) where
  -- what the tests let through from m on; refused, the memory is m₀
  abbrev behind : S.M → Checked → S.M → Step S
  behind m₀ Good m = gives Done m
  behind m₀ (Bad n i) m = gives (RefusedAt n i) m₀

  behind_same : (m₀ m : S.M) (i : ℕ) (v : List ℕ) → behind m₀ (tested i (map in_byte v)) (arrived S m (map in_byte v)) ≡ behind m₀ (tested i v) (arrived S m v)
  unfolding Burst.tested Burst.arrived
  behind_same m₀ m i [] = refl
  behind_same m₀ m i (k ∷ []) = refl
  behind_same m₀ m i (k ∷ c ∷ v) =
      rw (outer_same k, class_same k c) (go (is_outer k) (is_class k c) refl refl (behind_same m₀ (who_runs S (delivered S m k c)) (i + 1) v))
    where
      pair : Bool → Bool → ℕ → ℕ → List ℕ → Step S
      pair x y j d l =
          behind m₀ (unless x (Bad no_interrupt i) (unless y (Bad wrong_class i) (tested (i + 1) l))) (arrived S (who_runs S (delivered S m j d)) l)

      go : (x y : Bool) → is_outer k ≡ x → is_class k c ≡ y → pair true true k c (map in_byte v) ≡ pair true true k c v
          → pair x y (in_byte k) (in_byte c) (map in_byte v) ≡ pair x y k c v
      go false y a b h = refl
      go true false a b h = refl
      go true true a b h = rw (outer_byte k a, class_byte k c b) h

  heeds_behind : (m : S.M) (t : Checked) (l : List ℕ) → heeds_pairs S t m l ≡ behind m t (arrived S m l)
  heeds_behind m Good l = refl
  heeds_behind m (Bad n i) l = refl

  list_same : (v : List ℕ) → is_list (map in_byte v) ≡ is_list v
  unfolding Burst.is_list
  list_same v = rw (length-map v in_byte)

  -- "The list of `burst` goes to the call as it stands"
  pub burst_same : (m : S.M) (v : List ℕ) → burst S m (map in_byte v) ≡ burst S m v
  unfolding Burst.burst Burst.burst_judged
  burst_same m v = rw (list_same v, heeds_behind m (tested 1 (map in_byte v)) (map in_byte v), heeds_behind m (tested 1 v) v, behind_same m m 1 v)
