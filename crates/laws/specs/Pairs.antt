-- What an interrupt from outside may be, and a burst from the line card: what testing the pairs of a list says of them. With x pairs before it, the
-- bytes of a pair are `number_at l x` and `class_at l x`, and its place is x more than that of the first. Assumes nothing.
use Rattle.std.specs.Prelude.{◌≡◌, refl, Bool, true, false, List, [], ◌∷◌, ℕ, zero, suc, ◌+◌, ◌*◌, ◌%◌, ◌≤◌, ◌<◌, length, get_or, ltb}
use Rattle.std.proofs.Common.{ap, arith, eqb-true, ltb-true, ltb-false}
use Rattle.std.proofs.lemmas.Bool.{eqb-false}
use Rattle.model.specs.Map.{first_outer, last_class, last_outer, longest_list, pair_bytes}
use Rattle.model.specs.Told.Checked.{Good, Bad}
use Rattle.model.specs.Answer.{no_interrupt, wrong_class}
use Rattle.model.specs.Call as Call
use Rattle.model.specs.Call.{is_outer, is_class}
use Rattle.model.specs.Burst as Burst
use Rattle.model.specs.Burst.{is_list, tested}

-- ---- what an interrupt from outside may be
pub outer_of : (k : ℕ) → is_outer k ≡ true → (first_outer ≤ k) × (k ≤ last_outer)
unfolding Call.is_outer
outer_of k h = go (ltb k first_outer) (ltb last_outer k) refl refl
  where
    go : (x y : Bool) → ltb k first_outer ≡ x → ltb last_outer k ≡ y → (first_outer ≤ k) × (k ≤ last_outer)
    go true y e f = let c = rw e at h in let z : ◌≡◌ {A = ℕ} 0 1 = cc in absurd (omega arith)
    go false true e f = let c = rw (e, f) at h in let z : ◌≡◌ {A = ℕ} 0 1 = cc in absurd (omega arith)
    go false false e f = let a = ltb-false k first_outer e in let b = ltb-false last_outer k f in (omega arith, omega arith)

pub class_of : (k c : ℕ) → is_class k c ≡ true → c ≤ last_class
unfolding Call.is_class
class_of k c h = go (ltb last_class c) refl
  where
    go : (x : Bool) → ltb last_class c ≡ x → c ≤ last_class
    go true e = let d = rw e at h in let z : ◌≡◌ {A = ℕ} 0 1 = cc in absurd (omega arith)
    go false e = let a = ltb-false last_class c e in omega arith

-- ---- the pairs of a list
abbrev pub number_at : List ℕ → ℕ → ℕ
number_at l x = get_or l (pair_bytes * x) 0

abbrev pub class_at : List ℕ → ℕ → ℕ
class_at l x = get_or l (pair_bytes * x + 1) 0

-- ---- a list of pairs, at most 32 of them; what is none
pub record Paired (l : List ℕ) : Type 0 where
  pub short : length l ≤ longest_list
  pub even : length l % pair_bytes ≡ 0

pub data Unpaired (l : List ℕ) : Type 0 where
  longer : longest_list < length l → Unpaired l
  odd : length l % pair_bytes ≡ 1 → Unpaired l

pub list_of : (l : List ℕ) → is_list l ≡ true → Paired l
unfolding Burst.is_list
list_of l h = go (ltb longest_list (length l)) refl
  where
    go : (x : Bool) → ltb longest_list (length l) ≡ x → Paired l
    go true e = let c = rw e at h in let z : ◌≡◌ {A = ℕ} 0 1 = cc in absurd (omega arith)
    go false e =
        let s = ltb-false longest_list (length l) e in
        let v = eqb-true (length l % pair_bytes) 0 (rw e at h) in
        record { short = omega arith; even = v }

pub list_not : (l : List ℕ) → is_list l ≡ false → Unpaired l
unfolding Burst.is_list
list_not l h = go (ltb longest_list (length l)) refl
  where
    go : (x : Bool) → ltb longest_list (length l) ≡ x → Unpaired l
    go true e = longer (ltb-true longest_list (length l) e)
    go false e = let n = eqb-false (length l % pair_bytes) 0 (rw e at h) in odd (omega arith)

-- ---- a pair that passes both tests, and one that does not, by the number that refuses it
pub record Passes (k c : ℕ) : Type 0 where
  pub outer : is_outer k ≡ true
  pub class : is_class k c ≡ true

pub data Fails (k c : ℕ) : ℕ → Type 0 where
  by_number : is_outer k ≡ false → Fails k c no_interrupt
  by_class : is_outer k ≡ true → is_class k c ≡ false → Fails k c wrong_class

-- all are good: the first is, and so are the rest
pub good_first : (i k c : ℕ) (l : List ℕ) → tested i (k ∷ c ∷ l) ≡ Good → Passes k c × (tested (i + 1) l ≡ Good)
unfolding Burst.tested
good_first i k c l h = go (is_outer k) (is_class k c) refl refl
  where
    go : (x y : Bool) → is_outer k ≡ x → is_class k c ≡ y → Passes k c × (tested (i + 1) l ≡ Good)
    go true true e f = (record { outer = e; class = f }, rw (e, f) at h)
    go true false e f = let q = rw (e, f) at h in let z : ◌≡◌ {A = ℕ} 0 1 = cc in absurd (omega arith)
    go false y e f = let q = rw e at h in let z : ◌≡◌ {A = ℕ} 0 1 = cc in absurd (omega arith)

-- the pairs behind the first
number_rest : (k c : ℕ) (l : List ℕ) (x : ℕ) → number_at (k ∷ c ∷ l) (suc x) ≡ number_at l x
number_rest k c l x = ap (λ (a : ℕ). get_or (k ∷ c ∷ l) a 0) (twice x)
  where
    twice : (x : ℕ) → pair_bytes * suc x ≡ suc (suc (pair_bytes * x))
    twice x = omega arith

class_rest : (k c : ℕ) (l : List ℕ) (x : ℕ) → class_at (k ∷ c ∷ l) (suc x) ≡ class_at l x
class_rest k c l x = ap (λ (a : ℕ). get_or (k ∷ c ∷ l) a 0) (twice x)
  where
    twice : (x : ℕ) → pair_bytes * suc x + 1 ≡ suc (suc (pair_bytes * x + 1))
    twice x = omega arith

-- one is bad: so many pass before it
pub record FirstBad (i : ℕ) (l : List ℕ) (n j : ℕ) : Type 0 where
  pub before : ℕ
  pub place : j ≡ i + before
  pub there : pair_bytes * before + 1 < length l
  pub passed : (y : ℕ) → y < before → Passes (number_at l y) (class_at l y)
  pub fails : Fails (number_at l before) (class_at l before) n

bad_same : {o n i j : ℕ} → Bad o i ≡ Bad n j → (o ≡ n) × (i ≡ j)
bad_same e = (cc, cc)

pub bad_first : (i : ℕ) (l : List ℕ) (n j : ℕ) → tested i l ≡ Bad n j → FirstBad i l n j
unfolding Burst.tested
bad_first i [] n j h = let z : ◌≡◌ {A = ℕ} 0 1 = cc in absurd (omega arith)
bad_first i (k ∷ []) n j h = let z : ◌≡◌ {A = ℕ} 0 1 = cc in absurd (omega arith)
bad_first i (k ∷ c ∷ l) n j h = go (is_outer k) (is_class k c) refl refl (bad_first (i + 1) l n j)
  where
    here : (o : ℕ) → Fails k c o → o ≡ n → i ≡ j → FirstBad i (k ∷ c ∷ l) n j
    here o f e q = record { before = 0; place = omega arith; there = omega arith; passed = λ y u. absurd (omega arith); fails = rw e at f }

    passes : Passes k c → (b : FirstBad (i + 1) l n j) → (y : ℕ) → y < suc b.before → Passes (number_at (k ∷ c ∷ l) y) (class_at (k ∷ c ∷ l) y)
    passes p b zero u = p
    passes p b (suc y) u = rw (number_rest k c l y, class_rest k c l y) (b.passed y (omega arith))

    further : Passes k c → FirstBad (i + 1) l n j → FirstBad i (k ∷ c ∷ l) n j
    further p b = record {
      before = suc b.before;
      place = omega (arith, b.place);
      there = omega (arith, b.there);
      passed = passes p b;
      fails = rw (number_rest k c l b.before, class_rest k c l b.before) b.fails;
    }

    go : (x y : Bool) → is_outer k ≡ x → is_class k c ≡ y → (tested (i + 1) l ≡ Bad n j → FirstBad (i + 1) l n j) → FirstBad i (k ∷ c ∷ l) n j
    go true true e f ih = further (record { outer = e; class = f }) (ih (rw (e, f) at h))
    go true false e f ih = let q = bad_same (rw (e, f) at h) in here wrong_class (by_class e f) q.0 q.1
    go false y e f ih = let q = bad_same (rw e at h) in here no_interrupt (by_number e) q.0 q.1
