-- What an arrival and a burst rest on.
use Rattle.std.proofs.Common.{◌≡◌, refl, sym, ap, ◌∙◌, ℕ, suc, ◌+◌, ◌/◌, ◌≤◌, ◌<◌, Bool, true, false, not, Ok, Err}
use Rattle.std.proofs.Common.{List, [], ◌∷◌, length, get_or, drop, arith, drop-cons, drop_of_length-le}
use Rattle.std.specs.Simd.{first_chunks}
use Rattle.model.specs.declared.refusal.Refusal.{Refusal}
use Rattle.model.specs.declared.Answer.TheVariants as Answer
use Rattle.model.specs.Told.{Checked}
use Rattle.model.specs.Told.Checked.{Good, Bad}
use Rattle.model.specs.Address.{unless}
use Rattle.model.specs.Answer.{no_interrupt, wrong_class}
use Rattle.model.specs.Answer.Outcome.{gives}
use Rattle.model.specs.Coded as Coded
use Rattle.model.specs.Coded.{told, checked_told}
use Rattle.model.specs.Call.{is_outer, is_class}
use Rattle.model.specs.Burst as Burst
use Rattle.model.specs.Burst.{is_list, tested}
use Rattle.model.specs.Bytes.{Memory, who_runs, delivered, arrived, heeds_pairs, burst_judged}
use Rattle.laws.specs.Pairs.{outer_of, class_of, list_of}
use Rattle.arrivals.specs.Pairs as Pairs
use Rattle.arrivals.specs.Pairs.{number_in, class_in, pairs_tested, pairs_arrived}

-- ---- an arrival: number and class fit a byte
pub number_fits : (k : ℕ) → is_outer k ≡ true → k ≤ 50
number_fits k h = (outer_of k h).1

pub class_fits : (k c : ℕ) → is_class k c ≡ true → c ≤ 31
class_fits k c h = class_of k c h

pub ruleset arrivals = (number_fits, class_fits)

-- ---- the pairs of a list
abbrev pub pairs_of : List ℕ → List (List ℕ)
pairs_of l = first_chunks 2 (length l / 2) l

pairs_next : (k c : ℕ) (l : List ℕ) → pairs_of (k ∷ c ∷ l) ≡ (k ∷ c ∷ []) ∷ pairs_of l
pairs_next k c l = let e : length (k ∷ c ∷ l) / 2 ≡ suc (length l / 2) = omega arith in ap (λ n. first_chunks 2 n (k ∷ c ∷ l)) e

pub tested_pairs : (i : ℕ) (l : List ℕ) → pairs_tested i (pairs_of l) ≡ tested i l
unfolding Burst.tested Pairs.pairs_tested
tested_pairs i [] = refl
tested_pairs i (k ∷ []) = refl
tested_pairs i (k ∷ c ∷ l) =
    ap (pairs_tested i) (pairs_next k c l)
    ∙ ap (λ t. unless (is_outer k) (Bad no_interrupt i) (unless (is_class k c) (Bad wrong_class i) t)) (tested_pairs (i + 1) l)

pub arrived_pairs : (m : Memory) (l : List ℕ) → pairs_arrived m (pairs_of l) ≡ arrived m l
unfolding Burst.arrived Pairs.pairs_arrived
arrived_pairs m [] = refl
arrived_pairs m (k ∷ []) = refl
arrived_pairs m (k ∷ c ∷ l) = ap (pairs_arrived m) (pairs_next k c l) ∙ arrived_pairs (who_runs (delivered m k c)) l

-- what a test found, where the code asks whether it failed
not_true : (a : Bool) → not a ≡ true → a ≡ false
not_true true h = sym h
not_true false h = refl

not_false : (a : Bool) → not a ≡ false → a ≡ true
not_false true h = refl
not_false false h = sym h

-- ---- pairs of which i are gone through: number and class of the next are k and c, and a and b say whether they passed
abbrev from : ℕ → List (List ℕ) → Checked
from i ps = pairs_tested (i + 1) (drop i ps)

pair_next : (ps : List (List ℕ)) (i : ℕ) (d : List ℕ) → i < length ps → drop i ps ≡ get_or ps i d ∷ drop (i + 1) ps
pair_next ps i d h = let e : i + 1 ≡ suc i = omega arith in rw e (drop-cons ps i d h)

tested_next : (ps : List (List ℕ)) (i : ℕ) (d : List ℕ) → i < length ps → (k c : ℕ) → k ≡ get_or (get_or ps i d) 0 0 → c ≡ get_or (get_or ps i d) 1 0
    → from i ps ≡ unless (is_outer k) (Bad no_interrupt (i + 1)) (unless (is_class k c) (Bad wrong_class (i + 1)) (from (i + 1) ps))
unfolding Pairs.pairs_tested
tested_next ps i d h k c ek ec = rw (ek, ec) (ap (pairs_tested (i + 1)) (pair_next ps i d h))

module _ (ps : List (List ℕ)) (i : ℕ) (d : List ℕ) (h : i < length ps) (k : ℕ) (a : Bool) (g : from i ps ≡ pairs_tested 1 ps)
    (ek : k ≡ get_or (get_or ps i d) 0 0)
    (ea : a ≡ is_outer k) where
  pub bad_number : not a ≡ true → checked_told (Err (Refusal.NoInterruptAt (i + 1))) ≡ pairs_tested 1 ps
  unfolding Coded.checked_told Coded.refusal
  bad_number z =
      let c = get_or (get_or ps i d) 1 0 in
      sym (tested_next ps i d h k c ek refl ∙ ap (λ x. unless x (Bad no_interrupt (i + 1)) (unless (is_class k c) (Bad wrong_class (i + 1)) (from (i + 1) ps)))
      (sym ea ∙ not_true a z))
      ∙ g

  module _ (c : ℕ) (b : Bool) (za : not a ≡ false) (ec : c ≡ get_or (get_or ps i d) 1 0) (eb : b ≡ is_class k c) where
    next : from i ps ≡ unless (is_class k c) (Bad wrong_class (i + 1)) (from (i + 1) ps)
    next =
        tested_next ps i d h k c ek ec ∙ ap (λ x. unless x (Bad no_interrupt (i + 1)) (unless (is_class k c) (Bad wrong_class (i + 1)) (from (i + 1) ps)))
        (sym ea ∙ not_false a za)

    pub bad_class : not b ≡ true → checked_told (Err (Refusal.WrongClassAt (i + 1))) ≡ pairs_tested 1 ps
    unfolding Coded.checked_told Coded.refusal
    bad_class z = sym (next ∙ ap (λ y. unless y (Bad wrong_class (i + 1)) (from (i + 1) ps)) (sym eb ∙ not_true b z)) ∙ g

    pub good_pair : not b ≡ false → from (i + 1) ps ≡ pairs_tested 1 ps
    good_pair z = sym (next ∙ ap (λ y. unless y (Bad wrong_class (i + 1)) (from (i + 1) ps)) (sym eb ∙ not_false b z)) ∙ g

pub tested_all : (ps : List (List ℕ)) (i : ℕ) (u : Unit {0}) → length ps ≤ i → from i ps ≡ pairs_tested 1 ps → checked_told (Ok u) ≡ pairs_tested 1 ps
unfolding Coded.checked_told Pairs.pairs_tested
tested_all ps i u h g = let e : drop i ps ≡ [] = drop_of_length-le ps {i = i} h in sym (ap (pairs_tested (i + 1)) e) ∙ g

pub ruleset testing = (bad_number, bad_class, good_pair, tested_all)

-- ---- of good pairs the next passes, and arrives
module _ (ps : List (List ℕ)) (i : ℕ) (d : List ℕ) (h : i < length ps) (k c : ℕ) (g : from i ps ≡ Good) (ek : k ≡ get_or (get_or ps i d) 0 0)
    (ec : c ≡ get_or (get_or ps i d) 1 0) where
  passes : (is_outer k ≡ true) × (is_class k c ≡ true) × (from (i + 1) ps ≡ Good)
  passes = go (is_outer k) (is_class k c) refl refl (sym (tested_next ps i d h k c ek ec) ∙ g)
    where
      go : (x y : Bool) → is_outer k ≡ x → is_class k c ≡ y
          → unless x (Bad no_interrupt (i + 1)) (unless y (Bad wrong_class (i + 1)) (from (i + 1) ps)) ≡ Good
          → (is_outer k ≡ true) × (is_class k c ≡ true) × (from (i + 1) ps ≡ Good)
      go true true e f q = (e, f, q)
      go true false e f q = let z : ◌≡◌ {A = ℕ} 0 1 = cc in absurd (omega arith)
      go false y e f q = let z : ◌≡◌ {A = ℕ} 0 1 = cc in absurd (omega arith)

  pub next_outer : is_outer k ≡ true
  next_outer = passes.0

  pub next_class : is_class k c ≡ true
  next_class = passes.1

  pub next_good : from (i + 1) ps ≡ Good
  next_good = passes.2

pub next_arrives : (ps : List (List ℕ)) (i : ℕ) (d : List ℕ) (k c : ℕ) (m m₁ r : Memory) → pairs_arrived m (drop i ps) ≡ r → m₁ ≡ who_runs (delivered m k c)
    → k ≡ get_or (get_or ps i d) 0 0 → c ≡ get_or (get_or ps i d) 1 0 → i < length ps → pairs_arrived m₁ (drop (i + 1) ps) ≡ r
unfolding Pairs.pairs_arrived
next_arrives ps i d k c m m₁ r er e ek ec h =
    let p = get_or ps i d in
    ap (λ x. pairs_arrived x (drop (i + 1) ps)) (e ∙ ap (λ x. who_runs (delivered m x c)) ek ∙ ap (λ y. who_runs (delivered m (get_or p 0 0) y)) ec)
    ∙ sym (ap (pairs_arrived m) (pair_next ps i d h))
    ∙ er

pub arrived_all : (ps : List (List ℕ)) (i : ℕ) (m r : Memory) → pairs_arrived m (drop i ps) ≡ r → length ps ≤ i → m ≡ r
unfolding Pairs.pairs_arrived
arrived_all ps i m r g h = let e : drop i ps ≡ [] = drop_of_length-le ps {i = i} h in sym (ap (pairs_arrived m) e) ∙ g

pub ruleset arriving = (next_outer, next_class, next_good, next_arrives, arrived_all)

-- ---- what a burst answers
-- a bad pair has a place from that of the first on
place_from : (i j n : ℕ) (ps : List (List ℕ)) → pairs_tested i ps ≡ Bad n j → i ≤ j
unfolding Pairs.pairs_tested
place_from i j n [] h = let z : ◌≡◌ {A = ℕ} 0 1 = cc in absurd (omega arith)
place_from i j n (p ∷ ps) h = go (is_outer (number_in p)) (is_class (number_in p) (class_in p)) h (place_from (i + 1) j n ps)
  where
    go : (x y : Bool) → unless x (Bad no_interrupt i) (unless y (Bad wrong_class i) (pairs_tested (i + 1) ps)) ≡ Bad n j
        → (pairs_tested (i + 1) ps ≡ Bad n j → i + 1 ≤ j)
        → i ≤ j
    go true true q r = let l = r q in omega arith
    go true false q r = let e : i ≡ j = cc in omega arith
    go false y q r = let e : i ≡ j = cc in omega arith

no_place : (ps : List (List ℕ)) (n : ℕ) → Bad n 0 ≡ pairs_tested 1 ps → ⊥
no_place ps n h = let l = place_from 1 0 n ps (sym h) in omega arith

-- of those that have no place none is told
bad_told : (e : Refusal) (ps : List (List ℕ)) (m : Memory) (l : List ℕ) → checked_told (Err e) ≡ pairs_tested 1 ps
    → gives (told (Err e)) m ≡ heeds_pairs (pairs_tested 1 ps) m l
unfolding Coded.checked_told Coded.told Coded.refusal
bad_told Refusal.WrongLength ps m l h = absurd (no_place ps _ h)
bad_told Refusal.Idle ps m l h = absurd (no_place ps _ h)
bad_told Refusal.NoInstruction ps m l h = absurd (no_place ps _ h)
bad_told Refusal.NoInterrupt ps m l h = absurd (no_place ps _ h)
bad_told (Refusal.NoInterruptAt i) ps m l h = rw (← h)
bad_told Refusal.WrongClass ps m l h = absurd (no_place ps _ h)
bad_told (Refusal.WrongClassAt i) ps m l h = rw (← h)
bad_told Refusal.OutOfRange ps m l h = absurd (no_place ps _ h)
bad_told Refusal.WrongList ps m l h = absurd (no_place ps _ h)
bad_told Refusal.BrokenLayout ps m l h = absurd (no_place ps _ h)
bad_told (Refusal.TooNew v) ps m l h = rw (← h)
bad_told (Refusal.Broken b) ps m l h = rw (← h)
bad_told Refusal.NoRoom ps m l h = absurd (no_place ps _ h)

module _ (m : Memory) (l : List ℕ) (a : Bool) (ea : a ≡ is_list l) where
  pub burst_not : not a ≡ true → gives (told (Err Refusal.WrongList)) m ≡ burst_judged m l
  unfolding Burst.burst_judged Coded.told Coded.refusal
  burst_not z = let e : is_list l ≡ false = sym ea ∙ not_true a z in rw e

  -- ps are its pairs
  module _ (za : not a ≡ false) (ps : List (List ℕ)) (ep : ps ≡ pairs_of l) where
    alike : pairs_tested 1 ps ≡ tested 1 l
    alike = ap (pairs_tested 1) ep ∙ tested_pairs 1 l

    listed : is_list l ≡ true
    listed = sym ea ∙ not_false a za

    pub pairs_few : length ps ≡ length l / 2 → length ps ≤ 32
    pairs_few n = let t = list_of l listed in omega (arith, t.short)

    pub burst_bad : (e : Refusal) → checked_told (Err e) ≡ pairs_tested 1 ps → gives (told (Err e)) m ≡ burst_judged m l
    unfolding Burst.burst_judged
    burst_bad e h = rw (listed, ← alike) (bad_told e ps m l h)

    pub burst_good : (u : Unit {0}) → checked_told (Ok u) ≡ pairs_tested 1 ps → pairs_tested 1 ps ≡ Good
    unfolding Coded.checked_told
    burst_good u h = sym h

    pub burst_done : (u : Unit {0}) (m₁ : Memory) → checked_told (Ok u) ≡ pairs_tested 1 ps → m₁ ≡ pairs_arrived m ps
        → gives (told (Ok Answer.Done)) m₁ ≡ burst_judged m l
    unfolding Burst.burst_judged Coded.checked_told Coded.told Coded.answered
    burst_done u m₁ h e =
        let z : m₁ ≡ arrived m l = e ∙ ap (pairs_arrived m) ep ∙ arrived_pairs m l in
        rw (listed, ← alike, ← h, z)

pub ruleset bursts = (burst_not, pairs_few, burst_bad, burst_good, burst_done)
