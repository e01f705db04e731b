-- A burst from the line card, said of the calls: on a memory that the judge accepts it is refused as no list, refused as its first bad pair alone would be, or
-- done; then its memory is that of the single call repeated in order, each of which judges and is done. Assumes nothing.
use Rattle.std.specs.Prelude.{◌≡◌, refl, Bool, true, false, List, [], ◌∷◌, ℕ, ◌+◌, ◌*◌, ◌%◌, ◌<◌, length}
use Rattle.std.proofs.Common.{arith}
use Rattle.model.specs.Map.{pair_bytes}
use Rattle.model.specs.Told.Answer.{Done}
use Rattle.model.specs.Told.{Checked}
use Rattle.model.specs.Told.Checked.{Good, Bad}
use Rattle.model.specs.Answer as Answer
use Rattle.model.specs.Answer.{answer_of, memory_of, numbers, done_number, wrong_list}
use Rattle.model.specs.Answer.Outcome.{gives}
use Rattle.model.specs.Call as Call
use Rattle.model.specs.Burst as Burst
use Rattle.model.specs.Burst.{is_list, tested}
use Rattle.model.specs.Bytes.{interrupt, burst, who_runs, delivered, arrived}
use Rattle.laws.specs.Judged.{WellFormed}
use Rattle.laws.specs.Findings.{well_found}
use Rattle.laws.specs.Interrupts.{delivered_well}
use Rattle.laws.specs.Pairs.{outer_of, number_at, class_at, Paired, Unpaired, list_of, list_not, Passes, Fails, FirstBad, good_first, bad_first}
use Rattle.laws.specs.Pairs.Fails.{by_number, by_class}
use Rattle.laws.specs.Numbers.{Refuses}

-- ---- the single call, repeated in order: from m, by the pairs of l, to m', done each time
pub data OneByOne : List ℕ → List ℕ → List ℕ → Type 0 where
  none : (m : List ℕ) → OneByOne m [] m
  one : (m : List ℕ) (k c : ℕ) (l m' : List ℕ) → numbers (answer_of (interrupt m k c)) ≡ done_number ∷ [] → OneByOne (memory_of (interrupt m k c)) l m'
      → OneByOne m (k ∷ c ∷ l) m'

-- what may come of a burst
pub data Comes (m l : List ℕ) : Type 0 where
  -- "A longer or odd list is refused by 27"
  no_list : Unpaired l → Refuses numbers (burst m l) (wrong_list ∷ []) m → Comes m l
  -- x pairs that would each be done; the next, which would be refused with n: so is the whole list, with its place, from 1
  bad_pair : (x n : ℕ) → Paired l → pair_bytes * x + 1 < length l
      → ((y : ℕ) → y < x → numbers (answer_of (interrupt m (number_at l y) (class_at l y))) ≡ done_number ∷ [])
      → Fails (number_at l x) (class_at l x) n
      → Refuses numbers (interrupt m (number_at l x) (class_at l x)) (n ∷ []) m
      → Refuses numbers (burst m l) (n ∷ (1 + x) ∷ []) m
      → Comes m l
  -- "Memory afterwards equals that of delivering them one by one"
  taken : Paired l → numbers (answer_of (burst m l)) ≡ done_number ∷ [] → OneByOne m l (memory_of (burst m l)) → Comes m l

-- ---- one interrupt on a memory that the judge accepts
module _ {m : List ℕ} (w : WellFormed m) {k c : ℕ} where
  arrives : Passes k c → interrupt m k c ≡ gives Done (who_runs (delivered m k c))
  unfolding Call.head Call.interrupt Call.interrupt_judged
  arrives p = rw (well_found w, p.outer, p.class)

  arrives_well : Passes k c → WellFormed (who_runs (delivered m k c))
  arrives_well p = let a = outer_of k p.outer in delivered_well k c (omega (arith, a)) (omega (arith, a)) w

  one_done : Passes k c → numbers (answer_of (interrupt m k c)) ≡ done_number ∷ []
  unfolding Answer.numbers Answer.answer_of
  one_done p = rw (arrives p)

  one_refused : {n : ℕ} → Fails k c n → Refuses numbers (interrupt m k c) (n ∷ []) m
  unfolding Call.head Call.interrupt Call.interrupt_judged Answer.numbers Answer.answer_of Answer.memory_of
  one_refused (by_number e) = rw (well_found w, e) (refl, refl)
  one_refused (by_class e f) = rw (well_found w, e, f) (refl, refl)

-- ---- the pairs of a list that all pass
all_arrive : {m : List ℕ} → WellFormed m → (i : ℕ) (l : List ℕ) → length l % pair_bytes ≡ 0 → tested i l ≡ Good → OneByOne m l (arrived m l)
unfolding Burst.arrived Answer.memory_of
all_arrive {m} w i [] v e = none m
all_arrive w i (k ∷ []) v e = absurd (omega arith)
all_arrive {m} w i (k ∷ c ∷ l) v e =
    let g = good_first i k c l e in
    let o = all_arrive {m = who_runs (delivered m k c)} (arrives_well w g.0) (i + 1) l (omega arith) g.1 in
    one m k c l (arrived (who_runs (delivered m k c)) l) (one_done w g.0) (rw (arrives w g.0) o)

pub comes : {m : List ℕ} → WellFormed m → (l : List ℕ) → Comes m l
unfolding Call.head Burst.burst Burst.burst_judged Answer.numbers Answer.answer_of Answer.memory_of
comes {m} w l = go (is_list l) (tested 1 l) refl refl
  where
    bad : (n i : ℕ) → is_list l ≡ true → tested 1 l ≡ Bad n i → FirstBad 1 l n i → Comes m l
    bad n i e f b =
        bad_pair b.before n (list_of l e) b.there (λ y u. one_done w (b.passed y u)) b.fails (one_refused w b.fails)
        (rw (well_found w, e, f, b.place) (refl, refl))

    go : (x : Bool) (c : Checked) → is_list l ≡ x → tested 1 l ≡ c → Comes m l
    go false c e f = no_list (list_not l e) (rw (well_found w, e) (refl, refl))
    go true (Bad n i) e f = bad n i e f (bad_first 1 l n i f)
    go true Good e f = let p = list_of l e in taken p (rw (well_found w, e, f)) (rw (well_found w, e, f) (all_arrive w 1 l p.even f))

-- "An empty list changes nothing."
pub empty_done : {m : List ℕ} → WellFormed m → burst m [] ≡ gives Done m
unfolding Call.head Burst.burst Burst.burst_judged Burst.is_list Burst.tested Burst.arrived
empty_done w = rw (well_found w)
