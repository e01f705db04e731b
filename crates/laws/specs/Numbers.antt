-- Refusals and faults: "The answer gives its number". Every answer of every call, on any memory, has the paper's number and values, and these tell the case:
-- from the numbers the answer can be had again. Then which memories are refused, and with which numbers. Assumes nothing.
use Rattle.std.specs.Prelude.{◌≡◌, ◌≢◌, Bool, cond, ℕ, ◌≤◌, get_or, ltb}
use Rattle.std.proofs.Math.Path.{refl, ap}
use Rattle.std.proofs.Math.Bool.{true, false}
use mathlib.Core.List.{List, [], ◌∷◌}
use native.Mathlib.Omega.{arith}
use Rattle.std.proofs.Math.ListN.{length}
use Rattle.std.proofs.Math.Dec.{eqb}
use Rattle.std.proofs.Common.{eq-eqb, ne_eqb, lt-ltb, le-ltb}
use Rattle.std.proofs.lemmas.Bool.{eqb-false}
use Rattle.model.specs.declared.Registers.{Registers}
use Rattle.model.specs.Told.{Answer}
use Rattle.model.specs.Told.Answer.{Done, Waits, HandedOut, Fault, Refused, RefusedAt}
use Rattle.model.specs.Told.{Held}
use Rattle.model.specs.Told.{Verdict}
use Rattle.model.specs.Told.{Finding}
use Rattle.model.specs.Told.Finding.{Nothing, WrongLength, Broken}
use Rattle.model.specs.Told.{Fit}
use Rattle.model.specs.Map.{memory_size}
use Rattle.model.specs.Processor as Processor
use Rattle.model.specs.Fault as Faults
use Rattle.model.specs.Fresh.{startable}
use Rattle.model.specs.Answer as Answer
use Rattle.model.specs.Answer.{Outcome, answer_of, memory_of, numbers, held_numbers, verdict_numbers, done_number, waits_number, idle, wrong_length}
use Rattle.model.specs.Answer.{broken_pages, broken_counters}
use Rattle.model.specs.Answer.Outcome.{gives}
use Rattle.model.specs.Call as Call
use Rattle.model.specs.Burst as Burst
use Rattle.model.specs.Layout.{of_file}
use Rattle.model.specs.Settings as Settings
use Rattle.model.specs.Bytes as Model
use Rattle.model.specs.Bytes.{Step, fresh, from_settings, instruction, interrupt, burst, read_registers, set_registers, judge, judged, finding, running}
use Rattle.model.specs.Bytes.{registers_of}
use Rattle.laws.specs.Judged.{WellFormed, invariant}
use Rattle.laws.specs.Findings.{Found, Offends, found, found_well, found_broken}
use Rattle.laws.specs.Who.{running_at}
use Rattle.laws.specs.Words.{either}
use Rattle.laws.specs.Fits.{file_each}
use Rattle.laws.specs.Kinds.{Kind, instruction_kind, interrupt_kind, burst_kind, set_kind}
use Rattle.laws.specs.Kinds as Kinds
use Rattle.laws.specs.Calls.{Sound, unrefused}
use Rattle.laws.specs.Refusals.{first_refusal, first_number, kind_told}

-- ---- the answer that has these numbers: faults are below refusals
unfoldable pub told : List ℕ → Answer
told [] = Done
told (k ∷ []) = cond (eqb k done_number) Done (cond (eqb k waits_number) Waits (Refused k))
told (k ∷ n ∷ []) = cond (ltb k first_refusal) (Fault k n) (RefusedAt k n)
told (k ∷ p ∷ a ∷ ns) = HandedOut p a

unfoldable pub told_verdict : List ℕ → Verdict
told_verdict [] = Verdict.WellFormed
told_verdict (k ∷ []) = cond (eqb k done_number) Verdict.WellFormed (Verdict.Refused k)
told_verdict (k ∷ a ∷ ns) = Verdict.RefusedAt k a

-- of registers the paper has seven; the stopped bit is none of them
unfoldable pub told_held : List ℕ → Held
told_held ns =
    cond (eqb (length ns) 1) (Held.Refused (get_or ns 0 0))
    (cond (eqb (length ns) 2) (Held.RefusedAt (get_or ns 0 0) (get_or ns 1 0))
    (Held.Has (record {
      a = get_or ns 1 0;
      s = get_or ns 2 0;
      p = get_or ns 3 0;
      z = get_or ns 4 0;
      ci = get_or ns 5 0;
      lr = get_or ns 6 0;
      w = get_or ns 7 0;
      stopped = 0;
    })))

pub kind_numbers : {m : List ℕ} (o : Step) → Kind m o → told (numbers (answer_of o)) ≡ answer_of o
unfolding told Answer.numbers Answer.answer_of Faults.fault
kind_numbers o (Kinds.Kind.done e) = rw e
kind_numbers o (Kinds.Kind.waits e) = rw e
kind_numbers o (Kinds.Kind.handed p a e) = rw e
kind_numbers o (Kinds.Kind.faulted f l u e) = rw (e, lt-ltb f first_refusal (omega arith))
kind_numbers o (Kinds.Kind.refused k l u e) = rw (e, ne_eqb k done_number (omega arith), ne_eqb k waits_number (omega arith))
kind_numbers o (Kinds.Kind.placed k i l u e) = rw (e, le-ltb k first_refusal (omega arith))
kind_numbers o (Kinds.Kind.told k a f e) = let t = (found_broken f).2 in rw (e, le-ltb k first_refusal (omega (arith, t.from)))

pub judge_told : (m : List ℕ) → told_verdict (verdict_numbers (answer_of (judge m))) ≡ answer_of (judge m)
unfolding Call.judge Call.head Answer.answer_of Answer.verdict_numbers told_verdict
judge_told m = go (finding m) refl
  where
    go : (f : Finding) → finding m ≡ f → told_verdict (verdict_numbers (answer_of (judge m))) ≡ answer_of (judge m)
    go Nothing e = rw e
    go WrongLength e = rw e
    go (Broken k a) e = rw e

-- the one that runs is not stopped
run_ready : {m : List ℕ} → WellFormed m → running m ≢ 0 → (registers_of m (running m)).stopped ≡ 0
unfolding Processor.registers_of
run_ready {m} w d =
    let i = invariant w in
    let b = i.base in
    let n = rw (running_at b) at d in
    omega (arith, i.best.ready n)

pub read_told : (m : List ℕ) → told_held (held_numbers (answer_of (read_registers m))) ≡ answer_of (read_registers m)
unfolding Call.read_registers Call.read_judged Call.head Answer.answer_of Answer.held_numbers told_held Processor.registers_of
read_told m = go (finding m) (eqb (running m) 0) refl refl
  where
    go : (f : Finding) (y : Bool) → finding m ≡ f → eqb (running m) 0 ≡ y → told_held (held_numbers (answer_of (read_registers m))) ≡ answer_of (read_registers m)
    go WrongLength y e f = rw e
    go (Broken k a) y e f = rw e
    go Nothing true e f = rw (e, f)
    go Nothing false e f = rw (e, f, run_ready (found_well e) (eqb-false (running m) 0 f))

-- ---- a call refuses with the numbers w: its answer has these, and the memory is m
abbrev pub Refuses : {A : Type 0} → (A → List ℕ) → Outcome A (List ℕ) → List ℕ → List ℕ → Type 0
Refuses ns o w m = (ns (answer_of o) ≡ w) × (memory_of o ≡ m)

-- every call but the two fresh starts does
pub record RefuseAll (m : List ℕ) (w : List ℕ) : Type 0 where
  pub instruction : Refuses numbers (instruction m) w m
  pub interrupt : (n c : ℕ) → Refuses numbers (interrupt m n c) w m
  pub burst : (l : List ℕ) → Refuses numbers (burst m l) w m
  pub set : (r : Registers) → Refuses numbers (set_registers m r) w m
  pub read : Refuses held_numbers (read_registers m) w m
  pub judge : Refuses verdict_numbers (judge m) w m

-- the numbers of what is found
pub data Spelt : Finding → List ℕ → Type 0 where
  length_is : Spelt WrongLength (wrong_length ∷ [])
  told_is : (k a : ℕ) → Spelt (Broken k a) (k ∷ a ∷ [])

all_refuse : (m : List ℕ) (f : Finding) (w : List ℕ) → Spelt f w → finding m ≡ f → RefuseAll m w
unfolding Call.head Call.instruction Call.interrupt Burst.burst Call.set_registers Call.read_registers Call.judge Answer.numbers Answer.held_numbers
    Answer.verdict_numbers Answer.answer_of Answer.memory_of
all_refuse m _ _ length_is e = record {
  instruction = rw e (refl, refl);
  interrupt = λ n c. rw e (refl, refl);
  burst = λ l. rw e (refl, refl);
  set = λ r. rw e (refl, refl);
  read = rw e (refl, refl);
  judge = rw e (refl, refl);
}
all_refuse m _ _ (told_is k a) e = record {
  instruction = rw e (refl, refl);
  interrupt = λ n c. rw e (refl, refl);
  burst = λ l. rw e (refl, refl);
  set = λ r. rw e (refl, refl);
  read = rw e (refl, refl);
  judge = rw e (refl, refl);
}

pub length_refused : (m : List ℕ) → length m ≢ memory_size → RefuseAll m (wrong_length ∷ [])
unfolding Call.finding
length_refused m d = all_refuse m WrongLength (wrong_length ∷ []) length_is (rw (ne_eqb (length m) memory_size d))

pub fresh_length : (m : List ℕ) → length m ≢ memory_size → (line d : ℕ) → Refuses numbers (fresh m line d) (wrong_length ∷ []) m
unfolding Call.fresh Answer.answer_of Answer.memory_of Answer.numbers
fresh_length m d line e = rw (ne_eqb (length m) memory_size d) (refl, refl)

pub settings_length : (m : List ℕ) → length m ≢ memory_size → (f : List ℕ) → Refuses numbers (from_settings m f) (wrong_length ∷ []) m
unfolding Settings.from_settings Answer.answer_of Answer.memory_of Answer.numbers
settings_length m d f = rw (ne_eqb (length m) memory_size d) (refl, refl)

-- a broken memory is refused with a class and an address that are so
pub record Told (m : List ℕ) : Type 0 where
  pub class : ℕ
  pub address : ℕ
  pub offends : Offends m class address
  pub refused : RefuseAll m (class ∷ address ∷ [])

pub broken_refused : (m : List ℕ) → length m ≡ memory_size → judged m ≡ false → Told m
broken_refused m l j = go (finding m) refl (found m)
  where
    go : (f : Finding) → finding m ≡ f → Found m f → Told m
    go Nothing e (Found.nothing w) = let f = w.accepted in let z : ◌≡◌ {A = ℕ} 0 1 = cc in absurd (omega arith)
    go WrongLength e (Found.wrong_length d) = absurd (d l)
    go (Broken k a) e (Found.broken _ _ s f t) = record { class = k; address = a; offends = t; refused = all_refuse m (Broken k a) _ (told_is k a) e }

-- ---- and no other is: which answer of which call has a class and an address
pub record Class (k : ℕ) : Type 0 where
  pub from : broken_pages ≤ k
  pub to : k ≤ broken_counters

-- the memory has 8,192 words, and the judge of document 01 refuses it
abbrev pub Bad : List ℕ → Type 0
Bad m = (length m ≡ memory_size) × (judged m ≡ false)

bad : (m : List ℕ) {k a : ℕ} → finding m ≡ Broken k a → Bad m
bad m e = let t = found_broken e in (t.0, t.1)

kind_bad : {m : List ℕ} {k a : ℕ} (o : Step) → Class k → Kind m o → numbers (answer_of o) ≡ k ∷ a ∷ [] → Bad m
kind_bad {m} {k} {a} o c t e = bad m (kind_told o t k a e c.from c.to)

module _ (m : List ℕ) {k a : ℕ} (c : Class k) where
  pub instruction_bad : numbers (answer_of (instruction m)) ≡ k ∷ a ∷ [] → Bad m
  instruction_bad = kind_bad (instruction m) c (instruction_kind m)

  pub interrupt_bad : (n d : ℕ) → numbers (answer_of (interrupt m n d)) ≡ k ∷ a ∷ [] → Bad m
  interrupt_bad n d = kind_bad (interrupt m n d) c (interrupt_kind m n d)

  pub burst_bad : (l : List ℕ) → numbers (answer_of (burst m l)) ≡ k ∷ a ∷ [] → Bad m
  burst_bad l = kind_bad (burst m l) c (burst_kind m l)

  pub set_bad : (r : Registers) → numbers (answer_of (set_registers m r)) ≡ k ∷ a ∷ [] → Bad m
  set_bad r = kind_bad (set_registers m r) c (set_kind m r)

  pub read_bad : held_numbers (answer_of (read_registers m)) ≡ k ∷ a ∷ [] → Bad m
  unfolding Call.read_registers Call.read_judged Call.head Answer.answer_of Answer.held_numbers
  read_bad q = go (finding m) (eqb (running m) 0) refl refl
    where
      go : (f : Finding) (y : Bool) → finding m ≡ f → eqb (running m) 0 ≡ y → Bad m
      go WrongLength y e f = let z = ap length (rw e at q) in absurd (omega arith)
      go (Broken j b) y e f = bad m e
      go Nothing true e f = let z = ap length (rw (e, f) at q) in absurd (omega arith)
      go Nothing false e f = let z = ap length (rw (e, f) at q) in absurd (omega arith)

  pub judge_bad : verdict_numbers (answer_of (judge m)) ≡ k ∷ a ∷ [] → Bad m
  unfolding Call.judge Call.head Answer.answer_of Answer.verdict_numbers
  judge_bad q = go (finding m) refl
    where
      go : (f : Finding) → finding m ≡ f → Bad m
      go WrongLength e = let z = ap length (rw e at q) in absurd (omega arith)
      go (Broken j b) e = bad m e
      go Nothing e = let z = ap length (rw e at q) in absurd (omega arith)

  pub fresh_never : (line d : ℕ) → numbers (answer_of (fresh m line d)) ≢ k ∷ a ∷ []
  unfolding Call.fresh Answer.answer_of Answer.numbers
  fresh_never line d = go (eqb (length m) memory_size) (startable line d) refl refl
    where
      go : (x y : Bool) → eqb (length m) memory_size ≡ x → startable line d ≡ y → numbers (answer_of (fresh m line d)) ≢ k ∷ a ∷ []
      go false y e f q = let z = ap length (rw e at q) in omega arith
      go true false e f q = let z = ap length (rw (e, f) at q) in omega arith
      go true true e f q = let z = ap length (rw (e, f) at q) in omega arith

  pub settings_never : (f : List ℕ) → numbers (answer_of (from_settings m f)) ≢ k ∷ a ∷ []
  unfolding Settings.from_settings Answer.answer_of Answer.numbers
  settings_never f =
      either Never (eqb (length m) memory_size) (file_each (λ v. Never (Model.heeds_file v m f)) (λ q. let z = ap length q in omega arith)
      (λ q. let z = ap length q in omega arith) (λ q. let z = ap length q in omega arith)
      (λ v q. let z = first_number q in omega (arith, c.from)) f)
      (λ q. let z = ap length q in omega arith)
    where
      Never : Step → Type 0
      Never o = numbers (answer_of o) ≢ k ∷ a ∷ []

-- ---- so of a well-formed memory none of the five is told
pub sound_good : {m : List ℕ} → Sound m → Bad m → ⊥
sound_good h b = let f = h.accepted in let g = b.1 in let z : ◌≡◌ {A = ℕ} 0 1 = cc in omega arith

-- reading and judging never write
pub read_kept_lem : (m : List ℕ) → memory_of (read_registers m) ≡ m
unfolding Call.read_registers Call.read_judged Call.head Answer.memory_of
read_kept_lem m = go (finding m) (eqb (running m) 0)
  where
    go : (f : Finding) (y : Bool)
        → memory_of (Model.heeds f m Held.Refused Held.RefusedAt (cond y (gives (Held.Refused idle) m) (gives (Held.Has (registers_of m (running m))) m))) ≡ m
    go WrongLength y = refl
    go (Broken k a) y = refl
    go Nothing true = refl
    go Nothing false = refl

pub judge_kept : (m : List ℕ) → memory_of (judge m) ≡ m
unfolding Call.judge Call.head Answer.memory_of
judge_kept m = go (finding m)
  where
    go : (f : Finding) → memory_of (Model.heeds f m Verdict.Refused Verdict.RefusedAt (gives Verdict.WellFormed m)) ≡ m
    go WrongLength = refl
    go (Broken k a) = refl
    go Nothing = refl

-- fresh takes any memory of 8,192 words
pub fresh_takes : (m : List ℕ) → length m ≡ memory_size → (line d : ℕ) → startable line d ≡ true → numbers (answer_of (fresh m line d)) ≡ done_number ∷ []
unfolding Call.fresh Answer.answer_of Answer.numbers
fresh_takes m l line d s = rw (eq-eqb (length m) memory_size l, s)

-- so does a fresh start from a good file, and what refuses the file refuses the call
module _ (m : List ℕ) (l : length m ≡ memory_size) (f : List ℕ) where
  pub settings_takes : of_file f ≡ Fit.Good → numbers (answer_of (from_settings m f)) ≡ done_number ∷ []
  unfolding Settings.from_settings Answer.answer_of Answer.numbers
  settings_takes e = rw (eq-eqb (length m) memory_size l, e)

  pub settings_refuses : (k : ℕ) → of_file f ≡ Fit.Refused k → Refuses numbers (from_settings m f) (k ∷ []) m
  unfolding Settings.from_settings Answer.answer_of Answer.memory_of Answer.numbers
  settings_refuses k e = rw (eq-eqb (length m) memory_size l, e) (refl, refl)

  pub settings_too_new : (k v : ℕ) → of_file f ≡ Fit.RefusedAt k v → Refuses numbers (from_settings m f) (k ∷ v ∷ []) m
  unfolding Settings.from_settings Answer.answer_of Answer.memory_of Answer.numbers
  settings_too_new k v e = rw (eq-eqb (length m) memory_size l, e) (refl, refl)

-- the judge accepts a well-formed memory
pub judge_yes : {m : List ℕ} → Sound m → verdict_numbers (answer_of (judge m)) ≡ done_number ∷ []
unfolding Call.judge Call.head Answer.answer_of Answer.verdict_numbers
judge_yes h = rw (unrefused h)
