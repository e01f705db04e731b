-- Who runs, and "A fault sets the stopped bit, enters page 9, leaves LR; then who runs": which words neither changes, on any memory of 8,192 words. Assumes
-- nothing.
use Rattle.std.specs.Prelude.{◌≡◌, ◌≢◌, ℕ, ◌+◌, ◌≤◌, ◌<◌, length, set, eqb, ltb}
use Rattle.std.proofs.Math.Path.{refl}
use Rattle.std.proofs.Common.{◌∙◌, arith}
use mathlib.Core.List.{List}
use Rattle.std.proofs.Math.ListN.{get_or}
use Rattle.model.specs.Map.{entries_full, entry_at, first_control, first_unused, keeps, kept_count, last_control, memory_size, pair, place}
use Rattle.model.specs.Map.{running_label, running_page, state, stop_set, zero_place}
use Rattle.model.specs.Bytes.{store, word, fault, who_runs, name, running}
use Rattle.model.specs.Processor as Processor
use Rattle.model.specs.Turn as Turn
use Rattle.model.specs.Fault as Faults
use Rattle.model.specs.Answer as Answer
use Rattle.model.specs.Answer.{memory_of}
use Rattle.model.specs.Bytes as Model
use Rattle.laws.specs.Frames.{other}
use Rattle.laws.specs.Words.{either}
use Rattle.laws.specs.Who.{kept_frame, restored_frame}

-- ---- what a change of who runs moves: words 24 and 25 of page 7, the nineteen words of page 0, and those of page r, which ran
pub record Unmoved (r a : ℕ) : Type 0 where
  pub page : a ≢ running_page
  pub label : a ≢ running_label
  pub zero : (i : ℕ) → i < kept_count → a ≢ zero_place i
  pub kept : (i : ℕ) → i < kept_count → a ≢ place r (keeps i)

pub turn_frame : (m : List ℕ) (a : ℕ) → Unmoved (running m) a → get_or (who_runs m) a 0 ≡ get_or m a 0
unfolding Turn.who_runs Turn.switch Turn.runs Turn.save Turn.load
turn_frame m a u =
    let r = running m in
    let t = Model.chosen m in
    let m1 = Model.save m r in
    let m2 = Model.load m1 t in
    let s : get_or (Model.save m r) a 0 ≡ get_or m a 0 = either (λ (x : List ℕ). get_or x a 0 ≡ get_or m a 0) (eqb r 0) refl
    (kept_frame kept_count m r (Model.on_page0 m) a u.kept) in
    let l : get_or (Model.load (Model.save m r) t) a 0 ≡ get_or m a 0 = either (λ (x : List ℕ). get_or x a 0 ≡ get_or m a 0) (eqb t 0) s
    (restored_frame kept_count m1 (Model.kept_on m1 t) a u.zero ∙ s) in
    either (λ (x : List ℕ). get_or x a 0 ≡ get_or m a 0) (eqb r t) refl
    (other (set m2 running_page t) running_label _ a u.label ∙ other m2 running_page t a u.page ∙ l)

-- ---- the fault
module _ (m : List ℕ) (f : ℕ) where
  abbrev r : ℕ
  r = running m

  abbrev e : ℕ
  e = pair (name m r) f

  abbrev m1 : List ℕ
  m1 = store m r state (stop_set (word m r state))

  abbrev m2 : List ℕ
  m2 = Model.entered m1 e

  fault_is : memory_of (fault m f) ≡ who_runs m2
  unfolding Faults.fault Processor.stop Answer.memory_of
  fault_is = refl

  -- page 9 keeps its words elsewhere
  entered_frame : (x : List ℕ) (v a : ℕ) → a ≢ first_unused → a ≢ entry_at (get_or x first_unused 0) → get_or (Model.entered x v) a 0 ≡ get_or x a 0
  unfolding Faults.entered
  entered_frame x v a d1 d2 =
      either (λ (y : List ℕ). get_or y a 0 ≡ get_or x a 0) (ltb (get_or x first_unused 0) entries_full)
      (other (set x (entry_at (get_or x first_unused 0)) v) first_unused (get_or x first_unused 0 + 1) a d1 ∙ other x (entry_at (get_or x first_unused 0)) v a d2) refl

  module _ (size : length m ≡ memory_size) (page : first_control ≤ r) (high : r ≤ last_control) where
    next_same : get_or m1 first_unused 0 ≡ get_or m first_unused 0
    next_same = other m (place r state) (stop_set (word m r state)) first_unused (omega arith)

    run_same : running m2 ≡ running m
    run_same = entered_frame m1 e running_page (omega arith) (omega arith) ∙ other m (place r state) (stop_set (word m r state)) running_page (omega arith)

    moved : (a : ℕ) → Unmoved r a → get_or (memory_of (fault m f)) a 0 ≡ get_or m2 a 0
    moved a u = rw fault_is (turn_frame m2 a (rw run_same u))

    -- every other word is as it was
    pub fault_frame : (a : ℕ) → Unmoved r a → a ≢ place r state → a ≢ first_unused → a ≢ entry_at (get_or m first_unused 0)
        → get_or (memory_of (fault m f)) a 0 ≡ get_or m a 0
    fault_frame a u d12 d0 dn =
        moved a u ∙ entered_frame m1 e a d0 (rw next_same dn) ∙ other m (place r state) (stop_set (word m r state)) a d12
