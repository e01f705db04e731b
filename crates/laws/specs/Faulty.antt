-- Refusals and faults: "A fault sets the stopped bit, enters page 9, leaves LR; then who runs. The answer gives its number and the name." From the answer
-- alone, on any memory of bytes: which memory a faulty instruction leaves, word for word. Assumes nothing.
use Rattle.std.specs.Prelude.{◌≡◌, refl, ◌≢◌, Bool, true, false, cond, List, [], ◌∷◌, ℕ, ◌+◌, ◌≤◌, length, set, eqb, ltb}
use Rattle.std.proofs.Common.{sym, ◌∙◌, arith}
use Rattle.std.proofs.Math.Path.{ap}
use Rattle.std.proofs.lemmas.Bool.{eqb-false}
use Rattle.model.specs.Told.{Finding}
use Rattle.model.specs.Told.Finding.{Nothing, WrongLength, Broken}
use Rattle.model.specs.Map.{place, pair, state, stop_set, first_unused, entry_at, entries_full, grant_for, last_fault, last_name, processor_list, running_page}
use Rattle.model.specs.Processor as Processor
use Rattle.model.specs.Fault as Faults
use Rattle.model.specs.Answer as Answer
use Rattle.model.specs.Answer.{answer_of, idle, memory_of, numbers, wrong_length}
use Rattle.model.specs.Call as Call
use Rattle.model.specs.Bytes as Model
use Rattle.model.specs.Bytes.{lists, instruction, finding, running, name, at, word, write, store, who_runs, chosen}
use Rattle.laws.specs.Chain.{Page}
use Rattle.laws.specs.Uses.{proc_page}
use Rattle.laws.specs.Inv.{Base, View, no_one, view}
use Rattle.laws.specs.Frames.{other}
use Rattle.laws.specs.Words.{either}
use Rattle.laws.specs.Judged.{WellFormed, invariant}
use Rattle.laws.specs.Who.{zero_low, chosen_in}
use Rattle.laws.specs.Ends.{run_page, fault_base}
use Rattle.laws.specs.Unmoved.{fault_frame}
use Rattle.laws.specs.Turns.{Turned, who_turns}
use Rattle.laws.specs.Findings.{found_well, found_broken}
use Rattle.laws.specs.Kinds.{instruction_kind}
use Rattle.laws.specs.Refusals.{first_number, kind_fault}

-- ---- the memory with the processor that runs stopped, and with fault f of name n entered while page 9 has room
abbrev pub halted : List ℕ → List ℕ
halted m = store m (running m) state (stop_set (word m (running m) state))

abbrev pub recorded : List ℕ → ℕ → ℕ → List ℕ
recorded m f n =
    cond (ltb (at m first_unused) entries_full)
    (write (write (halted m) (entry_at (at m first_unused)) (pair n f)) first_unused (at m first_unused + 1))
    (halted m)

-- ---- from m to m' by fault f of name n
pub record Faulted (m : List ℕ) (f n : ℕ) (m' : List ℕ) : Type 0 where
  -- the one that ran
  pub named : n ≡ name m (running m)
  pub low : 1 ≤ f
  pub high : f ≤ last_fault
  -- stopped, entered, then who runs
  pub memory : m' ≡ who_runs (recorded m f n)
  -- so: the same memory, if it is the running one that is chosen; else another, or nobody, runs, and every word is as that says
  pub stays : running m ≡ chosen (recorded m f n) → m' ≡ recorded m f n
  pub turns : running m ≢ chosen (recorded m f n) → Turned (recorded m f n) m' (running m) (chosen (recorded m f n))

-- ---- who faults runs, on a memory that is well-formed
two : (k f n : ℕ) → ◌≡◌ {A = List ℕ} (k ∷ []) (f ∷ n ∷ []) → ⊥
two k f n e = let z = ap length e in omega arith

fault_open : (m : List ℕ) (f n : ℕ) → numbers (answer_of (instruction m)) ≡ f ∷ n ∷ [] → f ≤ last_fault → WellFormed m × (running m ≢ 0)
unfolding Call.instruction Call.instruction_judged Call.head Answer.answer_of Answer.numbers
fault_open m f n q l = go (finding m) (eqb (running m) 0) refl refl
  where
    go : (g : Finding) (y : Bool) → finding m ≡ g → eqb (running m) 0 ≡ y → WellFormed m × (running m ≢ 0)
    go WrongLength y e h = absurd (two wrong_length f n (rw e at q))
    go (Broken k a) y e h = let z = first_number (rw e at q) in absurd (omega (arith, (found_broken e).2.from))
    go Nothing true e h = absurd (two idle f n (rw (e, h) at q))
    go Nothing false e h = (found_well e, eqb-false (running m) 0 h)

-- ---- the theorem
module _ (m : List ℕ) (f n : ℕ) (e : numbers (answer_of (instruction m)) ≡ f ∷ n ∷ []) (top : f ≤ last_fault) where
  is : (instruction m ≡ Model.fault m f) × (1 ≤ f) × (n ≡ name m (running m))
  is = kind_fault (instruction m) (instruction_kind m) f n e top

  b : Base m (lists m processor_list) (lists m) (view m) [] no_one
  b = (invariant (fault_open m f n e top).0).base

  runs : running m ≢ 0
  runs = (fault_open m f n e top).1

  page : Page (running m)
  page = run_page b runs

  next_same : at (halted m) first_unused ≡ at m first_unused
  next_same = other m (place (running m) state) (stop_set (word m (running m) state)) first_unused (omega (arith, page))

  recorded_is : Model.entered (Model.stop m (running m)) (pair (name m (running m)) f) ≡ recorded m f n
  unfolding Faults.entered Processor.stop
  recorded_is = rw (next_same, ← is.2)

  memory_is : memory_of (instruction m) ≡ who_runs (recorded m f n)
  unfolding Faults.fault Answer.memory_of
  memory_is = ap (λ (o : Model.Step). memory_of o) is.0 ∙ ap who_runs recorded_is

  after : (X : View) × Base (recorded m f n) (lists m processor_list) (lists m) X [] no_one
  after = rw recorded_is at (fault_base b f runs is.1 top)

  run_same : running (recorded m f n) ≡ running m
  run_same =
      let h = other m (place (running m) state) (stop_set (word m (running m) state)) running_page (omega (arith, page)) in
      either (λ (x : List ℕ). running x ≡ running m) (ltb (at m first_unused) entries_full)
      (other (set (halted m) (entry_at (at m first_unused)) (pair n f)) first_unused (at m first_unused + 1) running_page (omega arith)
      ∙ other (halted m) (entry_at (at m first_unused)) (pair n f) running_page (omega arith) ∙ h) h

  turn : (running (recorded m f n) ≡ chosen (recorded m f n) → who_runs (recorded m f n) ≡ recorded m f n)
      × (running (recorded m f n) ≢ chosen (recorded m f n)
      → Turned (recorded m f n) (who_runs (recorded m f n)) (running (recorded m f n)) (chosen (recorded m f n)))
  turn =
      let c = after.1 in
      who_turns (recorded m f n) c.mem.size (run_page c) (λ d. proc_page c.facts.sep (chosen (recorded m f n)) (chosen_in c d))

  pub faulted : Faulted m f n (memory_of (instruction m))
  faulted = record {
    named = is.2;
    low = is.1;
    high = top;
    memory = memory_is;
    stays = λ q. memory_is ∙ turn.0 (run_same ∙ q);
    turns = λ d. rw memory_is (rw run_same at (turn.1 (λ q. d (sym run_same ∙ q))));
  }

  -- ---- document 02, 6/13: "keeps its grant if it faults". Word k of page 10 is as it was, for every name k
  pub grants_stay : (k : ℕ) → 1 ≤ k → k ≤ last_name → at (memory_of (instruction m)) (grant_for k) ≡ at m (grant_for k)
  unfolding Answer.memory_of
  grants_stay k l u =
      let next = b.mem.reads.fixed.next in
      let full = b.facts.faults.range in
      rw is.0 (fault_frame m f b.mem.size page.0 (omega (arith, page.1)) (grant_for k) (record {
        page = omega arith;
        label = omega arith;
        zero = λ i h. omega (arith, zero_low i h);
        kept = λ i h. omega (arith, page);
      }) (omega (arith, page)) (omega arith) (omega arith))
