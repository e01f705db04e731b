-- Refusals and faults: how a call ends. "A fault sets the stopped bit, enters page 9, leaves LR; then who runs"; done, a jump, put to wait: each ends in a
-- well-formed memory. Assumes nothing.
use Rattle.std.specs.Prelude.{◌≡◌, refl, ◌≢◌, ◌⊎◌, Bool, true, false, List, [], ℕ, ◌+◌, ◌-◌, ◌%◌, ◌≤◌, ◌<◌, ltb}
use Rattle.std.proofs.Common.{inl, inr, arith, ltb-true}
use Rattle.model.specs.Map.{entries, entries_full, flags_kept, high, high_lr, last_fault, low, low_lr, lower, memory_size, page_size, pair, place}
use Rattle.model.specs.Map.{running_page, state, stop_cleared, stop_set, wait_bit, wait_in, word_a, zeros_in}
use Rattle.model.specs.Bytes.{name, running, store, word, Step, entered, fault, done, jumps, waits, stop, start, set_lr, advance, lr}
use Rattle.model.specs.Fault as Fault
use Rattle.model.specs.Answer as Answer
use Rattle.model.specs.Answer.{memory_of}
use Rattle.model.specs.Processor as Processor
use Rattle.model.specs.Lists.{count, Lists, queues}
use Rattle.laws.specs.Count.{hit_or}
use Rattle.laws.specs.Chain.{Page}
use Rattle.laws.specs.Uses.{proc_page}
use Rattle.laws.specs.Inv.{Base, Entry, Faults, Label, View, no_one}
use Rattle.laws.specs.Judged.{WellFormed, well_formed_lem}
use Rattle.laws.specs.Frames.{Kept, kept_refl, kept_set, Quiet, quiet_low, quiet_word, base_kept}
use Rattle.laws.specs.Views.{put1, put1_same, put1_other, with_state, with_entry}
use Rattle.laws.specs.Stores.{state_mem, entry_mem}
use Rattle.laws.specs.Changes.{facts_state, facts_entry}
use Rattle.laws.specs.Waits.{Fit, wait_base}
use Rattle.laws.specs.Who.{who_inv, running_at, running_in, state_at, label_at}

-- ---- the outcome of an instruction leaves a well-formed memory
abbrev pub Fine : Step → Type 0
Fine o = WellFormed (memory_of o)

-- ---- word 12
pub stop_bits : (w : ℕ) → zeros_in w ≡ 0 → (wait_in (stop_set w) ≡ wait_in w) × (zeros_in (stop_set w) ≡ 0)
stop_bits w h =
    let a : stop_cleared (stop_set w) ≡ stop_cleared w = omega arith in
    let b : stop_set w % wait_bit ≡ w % wait_bit = omega arith in
    (rw a, rw b h)

pub start_bits : (w : ℕ) → zeros_in w ≡ 0 → (wait_in (stop_cleared w) ≡ wait_in w) × (zeros_in (stop_cleared w) ≡ 0)
start_bits w h =
    let a : stop_cleared (stop_cleared w) ≡ stop_cleared w = omega arith in
    let b : stop_cleared w % wait_bit ≡ w % wait_bit = omega arith in
    (rw a, rw b h)

pub state_base : {m : List ℕ} {ps : List ℕ} {L : Lists} {W : View} {hs : List ℕ} {g : ℕ} (q v : ℕ) → 1 ≤ count q ps
    → (wait_in v ≡ wait_in (W.state q)) × (zeros_in v ≡ 0) → Base m ps L W hs g
    → Base (store m q state v) ps L (with_state W (put1 W.state q v)) hs g
state_base {ps = ps} {W = W} q v i c b = record {
  mem = state_mem b.facts.sep b.mem q v (proc_page b.facts.sep q i);
  facts = facts_state (put1 W.state q v) (λ x h. go x h (hit_or x q)) b.facts;
  all = b.all;
}
  where
    go : (x : ℕ) → 1 ≤ count x ps → (x ≡ q) ⊎ (x ≢ q) → (wait_in (put1 W.state q v x) ≡ wait_in (W.state x)) × (zeros_in (put1 W.state q v x) ≡ 0)
    go x h (inl e) = rw (put1_same W.state q v x e, e) c
    go x h (inr n) = rw (put1_other W.state q v x n) (refl, b.facts.seats.zeros x h)

module _ {m : List ℕ} {ps : List ℕ} {L : Lists} {W : View} {hs : List ℕ} {g : ℕ} (b : Base m ps L W hs g) (p : ℕ) (h : 1 ≤ count p ps) where
  pub stop_base : Base (stop m p) ps L (with_state W (put1 W.state p (stop_set (W.state p)))) hs g
  unfolding Processor.stop
  stop_base = rw (state_at b p h) (state_base p (stop_set (W.state p)) h (stop_bits (W.state p) (b.facts.seats.zeros p h)) b)

  pub start_base : Base (start m p) ps L (with_state W (put1 W.state p (stop_cleared (W.state p)))) hs g
  unfolding Processor.start
  start_base = rw (state_at b p h) (state_base p (stop_cleared (W.state p)) h (start_bits (W.state p) (b.facts.seats.zeros p h)) b)

-- ---- page 9
pub faults_more : (n e : ℕ) (g : ℕ → ℕ) → n < entries_full → Entry e → Faults n g → Faults (n + 1) (put1 g (n - 1) e)
faults_more n e g l t f = record {
  range = (omega arith, omega arith);
  used = λ i h u. go i h u (hit_or i (n - 1));
  unused = λ i h u. rw (put1_other g (n - 1) e i (let r = f.range in omega arith)) (f.unused i h (omega arith));
}
  where
    go : (i : ℕ) → i < entries → i + 2 ≤ n + 1 → (i ≡ n - 1) ⊎ (i ≢ n - 1) → Entry (put1 g (n - 1) e i)
    go i h u (inl q) = rw (put1_same g (n - 1) e i q) t
    go i h u (inr q) = rw (put1_other g (n - 1) e i q) (f.used i h (omega arith))

pub entered_base : {m : List ℕ} {ps : List ℕ} {L : Lists} {W : View} {hs : List ℕ} {g : ℕ} (e : ℕ) → Entry e → Base m ps L W hs g
    → (X : View) × Base (entered m e) ps L X hs g
unfolding Fault.entered
entered_base {m} {ps} {L} {W} {hs} {g} e t b = go (ltb W.next entries_full) refl
  where
    go : (c : Bool) → ltb W.next entries_full ≡ c → (X : View) × Base (entered m e) ps L X hs g
    go true h =
        let r = b.facts.faults.range in
        let l = ltb-true W.next entries_full h in (
          with_entry W (W.next + 1) (put1 W.entry (W.next - 1) e),
          rw (b.mem.reads.fixed.next, h) (record {
            mem = entry_mem b.facts.sep b.mem e r.0 l;
            facts = facts_entry (W.next + 1) (put1 W.entry (W.next - 1) e) (faults_more W.next e W.entry l t b.facts.faults) b.facts;
            all = b.all;
          }),
        )
    go false h = (W, rw (b.mem.reads.fixed.next, h) b)

name_entry : (w f : ℕ) → Label w → 1 ≤ f → f ≤ last_fault → Entry (pair (lower w) f)
name_entry w f l i j = record { name = (omega arith, omega arith); fault = (omega arith, omega arith) }

-- ---- LR; page 0 has no LR, and where nobody runs nothing that is judged changes
pub quiet_run : (r w : ℕ) → (r ≢ 0 → Page r) → word_a ≤ w → w < page_size → w ≢ state → Quiet (place r w)
quiet_run r w g l u n = go (hit_or r 0)
  where
    go : (r ≡ 0) ⊎ (r ≢ 0) → Quiet (place r w)
    go (inl e) = quiet_low (place r w) (omega arith)
    go (inr d) = quiet_word r w (place r w) (g d) l u n refl

pub lr_kept : (m : List ℕ) (p v : ℕ) → (p ≢ 0 → Page p) → Kept m (set_lr m p v)
unfolding Processor.set_lr
lr_kept m p v g =
    kept_set (place p low_lr) (low v) (quiet_run p low_lr g (omega arith) (omega arith) (omega arith))
    (kept_set (place p high_lr) (flags_kept (word m p high_lr) (high v)) (quiet_run p high_lr g (omega arith) (omega arith) (omega arith)) (kept_refl m))

module _ {m : List ℕ} {ps : List ℕ} {L : Lists} {W : View} {hs : List ℕ} {g : ℕ} (b : Base m ps L W hs g) where
  pub run_page : running m ≢ 0 → Page (running m)
  run_page n = rw (running_at b) (proc_page b.facts.sep (W.low running_page) (running_in b (rw (running_at b) at n)))

  pub lr_base : (v : ℕ) → Base (set_lr m (running m) v) ps L W hs g
  lr_base v = base_kept (lr_kept m (running m) v run_page) b

  pub advance_base : (n : ℕ) → Base (advance m n) ps L W hs g
  unfolding Processor.advance
  advance_base n = lr_base ((lr m + n) % memory_size)

-- ---- the ends
module _ {m : List ℕ} {ps : List ℕ} {L : Lists} {W : View} (b : Base m ps L W [] no_one) where
  pub done_fine : (n : ℕ) → Fine (done m n)
  unfolding Answer.done Answer.memory_of
  done_fine n = well_formed_lem (who_inv (advance_base b n)).1

  pub jumps_fine : (a : ℕ) → Fine (jumps m a)
  unfolding Answer.jumps Answer.memory_of
  jumps_fine a = well_formed_lem (who_inv (lr_base b a)).1

  -- stopped and entered, before who runs
  pub fault_base : (f : ℕ) → W.low running_page ≢ 0 → 1 ≤ f → f ≤ last_fault
      → (X : View) × Base (entered (stop m (running m)) (pair (name m (running m)) f)) ps L X [] 32
  fault_base f n i j =
      let r = W.low running_page in
      let h = running_in b n in
      rw (running_at b, label_at b r h)
      (entered_base (pair (lower (W.label r)) f) (name_entry (W.label r) f (b.facts.names.range r h) i j) (stop_base b r h))

  pub fault_fine : (f : ℕ) → W.low running_page ≢ 0 → 1 ≤ f → f ≤ last_fault → Fine (fault m f)
  unfolding Fault.fault Answer.memory_of
  fault_fine f n i j = well_formed_lem (who_inv (fault_base f n i j).1).1

  pub waits_fine : (a w : ℕ) → W.low running_page ≢ 0 → 1 ≤ count (a + 1) (queues ps) → wait_in (W.state (W.low running_page)) ≡ 0
      → Fit ps L W a (W.low running_page) w
      → Fine (waits m a w)
  unfolding Answer.waits Answer.memory_of
  waits_fine a w n h idle fit = rw (running_at b) (well_formed_lem (who_inv (wait_base a (W.low running_page) w b h (running_in b n) idle fit)).1)
