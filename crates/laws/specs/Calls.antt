-- What the kernel covers: each public call, from a well-formed memory of 8,192 words of 8 bits, leaves such a memory; so does the host, which "may change
-- page 0 and unprotected words, nothing else". Assumes nothing.
use Rattle.std.specs.Prelude.{◌≡◌, Bool, List, [], ◌∷◌, ℕ, ◌+◌, ◌≤◌, ◌<◌, length, get_or}
use Rattle.std.proofs.Math.Path.{refl}
use Rattle.std.proofs.Math.Bool.{true, false}
use Rattle.std.proofs.Common.{arith}
use Rattle.std.proofs.Math.Dec.{eqb}
use borrow.Author.Tests.{eqb-false, eq-eqb, lt-ltb, le-ltb, le-leb}
use Rattle.model.specs.Map as Map
use Rattle.model.specs.Map.{guarded_end, guarded_from, guarded_last, guarded_to, memory_size, page_size}
use Rattle.model.specs.Map.{place}
use Rattle.model.specs.Bytes.{running, fresh, from_settings, instruction, interrupt, burst, read_registers, set_registers, judge, judged, lr, who_runs}
use Rattle.model.specs.Bytes.{delivered, arrived}
use Rattle.model.specs.declared.Registers.{Registers}
use Rattle.model.specs.Told.Finding.{Nothing}
use Rattle.model.specs.Told.{Checked}
use Rattle.model.specs.Told.Checked.{Good, Bad}
use Rattle.model.specs.Told.{Fit}
use Rattle.model.specs.Address as Address
use Rattle.model.specs.Address.{guarded}
use Rattle.model.specs.Answer as Answer
use Rattle.model.specs.Answer.{memory_of}
use Rattle.model.specs.Fresh.{startable}
use Rattle.model.specs.Call as Call
use Rattle.model.specs.Call.{is_outer, is_class}
use Rattle.model.specs.Burst as Burst
use Rattle.model.specs.Burst.{is_list, tested}
use Rattle.model.specs.Layout as Layout
use Rattle.model.specs.Layout.{is_good, of_file}
use Rattle.model.specs.Settings as Settings
use Rattle.model.specs.Processor.{in_range}
use Rattle.model.specs.Bytes as Model
use Rattle.laws.specs.Judged.{WellFormed}
use Rattle.laws.specs.Findings.{well_found}
use Rattle.laws.specs.Frames.{Kept, kept_keeps}
pub use Rattle.laws.specs.Start.{args_of}
use Rattle.laws.specs.Start.{started_well}
use Rattle.laws.specs.Words.{Small, small_started, small_delivered, small_turn, small_registers}
use Rattle.laws.specs.Fits.{good_is}
use Rattle.laws.specs.Settle.{from_settings_lem}
use Rattle.laws.specs.Simple.{registers_well}
use Rattle.laws.specs.Interrupts.{delivered_well}
use Rattle.laws.specs.Run.{fetched_fine}
use Rattle.laws.specs.InstructionWords.{fetched_tiny}
use Rattle.laws.specs.Pairs.{outer_of, class_of, Passes, good_first}

-- a well-formed memory: 8,192 words of 8 bits that the judge accepts
pub record Sound (m : List ℕ) : Type 0 where
  pub size : length m ≡ memory_size
  pub small : Small m
  pub accepted : judged m ≡ true

sound : {m : List ℕ} → WellFormed m → Small m → Sound m
sound w s = record { size = w.size; small = s; accepted = w.accepted }

pub well : {m : List ℕ} → Sound m → WellFormed m
well h = record { size = h.size; accepted = h.accepted }

-- ---- fresh and fresh from settings, on any memory of 8,192 words
pub fresh_starts : {m : List ℕ} → length m ≡ memory_size → Small m → (line d : ℕ) → startable line d ≡ true → Sound (memory_of (fresh m line d))
unfolding Call.fresh Answer.memory_of
fresh_starts {m} l s line d h =
    let a = args_of line d h in
    rw (eq-eqb (length m) memory_size l, h) (sound (started_well m line d l a) (small_started s line d (omega (arith, a)) (omega (arith, a))))

pub settings_starts : {m : List ℕ} → length m ≡ memory_size → Small m → (f : List ℕ) → of_file f ≡ Fit.Good → Sound (memory_of (from_settings m f))
unfolding Answer.memory_of
settings_starts {m} l s f g = let t = from_settings_lem m l s f g in rw t.done (sound t.well t.small)

-- a file that is not good leaves the memory as it was
pub unsettled_same : {m : List ℕ} → length m ≡ memory_size → (f : List ℕ) → is_good (of_file f) ≡ false → memory_of (from_settings m f) ≡ m
unfolding Settings.from_settings Layout.is_good Answer.memory_of
unsettled_same {m} l f n = go (of_file f) refl
  where
    go : (v : Fit) → of_file f ≡ v → memory_of (from_settings m f) ≡ m
    go Fit.Good e = let c = rw e at n in let z : ◌≡◌ {A = ℕ} 0 1 = cc in absurd (omega arith)
    go (Fit.Refused k) e = rw (eq-eqb (length m) memory_size l, e)
    go (Fit.RefusedAt k v) e = rw (eq-eqb (length m) memory_size l, e)

-- ---- the calls
module _ {m : List ℕ} (h : Sound m) where
  size_is : eqb (length m) memory_size ≡ true
  size_is = eq-eqb (length m) memory_size h.size

  -- nothing refuses it from the start
  pub unrefused : Model.finding m ≡ Nothing
  unrefused = well_found (well h)

  pub fresh_sound : (line d : ℕ) → Sound (memory_of (fresh m line d))
  unfolding Call.fresh Answer.memory_of
  fresh_sound line d = go (startable line d) refl
    where
      go : (c : Bool) → startable line d ≡ c → Sound (memory_of (fresh m line d))
      go true e = fresh_starts h.size h.small line d e
      go false e = rw (size_is, e) h

  pub settings_sound : (f : List ℕ) → Sound (memory_of (from_settings m f))
  settings_sound f = go (is_good (of_file f)) refl
    where
      go : (c : Bool) → is_good (of_file f) ≡ c → Sound (memory_of (from_settings m f))
      go true e = settings_starts h.size h.small f (good_is (of_file f) e)
      go false e = rw (unsettled_same h.size f e) h

  pub instruction_sound : Sound (memory_of (instruction m))
  unfolding Call.head Call.instruction Call.instruction_judged Answer.memory_of
  instruction_sound = go (eqb (running m) 0) refl
    where
      go : (c : Bool) → eqb (running m) 0 ≡ c → Sound (memory_of (instruction m))
      go true e = rw (unrefused, e) h
      go false e =
          let n = eqb-false (running m) 0 e in
          rw (unrefused, e) (sound (fetched_fine (well h) n h.small (lr m)) (fetched_tiny h.small (lr m)))

  -- an interrupt that passes both tests
  arrive_sound : {k c : ℕ} → Passes k c → Sound (who_runs (delivered m k c))
  arrive_sound {k} {c} p =
      let a = outer_of k p.outer in
      sound (delivered_well k c (omega (arith, a)) (omega (arith, a)) (well h)) (small_turn (small_delivered h.small k c
      (omega (arith, class_of k c p.class))))

  pub interrupt_sound : (k c : ℕ) → Sound (memory_of (interrupt m k c))
  unfolding Call.head Call.interrupt Call.interrupt_judged Answer.memory_of
  interrupt_sound k c = go (is_outer k) (is_class k c) refl refl
    where
      go : (x y : Bool) → is_outer k ≡ x → is_class k c ≡ y → Sound (memory_of (interrupt m k c))
      go false y e f = rw (unrefused, e) h
      go true false e f = rw (unrefused, e, f) h
      go true true e f = rw (unrefused, e, f) (arrive_sound (record { outer = e; class = f }))

  pub set_sound : (r : Registers) → Sound (memory_of (set_registers m r))
  unfolding Call.head Call.set_registers Call.set_judged Answer.memory_of
  set_sound r = go (eqb (running m) 0) (in_range r) refl refl
    where
      go : (x y : Bool) → eqb (running m) 0 ≡ x → in_range r ≡ y → Sound (memory_of (set_registers m r))
      go true y e f = rw (unrefused, e) h
      go false false e f = rw (unrefused, e, f) h
      go false true e f =
          rw (unrefused, e, f) (sound (registers_well (well h) (eqb-false (running m) 0 e) r) (small_registers h.small (running m) r))

  pub read_same : memory_of (read_registers m) ≡ m
  unfolding Call.head Call.read_registers Call.read_judged Answer.memory_of
  read_same = go (eqb (running m) 0) refl
    where
      go : (c : Bool) → eqb (running m) 0 ≡ c → memory_of (read_registers m) ≡ m
      go true e = rw (unrefused, e)
      go false e = rw (unrefused, e)

  pub judge_same : memory_of (judge m) ≡ m
  unfolding Call.head Call.judge Answer.memory_of
  judge_same = rw unrefused

-- ---- a burst, whose pairs all pass
arrived_sound : {m : List ℕ} → Sound m → (i : ℕ) (l : List ℕ) → tested i l ≡ Good → Sound (arrived m l)
unfolding Burst.arrived
arrived_sound {m = m} h i [] e = h
arrived_sound {m = m} h i (k ∷ []) e = h
arrived_sound {m = m} h i (k ∷ c ∷ l) e = let g = good_first i k c l e in arrived_sound {m = who_runs (delivered m k c)} (arrive_sound h g.0) (i + 1) l g.1

pub burst_sound : {m : List ℕ} → Sound m → (l : List ℕ) → Sound (memory_of (burst m l))
unfolding Call.head Burst.burst Burst.burst_judged Answer.memory_of
burst_sound {m} h l = go (is_list l) (tested 1 l) refl refl
  where
    go : (x : Bool) (c : Checked) → is_list l ≡ x → tested 1 l ≡ c → Sound (memory_of (burst m l))
    go false c e f = rw (unrefused h, e) h
    go true Good e f = rw (unrefused h, e, f) (arrived_sound h 1 l f)
    go true (Bad n i) e f = rw (unrefused h, e, f) h

-- ---- the host: page 0, and what is not protected
pub record Host (m m' : List ℕ) : Type 0 where
  pub size : length m' ≡ length m
  pub small : Small m'
  pub same : (a : ℕ) → page_size ≤ a → guarded a ≡ true → get_or m' a 0 ≡ get_or m a 0

pub guarded_low : (a : ℕ) → guarded_from ≤ a → a < guarded_to → guarded a ≡ true
unfolding Address.guarded
guarded_low a l u = rw (le-ltb a guarded_end (omega arith), le-ltb a guarded_from l, lt-ltb a guarded_to u)

pub guarded_high : (a : ℕ) → guarded_last ≤ a → guarded a ≡ true
unfolding Address.guarded
guarded_high a l = rw (le-ltb a guarded_end (omega arith), le-ltb a guarded_from (omega arith), le-ltb a guarded_to (omega arith), le-leb guarded_last a l)

host_kept : {m m' : List ℕ} → Host m m' → Kept m m'
host_kept k = record {
  size = k.size;
  fixed = λ a l u. k.same a (omega arith) (guarded_low a l u);
  words = λ p j h l. k.same (place p j) (omega (arith, h)) (guarded_high (place p j) (omega (arith, h)));
  state = λ p h. k.same (place p Map.state) (omega (arith, h)) (guarded_high (place p Map.state) (omega (arith, h)));
}

pub host_sound : {m m' : List ℕ} → Host m m' → Sound m → Sound m'
host_sound k h = sound (kept_keeps (host_kept k) (well h)) k.small

-- ---- any calls, and changes by the host between them, from a fresh start on, be it from settings or not
pub data Act : Type 0 where
  fresh_start : ℕ → ℕ → Act
  fresh_from : List ℕ → Act
  instruct : Act
  signal : ℕ → ℕ → Act
  signals : List ℕ → Act
  set : Registers → Act
  read : Act
  judge_it : Act

unfoldable pub after : Act → List ℕ → List ℕ
after (fresh_start line d) m = memory_of (fresh m line d)
after (fresh_from f) m = memory_of (from_settings m f)
after instruct m = memory_of (instruction m)
after (signal k c) m = memory_of (interrupt m k c)
after (signals l) m = memory_of (burst m l)
after (set r) m = memory_of (set_registers m r)
after read m = memory_of (read_registers m)
after judge_it m = memory_of (judge m)

pub data Reached : List ℕ → Type 0 where
  start : (m : List ℕ) (line d : ℕ) → length m ≡ memory_size → Small m → startable line d ≡ true → Reached (memory_of (fresh m line d))
  settle : (m f : List ℕ) → length m ≡ memory_size → Small m → of_file f ≡ Fit.Good → Reached (memory_of (from_settings m f))
  call : (m : List ℕ) (a : Act) → Reached m → Reached (after a m)
  host : (m m' : List ℕ) → Host m m' → Reached m → Reached m'

after_sound : {m : List ℕ} → Sound m → (a : Act) → Sound (after a m)
unfolding after
after_sound h (fresh_start line d) = fresh_sound h line d
after_sound h (fresh_from f) = settings_sound h f
after_sound h instruct = instruction_sound h
after_sound h (signal k c) = interrupt_sound h k c
after_sound h (signals l) = burst_sound h l
after_sound h (set r) = set_sound h r
after_sound h read = rw (read_same h) h
after_sound h judge_it = rw (judge_same h) h

pub reached_sound : (m : List ℕ) → Reached m → Sound m
reached_sound _ (start m line d l s h) = fresh_starts l s line d h
reached_sound _ (settle m f l s h) = settings_starts l s f h
reached_sound _ (call m a r) = after_sound (reached_sound m r) a
reached_sound _ (host m m' k r) = host_sound k (reached_sound m r)
