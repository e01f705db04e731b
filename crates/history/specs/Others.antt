-- The other calls put and read nothing and move no message: an interrupt, a burst, setting and reading registers, the judge, a refused fresh start, from
-- settings or not; nor does the host. Assumes nothing.
use Rattle.std.specs.Prelude.{◌≡◌, Bool, List, [], ◌++◌, ℕ, ◌≤◌, length}
use Rattle.std.proofs.Math.Path.{refl}
use Rattle.std.proofs.Common.{ap, ◌∙◌, append-nil, arith, eq-eqb}
use Rattle.std.proofs.Math.Bool.{true, false}
use Rattle.std.proofs.Math.Dec.{eqb}
use Rattle.std.proofs.lemmas.Bool.{eqb-false}
use Rattle.model.specs.Map.{memory_size, page_size, processor_list}
use Rattle.model.specs.Bytes.{running, lists, fresh, from_settings, interrupt, burst, read_registers, set_registers, judge, who_runs, delivered, set_registers_of}
use Rattle.model.specs.declared.Registers.{Registers}
use Rattle.model.specs.Address.{guarded}
use Rattle.model.specs.Answer as Answer
use Rattle.model.specs.Answer.{memory_of}
use Rattle.model.specs.Fresh.{startable}
use Rattle.model.specs.Call as Call
use Rattle.model.specs.Call.{is_outer, is_class}
use Rattle.model.specs.Layout.{is_good, of_file}
use Rattle.model.specs.Processor.{in_range}
use Rattle.model.specs.Lists.{count}
use Rattle.laws.specs.Uses.{Sep, proc_page}
use Rattle.laws.specs.Inv.{Base, no_one, view}
use Rattle.laws.specs.Judged.{invariant}
use Rattle.laws.specs.Calls.{Sound, well, Host, guarded_low, guarded_high, unrefused, unsettled_same, interrupt_sound, read_same, judge_same}
use Rattle.laws.specs.Pairs.{outer_of}
use Rattle.laws.specs.Bursts.{OneByOne, Comes, comes}
use Rattle.laws.specs.Bursts.OneByOne.{none, one}
use Rattle.laws.specs.Bursts.Comes.{no_list, bad_pair, taken}
use Rattle.history.specs.Order.{only}
use Rattle.history.specs.Letter.{Ours, Same, key, waiting_for}
use Rattle.history.specs.Letter.Ours.{mail, first, next, named}
use Rattle.history.specs.Put.{of, nothing}
use Rattle.history.specs.Calm.{calm_refl, mine_high}
use Rattle.history.specs.Told.{Told, of_none, told_same}
use Rattle.history.specs.Traced.{Still, still_on, same_still}
use Rattle.history.specs.Clocks.{calm_interrupt}
use Rattle.history.specs.Quiet.{registers_calm}

-- ---- nothing is put or read, those that live are the same, and each message waits on its page: so it goes on from one call to the next
pub record Passing (m m' : List ℕ) : Type 0 where
  pub told : Told m m' nothing
  pub still : Still m m'

passing_on : {m m₁ m₂ : List ℕ} → Passing m m₁ → Passing m₁ m₂ → Passing m m₂
passing_on {m} {m₁} {m₂} s t = record {
  told = record {
    at = λ p i j k f. t.told.at p (rw s.still.alive i) j k f ∙ ap (only (key k f)) (between p) ∙ s.told.at p i (rw s.still.alive i) k f;
    keeps = λ p i j. t.told.keeps p (rw s.still.alive i) j ∙ s.told.keeps p i (rw s.still.alive i);
    born = λ p i j. absurd (omega (arith, ap (count p) t.still.alive, ap (count p) s.still.alive));
  };
  still = still_on s.still t.still;
}
  where
    between : (p : ℕ) → waiting_for m₁ p ++ of p [] ≡ of p [] ++ waiting_for m₁ p
    between p = rw (of_none p) (append-nil (waiting_for m₁ p))

module _ {m : List ℕ} (h : Sound m) where
  b : Base m (lists m processor_list) (lists m) (view m) [] no_one
  b = (invariant (well h)).base

  size_is : eqb (length m) memory_size ≡ true
  size_is = eq-eqb (length m) memory_size h.size

  -- where no message moves, nothing is put or read, nor does who lives change, nor the page of a message
  pub calm_passes : (m' : List ℕ) → Same (lists m processor_list) (lists m) m m' → Passing m m'
  calm_passes m' s = record { told = told_same b m' s; still = same_still b s }

  pub stays : Passing m m
  stays = calm_passes m (calm_refl m)

  pub interrupt_passes : (k c : ℕ) → Passing m (memory_of (interrupt m k c))
  unfolding Call.head Call.interrupt Call.interrupt_judged Answer.memory_of
  interrupt_passes k c = go (is_outer k) (is_class k c) refl refl
    where
      go : (x y : Bool) → is_outer k ≡ x → is_class k c ≡ y → Passing m (memory_of (interrupt m k c))
      go false y e f = rw (unrefused h, e) stays
      go true false e f = rw (unrefused h, e, f) stays
      go true true e f =
          let a = outer_of k e in
          rw (unrefused h, e, f) (calm_passes (who_runs (delivered m k c)) (calm_interrupt k c (omega (arith, a)) (omega (arith, a)) b))

  pub set_passes : (r : Registers) → Passing m (memory_of (set_registers m r))
  unfolding Call.head Call.set_registers Call.set_judged Answer.memory_of
  set_passes r = go (eqb (running m) 0) (in_range r) refl refl
    where
      go : (x y : Bool) → eqb (running m) 0 ≡ x → in_range r ≡ y → Passing m (memory_of (set_registers m r))
      go true y e f = rw (unrefused h, e) stays
      go false false e f = rw (unrefused h, e, f) stays
      go false true e f =
          rw (unrefused h, e, f) (calm_passes (set_registers_of m (running m) r) (registers_calm (well h) (eqb-false (running m) 0 e) r))

  pub read_passes : Passing m (memory_of (read_registers m))
  read_passes = rw (read_same h) stays

  pub judge_passes : Passing m (memory_of (judge m))
  judge_passes = rw (judge_same h) stays

  pub refused_passes : (line d : ℕ) → startable line d ≡ false → Passing m (memory_of (fresh m line d))
  unfolding Call.fresh Answer.memory_of
  refused_passes line d e = rw (size_is, e) stays

  pub unsettled_passes : (f : List ℕ) → is_good (of_file f) ≡ false → Passing m (memory_of (from_settings m f))
  unsettled_passes f e = rw (unsettled_same h.size f e) stays

  pub host_passes : {m' : List ℕ} → Host m m' → Passing m m'
  host_passes {m'} k = calm_passes m' (record { at = λ c o. k.same c (high c o) (safe c o) })
    where
      s : Sep (lists m processor_list) (lists m)
      s = b.facts.sep

      high : (c : ℕ) → Ours (lists m processor_list) (lists m) c → page_size ≤ c
      high c (mail o) = let t = mine_high s o in omega arith
      high c (first e) = omega arith
      high c (next z o e) = let t = proc_page s z o in omega arith
      high c (named z o e) = let t = proc_page s z o in omega arith

      safe : (c : ℕ) → Ours (lists m processor_list) (lists m) c → guarded c ≡ true
      safe c (mail o) = guarded_high c (mine_high s o).0
      safe c (first e) = guarded_low c (omega arith) (omega arith)
      safe c (next z o e) = let t = proc_page s z o in guarded_high c (omega arith)
      safe c (named z o e) = let t = proc_page s z o in guarded_high c (omega arith)

-- ---- a burst: the single interrupt, repeated
repeated_passes : {m l m' : List ℕ} → Sound m → OneByOne m l m' → Passing m m'
repeated_passes h (none m) = stays h
repeated_passes h (one m k c l m' e o) = passing_on (interrupt_passes h k c) (repeated_passes (interrupt_sound h k c) o)

pub burst_passes : {m : List ℕ} → Sound m → (l : List ℕ) → Passing m (memory_of (burst m l))
burst_passes {m} h l = go (comes (well h) l)
  where
    go : Comes m l → Passing m (memory_of (burst m l))
    go (no_list u r) = rw r.1 (stays h)
    go (bad_pair x n p i j f q r) = rw r.1 (stays h)
    go (taken p e o) = repeated_passes h o
