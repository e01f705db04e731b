-- What the kernel covers: the six public calls of document 01, each one function from the memory and its arguments to an outcome; the seventh, of
-- document 02, is in Burst. Refusals and faults: "Refusals leave all memory untouched, first that applies".
use Rattle.std.specs.Prelude.{ℕ, Bool, true, false, cond, eqb, ltb}
use Rattle.model.specs.declared.Registers.{Registers}
use Rattle.model.specs.Told.Answer.{Done, Refused, RefusedAt}
use Rattle.model.specs.Told.{Held}
use Rattle.model.specs.Told.{Verdict}
use Rattle.model.specs.Told.{Finding}
use Rattle.model.specs.Told.Finding.{Nothing, WrongLength, Broken}
use Rattle.model.specs.Store.{Store}
use Rattle.model.specs.Map.{memory_size, first_outer, first_classed, last_outer, last_class}
use Rattle.model.specs.Address.{unless}
use Rattle.model.specs.Processor.{running, lr, registers_of, set_registers_of, in_range}
use Rattle.model.specs.Turn.{who_runs}
use Rattle.model.specs.Answer.{Outcome, Step, refused, wrong_length, idle, no_interrupt, wrong_class, out_of_range}
use Rattle.model.specs.Answer.Outcome.{gives}
use Rattle.model.specs.Interrupt.{delivered}
use Rattle.model.specs.Execute.{fetched}
use Rattle.model.specs.Fresh.{startable, started}
use Rattle.model.specs.Classes.{told_of}

-- "24 interrupt not 16-50; 25 class number over 31, or nonzero below 48"
unfoldable pub is_outer : ℕ → Bool
is_outer k = cond (ltb k first_outer) false (cond (ltb last_outer k) false true)

unfoldable pub is_class : ℕ → ℕ → Bool
is_class k c = cond (ltb last_class c) false (cond (ltb k first_classed) (eqb c 0) true)

module _ (S : Store) where
  -- ---- "20 length not 8,192"; 30-34 "in the place where 21 stood (not for fresh)": what is found before anything else is looked at
  unfoldable pub finding : S.M → Finding
  finding m =
      unless (eqb (S.size m) memory_size) WrongLength
      (told_of S m)

  -- the head of every call but fresh: refused by its own answer, else it goes on
  abbrev pub heeds : {A : Type 0} → Finding → S.M → (ℕ → A) → (ℕ → ℕ → A) → Outcome A S.M → Outcome A S.M
  heeds Nothing m refuses tells goes = goes
  heeds WrongLength m refuses tells goes = gives (refuses wrong_length) m
  heeds (Broken n a) m refuses tells goes = gives (tells n a) m

  unfoldable pub head : {A : Type 0} → S.M → (ℕ → A) → (ℕ → ℕ → A) → Outcome A S.M → Outcome A S.M
  head m refuses tells goes = heeds (finding m) m refuses tells goes

  -- ---- "fresh start": 20, then 26
  unfoldable pub fresh : S.M → ℕ → ℕ → Step S
  fresh m line d =
      unless (eqb (S.size m) memory_size) (refused S m wrong_length)
      (unless (startable line d) (refused S m out_of_range)
      (gives Done (started S m line d)))

  -- ---- "one virtual instruction by the running processor": 20, 30-34, 22, then from the word at LR on
  unfoldable pub instruction_judged : S.M → Step S
  instruction_judged m =
      cond (eqb (running S m) 0) (refused S m idle)
      (fetched S m (lr S m))

  unfoldable pub instruction : S.M → Step S
  instruction m = head m Refused RefusedAt (instruction_judged m)

  -- ---- "delivery of an interrupt": 20, 30-34, 24, 25
  unfoldable pub interrupt_judged : S.M → ℕ → ℕ → Step S
  interrupt_judged m k c =
      unless (is_outer k) (refused S m no_interrupt)
      (unless (is_class k c) (refused S m wrong_class)
      (gives Done (who_runs S (delivered S m k c))))

  unfoldable pub interrupt : S.M → ℕ → ℕ → Step S
  interrupt m k c = head m Refused RefusedAt (interrupt_judged m k c)

  -- ---- "reading .. the running processor's registers": 20, 30-34, 22
  unfoldable pub read_judged : S.M → Outcome Held S.M
  read_judged m =
      cond (eqb (running S m) 0) (gives (Held.Refused idle) m)
      (gives (Held.Has (registers_of S m (running S m))) m)

  unfoldable pub read_registers : S.M → Outcome Held S.M
  read_registers m = head m Held.Refused Held.RefusedAt (read_judged m)

  -- ---- "setting the running processor's registers": 20, 30-34, 22, 26
  unfoldable pub set_judged : S.M → Registers → Step S
  set_judged m r =
      cond (eqb (running S m) 0) (refused S m idle)
      (unless (in_range r) (refused S m out_of_range)
      (gives Done (set_registers_of S m (running S m) r)))

  unfoldable pub set_registers : S.M → Registers → Step S
  set_registers m r = head m Refused RefusedAt (set_judged m r)

  -- ---- "a judge of well-formed memory": 20, 30-34
  unfoldable pub judge : S.M → Outcome Verdict S.M
  judge m = head m Verdict.Refused Verdict.RefusedAt (gives Verdict.WellFormed m)
