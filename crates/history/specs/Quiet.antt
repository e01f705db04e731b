-- The instructions that put and read nothing and leave Q1 and Q2 of every processor alone: CVI, DVI, GIN, WIN, ST1, STP, ST2 and code
-- 13; and setting registers. Assumes nothing.
use Rattle.std.specs.Prelude.{◌≡◌, refl, ◌≢◌, ◌⊎◌, false, List, [], ◌∷◌}
use Rattle.std.proofs.Common.{sym, ◌∙◌, inl, inr, arith}
use Rattle.std.proofs.Math.Path.{ap}
use Prim.Native.Nat.{ℕ, ◌+◌, ◌%◌, ◌≤◌, ◌<◌}
use Rattle.std.proofs.Math.ListN.{set}
use Rattle.model.specs.Map.{a_word, all_codes, code_low, code_word, flags_kept, guarded_last, high, high_lr, low, low_lr, memory_size, place, processor_list}
use Rattle.model.specs.Map.{return_high, return_low, running_page, semaphore_of, state, stop_cleared, topped, word_a, word_s}
use Rattle.model.specs.Bytes.{name, running, store, word, lists, serve, set_code, page_of, set_registers_of}
use Rattle.model.specs.declared.Registers.{Registers}
use Rattle.model.specs.Address.{guarded}
use Rattle.model.specs.Instruction as Instruction
use Rattle.model.specs.Instruction.{own, st1_code, stp_code}
use Rattle.model.specs.Processor as Processor
use Rattle.model.specs.Operate as Operate
use Rattle.model.specs.Answer.{memory_of}
use Rattle.model.specs.Bytes as Model
use Rattle.model.specs.Lists.{count}
use Rattle.laws.specs.Uses.{Sep, proc_page}
use Rattle.laws.specs.Judged.{WellFormed}
use Rattle.laws.specs.Frames.{other}
use Rattle.laws.specs.Who.{running_at, busy}
use Rattle.laws.specs.Ends.{advance_base}
use Rattle.laws.specs.Ways.{Faults, cvi_each, dvi_each, win_each, st1_each, stp_each, st2_each, thirteen_each, reaches_each}
use Rattle.laws.specs.Simple.{pick, named_in, clear_open}
use Rattle.laws.specs.Interrupts.{serve_base, seat}
use Rattle.laws.specs.Waits.{line_fit}
use Rattle.history.specs.Letter.{Same, same_on}
use Rattle.history.specs.Calm.{calm_refl, calm_low, calm_proc, calm_run, calm_lr}
use Rattle.history.specs.Told.{calm_done, calm_jumps, calm_fault, calm_waits, runs_in}
use Rattle.history.specs.Traced.{Lawful, lawful_same}
use Rattle.history.specs.Clocks.{calm_serve}
use Rattle.history.specs.Put.{nothing}

-- ---- instructions, of a well-formed memory where someone runs
pub clear_far : (a : ℕ) → guarded a ≡ false → (a < guarded_last) × (a ≢ processor_list)
clear_far a h = let o = clear_open a h in (o.below, o.between processor_list (omega arith) (omega arith))

module _ {m : List ℕ} (w : WellFormed m) (d : running m ≢ 0) where
  open busy w d use {base as b, runs as hr, ready}

  abbrev Calm : List ℕ → Type 0
  Calm x = Same (lists m processor_list) (lists m) m x

  s : Sep (lists m processor_list) (lists m)
  s = b.facts.sep

  abbrev r : ℕ
  r = running m

  pub fails : (f : ℕ) → Calm (memory_of (Model.fault m f))
  fails f = calm_fault b d f

  pub fault_lawful : (f : ℕ) → Lawful m (memory_of (Model.fault m f)) nothing
  fault_lawful f = lawful_same b (memory_of (Model.fault m f)) (fails f)

  abbrev Ends : Model.Step → Type 0
  Ends o = Calm (memory_of o)

  bad : Faults m Ends
  bad = record { all = λ f i j. fails f }

  -- then done, then a jump; the same one runs
  pub then_done : (x : List ℕ) (len : ℕ) → Calm x → running x ≡ running m → Calm (memory_of (Model.done x len))
  then_done x len f e = same_on f (calm_done s x (rw e (runs_in b)) len)

  pub then_jumps : (x : List ℕ) (a : ℕ) → Calm x → running x ≡ running m → Calm (memory_of (Model.jumps x a))
  then_jumps x a f e = same_on f (calm_jumps s x (rw e (runs_in b)) a)

  calm_code : (c k a : ℕ) → c < all_codes → Calm (set_code m c k a)
  unfolding Instruction.set_code
  calm_code c k a l =
      let v = topped k (high a) in
      let c1 : Calm (set m (code_word c) v) = calm_low s m (code_word c) v (omega arith) (omega arith) in
      same_on c1 (calm_low s (set m (code_word c) v) (code_low c) (low a) (omega arith) (omega arith))

  code_run_lem : (c k a : ℕ) → running (set_code m c k a) ≡ running m
  unfolding Instruction.set_code
  code_run_lem c k a =
      let v = topped k (high a) in
      other (set m (code_word c) v) (code_low c) (low a) running_page (omega arith) ∙ other m (code_word c) v running_page (omega arith)

  pub cvi_calm : (c a n : ℕ) → c < all_codes → Calm (memory_of (Model.cvi m c a n))
  cvi_calm c a n l = cvi_each bad c a n (λ z. then_done (set_code m c own a) n (calm_code c own a l) (code_run_lem c own a))

  pub dvi_calm : (c n : ℕ) → c < all_codes → Calm (memory_of (Model.dvi m c n))
  dvi_calm c n l = dvi_each bad c n (λ z. then_done (set_code m c 0 0) n (calm_code c 0 0 l) (code_run_lem c 0 0))

  pub gin_calm : (len : ℕ) → Calm (memory_of (Model.gin m len))
  unfolding Operate.gin
  gin_calm len =
      let n = b.facts.names.range r hr in
      let k = name m r in
      let t = serve_base k 0 n.name (omega arith) b in
      then_done (serve m k 0) len (calm_serve k 0 n.name (omega arith) b) (running_at t.base ∙ ap (λ (z : ℕ → ℕ). z running_page) t.low)

  pub win_calm : (k c len : ℕ) → c ≤ a_word → Calm (memory_of (Model.win m k c len))
  unfolding Processor.advance
  win_calm k c len u = win_each bad k c len (λ g.
      same_on (calm_lr s m r ((Model.lr m + len) % memory_size) (runs_in b))
      (calm_waits (advance_base b len) (semaphore_of k) c d (seat k c g.low g.high (lists m processor_list)) (omega (arith, ready))
      (line_fit s k c g.low g.high g.count u)))

  state_calm : (p v len : ℕ) → 1 ≤ count p (lists m processor_list) → Calm (memory_of (Model.done (store m p state v) len))
  state_calm p v len h =
      let g = proc_page s p h in
      then_done (store m p state v) len (calm_proc s m p state v h (omega arith) (omega arith) (omega arith) (omega arith) (omega arith))
      (other m (place p state) v running_page (omega arith))

  -- ST1 and STP; DEP is not among them
  pub named_calm : (c n len : ℕ) → (c ≡ st1_code) ⊎ (c ≡ stp_code) → Calm (memory_of (Model.named m c n len))
  unfolding Processor.start Processor.stop
  named_calm c n len (inl e) = rw e (st1_each bad n len (λ z. state_calm (page_of m n) _ len (named_in b n z)))
  named_calm c n len (inr e) = rw e (stp_each bad n len (λ z. state_calm (page_of m n) _ len (named_in b n z)))

  started_calm : (p a len : ℕ) → 1 ≤ count p (lists m processor_list) → Calm (memory_of (Model.done (Model.start (Model.set_lr m p a) p) len))
  unfolding Processor.start Processor.set_lr
  started_calm p a len h =
      let g = proc_page s p h in
      let v = flags_kept (word m p high_lr) (high a) in
      let m1 = store m p high_lr v in
      let m2 = store m1 p low_lr (low a) in
      let t = stop_cleared (word m2 p state) in
      let c1 : Calm m1 = calm_proc s m p high_lr v h (omega arith) (omega arith) (omega arith) (omega arith) (omega arith) in
      let c2 : Calm m2 = same_on c1 (calm_proc s m1 p low_lr (low a) h (omega arith) (omega arith) (omega arith) (omega arith) (omega arith)) in
      let c3 : Calm (store m2 p state t) = same_on c2 (calm_proc s m2 p state t h (omega arith) (omega arith) (omega arith) (omega arith) (omega arith)) in
      let e : running (store m2 p state t) ≡ running m = other m2 (place p state) t running_page (omega arith)
      ∙ other m1 (place p low_lr) (low a) running_page (omega arith) ∙ other m (place p high_lr) v running_page (omega arith) in
      then_done (store m2 p state t) len c3 e

  pub st2_calm : (n a len : ℕ) → Calm (memory_of (Model.st2 m n a len))
  st2_calm n a len = st2_each bad n a len (λ g. started_calm (page_of m n) a len (named_in b n g.found))

  -- ---- code 13: what it writes, and that the same one runs
  abbrev Both : List ℕ → Type 0
  Both x = Calm x × (running x ≡ running m)

  reg : (k v : ℕ) (x : List ℕ) → word_a ≤ k → k ≤ state → Both x → Both (store x r k v)
  reg k v x l u h = (same_on h.0 (calm_run s x r k v (runs_in b) l (omega arith)), other x (place r k) v running_page (omega arith) ∙ h.1)

  free : (a v : ℕ) (x : List ℕ) → guarded a ≡ false → a ≢ running_page → Both x → Both (set x a v)
  free a v x g n h = let t = clear_far a g in (same_on h.0 (calm_low s x a v t.0 t.1), other x a v running_page (λ e. n (sym e)) ∙ h.1)

  not_running : (a : ℕ) → guarded a ≡ false → a ≢ running_page
  not_running a h = (clear_open a h).between running_page (omega arith) (omega arith)

  worked_both : (o a : ℕ) → guarded a ≡ false → Both (Model.worked m o a)
  unfolding Operate.worked Operate.adds Operate.stores_a Operate.ands Operate.increments
  worked_both o a h =
      let n = not_running a h in
      let k : Both m = (calm_refl m, refl) in
      pick Both (Model.adds m a ∷ Model.stores_a m a ∷ Model.ands m a ∷ Model.increments m a ∷ []) m o o 0 (omega arith) (
        (λ e. reg high_lr _ _ (omega arith) (omega arith) (reg word_a _ m (omega arith) (omega arith) k)),
        (
          (λ e. reg word_a 0 _ (omega arith) (omega arith) (free a _ m h n k)),
          ((λ e. reg word_a _ m (omega arith) (omega arith) k), ((λ e. free a _ m h n k), tt)),
        ),
      ) k

  returns_both : (n : ℕ) → Both (Model.return_to m n)
  unfolding Operate.return_to
  returns_both n =
      let m1 = set m return_high (high n) in
      let c1 : Calm m1 = calm_low s m return_high (high n) (omega arith) (omega arith) in (
        same_on c1 (calm_low s m1 return_low (low n) (omega arith) (omega arith)),
        other m1 return_low (low n) running_page (omega arith)
            ∙ other m return_high (high n) running_page (omega arith),
      )

  pub thirteen_calm : (x o a len : ℕ) → Calm (memory_of (Model.thirteen m x o a len))
  thirteen_calm x o a len = thirteen_each bad x o a len (λ e. let v = returns_both ((Model.lr m + len) % memory_size) in
      reaches_each bad o e len (then_jumps _ e v.0 v.1) (then_jumps m e (calm_refl m) refl) (λ g.
      let t = worked_both o e g in then_done (Model.worked m o e) len t.0 t.1))

  -- ---- setting registers
  pub registers_calm : (x : Registers) → Calm (set_registers_of m r x)
  unfolding Processor.set_registers_of Processor.set_flags_lr
  registers_calm x =
      let k : Both m = (calm_refl m, refl) in
      (reg state _ _ (omega arith) (omega arith) (reg low_lr _ _ (omega arith) (omega arith) (reg high_lr _ _ (omega arith) (omega arith)
      (reg word_s _ _ (omega arith) (omega arith) (reg word_a _ m (omega arith) (omega arith) k))))).0
