-- What WIN and code 13 come to behind their faults.
use Prim.Native.Nat.{ℕ, zero, suc, ◌+◌, ◌/◌, ◌≤◌, ◌<◌}
use mathlib.Core.Path.{◌≡◌, refl, sym, ap, ◌∙◌}
use mathlib.Core.Bool.{Bool, true, false, cond}
use lib.Dec.{eqb}
use borrow.Author.Tests.{lt-leb, le-leb, lt-ltb, eq-eqb, ne_eqb}
use native.Mathlib.Omega.{arith}
use Rattle.std.specs.Prelude.{Result, Ok, Err}
use Rattle.model.specs.declared.Registers.{Registers}
use Rattle.model.specs.declared.fault.Fault.{Fault}
use Rattle.model.specs.declared.fault.Fault.TheVariants.{Protected}
use Rattle.model.specs.declared.instructions.Operation.{Operation}
use Rattle.model.specs.declared.instructions.Operation.TheVariants.{Add, Store, And, Increment, Jump, Vep}
use Rattle.model.specs.Coded.{fault_number, operation_number, operation_of}
use Rattle.model.specs.Map.{place, word_values, word_a, low, semaphore_of, x_register, index_number, indirect, index_part}
use Rattle.model.specs.Address.{wrapped, clear}
use Rattle.model.specs.Answer.{protected}
use Rattle.model.specs.Instruction as Instruction
use Rattle.model.specs.Processor as Processor
use Rattle.model.specs.Processor.{accumulated, carried}
use Rattle.model.specs.Operate as Operate
use Rattle.model.specs.Bytes.{Memory, Step, at, word, running, registers_of, hand_back, address_at, lr, advance, jumps, waits, adds, fault}
use Rattle.model.specs.Bytes.{return_to, reaches, follows, thirteen, indexed}
use Rattle.codes.specs.Sum as Sum
use Rattle.codes.specs.Sum.{summed}
use Rattle.codes.specs.Target as Target
use Rattle.codes.specs.Target.{followed, target}
use Rattle.processors.proofs.Records.{Bytes, back_added}
use Rattle.processors.proofs.Ways.{ways}
use Rattle.answers.proofs.Laws.{done_of}

-- s is the semaphore of the queue
pub win_waits : (m m₁ : Memory) (o : Step) (k c s len : ℕ) → m₁ ≡ advance m len → s ≡ semaphore_of k → o ≡ waits m₁ s c → o ≡ waits (advance m len) (semaphore_of k) c
win_waits m m₁ o k c s len e₁ es e = rw (← e₁, ← es) e

-- ---- code 13
-- the record that was read, u the word at a, v the same made wide, A as x, P as y
pub sum_is : (m : Memory) (a p u v x y : ℕ) (r n c : Registers) → r ≡ registers_of m p → u ≡ at m a → v ≡ u → x ≡ low (r.a + v) → y ≡ (r.a + v) / word_values
    → n ≡ accumulated r x → c ≡ carried n y
    → c ≡ summed m p a
unfolding Sum.summed Processor.registers_of
sum_is m a p u v x y r n c er eu ev ex ey en ec = rw (ec, en, ex, ey, ev, eu, er)

pub add_is : (m m₁ : Memory) (a p : ℕ) (r : Registers) → Bytes m → p ≡ running m → r ≡ summed m p a → m₁ ≡ hand_back m p r → m₁ ≡ adds m a
unfolding Operate.adds Sum.summed
add_is m m₁ a p r b ep er e₁ =
    let s : ℕ = word m p word_a + at m a in
    let k : word m p word_a < 256 = (b (place p word_a)).fits in
    let l : at m a < 256 = (b a).fits in
    let f : low s < 256 = omega arith in
    let g : s / word_values < 2 = omega arith in
    e₁ ∙ rw er (rw (← ep) (back_added m p b (low s) (s / word_values) f g))

pub guarded_reached : (m : Memory) (r : Step) → r ≡ fault m (fault_number Protected) → r ≡ fault m protected
unfolding fault_number
guarded_reached m r e = e

module _ (m : Memory) where
  module _ (r : Step) (o a len : ℕ) where
    pub vep_jumps : (m₁ : Memory) (l n : ℕ) → l ≡ lr m → n ≡ wrapped l len → m₁ ≡ return_to m n → r ≡ jumps m₁ a
        → r ≡ jumps (return_to m (wrapped (lr m) len)) a
    vep_jumps m₁ l n el en e₁ e = rw (← el, ← en, ← e₁) e

  module _ (x a : ℕ) where
    -- i is XN made wide
    pub indexed_yes : (i b r : ℕ) → 4 ≤ x → i ≡ index_number x → b ≡ address_at m (x_register i) → r ≡ wrapped a b → r ≡ indexed m x a
    unfolding Instruction.indexed
    indexed_yes i b r h ei eb er = rw (le-leb 4 x h, ← ei, ← eb) er

    pub indexed_no : x < 4 → a ≡ indexed m x a
    unfolding Instruction.indexed
    indexed_no h = rw (lt-leb 4 x h)

pub ruleset ends = (done_of, ways)

pub ruleset codes = (win_waits, indexed_yes, indexed_no)

pub ruleset reaching = (guarded_reached, vep_jumps, ends)

-- ---- code 13 by its target: what is done at it, or the fault that comes before
abbrev pub ended : Memory → ℕ → Result (Operation × ℕ) Fault → Step
ended m len (Ok t) = reaches m (operation_number t.0) t.1 len
ended m len (Err f) = fault m (fault_number f)

module _ (m : Memory) (len : ℕ) where
  chosen : (p : Operation) (a : ℕ) (b c : Bool)
      → cond b (reaches m (operation_number p) a len) (cond c (reaches m (operation_number p) (address_at m a) len) (fault m protected))
      ≡ ended m len (cond b (Ok (p, a)) (cond c (Ok (p, address_at m a)) (Err Protected)))
  unfolding fault_number
  chosen p a true c = refl
  chosen p a false true = refl
  chosen p a false false = refl

  followed_is : (i : ℕ) (p : Operation) (a : ℕ) → follows m i (operation_number p) a len ≡ ended m len (followed m i p a)
  unfolding Operate.follows
  followed_is i p a = chosen p a (eqb i 0) (clear 2 a)

  module _ (x a : ℕ) where
    pub thirteen_by : (o : ℕ) → thirteen m x o a len ≡ ended m len (target m x o a)
    unfolding Operate.thirteen Target.target operation_of operation_number fault_number
    thirteen_by zero = followed_is (indirect x) Add (indexed m (index_part x) a)
    thirteen_by (suc zero) = followed_is (indirect x) Store (indexed m (index_part x) a)
    thirteen_by (suc (suc zero)) = followed_is (indirect x) And (indexed m (index_part x) a)
    thirteen_by (suc (suc (suc zero))) = followed_is (indirect x) Increment (indexed m (index_part x) a)
    thirteen_by (suc (suc (suc (suc zero)))) = followed_is (indirect x) Jump (indexed m (index_part x) a)
    thirteen_by (suc (suc (suc (suc (suc zero))))) = followed_is (indirect x) Vep (indexed m (index_part x) a)
    thirteen_by (suc (suc (suc (suc (suc (suc o)))))) =
        let h : 5 < suc (suc (suc (suc (suc (suc o))))) = omega arith in
        rw (lt-ltb 5 (suc (suc (suc (suc (suc (suc o)))))) h)

    pub thirteen_done : (o b : ℕ) (p : Operation) (r : Step) → Ok (p, b) ≡ target m x o a → r ≡ reaches m (operation_number p) b len → r ≡ thirteen m x o a len
    thirteen_done o b p r e h = h ∙ ap (ended m len) e ∙ sym (thirteen_by o)

    pub thirteen_fault : (o : ℕ) (f : Fault) (r : Step) → Err f ≡ target m x o a → r ≡ fault m (fault_number f) → r ≡ thirteen m x o a len
    thirteen_fault o f r e h = h ∙ ap (ended m len) e ∙ sym (thirteen_by o)

module _ (m : Memory) (x o a : ℕ) (r : Result Operation Fault) (er : r ≡ operation_of o) where
  pub target_none : (f : Fault) → r ≡ Err f → Err f ≡ target m x o a
  unfolding Target.target
  target_none f e = rw (← er, e)

  module _ (p : Operation) (b : ℕ) (e : r ≡ Ok p) (eb : b ≡ indexed m (index_part x) a) where
    pub target_direct : x < 8 → Ok (p, b) ≡ target m x o a
    unfolding Target.target
    target_direct h = let z : x / 8 ≡ 0 = omega arith in rw (← er, e, ← eb, eq-eqb (x / 8) 0 z)

    module _ (t : Bool) (et : t ≡ clear 2 b) (h : 8 ≤ x) where
      pub target_clear : (d : ℕ) → t ≡ true → d ≡ address_at m b → Ok (p, d) ≡ target m x o a
      unfolding Target.target
      target_clear d z ed = rw (← er, e, ← eb, ne_eqb (x / 8) 0 (λ w. omega arith), ← et, z, ed)

      pub target_guarded : t ≡ false → Err Protected ≡ target m x o a
      unfolding Target.target
      target_guarded z = rw (← er, e, ← eb, ne_eqb (x / 8) 0 (λ w. omega arith), ← et, z)

pub ruleset targets = (thirteen_done, thirteen_fault, target_none, target_direct, target_clear, target_guarded)
