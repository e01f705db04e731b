-- The entry of a fault, and its straight line; an instruction done on a memory that was found as m₁.
use Prim.Native.Nat.{ℕ, ◌+◌, ◌≤◌, ◌<◌}
use mathlib.Core.Path.{◌≡◌}
use borrow.Author.Tests.{lt-ltb, le-ltb}
use Rattle.model.specs.Told.Answer.{Fault}
use Rattle.model.specs.Answer.Outcome.{gives}
use Rattle.model.specs.Map.{pair, first_unused, entry_at, entries_full}
use Rattle.model.specs.Fault as Faults
use Rattle.model.specs.Bytes.{Memory, Step, at, write, running, name, stop, entered, who_runs, done, fault}

-- w is n made wide
module _ (m : Memory) (e n : ℕ) (en : n ≡ at m first_unused) where
  pub enter_room : (m₁ m₂ : Memory) (w : ℕ) → n < entries_full → w ≡ n → m₁ ≡ write m (entry_at w) e → m₂ ≡ write m₁ first_unused (n + 1)
      → m₂ ≡ entered m e
  unfolding Faults.entered
  enter_room m₁ m₂ w h ew e₁ e₂ = rw (← en, lt-ltb n entries_full h, ← ew, ← e₁, ew) e₂

  pub enter_full : entries_full ≤ n → m ≡ entered m e
  unfolding Faults.entered
  enter_full h = rw (← en, le-ltb n entries_full h)

pub fault_is : (m m₁ m₂ : Memory) (f n : ℕ) → n ≡ name m (running m) → m₁ ≡ entered (stop m (running m)) (pair n f) → m₂ ≡ who_runs m₁
    → gives (Fault f n) m₂ ≡ fault m f
unfolding Faults.fault
fault_is m m₁ m₂ f n en e₁ e₂ = rw (← en, ← e₁, ← e₂)

pub done_of : (m m₁ : Memory) (o : Step) (len : ℕ) → m₁ ≡ m → o ≡ done m₁ len → o ≡ done m len
done_of m m₁ o len e₁ e = rw (← e₁) e

pub ruleset entering = (enter_room, enter_full)
