-- A call of the code is a step of a run: the memory that it leaves is the one that the model's call leaves.
use mathlib.Core.Path.{◌≡◌, sym, ap, subst}
use mathlib.Core.Bool.{true}
use mathlib.Core.List.{List, [], ◌∷◌}
use Prim.Native.Nat.{ℕ}
use native.Mathlib.Omega.{arith}
use lib.ListN.{length}
use Rattle.model.specs.Told.{Answer}
use Rattle.model.specs.Told.{Held}
use Rattle.model.specs.Told.{Verdict}
use Rattle.model.specs.declared.Registers.{Registers}
use Rattle.model.specs.Map.{memory_size}
use Rattle.model.specs.Told.Fit.{Good}
use Rattle.model.specs.Fresh.{startable}
use Rattle.model.specs.Layout.{of_file}
use Rattle.model.specs.Answer as Answers
use Rattle.model.specs.Answer.{Outcome, memory_of}
use Rattle.model.specs.Answer.Outcome.{gives}
use Rattle.model.specs.Bytes as Model
use Rattle.laws.specs.Words.{Small}
use Rattle.laws.specs.Calls as Calls
use Rattle.laws.specs.Calls.{Act, after}
use Rattle.laws.specs.Calls.Act.{fresh_start, fresh_from, instruct, signal, signals, set, read, judge_it}
use Rattle.history.specs.Lives.{Past, Run, none_yet, later}
use Rattle.history.specs.Lives.Run.{start, settle, call}

leaves : {A : Type 0} {r : A} {n : List ℕ} {o : Outcome A (List ℕ)} → gives r n ≡ o → memory_of o ≡ n
unfolding Answers.memory_of
leaves {A} e = ap (λ (o : Outcome A (List ℕ)). memory_of o) (sym e)

goes : (a : Act) (m n : List ℕ) → after a m ≡ n → (h : Past) → Run m h → Run n (later a m h)
goes a m n e h k = subst (λ (x : List ℕ). Run x (later a m h)) e (call m h a k)

pub fresh_goes : (m n : List ℕ) (r : Answer) (line d : ℕ) → gives r n ≡ Model.fresh m line d → (h : Past) → Run m h → Run n (later (fresh_start line d) m h)
unfolding Calls.after
fresh_goes m n r line d e = goes (fresh_start line d) m n (leaves e)

pub fresh_begins : (m n : List ℕ) (r : Answer) (line d : ℕ) → gives r n ≡ Model.fresh m line d → Small m → length m ≡ memory_size
    → startable line d ≡ true → Run n none_yet
fresh_begins m n r line d e s l t = subst (λ (x : List ℕ). Run x none_yet) (leaves e) (start m line d l s t)

pub settings_go : (m n : List ℕ) (r : Answer) (f : List ℕ) → gives r n ≡ Model.from_settings m f → (h : Past) → Run m h → Run n (later (fresh_from f) m h)
unfolding Calls.after
settings_go m n r f e = goes (fresh_from f) m n (leaves e)

pub settings_begin : (m n : List ℕ) (r : Answer) (f : List ℕ) → gives r n ≡ Model.from_settings m f → Small m → length m ≡ memory_size → of_file f ≡ Good
    → Run n none_yet
settings_begin m n r f e s l t = subst (λ (x : List ℕ). Run x none_yet) (leaves e) (settle m f l s t)

pub instruction_goes : (m n : List ℕ) (r : Answer) → gives r n ≡ Model.instruction m → (h : Past) → Run m h → Run n (later instruct m h)
unfolding Calls.after
instruction_goes m n r e = goes instruct m n (leaves e)

pub interrupt_goes : (m n : List ℕ) (r : Answer) (k c : ℕ) → gives r n ≡ Model.interrupt m k c → (h : Past) → Run m h → Run n (later (signal k c) m h)
unfolding Calls.after
interrupt_goes m n r k c e = goes (signal k c) m n (leaves e)

pub burst_goes : (m n : List ℕ) (r : Answer) (l : List ℕ) → gives r n ≡ Model.burst m l → (h : Past) → Run m h → Run n (later (signals l) m h)
unfolding Calls.after
burst_goes m n r l e = goes (signals l) m n (leaves e)

pub set_goes : (m n : List ℕ) (r : Answer) (x : Registers) → gives r n ≡ Model.set_registers m x → (h : Past) → Run m h → Run n (later (set x) m h)
unfolding Calls.after
set_goes m n r x e = goes (set x) m n (leaves e)

pub read_goes : (m : List ℕ) (r : Held) → gives r m ≡ Model.read_registers m → (h : Past) → Run m h → Run m (later read m h)
unfolding Calls.after
read_goes m r e = goes read m m (leaves e)

pub judge_goes : (m : List ℕ) (r : Verdict) → gives r m ≡ Model.judge m → (h : Past) → Run m h → Run m (later judge_it m h)
unfolding Calls.after
judge_goes m r e = goes judge_it m m (leaves e)

-- a memory without words
pub none_small : (m : List ℕ) → length m ≡ 0 → Small m
none_small [] e = record { at = λ a. omega arith }
none_small (x ∷ m) e = absurd (omega arith)

pub ruleset goings = (fresh_goes, fresh_begins, settings_go, settings_begin, instruction_goes, interrupt_goes, burst_goes, set_goes, read_goes, judge_goes)
