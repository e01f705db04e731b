-- A law for each way through a fresh start.
use Prim.Native.Nat.{ℕ, zero, suc, ◌+◌, ◌-◌, ◌*◌, ◌<◌, ◌≤◌}
use mathlib.Core.Path.{◌≡◌, refl, sym, ◌∙◌}
use native.Mathlib.Omega.{arith}
use Rattle.model.specs.Map.{pair, topped, first_control, link, label, free_list, free_semaphore, processor_list, code_word, built_in_codes}
use Rattle.model.specs.Map.{first_unused}
use Rattle.model.specs.Map.{first_name, first_priority, start_address, guarded_last, page_size, kernel_pages, interrupt_page, control_pages, place}
use Rattle.model.specs.declared.Registers.{Registers}
use Rattle.model.specs.Processor.{starting_at}
use Rattle.model.specs.Instruction.{built_in}
use Rattle.model.specs.Fresh as Fresh
use Rattle.model.specs.Bytes.{Memory, zeroed, store, write, hand_back, runs, cleared, timed, first_processor, chained, freed, all_built_in, started}

pub cleared_is : (m m₁ m₂ m₃ : Memory) → m₁ ≡ zeroed page_size m 0 → m₂ ≡ zeroed (kernel_pages * page_size) m₁ (place interrupt_page 0)
    → m₃ ≡ zeroed (control_pages * page_size) m₂ guarded_last → m₃ ≡ cleared m
unfolding Fresh.cleared
cleared_is m m₁ m₂ m₃ e₁ e₂ e₃ = rw (← e₁, ← e₂) e₃

pub first_is : (m m₁ m₂ m₃ m₄ : Memory) (r : Registers) → m₁ ≡ store m first_control label (pair first_priority first_name) → r ≡ starting_at start_address 0
    → m₂ ≡ hand_back m₁ first_control r → m₃ ≡ write m₂ processor_list first_control → m₄ ≡ runs m₃ first_control → m₄ ≡ first_processor m
unfolding Fresh.first_processor
first_is m m₁ m₂ m₃ m₄ r e₁ er e₂ e₃ e₄ = rw (← e₁, ← er, ← e₂, ← e₃) e₄

-- ---- the loop that links the pages from p on, up to the last, and its ends
chained_more : (n j : ℕ) (m : Memory) (p : ℕ) → n ≡ j + 1 → chained n m p ≡ chained j (store m p link (p + 1)) (p + 1)
unfolding Fresh.chained
chained_more zero j m p e = absurd (omega arith)
chained_more (suc n) j m p e = let h : n ≡ j = omega arith in rw h

chained_none : (n : ℕ) (m : Memory) (p : ℕ) → n ≡ 0 → m ≡ chained n m p
unfolding Fresh.chained
chained_none zero m p e = refl
chained_none (suc n) m p e = absurd (omega arith)

pub chained_first : (m m₁ m₂ : Memory) → m₁ ≡ write m free_list 237 → m₂ ≡ write m₁ free_semaphore 19 → chained (255 - 237) m₂ 237 ≡ freed m
unfolding Fresh.freed
chained_first m m₁ m₂ e₁ e₂ = rw (e₂, e₁)

pub chained_on : (m m₁ r : Memory) (p : ℕ) → chained (255 - p) m p ≡ r → p < 255 → m₁ ≡ store m p link (p + 1) → chained (255 - (p + 1)) m₁ (p + 1) ≡ r
chained_on m m₁ r p e l e₁ = rw e₁ (sym (chained_more (255 - p) (255 - (p + 1)) m p (omega arith)) ∙ e)

pub chained_end : (m r : Memory) (p : ℕ) → chained (255 - p) m p ≡ r → 255 ≤ p → m ≡ r
chained_end m r p e l = chained_none (255 - p) m p (omega arith) ∙ e

pub ruleset chaining = (chained_first, chained_on, chained_end)

-- ---- the loop that builds codes in, the last first: c are left
built_more : (c j : ℕ) (m : Memory) → c ≡ j + 1 → all_built_in c m ≡ all_built_in j (write m (code_word j) (topped built_in 0))
unfolding Fresh.all_built_in
built_more zero j m e = absurd (omega arith)
built_more (suc c) j m e = let h : c ≡ j = omega arith in rw h

pub built_on : (c : ℕ) (m m₁ r : Memory) → all_built_in c m ≡ r → 0 < c → m₁ ≡ write m (code_word (c - 1)) (topped built_in 0) → all_built_in (c - 1) m₁ ≡ r
built_on c m m₁ r e l e₁ = rw e₁ (sym (built_more c (c - 1) m (omega arith)) ∙ e)

pub built_end : (c : ℕ) (m r : Memory) → all_built_in c m ≡ r → c ≤ 0 → m ≡ r
unfolding Fresh.all_built_in
built_end zero m r e l = e
built_end (suc c) m r e l = absurd (omega arith)

pub ruleset building = (built_on, built_end)

pub started_is : (m m₁ m₂ m₃ m₄ m₅ m₆ : Memory) (l d : ℕ) → m₁ ≡ cleared m → m₂ ≡ timed m₁ l d → m₃ ≡ first_processor m₂ → m₄ ≡ freed m₃
    → m₅ ≡ all_built_in built_in_codes m₄ → m₆ ≡ write m₅ first_unused 1 → m₆ ≡ started m l d
unfolding Fresh.started
started_is m m₁ m₂ m₃ m₄ m₅ m₆ l d e₁ e₂ e₃ e₄ e₅ e₆ = rw (← e₁, ← e₂, ← e₃, ← e₄, ← e₅) e₆
