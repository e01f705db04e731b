-- The rows of the table at a memory: the lowest of what is told of those that break a rule.
use Rattle.std.specs.Prelude.{ℕ, min, List, Option}
use Rattle.std.specs.List.{reduce}
use Rattle.model.specs.Map.{place, upper, lower, processor_list, reason, q1, last_flag, last_name, last_priority}
use Rattle.model.specs.Store.{bytes}
use Rattle.model.specs.Rule.{Rule, both, most, each, among}
use Rattle.model.specs.Lists.{Lists}
use Rattle.model.specs.Tell.{broken}
use Rattle.model.specs.Judge as Judge
use Rattle.model.specs.Classes as Classes
use Rattle.model.specs.Bytes.{Memory, word, met}

-- a rule or a class at a memory, its processors and its lists
abbrev pub here : {A : Type 0} → (Memory → List ℕ → Lists → A) → Memory → A
here f m = f m (met m processor_list) (met m)

-- the lowest of the numbers, if there are any
abbrev pub lowest : List ℕ → Option ℕ
lowest xs = reduce min xs

-- the lowest of the addresses a that those of xs tell that break the rule r
abbrev pub lowest_by : (ℕ → ℕ) → (ℕ → Rule) → List ℕ → Option ℕ
lowest_by a r xs = lowest (broken a r xs)

-- of the ends of the lists of the heads hs
abbrev pub lowest_end : Memory → List ℕ → Option ℕ
lowest_end m hs = lowest_by (here (Classes.false_end bytes) m) (here (Classes.ends bytes) m) hs

-- what p waits for has a flag, and is none of the messages in its Q1
abbrev pub silent : Memory → ℕ → Rule
silent m p = both (most (lower (word m p reason)) last_flag) (each (met m (place p q1)) (Judge.unasked bytes m p))

-- the name and the priority of a label lie in 1-15
abbrev pub ranked : ℕ → Rule
ranked w = both (among (lower w) 1 last_name) (among (upper w) 1 last_priority)
