-- A rule at the lists of a memory's heads.
use Rattle.std.specs.Prelude.{ℕ, List}
use Rattle.model.specs.Map.{processor_list}
use Rattle.model.specs.Lists.{Lists}
use Rattle.model.specs.Bytes.{Memory, lists}

-- a rule at a memory, its processors and its lists
abbrev pub rule : {A : Type 0} → (Memory → List ℕ → Lists → A) → Memory → A
rule f m = f m (lists m processor_list) (lists m)
