-- Code 13 before it is done: CODE1 and the address that it is done at, or the fault that comes before.
use Rattle.std.specs.Prelude.{ℕ, Result, Ok, Err, cond, eqb}
use Rattle.model.specs.declared.fault.Fault.{Fault}
use Rattle.model.specs.declared.fault.Fault.TheVariants.{Protected}
use Rattle.model.specs.declared.instructions.Operation.{Operation}
use Rattle.model.specs.Coded.{operation_of}
use Rattle.model.specs.Map.{indirect, index_part}
use Rattle.model.specs.Address.{unless, clear}
use Rattle.model.specs.Bytes.{Memory, address_at, indexed}

-- "indirection comes after it and reads two words the same way"
abbrev pub followed : Memory → ℕ → Operation → ℕ → Result (Operation × ℕ) Fault
followed m i o a = cond (eqb i 0) (Ok (o, a)) (unless (clear 2 a) (Err Protected) (Ok (o, address_at m a)))

abbrev pub targeted : Memory → ℕ → Result Operation Fault → ℕ → Result (Operation × ℕ) Fault
targeted m x (Ok o) a = followed m (indirect x) o (indexed m (index_part x) a)
targeted m x (Err f) a = Err f

unfoldable pub target : Memory → ℕ → ℕ → ℕ → Result (Operation × ℕ) Fault
target m x o a = targeted m x (operation_of o) a
