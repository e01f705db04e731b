-- The instruction that a code names, and what it is given; or the fault that comes before it is run.
use Rattle.std.specs.Prelude.{ℕ, ◌-◌, Result, Ok, Err}
use Rattle.model.specs.declared.Arguments.{Arguments}
use Rattle.model.specs.declared.fault.Fault.{Fault}
use Rattle.model.specs.declared.fault.Fault.TheVariants.{Protected, BadArgument}
use Rattle.model.specs.declared.instructions.Code.{Code}
use Rattle.model.specs.Coded.{code_number, code_of}
use Rattle.model.specs.Instruction.{length_for, count_for, shape_for}
use Rattle.model.specs.Address.{unless, wrapped, clear}
use Rattle.model.specs.Bytes as Model
use Rattle.model.specs.Bytes.{Memory, within}

-- "11 at other instruction words", of the instruction at n; "1 absent code" where there is none
abbrev pub direct_of : Memory → ℕ → Result Code Fault → Result (Code × Arguments) Fault
direct_of m n (Ok k) =
    unless (clear (length_for (code_number k) - 2) (wrapped n 2)) (Err Protected)
    (Ok (k, Model.direct m n (shape_for (code_number k))))
direct_of m n (Err f) = Err f

unfoldable pub direct : Memory → ℕ → ℕ → Result (Code × Arguments) Fault
direct m n c = direct_of m n (code_of c)

-- EXI: "then 11; 12", of the words at e
abbrev pub pointed_of : Memory → ℕ → Result Code Fault → Result (Code × Arguments) Fault
pointed_of m e (Ok k) =
    unless (clear (count_for (code_number k)) e) (Err Protected)
    (unless (within (count_for (code_number k)) m e (shape_for (code_number k))) (Err BadArgument)
    (Ok (k, Model.pointed m e (shape_for (code_number k)))))
pointed_of m e (Err f) = Err f

unfoldable pub pointed : Memory → ℕ → ℕ → Result (Code × Arguments) Fault
pointed m c e = pointed_of m e (code_of c)
