-- The codes of the three instructions that are given a name alone.
use Rattle.std.specs.Prelude.{ℕ}
use Rattle.creating.specs.declared.Order.{Order}
use Rattle.creating.specs.declared.Order.TheVariants.{Start, Stop, Delete}
use Rattle.model.specs.Instruction.{st1_code, stp_code, dep_code}

abbrev pub code_of : Order → ℕ
code_of Start = st1_code
code_of Stop = stp_code
code_of Delete = dep_code
