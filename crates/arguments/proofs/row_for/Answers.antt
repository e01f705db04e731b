use Rattle.std.proofs.Common.{sym, arith}
use lib.ListN.{get_or-eq_default}
use Rattle.model.specs.Coded.{shape_number}
use Rattle.model.specs.Instruction.{lengths, argument_counts, shapes, bare}
use Rattle.model.proofs.Codes.{number_of, no_code}
use Rattle.arguments.proofs.row_for.Goals as goal

pub returns-in-Ok : goal.returns-in-Ok
returns-in-Ok c = rw (number_of c.args.code c.in-Ok.code c.in-Ok.ensures) at c.row.ensures

pub returns-in-Err : goal.returns-in-Err
unfolding shape_number
returns-in-Err c =
    let l = (no_code c.args.code _ c.in-Err.ensures).0 in (
      sym (get_or-eq_default lengths 2 l),
      sym (get_or-eq_default argument_counts 0 l),
      sym (get_or-eq_default shapes bare l),
      omega arith,
      omega arith,
      omega arith,
    )
