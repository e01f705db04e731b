use Rattle.std.proofs.Common.{◌+◌, ◌*◌}
use Rattle.execute.proofs.+execute_exi_step.Given as goal

-- how many more may run: each goes from the number to the code, and from EXI to the number
abbrev pub decreases-execute : goal.decreases-execute
decreases-execute l = 3 * l.depth + 2

abbrev pub decreases-run : goal.decreases-run
decreases-run l = 3 * l.depth + 1

abbrev pub decreases-exi_step : goal.decreases-exi_step
decreases-exi_step l = 3 * l.depth
