use Rattle.std.proofs.Common.{◌≤◌, ◌+◌, ◌*◌, ◌-◌, length}
use Rattle.screen.specs.Sizes.{number_room, kept_room}
use Rattle.screen.proofs.kept.Kept.registers.Given as goal

-- there is room for the registers that are left, and for the end of the line
abbrev pub invariant-loop-value : goal.invariant-loop-value
invariant-loop-value l = length l.self + (1 + number_room) * (7 - l.value-index) + 1 ≤ kept_room
