use Rattle.std.proofs.Common.{◌≡◌}
use Rattle.comparing.specs.Cursors as Cursors
use Rattle.comparing.proofs.names_step.Given as goal

-- the names that are left decide
abbrev pub invariant-loop-name : goal.invariant-loop-name
invariant-loop-name l = Cursors.names_step l.first l.second l.name l.told ≡ Cursors.names_step l.fn.first l.fn.second l.fn.from l.fn.told
