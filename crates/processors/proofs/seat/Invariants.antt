use Rattle.std.proofs.Common.{◌≡◌}
use Rattle.model.specs.Bytes as Model
use Rattle.processors.proofs.seat.Given as goal

abbrev pub invariant-loop-before : goal.invariant-loop-before
invariant-loop-before l = Model.seat l.before l.m l.page.0 ≡ Model.seat l.interrupts l.m l.page.0
