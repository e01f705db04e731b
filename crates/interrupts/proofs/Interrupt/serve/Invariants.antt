use Rattle.std.proofs.Common.{◌-◌}
use Rattle.model.specs.Map as Map
use Rattle.model.specs.Bytes as Model
use Rattle.interrupts.proofs.Laws.{Serves}
use Rattle.interrupts.proofs.Interrupt.serve.Given as goal

abbrev pub invariant-loop : goal.invariant-loop
invariant-loop l = Serves (Map.control_pages - l.counter) l.m l.self.number l.self.class l.next (Model.serve l.fn.m l.self.number l.self.class)
