use Rattle.std.proofs.Common.{◌≡◌, ◌-◌}
use Rattle.model.specs.Map as Map
use Rattle.model.specs.Bytes as Model
use Rattle.deleting.proofs.Leaving.empty.Given as goal

abbrev pub invariant-loop : goal.invariant-loop
invariant-loop l = Model.emptied (Map.control_pages - l.counter) l.m l.self.name.0 l.header ≡ Model.emptied Map.control_pages l.fn.m l.self.name.0 l.header
