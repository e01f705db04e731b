use Rattle.std.proofs.Common.{◌≡◌, ◌<◌, ◌-◌}
use Rattle.model.specs.Map as Map
use Rattle.model.specs.Bytes as Model
use Rattle.deleting.proofs.Leaving.mark_all.Given as goal

abbrev pub invariant-loop : goal.invariant-loop
invariant-loop l =
    (l.cell < 8192)
    × (Model.all_marked (Map.control_pages - l.counter) l.m l.self.name.0 l.cell ≡ Model.all_marked Map.control_pages l.fn.m l.self.name.0 Map.processor_list)
