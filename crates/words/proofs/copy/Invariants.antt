use Rattle.std.proofs.Common.{◌≡◌, ◌<◌, ◌-◌}
use Rattle.model.specs.Bytes as Model
use Rattle.words.proofs.copy.Given as goal

abbrev pub invariant-loop : goal.invariant-loop
invariant-loop l =
    (l.source < 8192) × (l.target < 8192) × (Model.copy (l.count - l.counter) l.m l.source l.target ≡ Model.copy l.fn.count l.fn.m l.fn.from l.fn.to)
