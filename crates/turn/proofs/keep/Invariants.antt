use Rattle.std.proofs.Common.{◌≡◌}
use Rattle.model.specs.Map as Map
use Rattle.model.specs.Bytes as Model
use Rattle.turn.proofs.keep.Given as goal

abbrev pub invariant-loop-index : goal.invariant-loop-index
invariant-loop-index l = Model.kept l.index l.m l.page.0 l.words ≡ Model.kept Map.kept_count l.fn.m l.page.0 l.words
