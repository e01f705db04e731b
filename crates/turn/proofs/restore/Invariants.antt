use Rattle.std.proofs.Common.{◌≡◌}
use Rattle.model.specs.Map as Map
use Rattle.model.specs.Bytes as Model
use Rattle.turn.proofs.restore.Given as goal

abbrev pub invariant-loop-index : goal.invariant-loop-index
invariant-loop-index l = Model.restored l.index l.m l.words ≡ Model.restored Map.kept_count l.fn.m l.words
