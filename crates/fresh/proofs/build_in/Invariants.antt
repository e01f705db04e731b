use Rattle.std.proofs.Common.{◌≡◌}
use Rattle.model.specs.Map as Map
use Rattle.model.specs.Bytes as Model
use Rattle.fresh.proofs.build_in.Given as goal

abbrev pub invariant-loop-code : goal.invariant-loop-code
invariant-loop-code l = Model.all_built_in l.code l.m ≡ Model.all_built_in Map.built_in_codes l.fn.m
