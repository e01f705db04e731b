use Rattle.std.proofs.Common.{◌≡◌, ◌+◌, drop}
use Rattle.arrivals.specs.Pairs.{pairs_tested}
use Rattle.arrivals.proofs.test.Given as goal

abbrev pub invariant-loop-index : goal.invariant-loop-index
invariant-loop-index l = pairs_tested (l.index + 1) (drop l.index l.pairs) ≡ pairs_tested 1 l.pairs
