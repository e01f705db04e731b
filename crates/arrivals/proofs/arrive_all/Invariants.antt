use Rattle.std.proofs.Common.{◌≡◌, ◌+◌, drop}
use Rattle.model.specs.Told.Checked.{Good}
use Rattle.arrivals.specs.Pairs.{pairs_tested, pairs_arrived}
use Rattle.arrivals.proofs.arrive_all.Given as goal

abbrev pub invariant-loop-number : goal.invariant-loop-number
invariant-loop-number l =
    (pairs_arrived l.m (drop l.number-index l.pairs) ≡ pairs_arrived l.initial.m l.pairs)
    × (pairs_tested (l.number-index + 1) (drop l.number-index l.pairs) ≡ Good)
