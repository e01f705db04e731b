use Rattle.std.proofs.Common.{◌≡◌}
use Rattle.lending.specs.Lists.{gathered}
use Rattle.lending.proofs.gather.Given as goal

-- the first are bytes already
abbrev pub invariant-loop-at : goal.invariant-loop-at
invariant-loop-at l = l.list ≡ gathered l.at l.given l.fn.list
