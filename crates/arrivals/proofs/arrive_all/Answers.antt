use Rattle.std.proofs.Common.{arith}
use Rattle.arrivals.proofs.Laws.{next_good, next_arrives, arrived_all}
use Rattle.arrivals.proofs.arrive_all.Goals as goal

pub loop-number-preserved : goal.loop-number-preserved
loop-number-preserved c =
    let l = c.loop-number in
    let k = c.from.ensures in
    let n = c.from-in-loop-number.ensures in
    let h = c.loop-number-test.true in
    (next_arrives _ l.number-index _ _ _ l.m _ _ l.invariant.0 c.arrive.ensures k n h, next_good _ l.number-index _ h _ _ l.invariant.1 k n)

pub returns : goal.returns
returns c = arrived_all _ c.loop-number.number-index _ _ c.loop-number.invariant.0 (omega arith)
