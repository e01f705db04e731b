use Rattle.turn.proofs.Laws.{restored_on, restored_end}
use Rattle.turn.proofs.restore.Goals as goal

pub loop-index-preserved : goal.loop-index-preserved
loop-index-preserved c =
    let e = c.from.ensures in
    restored_on c.loop-index.index c.zero_place.result c.loop-index.m c.write.new.m _ c.args.words.now c.loop-index.invariant c.loop-index-test.true
    c.zero_place.ensures.0
    (rw e at c.write.ensures)

pub returns : goal.returns
returns c = restored_end c.loop-index.index c.loop-index.m _ c.args.words.now c.loop-index.invariant c.loop-index-test.false
