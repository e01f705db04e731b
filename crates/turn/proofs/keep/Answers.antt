use Rattle.turn.proofs.Laws.{kept_on_lem, kept_end}
use Rattle.turn.proofs.keep.Goals as goal

pub loop-index-preserved : goal.loop-index-preserved
loop-index-preserved c =
    let e = c.from.ensures in
    kept_on_lem c.loop-index.index c.loop-index.m c.store.new.m _ c.args.page.0 c.args.words.now c.loop-index.invariant c.loop-index-test.true
    (rw e at c.store.ensures)

pub returns : goal.returns
returns c = kept_end c.loop-index.index c.loop-index.m _ c.args.page.0 c.args.words.now c.loop-index.invariant c.loop-index-test.false
