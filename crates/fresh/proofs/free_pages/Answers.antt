use Rattle.fresh.proofs.Laws.{chained_on, chained_end}
use Rattle.fresh.proofs.free_pages.Goals as goal

pub loop-page-preserved : goal.loop-page-preserved
loop-page-preserved c = chained_on c.loop-page.m c.store.new.m _ c.loop-page.page c.loop-page.invariant c.loop-page-test.true c.store.ensures

pub returns : goal.returns
returns c = chained_end c.loop-page.m _ c.loop-page.page c.loop-page.invariant c.loop-page-test.false
