use Rattle.fresh.proofs.Laws.{built_on, built_end}
use Rattle.fresh.proofs.build_in.Goals as goal

pub loop-code-preserved : goal.loop-code-preserved
loop-code-preserved c =
    let e = c.wide.ensures.0 in
    built_on c.loop-code.code c.loop-code.m c.write.new.m _ c.loop-code.invariant c.loop-code-test.true (rw e at c.write.ensures)

pub returns : goal.returns
returns c = built_end c.loop-code.code c.loop-code.m _ c.loop-code.invariant c.loop-code-test.false
