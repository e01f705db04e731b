use Rattle.std.proofs.Common.{rules}
use Rattle.words.proofs.Laws.{copy_on, copy_end}
use Rattle.words.proofs.copy.Goals as goal

pub loop-preserved : goal.loop-preserved
loop-preserved c = (
  search rules,
  search rules,
  copy_on c.args.count c.loop.counter c.loop.m c.write.new.m _ c.loop.source c.loop.target c.at-word.result c.wrapped-source.result
      c.wrapped-target.result c.loop.invariant.2
      c.loop-test.true c.at-word.ensures c.write.ensures c.wrapped-source.ensures.0 c.wrapped-target.ensures.0,
)

pub returns : goal.returns
returns c = copy_end c.args.count c.loop.counter c.loop.m _ c.loop.source c.loop.target c.loop.invariant.2 c.loop-test.false
