use Rattle.model.specs.Answer.{numbers}
use Rattle.kernel.proofs.Laws.{by_numbers, fresh_done, fresh_short, fresh_wrong}
use Rattle.kernel.proofs.fresh.Goals as goal

pub returns-in_default-clause-outcome : goal.returns-in_default-clause-outcome
returns-in_default-clause-outcome c = fresh_short c.args.m.now c.args.line c.args.divider c.in_default.ensures.cases

pub returns-in_default-clause-numbers : goal.returns-in_default-clause-numbers
returns-in_default-clause-numbers c = by_numbers numbers _ _ _ (returns-in_default-clause-outcome c)

pub returns-then-not-startable-clause-outcome : goal.returns-then-not-startable-clause-outcome
returns-then-not-startable-clause-outcome c =
    fresh_wrong _ _ c.in-Some.ensures.cases c.args.line c.args.divider c.startable.result c.startable.ensures c.if-not-startable.true

pub returns-then-not-startable-clause-numbers : goal.returns-then-not-startable-clause-numbers
returns-then-not-startable-clause-numbers c = by_numbers numbers _ _ _ (returns-then-not-startable-clause-outcome c)

pub returns-clause-outcome : goal.returns-clause-outcome
returns-clause-outcome c =
    fresh_done _ _ c.in-Some.ensures.cases c.args.line c.args.divider c.startable.result c.startable.ensures c.start.new.m c.low.result c.low-2.result c.if-not-startable.false c.start.ensures c.low.ensures
    c.low-2.ensures

pub returns-clause-numbers : goal.returns-clause-numbers
returns-clause-numbers c = by_numbers numbers _ _ _ (returns-clause-outcome c)
