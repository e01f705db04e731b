use Rattle.kernel.proofs.Laws.{registers_set, registers_wide}
use Rattle.kernel.proofs.set_judged.Goals as goal

pub returns-then-not-in_range : goal.returns-then-not-in_range
returns-then-not-in_range c =
    registers_wide c.args.m.now c.in_ok-page.page c.in_ok-page.ensures c.args.registers c.in_range.result c.in_range.ensures c.if-not-in_range.true

pub returns : goal.returns
returns c =
    registers_set c.args.m.now c.in_ok-page.page c.in_ok-page.ensures c.args.registers c.in_range.result c.in_range.ensures c.set_on.new.m c.if-not-in_range.false c.set_on.ensures
