use Rattle.std.proofs.Common.{◌+◌, ◌-◌, arith, sym, ◌∙◌}
use Rattle.mail.proofs.Laws.{tests_none, tests_end, tests_here, tests_on}
use Rattle.mail.proofs.test_q1.Goals as goal

pub returns-in_default : goal.returns-in_default
returns-in_default c =
    tests_end c.args.page.0 c.args.asked.name.0 c.args.asked.flag (c.args.left - c.loop.counter) c.loop.m (rw (← c.place.ensures.0) c.in_default.ensures) ∙
    c.loop.invariant

pub returns-then-fits : goal.returns-then-fits
returns-then-fits c =
    tests_here c.args.page.0 c.args.asked.name.0 c.args.asked.flag (c.args.left - c.loop.counter) c.loop.m c.move_message.new.m c.in-Some.message
    c.matches-fits.result
    (λ z. omega arith) (rw (← c.place.ensures.0) c.in-Some.ensures) c.matches-fits.ensures c.if-fits.true c.move_message.ensures
    ∙ c.loop.invariant

pub loop-preserved : goal.loop-preserved
loop-preserved c =
    sym
    (tests_on c.args.page.0 c.args.asked.name.0 c.args.asked.flag (c.args.left - c.loop.counter) (c.args.left - (c.loop.counter + 1)) c.loop.m
    c.move_message.new.m
    c.in-Some.message c.matches-fits.result (omega arith) (rw (← c.place.ensures.0) c.in-Some.ensures) c.matches-fits.ensures c.if-fits.false
    c.move_message.ensures)
    ∙ c.loop.invariant

pub returns : goal.returns
returns c =
    tests_none c.args.page.0 c.args.asked.name.0 c.args.asked.flag (c.args.left - c.loop.counter) c.loop.m (omega arith) ∙ c.loop.invariant
