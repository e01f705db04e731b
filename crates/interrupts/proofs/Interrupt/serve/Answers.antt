use Rattle.std.proofs.Common.{◌+◌, ◌-◌, arith}
use Rattle.model.specs.Map as Map
use Rattle.interrupts.proofs.Laws.{serves_first, serves_end, serves_none, serves_on}
use Rattle.interrupts.proofs.Interrupt.serve.Goals as goal

pub loop-init : goal.loop-init
loop-init c =
    let e = c.wide.ensures.0 in
    serves_first c.args.m.now c.args.self.number c.args.self.class (Map.header_of c.wide.result) c.page_at-next.result (rw e) c.page_at-next.ensures

pub returns-in_default : goal.returns-in_default
returns-in_default c =
    serves_end (Map.control_pages - c.loop.counter) c.loop.m c.args.self.number c.args.self.class c.loop.next _ c.loop.invariant c.in_default.is

pub loop-preserved : goal.loop-preserved
loop-preserved c =
    serves_on (Map.control_pages - c.loop.counter) c.loop.m c.args.self.number c.args.self.class c.loop.next _ c.loop.invariant
    (Map.control_pages - (c.loop.counter + 1)) c.strike.new.m c.in-Some.page c.place.result c.page_at-next-in-loop.result (omega arith) c.in-Some.is
    c.place.ensures.0
    c.page_at-next-in-loop.ensures c.strike.ensures

pub returns : goal.returns
returns c =
    serves_none (Map.control_pages - c.loop.counter) c.loop.m c.args.self.number c.args.self.class c.loop.next _ c.loop.invariant (omega arith)
