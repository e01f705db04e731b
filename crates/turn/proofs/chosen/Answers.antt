use Rattle.turn.proofs.Laws.{leads_first, leads_taken, leads_unready, leads_below, leads_end}
use Rattle.turn.proofs.chosen.Goals as goal
use Rattle.turn.proofs.chosen.Goals.{else-ready-via-then-ready+else-above, else-ready-via-else-ready}

pub loop-page-init : goal.loop-page-init
loop-page-init c = leads_first c.args.m.now c.stays-leader.result c.into_iter-page-iterator.result c.stays-leader.ensures (cc)

pub loop-page-preserved-then-above : goal.loop-page-preserved-then-above
loop-page-preserved-then-above c =
    leads_taken c.args.m.now c.loop-page.leader c.loop-page.page-iterator c.next.new.self c.in-Some.page c.loop-page.invariant c.in-Some.ensures.steps
    c.if-ready.ensures
    c.if-above.ensures

pub loop-page-preserved : goal.loop-page-preserved
loop-page-preserved c =
    elim c.else-ready.branch [
      | else-ready-via-then-ready+else-above w ↦
          leads_below c.args.m.now c.loop-page.leader c.loop-page.page-iterator c.next.new.self c.in-Some.page c.loop-page.invariant c.in-Some.ensures.steps
          w.if-ready.ensures w.if-above.ensures
      | else-ready-via-else-ready w ↦
          leads_unready c.args.m.now c.loop-page.leader c.loop-page.page-iterator c.next.new.self c.in-Some.page c.loop-page.invariant c.in-Some.ensures.steps
          w.if-ready.ensures
    ]

pub returns : goal.returns
returns c = leads_end c.args.m.now c.loop-page.leader c.loop-page.page-iterator c.loop-page.invariant c.in-None.ensures.steps.0
