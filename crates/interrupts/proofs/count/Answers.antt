use Rattle.std.proofs.Common.{refl, ◌∙◌}
use Rattle.model.specs.Map as Map
use Rattle.model.specs.Interrupt as Interrupt
use Rattle.model.specs.Bytes as Model
use Rattle.interrupts.proofs.Laws.{counter_ends, counter_counts, counter_last}
use Rattle.interrupts.proofs.count.Goals as goal
use Rattle.interrupts.proofs.count.Goals.{else-tick-via-then-tick+then-tick-2+else-tick-3, else-tick-via-then-tick+else-tick-2, else-tick-via-else-tick}

pub returns-then-tick-3 : goal.returns-then-tick-3
unfolding Interrupt.c0_counts Interrupt.c1_counts Interrupt.c2_counts Interrupt.c3_counts
returns-then-tick-3 c =
    counter_ends Model.c1_counts c.args.m.now c.tick.new.m Map.c0 c.at-divider.result (Model.at c.args.m.now Map.divider) Map.c0_interrupt c.tick.result
    c.tick.ensures.0 c.at-divider.ensures c.tick.ensures.1 c.tick-then-tick-3.new.m c.if-tick.true
    (counter_ends Model.c2_counts c.tick.new.m c.tick-then-tick.new.m Map.c1 Map.c1_end Map.c1_end Map.c1_interrupt c.tick-then-tick.result
    c.tick-then-tick.ensures.0 refl c.tick-then-tick.ensures.1 c.tick-then-tick-3.new.m c.if-tick-2.true
    (counter_ends Model.c3_counts c.tick-then-tick.new.m c.tick-then-tick-2.new.m Map.c2 Map.c2_end Map.c2_end Map.c2_interrupt c.tick-then-tick-2.result
    c.tick-then-tick-2.ensures.0 refl c.tick-then-tick-2.ensures.1 c.tick-then-tick-3.new.m c.if-tick-3.true
    (counter_last c.tick-then-tick-2.new.m c.tick-then-tick-3.new.m Map.c3 Map.c3_end Map.c3_interrupt c.tick-then-tick-3.result
    c.tick-then-tick-3.ensures.0 c.tick-then-tick-3.ensures.1)))

pub returns-else-tick : goal.returns-else-tick
unfolding Interrupt.c0_counts Interrupt.c1_counts Interrupt.c2_counts
returns-else-tick c =
    elim c.else-tick.branch [
      | else-tick-via-then-tick+then-tick-2+else-tick-3 w ↦ w.m-is ∙ counter_ends Model.c1_counts c.args.m.now c.tick.new.m Map.c0 c.at-divider.result
          (Model.at c.args.m.now Map.divider) Map.c0_interrupt c.tick.result c.tick.ensures.0 c.at-divider.ensures c.tick.ensures.1 w.tick-then-tick-2.new.m
          w.if-tick.true (counter_ends Model.c2_counts c.tick.new.m w.tick-then-tick.new.m Map.c1 Map.c1_end Map.c1_end Map.c1_interrupt
          w.tick-then-tick.result w.tick-then-tick.ensures.0 refl w.tick-then-tick.ensures.1 w.tick-then-tick-2.new.m w.if-tick-2.true
          (counter_counts Model.c3_counts w.tick-then-tick.new.m w.tick-then-tick-2.new.m Map.c2 Map.c2_end Map.c2_end Map.c2_interrupt
          w.tick-then-tick-2.result w.tick-then-tick-2.ensures.0 refl w.tick-then-tick-2.ensures.1 w.if-tick-3.false))
      | else-tick-via-then-tick+else-tick-2 w ↦ w.m-is ∙ counter_ends Model.c1_counts c.args.m.now c.tick.new.m Map.c0 c.at-divider.result
          (Model.at c.args.m.now Map.divider) Map.c0_interrupt c.tick.result c.tick.ensures.0 c.at-divider.ensures c.tick.ensures.1 w.tick-then-tick.new.m
          w.if-tick.true (counter_counts Model.c2_counts c.tick.new.m w.tick-then-tick.new.m Map.c1 Map.c1_end Map.c1_end Map.c1_interrupt
          w.tick-then-tick.result w.tick-then-tick.ensures.0 refl w.tick-then-tick.ensures.1 w.if-tick-2.false)
      | else-tick-via-else-tick w ↦ w.m-is ∙ counter_counts Model.c1_counts c.args.m.now c.tick.new.m Map.c0 c.at-divider.result
          (Model.at c.args.m.now Map.divider) Map.c0_interrupt c.tick.result c.tick.ensures.0 c.at-divider.ensures c.tick.ensures.1 w.if-tick.false
    ]
