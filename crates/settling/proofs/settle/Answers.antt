use Rattle.std.proofs.Common.{◌∙◌}
use Rattle.settling.proofs.Laws.{made_next, good_rest, settled_is}
use Rattle.settling.proofs.settle.Goals as goal

pub loop-entry-preserved : goal.loop-entry-preserved
loop-entry-preserved c =
    let z = c.in-Some.ensures.steps in
    let l = c.loop-entry.invariant in
    (made_next _ _ _ z _ _ _ l.0 c.make.ensures, good_rest _ _ _ z l.1)

pub returns : goal.returns
returns c =
    let es = c.into_iter-entry-iterator.ensures.into_iter_gives ∙ c.of-entry-items.ensures in
    settled_is _ _ _ _ _ _ c.start.ensures es c.in-None.ensures.steps.0 c.loop-entry.invariant.0
