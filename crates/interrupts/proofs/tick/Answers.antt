use Rattle.interrupts.proofs.Laws.{ends_yes, ends_no, turns_is, counts_is}
use Rattle.interrupts.proofs.tick.Goals as goal

pub returns-then-count-end : goal.returns-then-count-end
returns-then-count-end c = (search ends_yes, search turns_is)

pub returns : goal.returns
returns c = (search ends_no, search counts_is)
