use Rattle.host.proofs.Laws.{step_encoded}
use Rattle.host.proofs.wik_interrupt.Goals as goal

pub returns-clause-value : goal.returns-clause-value
returns-clause-value c = step_encoded _ _ _ _ c.interrupt.ensures.outcome c.encode.ensures
