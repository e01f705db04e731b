use Rattle.comparing.proofs.Laws.{first_none}
use Rattle.comparing.proofs.judged_step.Goals as goal

pub returns-in-Ok : goal.returns-in-Ok
returns-in-Ok c = first_none _ _ c.finding.ensures _ _ _ _ _ c.in-Ok.is c.second_step.ensures
