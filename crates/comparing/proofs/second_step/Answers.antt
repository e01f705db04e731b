use Rattle.comparing.proofs.Laws.{second_none}
use Rattle.comparing.proofs.second_step.Goals as goal

pub returns-in-Ok : goal.returns-in-Ok
returns-in-Ok c = second_none _ _ c.finding.ensures _ _ _ _ _ c.in-Ok.is c.names_step.ensures
