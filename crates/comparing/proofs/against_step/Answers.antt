use Rattle.comparing.proofs.Laws.{against_none}
use Rattle.comparing.proofs.against_step.Goals as goal

pub returns-in-Ok : goal.returns-in-Ok
returns-in-Ok c = against_none _ _ c.finding.ensures _ c.in-Ok.is
