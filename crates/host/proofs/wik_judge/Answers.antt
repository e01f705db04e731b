use Rattle.host.proofs.Laws.{verdict_encoded}
use Rattle.host.proofs.wik_judge.Goals as goal

pub returns : goal.returns
returns c = verdict_encoded _ _ _ _ c.judge.ensures.outcome c.encode_verdict.ensures
