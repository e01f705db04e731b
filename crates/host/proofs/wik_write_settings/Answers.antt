use Rattle.host.proofs.Laws.{writing_encoded}
use Rattle.host.proofs.wik_write_settings.Goals as goal

pub returns-clause-value : goal.returns-clause-value
returns-clause-value c = writing_encoded _ _ _ _ c.write_settings.ensures.outcome c.encode_writing.ensures
