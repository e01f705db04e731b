use Rattle.model.specs.Answer.{writing_numbers}
use Rattle.kernel.proofs.Laws.{by_numbers}
use Rattle.kernel.proofs.write_settings.Goals as goal

pub returns-clause-numbers : goal.returns-clause-numbers
returns-clause-numbers c = by_numbers writing_numbers _ _ _ c.write_settings.ensures
