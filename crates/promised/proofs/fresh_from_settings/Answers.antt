use Rattle.std.proofs.Common.{rules}
use Rattle.promised.proofs.Laws.{goings}
use Rattle.promised.proofs.fresh_from_settings.Goals as goal

pub returns : goal.returns
returns c = search (rules, goings)
