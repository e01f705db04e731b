use Rattle.std.proofs.Common.{sym, ap}
use Rattle.telling.specs.Met.{marked_all}
use Rattle.telling.proofs.Walking.{met_empty}
use Rattle.telling.proofs.met.Marks.with_list.Goals as goal

pub returns-then-not-lies : goal.returns-then-not-lies
returns-then-not-lies c = sym (ap (marked_all c.args.self) (met_empty _ _ _ _ c.at.ensures c.lies.ensures c.if-not-lies.true))
