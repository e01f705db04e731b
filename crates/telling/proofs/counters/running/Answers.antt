use Rattle.std.proofs.Common.{rules}
use Rattle.model.specs.Classes as Classes
use Rattle.telling.proofs.Lows.{rows}
use Rattle.telling.proofs.counters.running.Goals as goal

pub returns : goal.returns
unfolding Classes.running
returns c = search (rules, rows) depth 12
