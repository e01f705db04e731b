use Rattle.judge.proofs.Sentences.{entry_unused}
use Rattle.judge.proofs.tables.entry.Goals as goal

pub returns : goal.returns
returns c = entry_unused _ _ _ _ _ c.at-f.ensures c.wide.ensures.0 c.wide-2.ensures.0 _ _ c.if-wide.false c.wide-3.ensures.0 c.at-w.ensures
