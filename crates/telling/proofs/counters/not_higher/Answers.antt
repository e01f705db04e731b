use Rattle.telling.proofs.Asking.{higher_is}
use Rattle.telling.proofs.counters.not_higher.Goals as goal

pub returns-then-r-ne0 : goal.returns-then-r-ne0
returns-then-r-ne0 c =
    higher_is _ _ _ c.word.ensures _ c.if-word-ge-WAIT_BIT.false c.at-r.ensures _ _ c.if-r-ne0.true c.word-then-r-ne0.ensures c.word-then-r-ne0-2.ensures
