use Rattle.judge.proofs.Sentences.{higher_ready}
use Rattle.judge.proofs.running.not_higher.Goals as goal

pub returns-then-s-lt-WAIT_BIT : goal.returns-then-s-lt-WAIT_BIT
returns-then-s-lt-WAIT_BIT c = higher_ready _ _ _ c.word-s.ensures _ _ c.if-s-lt-WAIT_BIT.true c.word-w.ensures c.at-l.ensures
