use Rattle.script.proofs.Laws.{decimal_more}
use Rattle.script.proofs.reading.whole_number.Goals as goal

pub loop-character-preserved : goal.loop-character-preserved
loop-character-preserved c = decimal_more c.args.word.now _ _ _ _ c.loop-character.invariant c.loop-character-test.true c.more.ensures _ c.in_ok-value.was
