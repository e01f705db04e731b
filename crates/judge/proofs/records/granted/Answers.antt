use Rattle.std.proofs.Common.{rules, refl}
use Rattle.std.proofs.lemmas.Iterator.{YieldsList-from_range}
use Rattle.model.specs.Judge as Judge
use Rattle.lists.proofs.Each.{range_holds}
use Rattle.judge.proofs.records.granted.Goals as goal

pub returns : goal.returns
unfolding Judge.granted
returns c = range_holds _ _ _ _ _ _ c.all.ensures.ran (YieldsList-from_range 0 32 32 refl refl) (λ x b q k. search rules)
