use Rattle.std.proofs.Common.{rules, refl}
use Rattle.std.proofs.lemmas.Iterator.{YieldsList-from_range}
use Rattle.lists.proofs.Each.{range_holds}
use Rattle.judge.proofs.tables.kinds.Goals as goal

pub returns : goal.returns
returns c = range_holds _ _ _ _ _ _ c.all.ensures.ran (YieldsList-from_range 0 16 16 refl refl) (λ x b q k. search rules)
