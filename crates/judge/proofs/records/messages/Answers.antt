use Rattle.std.proofs.Common.{rules}
use Rattle.model.specs.Judge as Judge
use Rattle.lists.proofs.Each.{list_holds}
use Rattle.judge.proofs.records.messages.Goals as goal

pub returns : goal.returns
unfolding Judge.messages
returns c = list_holds _ _ _ _ _ _ c.all.ensures.ran c.processors.ensures (λ x b q k. search rules)
