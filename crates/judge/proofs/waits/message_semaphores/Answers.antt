use Rattle.std.proofs.Common.{rules}
use Rattle.lists.proofs.Each.{list_holds}
use Rattle.judge.proofs.waits.message_semaphores.Goals as goal

pub returns : goal.returns
returns c = list_holds _ _ _ _ _ _ c.all.ensures.ran c.processors.ensures (λ x b q k. search rules)
