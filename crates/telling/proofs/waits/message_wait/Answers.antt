use Rattle.std.proofs.Common.{rules}
use Rattle.model.specs.Judge as Judge
use Rattle.model.specs.Bytes.{met}
use Rattle.telling.proofs.Chains.{walk_all}
use Rattle.telling.proofs.waits.message_wait.Goals as goal

pub returns : goal.returns
unfolding Judge.message_wait
returns c = walk_all _ (met c.args.m.now) _ _ _ _ _ _ c.all.ensures.ran c.met.ensures c.place.ensures.0 (λ x b q k. search rules)
