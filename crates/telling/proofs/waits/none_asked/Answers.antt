use Rattle.std.proofs.Common.{rules}
use Rattle.model.specs.Bytes.{met}
use Rattle.telling.proofs.Chains.{walk_all}
use Rattle.telling.proofs.waits.none_asked.Goals as goal

pub returns : goal.returns
returns c = walk_all _ (met c.args.m.now) _ _ _ _ _ _ c.all.ensures.ran c.met.ensures c.place.ensures.0 (λ x b q k. search rules)
