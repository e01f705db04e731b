use Rattle.std.proofs.Common.{rules, refl}
use Rattle.telling.proofs.Chains.{queues_told}
use Rattle.telling.proofs.waits.all_served.Goals as goal

pub returns : goal.returns
returns c = queues_told _ _ c.min.ensures.ran c.filter_map.ensures.source c.filter_map.ensures.closure refl refl _ _ _ (λ x t q k. search rules)
