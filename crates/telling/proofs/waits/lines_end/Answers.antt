use Rattle.std.proofs.Common.{rules, refl}
use Rattle.telling.proofs.Chains.{heads_told}
use Rattle.telling.proofs.waits.lines_end.Goals as goal

pub returns : goal.returns
returns c = heads_told _ _ c.min.ensures.ran c.filter_map.ensures.source c.filter_map.ensures.closure refl refl _ _ (λ x t q k. search rules)
