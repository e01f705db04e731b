use Rattle.std.proofs.Common.{rules, refl}
use Rattle.model.specs.Map.{grants}
use Rattle.telling.proofs.Chains.{shifted_told}
use Rattle.telling.proofs.uses.grants_point.Goals as goal

pub returns : goal.returns
returns c =
    shifted_told _ _ c.min.ensures.ran c.filter_map.ensures.source c.filter_map.ensures.closure 15 1 refl refl _ _ grants (λ x t q k. search rules)
