use Rattle.std.proofs.Common.{rules, refl}
use Rattle.model.specs.Map.{grants}
use Rattle.model.specs.Classes as Classes
use Rattle.telling.proofs.Chains.{shifted_told}
use Rattle.telling.proofs.records.rest_nought.Goals as goal

pub returns : goal.returns
unfolding Classes.nought
returns c = shifted_told _ _ c.min.ensures.ran c.filter_map.ensures.source c.filter_map.ensures.closure 16 16 refl refl _ _ grants (λ x t q k. search rules)
