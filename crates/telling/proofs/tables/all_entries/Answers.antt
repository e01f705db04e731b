use Rattle.std.proofs.Common.{rules, refl}
use Rattle.telling.proofs.Chains.{range_told}
use Rattle.telling.proofs.tables.all_entries.Goals as goal

pub returns : goal.returns
returns c = range_told _ _ c.min.ensures.ran c.filter_map.ensures.source c.filter_map.ensures.closure _ _ refl refl _ _ (λ x t q k. search rules)
