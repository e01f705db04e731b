use Rattle.std.proofs.Common.{rules, refl}
use Rattle.model.specs.Map.{first_control}
use Rattle.model.specs.Classes as Classes
use Rattle.telling.proofs.Lows.{row_is, row_only}
use Rattle.telling.proofs.Chains.{shifted_told}
use Rattle.telling.proofs.Meeting.{once_by}
use Rattle.telling.proofs.uses.used_once.Goals as goal

pub returns : goal.returns
unfolding Classes.used_once
returns c =
    row_only _ _ _ _ (shifted_told _ _ c.min.ensures.ran c.filter_map.ensures.source c.filter_map.ensures.closure 20 0 refl refl Classes.page _ first_control
    (λ x t q k. search (rules, row_is, once_by)))
