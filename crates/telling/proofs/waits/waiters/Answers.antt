use Rattle.std.proofs.Common.{rules, refl}
use Rattle.model.specs.Map.{first_control}
use Rattle.telling.proofs.Lows.{row_is}
use Rattle.telling.proofs.Chains.{shifted_told}
use Rattle.telling.proofs.Meeting.{waiter_by}
use Rattle.telling.proofs.waits.waiters.Goals as goal

pub returns : goal.returns
returns c =
    shifted_told _ _ c.min.ensures.ran c.filter_map.ensures.source c.filter_map.ensures.closure 20 0 refl refl _ _ first_control
    (λ x t q k. search (rules, row_is, waiter_by))
