use Rattle.std.proofs.Common.{refl}
use Rattle.model.specs.Classes as Classes
use Rattle.telling.proofs.Lows.{all_is, one_told, rows_next, rows_none}
use Rattle.telling.proofs.counters.clock.Goals as goal

pub returns : goal.returns
unfolding Classes.clock Classes.outer Classes.below Classes.nought Classes.positive
returns c =
    all_is _ _ _ c.lowest.ensures
    (rows_next _ _ _ _ (one_told _ _ _ _ _ _ c.unless.ensures c.lies_at-line.ensures refl) _ _
    (rows_next _ _ _ _ (one_told _ _ _ _ _ _ c.unless-2.ensures (rw c.at.ensures at c.under_at-c0.ensures) refl) _ _
    (rows_next _ _ _ _ (one_told _ _ _ _ _ _ c.unless-3.ensures c.under_at-c1.ensures refl) _ _
    (rows_next _ _ _ _ (one_told _ _ _ _ _ _ c.unless-4.ensures c.under_at-c2.ensures refl) _ _
    (rows_next _ _ _ _ (one_told _ _ _ _ _ _ c.unless-5.ensures c.under_at-c3.ensures refl) _ _
    (rows_next _ _ _ _ (one_told _ _ _ _ _ _ c.unless-6.ensures c.is_at-zero.ensures refl) _ _
    (rows_next _ _ _ _ (one_told _ _ _ _ _ _ c.unless-7.ensures c.lies_at-divider.ensures refl) _ _ rows_none)))))))
