use Rattle.lists.proofs.Counting.{bit_fits}
use Rattle.lists.proofs.seen.Seen.see.Goals as goal

pub invariant_of-result : goal.invariant_of-result
invariant_of-result c = bit_fits _ _ _ c.from-place.ensures c.if-page-lt-FIRST_CONTROL.false c.ranges.page.fits c.self.invariant c.if-self-place-eq0.true
