use Rattle.std.proofs.Common.{rules, arith}
use Rattle.script.proofs.Laws.{numbers_wrong, numbers_on}
use Rattle.script.proofs.reading.numbers.Goals as goal

pub returns-in_err-place-clause-is : goal.returns-in_err-place-clause-is
returns-in_err-place-clause-is c =
    numbers_wrong _ _ _ _ _ c.loop-count.invariant.1 _ c.skip-from.ensures.is c.ends.ensures (omega arith) _ _ _ _ c.if-ends.false c.digits_len.ensures.is
    c.split_at.ensures.front c.split_at.ensures.back c.whole_number.ensures _ c.in_err-place.was c.from_residual.ensures

pub loop-count-preserved : goal.loop-count-preserved
loop-count-preserved c = (
  search rules,
  numbers_on _ _ _ _ _ c.loop-count.invariant.1 _ c.skip-from.ensures.is c.ends.ensures (omega arith) _ _ _ _ c.if-ends.false c.digits_len.ensures.is
      c.split_at.ensures.front c.split_at.ensures.back c.whole_number.ensures _ c.in_ok-place.was,
)
