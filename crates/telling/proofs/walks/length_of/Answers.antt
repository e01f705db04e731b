use Rattle.std.proofs.Common.{ap, length, arith, inl}
use Rattle.std.proofs.lemmas.Iterator.Consumers.{YieldsList-from_rest, count_from_yields_List}
use Rattle.telling.proofs.Walking.{met_short}
use Rattle.telling.proofs.walks.length_of.Goals as goal

pub count-requires-clause-fits : goal.count-requires-clause-fits
count-requires-clause-fits c = inl (omega (arith, met_short c.args.m.now c.args.head, ap length c.met.ensures))

pub returns : goal.returns
returns c = count_from_yields_List _ _ c.count.ensures.ran (YieldsList-from_rest _ c.met.ensures)

pub overflow_cast-result : goal.overflow_cast-result
overflow_cast-result c =
    let e = count_from_yields_List _ _ c.count.ensures.ran (YieldsList-from_rest _ c.met.ensures) in omega (arith, met_short c.args.m.now c.args.head, e)
