use Rattle.std.proofs.Common.{sym, ap, length}
use mathlib.Core.Logic.{inl}
use native.Mathlib.Omega.{arith}
use Rattle.std.proofs.lemmas.Iterator.Consumers.{YieldsList-from_rest, count_from_yields_List}
use Rattle.lists.proofs.Folds.{lists_none, lists_most}
use Rattle.lists.proofs.length_of.Goals as goal

pub count-requires-clause-fits : goal.count-requires-clause-fits
count-requires-clause-fits c = inl (omega (arith, lists_most c.args.m.now c.args.head, ap length c.list_of.ensures))

pub overflow_cast-result : goal.overflow_cast-result
overflow_cast-result c =
    let e = count_from_yields_List _ _ c.count.ensures.ran (YieldsList-from_rest _ c.list_of.ensures) in
    omega (arith, lists_most c.args.m.now c.args.head, e)

pub returns-then-at-eq0 : goal.returns-then-at-eq0
returns-then-at-eq0 c = sym (ap length (lists_none _ _ _ c.at.ensures c.if-at-eq0.true))

pub returns : goal.returns
returns c = count_from_yields_List _ _ c.count.ensures.ran (YieldsList-from_rest _ c.list_of.ensures)
