use Rattle.std.proofs.Common.{rules, sym, ap}
use Rattle.std.proofs.lemmas.Iterator.Consumers.{YieldsList-from_rest}
use Rattle.lists.specs.Seen as Seen
use Rattle.lists.specs.Seen.{see, see_all}
use Rattle.lists.proofs.Folds.{lists_none}
use Rattle.lists.proofs.Onward.{try_fold_is}
use Rattle.lists.proofs.seen.Seen.list.Goals as goal

pub returns-then-at-eq0 : goal.returns-then-at-eq0
unfolding Seen.onward
returns-then-at-eq0 c = sym (ap (see_all c.args.self) (lists_none _ _ _ c.at.ensures c.if-at-eq0.true))

pub returns : goal.returns
returns c = try_fold_is see _ _ _ _ c.try_fold.ensures.ran (YieldsList-from_rest _ c.list_of.ensures) (λ a x o q k. search rules)
