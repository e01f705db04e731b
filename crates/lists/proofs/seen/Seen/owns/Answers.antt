use Rattle.std.proofs.Common.{rules, ◌∙◌}
use Rattle.std.proofs.lemmas.Iterator.Consumers.{YieldsList-from_rest}
use Rattle.lists.proofs.Onward.{try_fold_is}
use Rattle.lists.proofs.Heads.{owns_each}
use Rattle.lists.proofs.seen.Seen.owns.Goals as goal

pub returns : goal.returns
returns c = try_fold_is _ _ _ _ _ c.try_fold.ensures.ran (YieldsList-from_rest _ c.processors.ensures) (λ a x o q k. search rules) ∙ owns_each _ _ _
