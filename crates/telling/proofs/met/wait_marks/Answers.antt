use Rattle.std.proofs.Common.{rules, refl}
use Rattle.std.proofs.lemmas.Iterator.{YieldsList-from_range}
use Rattle.std.proofs.lemmas.Iterator.Consumers.{YieldsList-from_rest, fold_from_yields_List}
use Rattle.telling.proofs.Meeting.{owns_of, queue_of, waits_is}
use Rattle.telling.proofs.met.wait_marks.Goals as goal

pub returns : goal.returns
returns c =
    let m = c.args.m.now in
    waits_is m _ _ _ (rw c.none.ensures at c.with_list-paged.ensures)
    (fold_from_yields_List _ (owns_of m) _ _ c.fold-owned.ensures.ran (YieldsList-from_rest _ c.processors.ensures) (λ a x b q e. search rules))
    (fold_from_yields_List {v = λ x. x} _ (queue_of m) _ _ c.fold.ensures.ran (YieldsList-from_range 0 54 54 refl refl) (λ a x b q e. search rules))
