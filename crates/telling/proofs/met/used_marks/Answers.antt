use Rattle.std.proofs.Common.{rules, refl}
use Rattle.std.proofs.lemmas.Iterator.{YieldsList-from_range}
use Rattle.std.proofs.lemmas.Iterator.Consumers.{YieldsList-from_rest, fold_from_yields_List}
use Rattle.telling.proofs.Meeting.{mails_of, grant_of, used_is}
use Rattle.telling.proofs.met.used_marks.Goals as goal

pub returns : goal.returns
returns c =
    let m = c.args.m.now in
    used_is m _ _ _ _ c.list_marks.ensures c.with_list-listed.ensures
    (fold_from_yields_List _ (mails_of m) _ _ c.fold-mailed.ensures.ran (YieldsList-from_rest _ c.processors.ensures) (λ a x b q e. search rules))
    (fold_from_yields_List {v = λ x. x} _ (grant_of m) _ _ c.fold.ensures.ran (YieldsList-from_range 1 16 15 refl refl) (λ a x b q e. search rules))
