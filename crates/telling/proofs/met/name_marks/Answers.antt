use Rattle.std.proofs.Common.{rules}
use Rattle.std.proofs.lemmas.Iterator.Consumers.{YieldsList-from_rest, fold_from_yields_List}
use Rattle.telling.proofs.Meeting.{name_of, names_is}
use Rattle.telling.proofs.met.name_marks.Goals as goal

pub returns : goal.returns
returns c =
    let m = c.args.m.now in
    names_is m _ _ c.none.ensures (fold_from_yields_List _ (name_of m) _ _ c.fold.ensures.ran (YieldsList-from_rest _ c.processors.ensures) (λ a x b q e. search rules))
