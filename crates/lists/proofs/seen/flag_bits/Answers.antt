use Rattle.std.proofs.Common.{rules, ◌∙◌}
use Rattle.std.proofs.lemmas.Iterator.Consumers.{YieldsList-from_rest, YieldsList-from_filter}
use lib.Dec.{eqb}
use Rattle.model.specs.Bytes.{waiting}
use Rattle.lists.specs.Seen.{see}
use Rattle.lists.proofs.Onward.{try_fold_is}
use Rattle.lists.proofs.seen.flag_bits.Goals as goal

pub returns : goal.returns
returns c =
    try_fold_is see _ _ _ _ c.try_fold.ensures.ran
    (YieldsList-from_filter _ (λ p. eqb (waiting c.args.m.now p) 1) (YieldsList-from_rest _ (c.filter.ensures.source ∙ c.new.ensures)) c.filter.ensures.closure (λ x b q k. search rules))
    (λ a x o q k. search rules)
