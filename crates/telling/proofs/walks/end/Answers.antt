use Rattle.std.proofs.Common.{rules}
use Rattle.model.specs.Map.{place}
use Rattle.std.proofs.lemmas.Iterator.Consumers.{YieldsList-from_rest, fold_from_yields_List}
use Rattle.telling.proofs.Walking.{end_is}
use Rattle.telling.proofs.walks.end.Goals as goal

pub returns : goal.returns
returns c =
    let k = c.link_of-link.result in
    end_is c.args.m.now c.args.head k _ c.link_of-link.ensures.0 c.link_of-link.ensures.1 c.requires
    (fold_from_yields_List _ (λ _ p. place p k) _ _ c.fold.ensures.ran (YieldsList-from_rest _ c.met.ensures) (λ a x b q e. search rules))
