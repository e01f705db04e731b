use Rattle.std.proofs.Common.{rules, ap, length, arith, inl, eqb, ◌∙◌}
use Rattle.model.specs.Map.{processor_list}
use Rattle.std.proofs.lemmas.Iterator.Consumers.{YieldsList-from_rest, YieldsList-from_filter, count_from_yields_List}
use Rattle.telling.proofs.Walking.{met_short, filter_count}
use Rattle.telling.proofs.walks.listed_once.Goals as goal

pub count-requires-clause-fits : goal.count-requires-clause-fits
count-requires-clause-fits c =
    inl (omega (arith, met_short c.args.m.now processor_list, ap length (c.filter.ensures.source ∙ c.processors.ensures)))

pub returns : goal.returns
returns c =
    let road = YieldsList-from_filter _ (λ x. eqb x c.args.page) (YieldsList-from_rest _ (c.filter.ensures.source ∙ c.processors.ensures)) c.filter.ensures.closure (λ x b q k. search rules) in
    ap (λ n. eqb n 1) (count_from_yields_List _ _ c.count.ensures.ran road ∙ filter_count c.args.page _)
