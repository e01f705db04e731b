use Rattle.std.proofs.Common.{rules, ap, length, ◌∙◌, ◌≡◌, ◌≤◌}
use Rattle.std.specs.Prelude.{filter}
use mathlib.Core.Logic.{inl}
use native.Mathlib.Omega.{arith}
use Rattle.std.proofs.lemmas.Iterator.Consumers.{YieldsList-from_rest, YieldsList-from_filter, count_from_yields_List}
use lib.Dec.{eqb}
use Rattle.model.specs.Map.{list_link}
use Rattle.model.specs.Bytes.{walk}
use Rattle.lists.proofs.Folds.{walk_most, filter_most, count_passed}
use Rattle.lists.proofs.listings.Goals as goal

pub count-requires-clause-fits : goal.count-requires-clause-fits
count-requires-clause-fits c =
    inl (omega (arith, walk_most c.args.left c.args.m.now list_link c.args.cell, ap length (c.filter.ensures.source ∙ c.new.ensures), c.ranges.left.fits))

counted : (c : goal.After-count) → c.count.result ≡ length (filter (λ y. eqb c.args.page y) (walk c.args.left c.args.m.now list_link c.args.cell))
counted c =
    count_from_yields_List _ _ c.count.ensures.ran
    (YieldsList-from_filter _ (λ y. eqb c.args.page y) (YieldsList-from_rest _ (c.filter.ensures.source ∙ c.new.ensures)) c.filter.ensures.closure (λ x b q k. search rules))

few : (c : goal.After-count) → c.count.result ≤ c.args.left
few c =
    omega (
      arith,
      counted c,
      walk_most c.args.left c.args.m.now list_link c.args.cell,
      filter_most (λ y. eqb c.args.page y) (walk c.args.left c.args.m.now list_link c.args.cell),
    )

pub overflow_cast-result : goal.overflow_cast-result
overflow_cast-result c = omega (arith, few c, c.ranges.left.fits)

pub returns : goal.returns
returns c = (counted c ∙ count_passed c.args.page _, few c)
