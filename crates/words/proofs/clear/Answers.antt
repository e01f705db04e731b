use Rattle.std.proofs.Common.{rules, tests, refl, arith}
use Rattle.std.proofs.lemmas.Iterator.{YieldsList-from_range}
use Rattle.std.proofs.lemmas.Iterator.Search.{all_from_yields_List}
use Rattle.words.proofs.Laws.{clear_all, free}
use Rattle.words.proofs.clear.Goals as goal

pub returns : goal.returns
returns c =
    clear_all c.args.count c.args.address c.all.result
    (all_from_yields_List (free c.args.address) _ _ _ c.all.ensures.ran (YieldsList-from_range 0 c.args.count c.args.count refl (omega arith))
    (λ x b q k. search (rules, tests)))
