use Rattle.std.proofs.Common.{rules, tests, ◌∙◌, refl, arith}
use Rattle.std.proofs.lemmas.Iterator.{YieldsList-from_range}
use Rattle.std.proofs.lemmas.Iterator.Search.{all_from_yields_List}
use Rattle.model.specs.Coded.{shape_number}
use Rattle.arguments.proofs.Laws.{fits, fits_all}
use Rattle.arguments.proofs.Words.within.Goals as goal

pub returns : goal.returns
returns c =
    let test = fits c.args.self.now.m.now c.args.self.now.start (shape_number c.args.shape) c.limits-limits.result c.limits-limits.ensures in
    all_from_yields_List test _ _ _ c.all.ensures.ran (YieldsList-from_range 0 c.args.count c.args.count refl (omega arith)) (λ x b q k. search (rules, tests))
    ∙ fits_all c.args.self.now.m.now c.args.self.now.start (shape_number c.args.shape) c.limits-limits.result c.limits-limits.ensures c.args.count c.requires
