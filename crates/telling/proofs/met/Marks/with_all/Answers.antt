use Rattle.std.proofs.Common.{rules, refl, ◌∙◌}
use Rattle.std.proofs.lemmas.Iterator.Consumers.{YieldsList-from_rest, fold_from_yields_List}
use Rattle.telling.specs.Met.{marked}
use Rattle.telling.proofs.Meeting.{fold_marks}
use Rattle.telling.proofs.met.Marks.with_all.Goals as goal

pub returns : goal.returns
returns c = fold_from_yields_List _ marked _ _ c.fold.ensures.ran (YieldsList-from_rest _ refl) (λ a x b q e. search rules) ∙ fold_marks c.args.self c.args.pages
