use Rattle.std.proofs.Common.{rules, eqb, ◌∙◌}
use borrow.Author.Tests.{tests}
use Rattle.std.proofs.lemmas.Iterator.{YieldsList-from_slice}
use Rattle.std.proofs.lemmas.Iterator.Adapters.{YieldsList-from_skip_while}
use Rattle.std.proofs.lemmas.Iterator.Search.{all_from_yields_List}
use Rattle.model.specs.Layout.{is_letter}
use Rattle.settings.proofs.Laws.{label_is}
use Rattle.settings.proofs.block.is_label.Goals as goal

pub returns : goal.returns
returns c =
    all_from_yields_List (λ x. eqb x 0) _ _ _ c.all.ensures.ran
    (YieldsList-from_skip_while _ _ _ is_letter _ (λ x b q k. search (rules, tests)) (YieldsList-from_slice c.args.bytes.now cc) (cc) (cc))
    (λ x b q k. search (rules, tests))
    ∙ label_is c.args.bytes.now
