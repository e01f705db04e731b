use Rattle.std.proofs.Common.{rules, refl, eqb, ◌∙◌}
use borrow.Author.Tests.{tests}
use Rattle.std.proofs.lemmas.Iterator.Consumers.{YieldsList-from_rest}
use Rattle.std.proofs.lemmas.Iterator.Search.{any_from_yields_List}
use Rattle.settings.proofs.Laws.{bears_any}
use Rattle.settings.proofs.entries.bears.Goals as goal

pub returns : goal.returns
returns c =
    any_from_yields_List (λ e. eqb e.name c.args.name) _ _ _ c.any.ensures.ran (YieldsList-from_rest c.args.entries refl) (λ x b q k. search (rules, tests))
    ∙ bears_any c.args.name c.args.entries
