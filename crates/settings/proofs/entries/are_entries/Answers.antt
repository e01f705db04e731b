use Rattle.std.proofs.Common.{rules, refl, ◌∙◌}
use Rattle.std.proofs.lemmas.Iterator.Consumers.{YieldsList-from_rest}
use Rattle.std.proofs.lemmas.Iterator.Search.{all_from_yields_List}
use Rattle.model.specs.Layout.{is_entry}
use Rattle.settings.proofs.Laws.{entries_all}
use Rattle.settings.proofs.entries.are_entries.Goals as goal

pub returns : goal.returns
returns c =
    all_from_yields_List is_entry _ _ _ c.all.ensures.ran (YieldsList-from_rest c.args.entries refl) (λ x b q k. search rules) ∙ entries_all c.args.entries
