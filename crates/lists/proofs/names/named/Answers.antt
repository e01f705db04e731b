use Rattle.std.proofs.Common.{rules, ap, ◌∙◌, ◌≡◌}
use Rattle.std.specs.Prelude.{is_some}
use Rattle.std.proofs.lemmas.Iterator.Consumers.{YieldsList-from_rest}
use Rattle.lists.specs.Seen.{with_name, onward}
use Rattle.model.specs.Bytes.{lists}
use Rattle.model.specs.Map.{processor_list}
use Rattle.lists.proofs.Onward.{try_fold_is}
use Rattle.lists.proofs.Named.{names_are}
use Rattle.lists.proofs.names.named.Goals as goal

folded : (c : goal.After-is_some) → c.try_fold.result ≡ onward (with_name c.args.m.now) c.none.result (lists c.args.m.now processor_list)
folded c = try_fold_is _ _ _ _ _ c.try_fold.ensures.ran (YieldsList-from_rest _ c.processors.ensures) (λ a x o q k. search rules)

pub returns : goal.returns
returns c =
    c.is_some.ensures
    ∙ ap is_some (folded c)
    ∙ ap (λ b. is_some (onward (with_name c.args.m.now) b (lists c.args.m.now processor_list))) c.none.ensures
    ∙ names_are c.args.m.now
