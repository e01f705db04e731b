use Rattle.std.proofs.Common.{rules, ap, ◌∙◌}
use Rattle.model.specs.Bytes.{lists}
use Rattle.lists.proofs.Each.{list_holds}
use Rattle.judge.proofs.waits.none_asked.Goals as goal

pub returns : goal.returns
returns c = list_holds _ _ _ _ _ _ c.all.ensures.ran (c.list_of.ensures ∙ ap (lists c.args.m.now) c.place.ensures.0) (λ x b q k. search rules)
