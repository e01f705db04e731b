use Rattle.std.proofs.Common.{rules, ap, ◌∙◌, ◌+◌, ◌*◌}
use Rattle.model.specs.Bytes.{lists}
use Rattle.model.specs.Judge as Judge
use Rattle.lists.proofs.Each.{list_holds}
use Rattle.judge.proofs.waits.served.Goals as goal

pub returns : goal.returns
unfolding Judge.served
returns c = list_holds _ _ _ _ _ _ c.all.ensures.ran (c.list_of.ensures ∙ ap (λ k. lists c.args.m.now (132 + 2 * k)) c.wide.ensures.0) (λ x b q k. search rules)
