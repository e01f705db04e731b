use Rattle.std.proofs.Common.{rules}
use Rattle.model.specs.Map as Map
use Rattle.model.specs.Turn as Turn
use Rattle.model.specs.Bytes as Model
use Rattle.turn.proofs.Laws.{words_made}
use Rattle.turn.proofs.kept_on.Goals as goal

pub returns : goal.returns
unfolding Turn.kept_on
returns c = let m = c.args.m.now in words_made (λ i. Model.word m c.args.page.0 (Map.keeps i)) c.from_fn.result c.from_fn.ensures.items
    (λ x y q k. search rules)
