use Rattle.std.proofs.Common.{rules}
use Rattle.model.specs.Map as Map
use Rattle.model.specs.Turn as Turn
use Rattle.model.specs.Bytes as Model
use Rattle.turn.proofs.Laws.{words_made}
use Rattle.turn.proofs.on_page0.Goals as goal

pub returns : goal.returns
unfolding Turn.on_page0
returns c = let m = c.args.m.now in words_made (λ i. Model.at m (Map.zero_place i)) c.from_fn.result c.from_fn.ensures.items (λ x y q k. search rules)
