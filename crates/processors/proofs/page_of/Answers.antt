use Rattle.std.proofs.Common.{rules, tests}
use Rattle.std.proofs.lemmas.Iterator.Consumers.{YieldsList-from_rest}
use Rattle.std.proofs.lemmas.Iterator.Search.{find_from_yields_List}
use Rattle.model.specs.Map as Map
use Rattle.model.specs.Bytes as Model
use Rattle.queues.proofs.Laws.{found_by}
use Rattle.processors.proofs.page_of.Goals as goal

pub returns : goal.returns
returns c =
    let m = c.args.m.now in
    found_by (Model.is_named m c.args.name.0) Map.control_pages m Map.list_link Map.processor_list c.find.result
    (find_from_yields_List {all = Model.processors m} (Model.is_named m c.args.name.0) _ _ _ c.find.ensures.ran
    (YieldsList-from_rest (Model.processors m) (cc)) (λ x b q k. search (rules, tests)))
