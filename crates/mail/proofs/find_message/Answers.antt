use Rattle.std.proofs.Common.{rules, tests}
use Rattle.std.proofs.lemmas.Iterator.Consumers.{YieldsList-from_rest}
use Rattle.std.proofs.lemmas.Iterator.Search.{find_from_yields_List}
use Rattle.model.specs.Map as Map
use Rattle.model.specs.Bytes as Model
use Rattle.queues.proofs.Laws.{found_by}
use Rattle.mail.proofs.find_message.Goals as goal

pub returns : goal.returns
returns c =
    let m = c.args.m.now in
    let q = c.args.queue in
    let t = Model.matches m c.args.asked.name.0 c.args.asked.flag in
    found_by t Map.control_pages m q.link q.header c.find.result
    (find_from_yields_List {all = Model.walk Map.control_pages m q.link q.header} t _ _ _ c.find.ensures.ran (YieldsList-from_rest _ c.pages.ensures)
    (λ x b j k. search (rules, tests)))
