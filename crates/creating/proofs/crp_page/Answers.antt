use Rattle.std.proofs.Common.{ℕ}
use Rattle.model.specs.Operate as Operate
use Rattle.model.specs.Bytes as Model
use Rattle.pages.proofs.Laws.{page_none, page_taken}
use Rattle.creating.proofs.crp_page.Goals as goal

pub returns-in-Some : goal.returns-in-Some
unfolding Operate.crp_page
returns-in-Some c =
    let n = c.args.new in
    page_taken c.args.m.now c.take_page.new.m _ (λ (q : ℕ) m. Model.created m q n.name.0 n.priority n.w n.address) c.args.length c.running-runner.result.0
    c.running-runner.ensures c.in-Some.page c.create.new.m c.in-Some.ensures c.create.ensures c.done.ensures

pub returns-in-None : goal.returns-in-None
unfolding Operate.crp_page
returns-in-None c =
    let n = c.args.new in
    page_none c.args.m.now c.take_page.new.m _ (λ (q : ℕ) m. Model.created m q n.name.0 n.priority n.w n.address) c.args.length c.running-runner.result.0
    c.running-runner.ensures c.in-None.ensures c.wait_for_page.ensures
