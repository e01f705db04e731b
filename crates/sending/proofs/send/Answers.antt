use Rattle.std.proofs.Common.{ℕ}
use Rattle.model.specs.Operate as Operate
use Rattle.model.specs.Bytes as Model
use Rattle.pages.proofs.Laws.{page_taken}
use Rattle.sending.proofs.send.Goals as goal

pub returns-in-Some : goal.returns-in-Some
unfolding Operate.sent
returns-in-Some c =
    page_taken c.args.m.now c.take_page.new.m _ (λ (q : ℕ) m. Model.posted m q c.args.note.name.0 c.args.note.flag c.args.address c.args.size) c.args.length
    c.running-runner.result.0 c.running-runner.ensures c.in-Some.page c.post.new.m c.in-Some.ensures c.post.ensures c.done.ensures
