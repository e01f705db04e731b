use Rattle.std.proofs.Common.{sym, ◌∙◌}
use Rattle.queues.proofs.Laws.{walk_none, walk_stops, walk_goes, fewer}
use Rattle.queues.proofs.WalkIterator.next.Goals as goal

pub returns-then-self-eq0-clause-steps : goal.returns-then-self-eq0-clause-steps
returns-then-self-eq0-clause-steps c =
    let w = c.self.inside in let e = sym c.self.view_is ∙ walk_none w.left w.m.now w.link w.cell c.if-self-eq0.true in (e, e)

pub returns-in_err-page-clause-steps : goal.returns-in_err-page-clause-steps
returns-in_err-page-clause-steps c =
    let w = c.self.inside in let e = sym c.self.view_is ∙ walk_stops w.left w.m.now w.link w.cell c.in_err-page.ensures in
    let h = c.from_residual.ensures in rw h (e, e)

pub returns-clause-steps : goal.returns-clause-steps
returns-clause-steps c =
    let w = c.self.inside in
    sym c.self.view_is
    ∙ walk_goes w.left w.m.now w.link w.cell c.place-self-inside.result c.in_ok-page.page c.if-self-eq0.false c.in_ok-page.ensures
    c.place-self-inside.ensures.0

pub returns-clause-goes : goal.returns-clause-goes
returns-clause-goes c =
    let e = returns-clause-steps c in record { on = λ f. (tt, tt, fewer e); keeps = tt; rests = λ f. tt }
