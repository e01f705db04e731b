use Rattle.std.proofs.Common.{sym, ◌∙◌}
use Rattle.telling.proofs.Walking.{path_none, path_end, path_on, fewer}
use Rattle.telling.proofs.walks.PathIterator.next.Goals as goal

pub returns-then-self-eq0-clause-steps : goal.returns-then-self-eq0-clause-steps
returns-then-self-eq0-clause-steps c =
    let w = c.self.inside in let e = sym c.self.view_is ∙ path_none w.left w.m.now w.link w.cell c.if-self-eq0.true in (e, e)

pub returns-then-not-lies-clause-steps : goal.returns-then-not-lies-clause-steps
returns-then-not-lies-clause-steps c =
    let w = c.self.inside in
    let e = sym c.self.view_is ∙ path_end w.left w.m.now w.link w.cell c.at-word.result c.lies.result c.at-word.ensures c.lies.ensures c.if-not-lies.true in (e, e)

pub returns-clause-steps : goal.returns-clause-steps
returns-clause-steps c =
    let w = c.self.inside in
    sym c.self.view_is
    ∙ path_on w.left w.m.now w.link w.cell c.at-word.result c.lies.result c.at-word.ensures c.lies.ensures
    c.place-self-inside.result c.if-self-eq0.false c.if-not-lies.false c.place-self-inside.ensures.0

pub returns-clause-goes : goal.returns-clause-goes
returns-clause-goes c =
    let e = returns-clause-steps c in record { on = λ f. (tt, tt, fewer e); keeps = tt; rests = λ f. tt }
