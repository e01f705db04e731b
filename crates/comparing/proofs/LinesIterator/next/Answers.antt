use Rattle.std.proofs.Common.{sym, ◌∙◌}
use Rattle.comparing.proofs.Laws.{none_left, first_left, fewer}
use Rattle.comparing.proofs.LinesIterator.next.Goals as goal

pub returns-in_err-line-clause-steps : goal.returns-in_err-line-clause-steps
returns-in_err-line-clause-steps c =
    let e = sym c.self.view_is ∙ none_left _ _ _ c.in_err-line.ensures in rw c.from_residual.ensures (e, e)

pub returns-clause-steps : goal.returns-clause-steps
returns-clause-steps c = sym c.self.view_is ∙ first_left _ _ _ _ _ c.in_ok-line.ensures

pub returns-clause-goes : goal.returns-clause-goes
returns-clause-goes c =
    let e = returns-clause-steps c in record { on = λ f. (tt, tt, fewer e); keeps = tt; rests = λ f. tt }
