use Rattle.model.specs.Burst as Burst
use Rattle.model.specs.Answer.{numbers}
use Rattle.model.specs.Bytes as Model
use Rattle.kernel.proofs.Laws.{by_numbers, head_broken, head_goes, head_short, step}
use Rattle.kernel.proofs.burst.Goals as goal

pub returns-in_default-clause-outcome : goal.returns-in_default-clause-outcome
unfolding Burst.burst
returns-in_default-clause-outcome c = head_short step (λ m. Model.burst_judged m c.args.list.now) c.args.m.now c.in_default.ensures.cases

pub returns-in_default-clause-numbers : goal.returns-in_default-clause-numbers
returns-in_default-clause-numbers c = by_numbers numbers _ _ _ (returns-in_default-clause-outcome c)

pub returns-in_err-finding-clause-outcome : goal.returns-in_err-finding-clause-outcome
unfolding Burst.burst
returns-in_err-finding-clause-outcome c =
    head_broken step (λ m. Model.burst_judged m c.args.list.now) _ _ c.in-Some.ensures.cases c.in_err-finding.field-0.0 c.from_residual.result c.in_err-finding.ensures c.from_residual.ensures.1

pub returns-in_err-finding-clause-numbers : goal.returns-in_err-finding-clause-numbers
returns-in_err-finding-clause-numbers c = by_numbers numbers _ _ _ (returns-in_err-finding-clause-outcome c)

pub returns-clause-outcome : goal.returns-clause-outcome
unfolding Burst.burst
returns-clause-outcome c =
    head_goes step (λ m. Model.burst_judged m c.args.list.now) _ _ c.in-Some.ensures.cases c.burst_judged.result c.burst_judged.new.m c.in_ok-finding.ensures c.burst_judged.ensures

pub returns-clause-numbers : goal.returns-clause-numbers
returns-clause-numbers c = by_numbers numbers _ _ _ (returns-clause-outcome c)
