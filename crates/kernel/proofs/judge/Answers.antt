use Rattle.std.proofs.Common.{refl}
use Rattle.std.specs.Prelude.{Ok}
use Rattle.model.specs.Told.{Verdict}
use Rattle.model.specs.Answer.Outcome.{gives}
use Rattle.model.specs.Call as Call
use Rattle.model.specs.Coded as Coded
use Rattle.model.specs.Answer.{verdict_numbers}
use Rattle.kernel.proofs.Laws.{by_numbers, head_short, look_broken, look_goes, verdict}
use Rattle.kernel.proofs.judge.Goals as goal

pub returns-in_default-clause-outcome : goal.returns-in_default-clause-outcome
unfolding Call.judge
returns-in_default-clause-outcome c = head_short verdict (λ m. gives Verdict.WellFormed m) c.args.m.now c.in_default.ensures.cases

pub returns-in_default-clause-numbers : goal.returns-in_default-clause-numbers
returns-in_default-clause-numbers c = by_numbers verdict_numbers _ _ _ (returns-in_default-clause-outcome c)

pub returns-in_err-finding-clause-outcome : goal.returns-in_err-finding-clause-outcome
unfolding Call.judge
returns-in_err-finding-clause-outcome c =
    look_broken verdict (λ m. gives Verdict.WellFormed m) _ _ c.in-Some.ensures.cases c.in_err-finding.field-0.0 c.from_residual.result c.in_err-finding.ensures c.from_residual.ensures.1

pub returns-in_err-finding-clause-numbers : goal.returns-in_err-finding-clause-numbers
returns-in_err-finding-clause-numbers c = by_numbers verdict_numbers _ _ _ (returns-in_err-finding-clause-outcome c)

pub returns-clause-outcome : goal.returns-clause-outcome
unfolding Call.judge Coded.verdict_told
returns-clause-outcome c = look_goes verdict (λ m. gives Verdict.WellFormed m) _ _ c.in-Some.ensures.cases (Ok tt) c.in_ok-finding.ensures refl

pub returns-clause-numbers : goal.returns-clause-numbers
returns-clause-numbers c = by_numbers verdict_numbers _ _ _ (returns-clause-outcome c)
