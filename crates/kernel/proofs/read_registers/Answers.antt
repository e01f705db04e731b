use Rattle.model.specs.Call as Call
use Rattle.model.specs.Coded as Coded
use Rattle.model.specs.Answer.{held_numbers}
use Rattle.model.specs.Bytes as Model
use Rattle.kernel.proofs.Laws.{by_numbers, head_short, look_broken, look_goes, held}
use Rattle.kernel.proofs.read_registers.Goals as goal

pub returns-in_default-clause-outcome : goal.returns-in_default-clause-outcome
unfolding Call.read_registers
returns-in_default-clause-outcome c = head_short held (λ m. Model.read_judged m) c.args.m.now c.in_default.ensures.cases

pub returns-in_default-clause-numbers : goal.returns-in_default-clause-numbers
returns-in_default-clause-numbers c = by_numbers held_numbers _ _ _ (returns-in_default-clause-outcome c)

pub returns-in_err-finding-clause-outcome : goal.returns-in_err-finding-clause-outcome
unfolding Call.read_registers
returns-in_err-finding-clause-outcome c =
    look_broken held (λ m. Model.read_judged m) _ _ c.in-Some.ensures.cases c.in_err-finding.field-0.0 c.from_residual.result c.in_err-finding.ensures c.from_residual.ensures.1

pub returns-in_err-finding-clause-numbers : goal.returns-in_err-finding-clause-numbers
returns-in_err-finding-clause-numbers c = by_numbers held_numbers _ _ _ (returns-in_err-finding-clause-outcome c)

pub returns-clause-outcome : goal.returns-clause-outcome
unfolding Call.read_registers Coded.verdict_told
returns-clause-outcome c = look_goes held (λ m. Model.read_judged m) _ _ c.in-Some.ensures.cases c.read_judged.result c.in_ok-finding.ensures c.read_judged.ensures

pub returns-clause-numbers : goal.returns-clause-numbers
returns-clause-numbers c = by_numbers held_numbers _ _ _ (returns-clause-outcome c)
