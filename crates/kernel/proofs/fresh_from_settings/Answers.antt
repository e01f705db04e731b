use Rattle.model.specs.Answer.{numbers}
use Rattle.kernel.proofs.Laws.{by_numbers, file_good, newest_good, settings_done, settings_refused, settings_short}
use Rattle.kernel.proofs.fresh_from_settings.Goals as goal

pub returns-in_default-clause-outcome : goal.returns-in_default-clause-outcome
returns-in_default-clause-outcome c = settings_short c.args.m.now c.args.file.now c.in_default.ensures.cases

pub returns-in_default-clause-numbers : goal.returns-in_default-clause-numbers
returns-in_default-clause-numbers c = by_numbers numbers _ _ _ (returns-in_default-clause-outcome c)

pub returns-in_err-of_file-clause-outcome : goal.returns-in_err-of_file-clause-outcome
returns-in_err-of_file-clause-outcome c =
    settings_refused c.args.file.now _ _ c.in-Some.ensures.cases c.in_err-of_file.field-0.0 c.from_residual.result c.in_err-of_file.ensures c.from_residual.ensures.1

pub returns-in_err-of_file-clause-numbers : goal.returns-in_err-of_file-clause-numbers
returns-in_err-of_file-clause-numbers c = by_numbers numbers _ _ _ (returns-in_err-of_file-clause-outcome c)

pub newest-requires : goal.newest-requires
newest-requires c = file_good c.args.file.now c.in_ok-of_file.ensures

pub settle-requires : goal.settle-requires
settle-requires c = newest_good c.args.file.now c.newest.result.now c.in_ok-of_file.ensures c.newest.ensures

pub returns-clause-outcome : goal.returns-clause-outcome
returns-clause-outcome c =
    settings_done c.args.file.now _ _ c.in-Some.ensures.cases c.newest.result.now c.settle.new.m c.in_ok-of_file.ensures c.newest.ensures c.settle.ensures

pub returns-clause-numbers : goal.returns-clause-numbers
returns-clause-numbers c = by_numbers numbers _ _ _ (returns-clause-outcome c)
