use Rattle.kernel.proofs.Laws.{instruction_fetched}
use Rattle.kernel.proofs.instruction_judged.Goals as goal

pub returns : goal.returns
returns c =
    instruction_fetched c.args.m.now c.in_ok-runner.field-0 c.in_ok-runner.ensures c.fetched.result c.fetched.new.m c.lr-address.result c.lr-address.ensures.0 c.fetched.ensures
