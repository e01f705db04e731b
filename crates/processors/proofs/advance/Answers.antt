use Rattle.std.proofs.Common.{rules}
use Rattle.processors.proofs.Records.{advance_is}
use Rattle.processors.proofs.advance.Goals as goal

pub returns : goal.returns
returns c =
    advance_is c.args.m.now c.hand_back.new.m c.running-runner.result.0 c.of.result c.advance.result (search rules) c.of.ensures.0 c.args.length
    c.running-runner.ensures
    c.advance.ensures.0 c.hand_back.ensures
