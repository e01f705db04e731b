use Rattle.settling.proofs.Laws.{made_is}
use Rattle.settling.proofs.make.Goals as goal

pub returns : goal.returns
returns c = made_is _ _ _ c.args.e _ _ _ c.running-runner.ensures c.take_page.ensures c.unwrap_or-page.ensures c.create.ensures
