use Rattle.pages.proofs.Laws.{back_granted}
use Rattle.pages.proofs.give_back.Goals as goal

pub returns-in-Some : goal.returns-in-Some
returns-in-Some c = back_granted c.args.m.now c.grant_page.new.m c.args.page.0 c.in-Some.waiter c.grant_page.ensures c.in-Some.ensures
