use Rattle.deleting.proofs.Laws.{grant_back}
use Rattle.deleting.proofs.Leaving.return_grant.Goals as goal

pub returns-in-Some : goal.returns-in-Some
returns-in-Some c =
    grant_back c.args.m.now c.args.self.name.0 c.grant-own.result c.grant-own.ensures.0 c.in-Some.page c.write.new.m c.give_back.new.m c.give_back.ensures
    c.write.ensures
    c.in-Some.ensures
