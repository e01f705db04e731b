use Rattle.comparing.proofs.Laws.{parts_are}
use Rattle.comparing.proofs.names.differences.Goals as goal

pub returns : goal.returns
returns c =
    parts_are c.args.first.now c.args.second.now c.args.p.0 c.args.q.0 _ _ _ _ _ _ _ _ _ _ _ c.state_of.ensures c.state_of-2.ensures c.same_state.ensures
    c.priority.ensures c.priority-2.ensures c.place.ensures.0 c.place-2.ensures.0 c.same_mail.ensures c.place-3.ensures.0 c.place-4.ensures.0
    c.same_mail-2.ensures
