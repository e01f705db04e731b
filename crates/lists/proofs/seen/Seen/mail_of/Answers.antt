use Rattle.std.proofs.Common.{refl}
use Rattle.lists.proofs.Heads.{head_none, head_some, last_head}
use Rattle.lists.proofs.seen.Seen.mail_of.Goals as goal

pub returns-in_err-list : goal.returns-in_err-list
returns-in_err-list c = head_none _ _ _ refl _ _ _ c.place.ensures.0 _ c.list.ensures c.in_err-list.was c.from_residual.ensures

pub returns : goal.returns
returns c = head_some _ _ _ refl _ _ _ c.place.ensures.0 _ c.list.ensures c.in_ok-list.was (last_head _ _ _ _ _ c.place-2.ensures.0 c.list-2.ensures)
