use Rattle.std.proofs.Common.{refl}
use Rattle.lists.proofs.Heads.{head_none, head_some, more_none, more_some}
use Rattle.lists.proofs.seen.used_bits.Goals as goal

pub returns-in_err-list : goal.returns-in_err-list
returns-in_err-list c = head_none _ _ _ c.none.ensures _ _ _ refl _ c.list.ensures c.in_err-list.was c.from_residual.ensures

pub returns-in_err-list-2 : goal.returns-in_err-list-2
returns-in_err-list-2 c =
    head_some _ _ _ c.none.ensures _ _ _ refl _ c.list.ensures c.in_ok-list.was
    (head_none _ _ _ refl _ _ _ refl _ c.list-2.ensures c.in_err-list-2.was c.from_residual-in_err-list-2.ensures)

pub returns-in_err-mail : goal.returns-in_err-mail
returns-in_err-mail c =
    head_some _ _ _ c.none.ensures _ _ _ refl _ c.list.ensures c.in_ok-list.was
    (head_some _ _ _ refl _ _ _ refl _ c.list-2.ensures c.in_ok-list-2.was (more_none _ _ _ refl _ _ _ c.mail.ensures c.in_err-mail.was c.from_residual-in_err-mail.ensures))

pub returns : goal.returns
returns c =
    head_some _ _ _ c.none.ensures _ _ _ refl _ c.list.ensures c.in_ok-list.was
    (head_some _ _ _ refl _ _ _ refl _ c.list-2.ensures c.in_ok-list-2.was (more_some _ _ _ refl _ _ _ c.mail.ensures c.in_ok-mail.was c.grants.ensures))
