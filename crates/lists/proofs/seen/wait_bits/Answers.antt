use Rattle.std.proofs.Common.{refl}
use Rattle.lists.proofs.Heads.{head_none, head_some, more_none, more_some}
use Rattle.lists.proofs.seen.wait_bits.Goals as goal

pub returns-in_err-list : goal.returns-in_err-list
returns-in_err-list c = head_none _ _ _ c.none.ensures _ _ _ refl _ c.list.ensures c.in_err-list.was c.from_residual.ensures

pub returns-in_err-owns : goal.returns-in_err-owns
returns-in_err-owns c =
    head_some _ _ _ c.none.ensures _ _ _ refl _ c.list.ensures c.in_ok-list.was (more_none _ _ _ refl _ _ _ c.owns.ensures c.in_err-owns.was c.from_residual-in_err-owns.ensures)

pub returns : goal.returns
returns c =
    head_some _ _ _ c.none.ensures _ _ _ refl _ c.list.ensures c.in_ok-list.was (more_some _ _ _ refl _ _ _ c.owns.ensures c.in_ok-owns.was c.interrupts.ensures)
