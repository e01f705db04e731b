use Rattle.host.proofs.Laws.{held_encoded}
use Rattle.host.proofs.wik_read_registers.Goals as goal

pub returns : goal.returns
returns c = held_encoded _ _ _ _ c.read_registers.ensures.outcome c.encode_held.ensures
