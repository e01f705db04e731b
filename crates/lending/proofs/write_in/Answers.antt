use Rattle.lending.proofs.Parts.{written_is}
use Rattle.lending.proofs.write_in.Goals as goal

pub returns : goal.returns
returns c =
    written_is _ _ _ _ _ _ _ _ _ _ _ c.requires.1 c.copy_out.ensures c.write_settings-given.ensures.outcome c.lay.ensures
