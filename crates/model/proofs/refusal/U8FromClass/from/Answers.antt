use Rattle.std.proofs.Common.{◌≡◌, ◌+◌, refl}
use denote.Enum.Declared.{tag_of}
use Rattle.model.specs.declared.refusal.Class.{Class}
use Rattle.model.specs.declared.refusal.Class.TheVariants.{Pages, Waits, Records, Tables, Counters}
use Rattle.model.specs.contracts.refusal.Class.{the_type}
use Rattle.model.specs.Coded.{class_number}
use Rattle.model.proofs.refusal.U8FromClass.from.Goals as goal

numbered : (c : Class) → tag_of the_type c + 30 ≡ class_number c
unfolding class_number
numbered Pages = refl
numbered Waits = refl
numbered Records = refl
numbered Tables = refl
numbered Counters = refl

pub returns : goal.returns
returns c = numbered c.args.class
