-- Whether page p is above the leader, if there is one: the model's `above`, whose page 0 leads nobody.
use Rattle.std.specs.Prelude.{ℕ, Bool, true, Option, Some, None, ltb}
use Rattle.model.specs.declared.ControlPage.{ControlPage}
use Rattle.model.specs.Bytes.{Memory, priority}

abbrev pub above_leader : Memory → Option ControlPage → ℕ → Bool
above_leader m None p = true
above_leader m (Some b) p = ltb (priority m b.0) (priority m p)
