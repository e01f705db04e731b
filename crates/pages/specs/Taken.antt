-- A page taken, if there is one, and the memory without it: the model's, whose page 0 is none.
use Rattle.std.specs.Prelude.{◌≡◌, Option}
use Rattle.model.specs.declared.ControlPage.{ControlPage}
use Rattle.model.specs.Coded.{found}
use Rattle.model.specs.Page.{Taken}
use Rattle.model.specs.Page.Taken.{took}
use Rattle.model.specs.Bytes.{Memory}

abbrev pub Gives : Taken Memory → Option ControlPage → Memory → Type 0
Gives (took q n) r m = (r ≡ found q) × (m ≡ n)
