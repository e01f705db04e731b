-- A burst by its pairs of number and class number, for those who take a list of them.
use Rattle.std.specs.Prelude.{ℕ, ◌+◌, List, [], ◌∷◌, get_or}
use Rattle.model.specs.Told.{Checked}
use Rattle.model.specs.Told.Checked.{Good, Bad}
use Rattle.model.specs.Address.{unless}
use Rattle.model.specs.Answer.{no_interrupt, wrong_class}
use Rattle.model.specs.Call.{is_outer, is_class}
use Rattle.model.specs.Bytes.{Memory, delivered, who_runs}

abbrev pub number_in : List ℕ → ℕ
number_in p = get_or p 0 0

abbrev pub class_in : List ℕ → ℕ
class_in p = get_or p 1 0

-- what comes of their tests, where the first has place i
unfoldable pub pairs_tested : ℕ → List (List ℕ) → Checked
pairs_tested i [] = Good
pairs_tested i (p ∷ ps) =
    unless (is_outer (number_in p)) (Bad no_interrupt i)
    (unless (is_class (number_in p) (class_in p)) (Bad wrong_class i)
    (pairs_tested (i + 1) ps))

-- the memory once all have arrived
unfoldable pub pairs_arrived : Memory → List (List ℕ) → Memory
pairs_arrived m [] = m
pairs_arrived m (p ∷ ps) = pairs_arrived (who_runs (delivered m (number_in p) (class_in p))) ps
