-- Refusals and faults: "A fault sets the stopped bit, enters page 9, leaves LR; then who runs."
use Rattle.std.specs.Prelude.{ℕ, ◌+◌, cond, ltb}
use Rattle.model.specs.Told.Answer.{Fault}
use Rattle.model.specs.Store.{Store}
use Rattle.model.specs.Map.{pair, first_unused, entry_at, entries_full}
use Rattle.model.specs.Address.{at, write}
use Rattle.model.specs.Processor.{name, running, stop}
use Rattle.model.specs.Turn.{who_runs}
use Rattle.model.specs.Answer.{Step}
use Rattle.model.specs.Answer.Outcome.{gives}

module _ (S : Store) where
  -- "each entry is name*16 + fault. When it is 32, faults are no longer entered."
  unfoldable pub entered : S.M → ℕ → S.M
  entered m e = cond (ltb (at S m first_unused) entries_full) (write S (write S m (entry_at (at S m first_unused)) e) first_unused (at S m first_unused + 1)) m

  -- "The answer gives its number and the name."
  unfoldable pub fault : S.M → ℕ → Step S
  fault m f = gives (Fault f (name S m (running S m))) (who_runs S (entered (stop S m (running S m)) (pair (name S m (running S m)) f)))
