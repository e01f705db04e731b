use Rattle.std.proofs.Common.{◌≡◌, true}
use Rattle.model.specs.Layout.{are_entries}
use Rattle.model.specs.Bytes.{all_made}
use Rattle.settling.proofs.settle.Given as goal

abbrev pub invariant-loop-entry : goal.invariant-loop-entry
invariant-loop-entry l = (all_made l.m l.entry-iterator ≡ all_made l.initial.m l.initial.entry-iterator) × (are_entries l.entry-iterator ≡ true)
