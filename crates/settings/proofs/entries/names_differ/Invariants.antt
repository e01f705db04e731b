use Rattle.std.proofs.Common.{◌≡◌}
use Rattle.model.specs.Layout.{names_differ}
use Rattle.settings.proofs.entries.names_differ.Given as goal

abbrev pub invariant-loop-e : goal.invariant-loop-e
invariant-loop-e l =
    (goal.iterator-loop-e).can_next l.entries × (goal.iterator-loop-e).is_finite l.entries × (names_differ l.entries ≡ names_differ l.initial.entries)
