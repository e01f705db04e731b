use Rattle.std.proofs.Common.{sym, ◌∙◌}
use Rattle.settings.proofs.Laws.{entries_none, entries_first, fewer}
use Rattle.settings.proofs.entries.EntriesIterator.next.Goals as goal

pub returns-in_err-entry-clause-steps : goal.returns-in_err-entry-clause-steps
returns-in_err-entry-clause-steps c =
    let e = sym c.self.view_is ∙ entries_none c.self.inside.bytes.now c.in_err-entry.ensures.cases in
    rw c.from_residual.ensures (e, e)

pub returns-clause-steps : goal.returns-clause-steps
returns-clause-steps c =
    let h = c.in_ok-entry.ensures.cases in
    sym c.self.view_is
    ∙ entries_first c.self.inside.bytes.now c.in_ok-entry.entry.now c.in_ok-entry.rest.now c.from.result h.0 h.1 h.2 c.from.ensures

pub returns-clause-goes : goal.returns-clause-goes
returns-clause-goes c =
    let e = returns-clause-steps c in record { on = λ f. (tt, tt, fewer e); keeps = tt; rests = λ f. tt }
