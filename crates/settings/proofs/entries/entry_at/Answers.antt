use Rattle.settings.proofs.Laws.{entry_there}
use Rattle.settings.proofs.entries.entry_at.Goals as goal

pub returns : goal.returns
returns c =
    let h = c.in_ok-get.ensures.lookup.0 in
    let k = c.in_ok-entry.ensures.cases in
    entry_there c.args.block.now c.in_ok-get.field-0.now c.in_ok-entry.entry.now c.args.at c.from.result h.2 h.3 k.enough k.same c.from.ensures
