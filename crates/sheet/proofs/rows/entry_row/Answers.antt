use Rattle.std.proofs.Common.{refl}
use Rattle.std.proofs.lemmas.Iterator.Consumers.{YieldsList-from_rest, nth_from_yields_List}
use Rattle.sheet.proofs.Shown.{row_entry}
use Rattle.sheet.proofs.rows.entry_row.Goals as goal

pub returns : goal.returns
returns c =
    let e = nth_from_yields_List _ _ _ c.nth.ensures.ran (YieldsList-from_rest c.of.result refl) in
    row_entry _ _ _ _ c.of.ensures c.from.ensures _ _ e c.map.ensures.cases
