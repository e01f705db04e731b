-- The entries that lie in some bytes, one behind the other. Fewer bytes than an entry's at the end hold none.
use Rattle.std.specs.Prelude.{ℕ, ◌/◌, List, length}
use Rattle.model.specs.declared.Entry.{Entry}
use Rattle.model.specs.Layout.{entry_bytes, entries_from}

unfoldable pub entries_in : List ℕ → List Entry
entries_in b = entries_from (length b / entry_bytes) b 0
