-- What `site FILE` prints of a good block b, "one line each, in this order": version, line, divider, site (versions 2 and 3), label (version 3), then the
-- entries.
use Rattle.std.specs.Prelude.{ℕ, ◌+◌, ◌-◌, ◌*◌, cond, List, eqb, ltb, leb, Option, None, Some}
use Rattle.model.specs.Layout as Layout
use Rattle.model.specs.Layout.{entry_bytes, version_of, count_of, line_of, divider_of, site_of, head_bytes, entry_at}
use Rattle.sheet.specs.declared.rows.Row.{Row}
use Rattle.sheet.specs.declared.rows.Row.TheVariants.{Version, Line, Divider, Site, Label, Processor}

-- how many rows stand before the entries
unfoldable pub head_rows : ℕ → ℕ
head_rows v = cond (ltb v Layout.sited) 3 (cond (ltb v Layout.labelled) 4 5)

unfoldable pub head_row : List ℕ → ℕ → Row
head_row b n =
    cond (eqb n 0) (Version (version_of b))
    (cond (eqb n 1) (Line (line_of b))
    (cond (eqb n 2) (Divider (divider_of b))
    (cond (eqb n 3) (Site (site_of b))
    Label)))

unfoldable pub entry_row : List ℕ → ℕ → Option Row
entry_row b n = cond (leb (count_of b) n) None (Some (Processor (entry_at b (head_bytes (version_of b) + n * entry_bytes))))

-- the row n, from 0 on, if there are so many
unfoldable pub row_at : List ℕ → ℕ → Option Row
row_at b n = cond (ltb n (head_rows (version_of b))) (Some (head_row b n)) (entry_row b (n - head_rows (version_of b)))
