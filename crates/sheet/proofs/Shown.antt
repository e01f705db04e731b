-- Laws of the rows that are shown of a block b, a law for each way through the code.
use Prim.Native.Nat.{ℕ, zero, suc, ◌+◌, ◌-◌, ◌*◌, ◌≤◌, ◌<◌}
use mathlib.Core.Path.{◌≡◌, refl, sym, ap, ◌∙◌}
use mathlib.Core.Bool.{Bool, true, false, cond}
use mathlib.Core.List.{List}
use lib.Dec.{eqb, leb}
use lib.ListN.{length, get_or}
use borrow.Author.Tests.{eqb-true, ne_eqb, lt-ltb, le-ltb, leb-true, leb-false}
use native.Mathlib.Omega.{arith}
use Rattle.std.specs.Prelude.{Option, None, Some, option_map, MatchOption, IsSomeAnd}
use Rattle.std.specs.List.{slice_get}
use Rattle.std.proofs.lemmas.Iterator.Adapters.{option_map_id}
use Rattle.model.specs.declared.Entry.{Entry}
use Rattle.model.specs.Told.{Fit}
use Rattle.model.specs.Told.Fit.{Good}
use Rattle.model.specs.Layout as Layout
use Rattle.model.specs.Layout.{head_bytes, block_bytes, version_of, count_of, entry_at, entries_from, entries_of, of_block, of_file, is_good, newest}
use Rattle.laws.specs.Fits.{Laid, good_is, laid_least, block_of, ends_of}
use Rattle.sheet.specs.declared.rows.Row.{Row}
use Rattle.sheet.specs.declared.rows.Row.TheVariants.{Version, Line, Divider, Site, Label, Processor}
use Rattle.sheet.specs.Rows as Rows
use Rattle.sheet.specs.Rows.{head_rows, head_row, entry_row, row_at}

-- ---- a good block is laid out
good_laid : (b : List ℕ) → is_good (of_block b) ≡ true → Laid b
good_laid b h = (block_of b (good_is (of_block b) h)).laid

-- the first four bytes are there
good_least : (b : List ℕ) (i : ℕ) → is_good (of_block b) ≡ true → i < 4 → i < length b
good_least b i h l = omega (arith, laid_least b (good_laid b h))

module _ (b : List ℕ) (h : is_good (of_block b) ≡ true) where
  pub good_version : 0 < length b
  good_version = good_least b 0 h (omega arith)

  pub good_count : 1 < length b
  good_count = good_least b 1 h (omega arith)

  pub good_line : 2 < length b
  good_line = good_least b 2 h (omega arith)

  pub good_divider : 3 < length b
  good_divider = good_least b 3 h (omega arith)

-- where there is a row of the site there is a site
sited_head : (v : ℕ) → 3 < head_rows v → 5 ≤ head_bytes v
unfolding Rows.head_rows Layout.head_bytes
sited_head v h = go (eqb v 1) (eqb v 2) refl
  where
    go : (x y : Bool) → eqb v 1 ≡ x → 5 ≤ cond x 4 (cond y 5 17)
    go true y e = let z = eqb-true v 1 e in absurd (omega (arith, rw (lt-ltb v 2 (omega arith)) at h))
    go false true e = omega arith
    go false false e = omega arith

pub site_room : (b : List ℕ) (n : ℕ) → is_good (of_block b) ≡ true → n < head_rows (get_or b 0 0) → n ≡ 3 → 4 < length b
site_room b n h l z =
    let t = good_laid b h in
    omega (arith, t.long, sited_head (get_or b 0 0) (omega arith))

-- ---- the rows of the head: x is the byte that was read
module _ (b : List ℕ) (n x : ℕ) where
  pub row_version : n ≡ 0 → x ≡ get_or b 0 0 → Version x ≡ head_row b n
  unfolding Rows.head_row
  row_version z e = rw (z, e)

  pub row_line : n ≡ 1 → x ≡ get_or b 2 0 → Line x ≡ head_row b n
  unfolding Rows.head_row
  row_line z e = rw (z, e)

  pub row_divider : n ≡ 2 → x ≡ get_or b 3 0 → Divider x ≡ head_row b n
  unfolding Rows.head_row
  row_divider z e = rw (z, e)

  pub row_site : n ≡ 3 → x ≡ get_or b 4 0 → Site x ≡ head_row b n
  unfolding Rows.head_row
  row_site z e = rw (z, e)

  pub row_label : (n ≡ 0 → ⊥) → (n ≡ 1 → ⊥) → (n ≡ 2 → ⊥) → (n ≡ 3 → ⊥) → Label ≡ head_row b n
  unfolding Rows.head_row
  row_label z₀ z₁ z₂ z₃ = rw (ne_eqb n 0 z₀, ne_eqb n 1 z₁, ne_eqb n 2 z₂, ne_eqb n 3 z₃)

pub ruleset heads = (good_version, good_line, good_divider, site_room, row_version, row_line, row_divider, row_site, row_label)

-- ---- the rows of the entries
entry_past : (k n i : ℕ) (b : List ℕ) → k ≤ n → slice_get (entries_from k b i) n ≡ None
unfolding Layout.entries_from
entry_past zero n i b h = refl
entry_past (suc k) zero i b h = absurd (omega arith)
entry_past (suc k) (suc n) i b h = entry_past k n (i + 5) b (omega arith)

entry_within : (k n i : ℕ) (b : List ℕ) → n < k → slice_get (entries_from k b i) n ≡ Some (entry_at b (i + n * 5))
unfolding Layout.entries_from
entry_within zero n i b h = absurd (omega arith)
entry_within (suc k) zero i b h = let z : i + 0 * 5 ≡ i = omega arith in rw z refl
entry_within (suc k) (suc n) i b h = let z : i + suc n * 5 ≡ i + 5 + n * 5 = omega arith in rw z (entry_within k n (i + 5) b (omega arith))

-- r is the entry n, if there are so many
entry_is : (b : List ℕ) (n : ℕ) (r : Option Entry) → r ≡ slice_get (entries_of b) n → option_map Processor r ≡ entry_row b n
unfolding Rows.entry_row
entry_is b n r e = go (leb (count_of b) n) refl
  where
    at : ℕ
    at = head_bytes (version_of b)

    go : (x : Bool) → leb (count_of b) n ≡ x → option_map Processor r ≡ cond x None (Some (Processor (entry_at b (at + n * 5))))
    go true t = rw (e, entry_past (count_of b) n at b (leb-true (count_of b) n t)) refl
    go false t = rw (e, entry_within (count_of b) n at b (leb-false (count_of b) n t)) refl

-- s is its row: es are the block's entries, k the number of one
module _ (b : List ℕ) (n : ℕ) (es : List Entry) (k : ℕ) (ez : es ≡ entries_of b) (ek : k ≡ n) where
  asked : (r : Option Entry) → option_map (λ e. e) r ≡ slice_get es k → option_map Processor r ≡ entry_row b n
  asked r e = entry_is b n r (sym (option_map_id r) ∙ e ∙ ap (λ l. slice_get l k) ez ∙ ap (slice_get (entries_of b)) ek)

  pub row_entry : (r : Option Entry) (s : Option Row) → option_map (λ e. e) r ≡ slice_get es k
      → MatchOption r (s ≡ None) (λ e. IsSomeAnd s (λ y. y ≡ Processor e)) → s ≡ entry_row b n
  row_entry None s e h = h ∙ asked None e
  row_entry (Some x) (Some y) e h = ap Some h ∙ asked (Some x) e
  row_entry (Some x) None e h = absurd h

-- its entries have room
pub good_long : (b : List ℕ) → is_good (of_block b) ≡ true → block_bytes (version_of b) (count_of b) ≤ length b
good_long b h = omega (arith, (good_laid b h).long)

-- ---- a row by its number
module _ (b : List ℕ) (v h n : ℕ) (ev : v ≡ get_or b 0 0) (eh : h ≡ head_rows v) where
  pub row_asked : n < h → n < head_rows (get_or b 0 0)
  row_asked l = rw (← ev, ← eh) l

  pub row_head : (r : Row) → n < h → r ≡ head_row b n → Some r ≡ row_at b n
  unfolding Rows.row_at
  row_head r l e = rw (← ev, ← eh, lt-ltb n h l) (ap Some e)

  pub row_behind : (r : Option Row) → h ≤ n → r ≡ entry_row b (n - h) → r ≡ row_at b n
  unfolding Rows.row_at
  row_behind r l e = rw (← ev, ← eh, le-ltb n h l) e

-- ---- of the newest block
is_good_lem : (v : Fit) → v ≡ Good → is_good v ≡ true
unfolding Layout.is_good
is_good_lem v e = rw e

module _ (f b : List ℕ) (e : b ≡ newest f) where
  pub newest_good : is_good (of_file f) ≡ true → is_good (of_block b) ≡ true
  newest_good h = is_good_lem (of_block b) (rw e (ends_of f (good_is (of_file f) h)).block)

  pub row_newest : (r : Option Row) (n : ℕ) → r ≡ row_at b n → r ≡ row_at (newest f) n
  row_newest r n er = rw (← e) er

pub ruleset showing = (good_version, good_count, good_long, row_asked, row_head, row_behind, newest_good, row_newest)
