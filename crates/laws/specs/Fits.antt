-- Settings that survive a box swap: what the verdict of a block or of a file may be, and what a good one says of its entries. Assumes nothing.
use Rattle.std.specs.Prelude.{◌≡◌, refl, ◌≢◌, Bool, true, false, cond, List, ◌∷◌, ℕ, zero, suc, ◌+◌, ◌≤◌, ◌<◌, length, eqb, ltb, leb}
use Rattle.std.proofs.Common.{ap, arith, eqb-true, eq-eqb, ltb-false, leb-true, leb-false}
use Rattle.std.proofs.lemmas.Bool.{eqb-false}
use Rattle.model.specs.Map.{first_name, four_bits, last_address, last_name, last_priority}
use Rattle.model.specs.declared.Entry.{Entry}
use Rattle.model.specs.declared.Trailer.{Trailer}
use Rattle.model.specs.Told.{Fit}
use Rattle.model.specs.Told.Fit.{Good, Refused, RefusedAt}
use Rattle.model.specs.Answer.{broken_layout, out_of_range, too_new}
use Rattle.model.specs.Fresh.{startable}
use Rattle.model.specs.Layout as Layout
use Rattle.model.specs.Layout.{are_entries, back, bears, block_bytes, count_of, divider_of, entries_from, entries_of, entry_bytes, head_bytes, in_bounds, is_block}
use Rattle.model.specs.Layout.{is_entry, is_good, is_laid_out, is_trailer, line_of, most_entries, names_differ, newest, of_block, of_file, own_version, trailer_bytes}
use Rattle.model.specs.Layout.{is_label, label_bytes, label_place, labelled, trailer_in, trailer_place, version_of}
use Rattle.laws.specs.Words.{either}

-- ---- good, or 29 with a version, 28, 26
module _ (P : Fit → Type 0) (good : P Good) (range : P (Refused out_of_range)) (broken : P (Refused broken_layout)) (new : (v : ℕ) → P (RefusedAt too_new v)) where
  pub block_each : (b : List ℕ) → P (of_block b)
  unfolding Layout.of_block
  block_each b =
      either P (eqb (length b) 0) broken (either P (ltb own_version (version_of b)) (new (version_of b))
      (either P (is_block b) (either P (in_bounds b) good range) broken))

  pub file_each : (f : List ℕ) → P (of_file f)
  unfolding Layout.of_file
  file_each f =
      either P (ltb (length f) trailer_bytes) broken (either P (ltb own_version (trailer_in f).version) (new (trailer_in f).version)
      (either P (is_trailer f (trailer_in f)) (block_each (newest f)) broken))

-- the test of a verdict
pub good_is : (v : Fit) → is_good v ≡ true → v ≡ Good
unfolding Layout.is_good
good_is Good h = refl
good_is (Refused k) h = let z : ◌≡◌ {A = ℕ} 0 1 = cc in absurd (omega arith)
good_is (RefusedAt k v) h = let z : ◌≡◌ {A = ℕ} 0 1 = cc in absurd (omega arith)

-- ---- what a good file says
-- of a test
passes : (c y : Bool) → cond c false y ≡ true → (c ≡ false) × (y ≡ true)
passes true y h = let z : ◌≡◌ {A = ℕ} 0 1 = cc in absurd (omega arith)
passes false y h = (refl, h)

meets : (c y : Bool) → cond c y false ≡ true → (c ≡ true) × (y ≡ true)
meets true y h = (refl, h)
meets false y h = let z : ◌≡◌ {A = ℕ} 0 1 = cc in absurd (omega arith)

-- a verdict that is none of the refusals
not_refused : (k : ℕ) → Refused k ≢ Good
not_refused k h = let z : ◌≡◌ {A = ℕ} 0 1 = cc in omega arith

not_placed : (k v : ℕ) → RefusedAt k v ≢ Good
not_placed k v h = let z : ◌≡◌ {A = ℕ} 0 1 = cc in omega arith

lest : (c : Bool) (x y : Fit) → x ≢ Good → cond c x y ≡ Good → (c ≡ false) × (y ≡ Good)
lest true x y d h = absurd (d h)
lest false x y d h = (refl, h)

-- of a block whose layout is whole
pub record Laid (b : List ℕ) : Type 0 where
  pub version : version_of b ≢ 0
  pub few : count_of b ≤ most_entries
  pub long : length b ≡ block_bytes (version_of b) (count_of b)

-- of a good one
pub record Sets (b : List ℕ) : Type 0 where
  pub own : version_of b ≤ own_version
  pub laid : Laid b
  pub starts : startable (line_of b) (divider_of b) ≡ true
  pub entries : are_entries (entries_of b) ≡ true
  pub differ : names_differ (entries_of b) ≡ true

met : (c : Bool) (x y : Fit) → x ≢ Good → cond c y x ≡ Good → (c ≡ true) × (y ≡ Good)
met true x y d h = (refl, h)
met false x y d h = absurd (d h)

long_of : (b : List ℕ) (v n : ℕ) → is_laid_out b v n ≡ true → length b ≡ block_bytes v n
unfolding Layout.is_laid_out
long_of b v n h = eqb-true (length b) (block_bytes v n) (meets (eqb (length b) (block_bytes v n)) _ h).0

pub laid_of : (b : List ℕ) → is_block b ≡ true → Laid b
unfolding Layout.is_block
laid_of b h =
    let h1 = passes (eqb (version_of b) 0) _ h in
    let h2 = passes (eqb (length b) 1) _ h1.1 in
    let h3 = passes (ltb most_entries (count_of b)) (is_laid_out b (version_of b) (count_of b)) h2.1 in
    record {
      version = eqb-false (version_of b) 0 h1.0;
      few = ltb-false most_entries (count_of b) h3.0;
      long = long_of b (version_of b) (count_of b) h3.1;
    }

-- of a version that has a label: it is one
label_of : (b : List ℕ) (v n : ℕ) → is_laid_out b v n ≡ true → v ≡ labelled → is_label label_bytes b label_place ≡ true
unfolding Layout.is_laid_out
label_of b v n h e = rw (eq-eqb v labelled e) at (meets (eqb (length b) (block_bytes v n)) _ h).1

block_labelled : (b : List ℕ) → is_block b ≡ true → version_of b ≡ labelled → is_label label_bytes b label_place ≡ true
unfolding Layout.is_block
block_labelled b h =
    let h1 = (passes (eqb (version_of b) 0) _ h).1 in
    let h2 = (passes (eqb (length b) 1) _ h1).1 in
    label_of b (version_of b) (count_of b) (passes (ltb most_entries (count_of b)) (is_laid_out b (version_of b) (count_of b)) h2).1

pub head_range : (v : ℕ) → (4 ≤ head_bytes v) × (head_bytes v ≤ 17)
unfolding Layout.head_bytes
head_range v = go (eqb v 1) (eqb v 2)
  where
    go : (x y : Bool) → (4 ≤ cond x 4 (cond y 5 17)) × (cond x 4 (cond y 5 17) ≤ 17)
    go true y = (omega arith, omega arith)
    go false true = (omega arith, omega arith)
    go false false = (omega arith, omega arith)

pub laid_least : (b : List ℕ) → Laid b → 4 ≤ length b
laid_least b t = omega (arith, t.long, head_range (version_of b))

pub laid_most : (b : List ℕ) → Laid b → length b ≤ 87
laid_most b t = omega (arith, t.long, t.few, head_range (version_of b))

pub block_of : (b : List ℕ) → of_block b ≡ Good → Sets b
unfolding Layout.of_block Layout.in_bounds
block_of b h =
    let h1 = (lest (eqb (length b) 0) (Refused broken_layout) _ (not_refused broken_layout) h).1 in
    let h2 = lest (ltb own_version (version_of b)) (RefusedAt too_new (version_of b)) _ (not_placed too_new (version_of b)) h1 in
    let h3 = met (is_block b) (Refused broken_layout) _ (not_refused broken_layout) h2.1 in
    let h4 = met (in_bounds b) (Refused out_of_range) Good (not_refused out_of_range) h3.1 in
    let h5 = meets (startable (line_of b) (divider_of b)) _ h4.0 in
    let h6 = meets (are_entries (entries_of b)) (names_differ (entries_of b)) h5.1 in
    record {
      own = ltb-false own_version (version_of b) h2.0;
      laid = laid_of b h3.0;
      starts = h5.0;
      entries = h6.0;
      differ = h6.1;
    }

pub block_label : (b : List ℕ) → of_block b ≡ Good → version_of b ≡ labelled → is_label label_bytes b label_place ≡ true
unfolding Layout.of_block
block_label b h =
    let h1 = (lest (eqb (length b) 0) (Refused broken_layout) _ (not_refused broken_layout) h).1 in
    let h2 = (lest (ltb own_version (version_of b)) (RefusedAt too_new (version_of b)) _ (not_placed too_new (version_of b)) h1).1 in
    block_labelled b (met (is_block b) (Refused broken_layout) _ (not_refused broken_layout) h2).0

-- of a good file: its trailer is whole, and its newest block good
pub record Ends (f : List ℕ) : Type 0 where
  pub long : trailer_bytes ≤ length f
  pub trailer : is_trailer f (trailer_in f) ≡ true
  pub block : of_block (newest f) ≡ Good

pub ends_of : (f : List ℕ) → of_file f ≡ Good → Ends f
unfolding Layout.of_file
ends_of f h =
    let v = (trailer_in f).version in
    let h1 = lest (ltb (length f) trailer_bytes) (Refused broken_layout) _ (not_refused broken_layout) h in
    let h2 = lest (ltb own_version v) (RefusedAt too_new v) _ (not_placed too_new v) h1.1 in
    let h3 = met (is_trailer f (trailer_in f)) (Refused broken_layout) (of_block (newest f)) (not_refused broken_layout) h2.1 in
    record { long = ltb-false (length f) trailer_bytes h1.0; trailer = h3.0; block = h3.1 }

pub file_of : (f : List ℕ) → of_file f ≡ Good → Sets (newest f)
file_of f h = block_of (newest f) (ends_of f h).block

-- what a whole trailer says
pub record Points (f : List ℕ) (t : Trailer) : Type 0 where
  pub near : t.distance ≤ trailer_place f
  pub version : version_of (back f t.distance) ≡ t.version
  pub count : count_of (back f t.distance) ≡ t.count

pub points_of : (f : List ℕ) (t : Trailer) → is_trailer f t ≡ true → Points f t
unfolding Layout.is_trailer Layout.points_back Layout.begins
points_of f t h =
    let b = back f t.distance in
    let h1 = (passes (eqb t.version 0) _ h).1 in
    let h2 = (passes (ltb most_entries t.count) _ h1).1 in
    let h3 = (meets (eqb t.distance (block_bytes t.version t.count)) _ h2).1 in
    let h4 = passes (ltb (trailer_place f) t.distance) _ h3 in
    let h5 = meets (eqb (version_of b) t.version) (eqb (count_of b) t.count) h4.1 in
    record {
      near = ltb-false (trailer_place f) t.distance h4.0;
      version = eqb-true (version_of b) t.version h5.0;
      count = eqb-true (count_of b) t.count h5.1;
    }

entries_count : (n : ℕ) (b : List ℕ) (i : ℕ) → length (entries_from n b i) ≡ n
unfolding Layout.entries_from
entries_count zero b i = refl
entries_count (suc n) b i = ap suc (entries_count n b (i + entry_bytes))

pub entries_few : (b : List ℕ) → Sets b → length (entries_of b) ≤ most_entries
entries_few b s = omega (arith, s.laid.few, entries_count (count_of b) b (head_bytes (version_of b)))

-- "name, priority, W, address": within their fields
pub record Fields (e : Entry) : Type 0 where
  pub name : 1 ≤ e.name
  pub names : e.name ≤ last_name
  pub priority : 1 ≤ e.priority
  pub priorities : e.priority ≤ last_priority
  pub w : e.w ≤ four_bits
  pub address : e.address ≤ last_address

-- ---- what a good entry says
pub entry_of : (e : Entry) → is_entry e ≡ true → Fields e × (first_name < e.name)
unfolding Layout.is_entry Layout.is_ranged
entry_of e h =
    let h1 = passes (leb e.name first_name) _ h in
    let h2 = passes (ltb last_name e.name) _ h1.1 in
    let h3 = passes (eqb e.priority 0) _ h2.1 in
    let h4 = passes (ltb last_priority e.priority) _ h3.1 in
    let h5 = passes (ltb four_bits e.w) (leb e.address last_address) h4.1 in
    let n = leb-false e.name first_name h1.0 in
    let p = eqb-false e.priority 0 h3.0 in (
      record {
        name = omega arith;
        names = ltb-false last_name e.name h2.0;
        priority = omega arith;
        priorities = ltb-false last_priority e.priority h4.0;
        w = ltb-false four_bits e.w h5.0;
        address = leb-true e.address last_address h5.1;
      },
      n,
    )

pub first_entry : (e : Entry) (es : List Entry) → are_entries (e ∷ es) ≡ true → (is_entry e ≡ true) × (are_entries es ≡ true)
unfolding Layout.are_entries
first_entry e es h = go (is_entry e) refl
  where
    go : (c : Bool) → is_entry e ≡ c → (is_entry e ≡ true) × (are_entries es ≡ true)
    go true d = (d, rw (d, Layout.are_entries) at h)
    go false d = let k = rw (d, Layout.are_entries) at h in let z : ◌≡◌ {A = ℕ} 0 1 = cc in absurd (omega arith)

pub first_differs : (e : Entry) (es : List Entry) → names_differ (e ∷ es) ≡ true → (bears e.name es ≡ false) × (names_differ es ≡ true)
unfolding Layout.names_differ
first_differs e es h = go (bears e.name es) refl
  where
    go : (c : Bool) → bears e.name es ≡ c → (bears e.name es ≡ false) × (names_differ es ≡ true)
    go true d = let k = rw (d, Layout.names_differ) at h in let z : ◌≡◌ {A = ℕ} 0 1 = cc in absurd (omega arith)
    go false d = (d, rw (d, Layout.names_differ) at h)

pub bears_not : (n : ℕ) (e : Entry) (es : List Entry) → bears n (e ∷ es) ≡ false → (e.name ≢ n) × (bears n es ≡ false)
unfolding Layout.bears
bears_not n e es h = go (eqb e.name n) refl
  where
    go : (c : Bool) → eqb e.name n ≡ c → (e.name ≢ n) × (bears n es ≡ false)
    go true d = let k = rw (d, Layout.bears) at h in let z : ◌≡◌ {A = ℕ} 0 1 = cc in absurd (omega arith)
    go false d = (eqb-false e.name n d, rw (d, Layout.bears) at h)
