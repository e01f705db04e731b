-- Settings: what is read of a file is what was written to it. On any lists of bytes. Assumes nothing.
use Rattle.std.specs.Prelude.{◌≡◌, ◌≢◌, ◌⊎◌, Bool, cond, ◌&&◌, ℕ, zero, suc, ◌+◌, ◌-◌, ◌/◌, ◌%◌, ◌≤◌, ◌<◌, eqb, length}
use Rattle.std.proofs.Math.Path.{refl}
use Rattle.std.proofs.Common.{sym, ap, ◌∙◌, inl, inr, take-append-drop, drop_of_length-le, length-take-le, get_or-append-add, drop-cons, drop-drop}
use Rattle.std.proofs.Math.Bool.{true, false}
use mathlib.Core.List.{List, [], ◌∷◌, ◌++◌, append_assoc}
use native.Mathlib.Omega.{arith}
use Rattle.std.proofs.Math.Dec.{ltb}
use Rattle.std.proofs.Math.ListN.{get_or, take, drop, length-append, length-drop}
use Rattle.std.proofs.Math.Seq.{take_at, drop_at}
use borrow.Author.Tests.{eqb-true, eq-eqb, ne_eqb, ltb-true, ltb-false, lt-ltb, le-ltb}
use Rattle.model.specs.Told.Answer.{Done}
use Rattle.model.specs.Told.{Fit}
use Rattle.model.specs.Told.Fit.{Good, Refused, RefusedAt}
use Rattle.model.specs.Told.{Writing}
use Rattle.model.specs.Answer as Answer
use Rattle.model.specs.Answer.{answer_of, memory_of, broken_layout, out_of_range, too_new, writing_numbers, written_number}
use Rattle.model.specs.Answer.Outcome.{gives}
use Rattle.model.specs.Map.{memory_size, word_values}
use Rattle.model.specs.Fresh as Fresh
use Rattle.model.specs.Layout as Layout
use Rattle.model.specs.Layout.{trailer_bytes, most_entries, own_version, head_bytes, block_bytes, version_of, count_of, is_laid_out, is_block, is_good, of_block}
use Rattle.model.specs.Layout.{trailer_place, trailer_in, back, newest, begins, points_back, is_trailer, of_file}
use Rattle.model.specs.Layout.{labelled, label_place, label_bytes, is_letter, is_zeros, is_label}
use Rattle.model.specs.Settings as Settings
use Rattle.model.specs.Settings.{trailer_for, place_for, new_length, written, weight, worse, of_used, writes, write_settings}
use Rattle.model.specs.Bytes.{from_settings, settled}
use Rattle.laws.specs.Count.{hit_or}
use Rattle.laws.specs.Words.{Small, either}
use Rattle.laws.specs.Refusals.{first_number}
use Rattle.laws.specs.Fits.{Sets, Points, block_of, block_label, ends_of, points_of, good_is, block_each, file_each}

-- ---- a file: anything, then a block, then its trailer
abbrev pub filed : List ℕ → List ℕ → List ℕ
filed x b = x ++ b ++ trailer_for b

module _ (x b : List ℕ) where
  abbrev it : List ℕ
  it = filed x b

  four : length (trailer_for b) ≡ trailer_bytes
  unfolding Settings.trailer_for
  four = refl

  front : length (x ++ b) ≡ length x + length b
  front = length-append x b

  filed_length : length it ≡ length x + length b + trailer_bytes
  filed_length = length-append (x ++ b) (trailer_for b) ∙ omega (arith, four, front)

  place_is : trailer_place it ≡ length (x ++ b)
  place_is = omega (arith, filed_length, front)

  -- byte i of the trailer
  trailer_byte : (i : ℕ) → get_or it (trailer_place it + i) 0 ≡ get_or (trailer_for b) i 0
  trailer_byte i = rw place_is (get_or-append-add (x ++ b) (trailer_for b) i 0)

  first_byte : get_or it (trailer_place it) 0 ≡ length b / word_values
  unfolding Settings.trailer_for
  first_byte = let z : trailer_place it + 0 ≡ trailer_place it = omega arith in rw z at (trailer_byte 0)

  trailer_distance : (trailer_in it).distance ≡ length b
  unfolding Layout.trailer_in Settings.trailer_for
  trailer_distance = rw (first_byte, trailer_byte 1) (omega arith)

  trailer_version : (trailer_in it).version ≡ version_of b
  unfolding Layout.trailer_in Settings.trailer_for
  trailer_version = trailer_byte 2

  trailer_count : (trailer_in it).count ≡ count_of b
  unfolding Layout.trailer_in Settings.trailer_for
  trailer_count = trailer_byte 3

  pub filed_newest : newest it ≡ b
  filed_newest =
      let at : trailer_place it - length b ≡ length x = omega (arith, place_is, front) in
      let tail : it ≡ x ++ (b ++ trailer_for b) = append_assoc x b (trailer_for b) in
      rw (trailer_distance, at) (ap (λ (l : List ℕ). take (length b) (drop (length x) l)) tail
      ∙ rw (drop_at x (b ++ trailer_for b) (length x) refl) (take_at b (trailer_for b) (length b) refl))

  begins_so : begins (newest it) (trailer_in it) ≡ true
  unfolding Layout.begins
  begins_so = rw (filed_newest, trailer_version, trailer_count) (rw (eq-eqb (version_of b) (version_of b) refl) (eq-eqb (count_of b) (count_of b) refl))

  module _ (g : of_block b ≡ Good) where
    w : Sets b
    w = block_of b g

    points_so : points_back it (trailer_in it) ≡ true
    unfolding Layout.points_back
    points_so =
        let d : (trailer_in it).distance ≡ block_bytes (trailer_in it).version (trailer_in it).count =
        rw (trailer_distance, trailer_version, trailer_count) w.laid.long in
        rw (
          eq-eqb (trailer_in it).distance (block_bytes (trailer_in it).version (trailer_in it).count) d,
          le-ltb (trailer_place it) (trailer_in it).distance (omega (arith, trailer_distance, place_is, front)),
        ) begins_so

    trailer_so : is_trailer it (trailer_in it) ≡ true
    unfolding Layout.is_trailer
    trailer_so =
        rw (
          ne_eqb (trailer_in it).version 0 (λ z. w.laid.version (sym trailer_version ∙ z)),
          le-ltb most_entries (trailer_in it).count (omega (arith, trailer_count, w.laid.few)),
        ) points_so

    -- it is good
    pub filed_good : of_file it ≡ Good
    unfolding Layout.of_file
    filed_good =
        rw (
          le-ltb (length it) trailer_bytes (omega (arith, filed_length)),
          le-ltb own_version (trailer_in it).version (omega (arith, trailer_version, w.own)),
          trailer_so,
          filed_newest,
        ) g

-- ---- and each good file is of that form
-- the last four bytes
last_four : (f : List ℕ) (n : ℕ) → length f ≡ n + 4 → drop n f ≡ get_or f n 0 ∷ get_or f (n + 1) 0 ∷ get_or f (n + 2) 0 ∷ get_or f (n + 3) 0 ∷ []
last_four f n l =
    let s1 : suc n ≡ n + 1 = omega arith in
    let s2 : suc (n + 1) ≡ n + 2 = omega arith in
    let s3 : suc (n + 2) ≡ n + 3 = omega arith in
    let t0 : drop n f ≡ get_or f n 0 ∷ drop (n + 1) f = rw s1 at (drop-cons f n 0 (omega arith)) in
    let t1 : drop (n + 1) f ≡ get_or f (n + 1) 0 ∷ drop (n + 2) f = rw s2 at (drop-cons f (n + 1) 0 (omega arith)) in
    let t2 : drop (n + 2) f ≡ get_or f (n + 2) 0 ∷ drop (n + 3) f = rw s3 at (drop-cons f (n + 2) 0 (omega arith)) in
    let t4 : drop (suc (n + 3)) f ≡ [] = drop_of_length-le f {i = suc (n + 3)} (omega arith) in
    let t3 : drop (n + 3) f ≡ get_or f (n + 3) 0 ∷ [] = rw t4 at (drop-cons f (n + 3) 0 (omega arith)) in
    rw (t0, t1, t2, t3)

module _ (f : List ℕ) (s : Small f) (h : of_file f ≡ Good) where
  t : Points f (trailer_in f)
  t = points_of f (trailer_in f) (ends_of f h).trailer

  abbrev n : ℕ
  n = trailer_place f

  abbrev d : ℕ
  d = (trailer_in f).distance

  newest_long : length (newest f) ≡ d
  newest_long = length-take-le d (drop (n - d) f) (omega (arith, length-drop (n - d) f, t.near))

  ending : trailer_for (newest f) ≡ drop n f
  unfolding Settings.trailer_for Layout.trailer_in
  ending =
      let b0 = s.at n in
      let b1 = s.at (n + 1) in
      let q : d / word_values ≡ get_or f n 0 = omega (arith, b1) in
      let r : d % word_values ≡ get_or f (n + 1) 0 = omega (arith, b1) in
      rw (newest_long, t.version, t.count, q, r) (sym (last_four f n (omega (arith, (ends_of f h).long))))

  -- "anything, then a good block, then that block's trailer"
  pub good_filed : f ≡ filed (take (n - d) f) (newest f)
  good_filed =
      let x = take (n - d) f in
      let y : take d (drop (n - d) f) ++ drop d (drop (n - d) f) ≡ drop (n - d) f = take-append-drop d (drop (n - d) f) in
      let k : n - d + d ≡ n = omega (arith, t.near) in
      let z : drop d (drop (n - d) f) ≡ drop n f = rw k at (drop-drop d (n - d) f) in
      sym (append_assoc x (newest f) (trailer_for (newest f)) ∙ rw (ending, ← z, y) (take-append-drop (n - d) f))

-- ---- "Writing puts a block and a new trailer in the old trailer's place": where there is room
module _ (l : List ℕ) (used : ℕ) (b : List ℕ) (u : used ≤ length l) where
  abbrev p : ℕ
  p = place_for used

  before : length (take p l) ≡ p
  before = length-take-le p l (omega arith)

  pub written_front : length (take p l ++ b ++ trailer_for b) ≡ new_length used b
  written_front = filed_length (take p l) b ∙ omega (arith, before)

  -- what is in use then is what stood before the place, the block and its trailer
  pub written_used : take (new_length used b) (written l used b) ≡ filed (take p l) b
  unfolding Settings.written
  written_used = take_at (filed (take p l) b) (drop (new_length used b) l) (new_length used b) written_front

  -- "and the older blocks stay as they were", and all behind the new length
  pub written_before : take p (written l used b) ≡ take p l
  unfolding Settings.written
  written_before =
      let r = trailer_for b in
      let t = drop (new_length used b) l in
      let q : written l used b ≡ take p l ++ (b ++ (r ++ t)) =
      append_assoc (take p l ++ b) r t ∙ append_assoc (take p l) b (r ++ t) in
      rw q (take_at (take p l) (b ++ (r ++ t)) p before)

  pub written_behind : drop (new_length used b) (written l used b) ≡ drop (new_length used b) l
  unfolding Settings.written
  written_behind = drop_at (filed (take p l) b) (drop (new_length used b) l) (new_length used b) written_front

  pub written_size : new_length used b ≤ length l → length (written l used b) ≡ length l
  unfolding Settings.written
  written_size h =
      length-append (filed (take p l) b) (drop (new_length used b) l) ∙ omega (arith, written_front, length-drop (new_length used b) l)

  -- the call writes exactly where both are good and there is room
  module _ (g : of_used (take used l) ≡ Good) (h : of_block b ≡ Good) (r : new_length used b ≤ length l) where
    pub writes_good : write_settings l used b ≡ gives (Writing.Written (new_length used b)) (written l used b)
    unfolding Settings.write_settings Settings.writes Settings.worse Settings.weight
    writes_good = rw (le-ltb (length l) used u, g, h, le-ltb (length l) (new_length used b) r)

    pub round_trip : (newest (take (new_length used b) (written l used b)) ≡ b) × (of_file (take (new_length used b) (written l used b)) ≡ Good)
    round_trip = rw written_used (filed_newest (take p l) b, filed_good (take p l) b h)

    pub round_start : (m : List ℕ) → length m ≡ memory_size → from_settings m (take (new_length used b) (written l used b)) ≡ gives Done (settled m b)
    unfolding Settings.from_settings
    round_start m k = rw (eq-eqb (length m) memory_size k, round_trip.1, round_trip.0)

-- the new length in the words of who asks for the room: of an empty file the block and four bytes, else what was in use and the block
pub length_empty : (b : List ℕ) → new_length 0 b ≡ length b + trailer_bytes
length_empty b = omega arith

pub length_used : (l : List ℕ) (used : ℕ) (b : List ℕ) → used ≤ length l → used ≢ 0 → of_used (take used l) ≡ Good → new_length used b ≡ used + length b
unfolding Settings.of_used
length_used l used b u n g =
    let k : length (take used l) ≡ used = length-take-le used l u in
    let t = ends_of (take used l) (rw (ne_eqb (length (take used l)) 0 (λ z. n (sym k ∙ z))) at g) in
    omega (arith, t.long, k)

-- ---- the numbers tell the answer: a version is told with 29 only
unfoldable pub told_writing : List ℕ → Writing
told_writing [] = Writing.Refused 0
told_writing (k ∷ []) = Writing.Refused k
told_writing (k ∷ x ∷ ns) = cond (eqb k written_number) (Writing.Written x) (Writing.RefusedAt k x)

abbrev Placed : Fit → Type 0
Placed v = (k x : ℕ) → v ≡ RefusedAt k x → k ≡ too_new

placed_not : (v : Fit) → ((k x : ℕ) → v ≢ RefusedAt k x) → Placed v
placed_not v h k x e = absurd (h k x e)

no_good : (k x : ℕ) → Good ≢ RefusedAt k x
no_good k x e = let z : ◌≡◌ {A = ℕ} 0 1 = cc in omega arith

no_number_lem : (j k x : ℕ) → Refused j ≢ RefusedAt k x
no_number_lem j k x e = let z : ◌≡◌ {A = ℕ} 0 1 = cc in omega arith

at_new : (v : ℕ) → Placed (RefusedAt too_new v)
at_new v k x e = let z : too_new ≡ k = cc in sym z

block_placed : (b : List ℕ) → Placed (of_block b)
block_placed = block_each Placed (placed_not Good no_good) (placed_not (Refused out_of_range) (no_number_lem out_of_range))
    (placed_not (Refused broken_layout) (no_number_lem broken_layout)) at_new

used_placed : (f : List ℕ) → Placed (of_used f)
unfolding Settings.of_used
used_placed f =
    either Placed (eqb (length f) 0) (placed_not Good no_good)
    (file_each Placed (placed_not Good no_good) (placed_not (Refused out_of_range) (no_number_lem out_of_range))
    (placed_not (Refused broken_layout) (no_number_lem broken_layout)) at_new f)

worse_placed : (u o : Fit) → Placed u → Placed o → Placed (worse u o)
unfolding Settings.worse
worse_placed u o p q = either Placed (ltb (weight u) (weight o)) q p

pub write_told : (l : List ℕ) (used : ℕ) (b : List ℕ) → told_writing (writing_numbers (answer_of (write_settings l used b))) ≡ answer_of (write_settings l used b)
unfolding Settings.write_settings Settings.writes Answer.writing_numbers Answer.answer_of told_writing
write_told l used b = go (ltb (length l) used) (worse (of_used (take used l)) (of_block b)) (ltb (length l) (new_length used b)) refl refl refl
  where
    go : (x : Bool) (w : Fit) (y : Bool) → ltb (length l) used ≡ x → worse (of_used (take used l)) (of_block b) ≡ w → ltb (length l) (new_length used b) ≡ y
        → told_writing (writing_numbers (answer_of (write_settings l used b))) ≡ answer_of (write_settings l used b)
    go true w y h q r = rw h
    go false Good true h q r = rw (h, q, r)
    go false Good false h q r = rw (h, q, r)
    go false (Refused j) y h q r = rw (h, q)
    go false (RefusedAt j v) y h q r =
        let e : j ≡ too_new = worse_placed (of_used (take used l)) (of_block b) (used_placed (take used l)) (block_placed b) j v q in
        rw (h, q, ne_eqb j written_number (omega (arith, e)))

-- ---- of two refusals the greater number is told; of two alike the file's
module _ (l : List ℕ) (used : ℕ) (b : List ℕ) (u : used ≤ length l) where
  pub file_told : (k : ℕ) → of_used (take used l) ≡ Refused k → weight (of_block b) ≤ k → writing_numbers (answer_of (write_settings l used b)) ≡ k ∷ []
  unfolding Settings.write_settings Settings.worse Settings.weight Answer.writing_numbers Answer.answer_of
  file_told k e h = rw (le-ltb (length l) used u, e, le-ltb k (weight (of_block b)) h)

  pub file_told_new : (k v : ℕ) → of_used (take used l) ≡ RefusedAt k v → weight (of_block b) ≤ k
      → writing_numbers (answer_of (write_settings l used b)) ≡ k ∷ v ∷ []
  unfolding Settings.write_settings Settings.worse Settings.weight Answer.writing_numbers Answer.answer_of
  file_told_new k v e h = rw (le-ltb (length l) used u, e, le-ltb k (weight (of_block b)) h)

  pub block_told : (k : ℕ) → of_block b ≡ Refused k → weight (of_used (take used l)) < k → writing_numbers (answer_of (write_settings l used b)) ≡ k ∷ []
  unfolding Settings.write_settings Settings.worse Settings.weight Answer.writing_numbers Answer.answer_of
  block_told k e h = rw (le-ltb (length l) used u, e, lt-ltb (weight (of_used (take used l))) k h)

  pub block_told_new : (k v : ℕ) → of_block b ≡ RefusedAt k v → weight (of_used (take used l)) < k
      → writing_numbers (answer_of (write_settings l used b)) ≡ k ∷ v ∷ []
  unfolding Settings.write_settings Settings.worse Settings.weight Answer.writing_numbers Answer.answer_of
  block_told_new k v e h = rw (le-ltb (length l) used u, e, lt-ltb (weight (of_used (take used l))) k h)

-- ---- refused, it changes nothing
module _ (l : List ℕ) (used : ℕ) (b : List ℕ) where
  writes_kept : (k : ℕ) (ns : List ℕ) → k ≢ written_number → writing_numbers (answer_of (writes l used b)) ≡ k ∷ ns → memory_of (writes l used b) ≡ l
  unfolding Settings.writes Answer.writing_numbers Answer.answer_of Answer.memory_of
  writes_kept k ns n e = go (ltb (length l) (new_length used b)) refl
    where
      go : (x : Bool) → ltb (length l) (new_length used b) ≡ x → memory_of (writes l used b) ≡ l
      go true h = rw h
      go false h = absurd (n (sym (first_number (rw h at e))))

  pub write_kept : (k : ℕ) (ns : List ℕ) → k ≢ written_number → writing_numbers (answer_of (write_settings l used b)) ≡ k ∷ ns
      → memory_of (write_settings l used b) ≡ l
  unfolding Settings.write_settings Answer.writing_numbers Answer.answer_of Answer.memory_of
  write_kept k ns n e = go (ltb (length l) used) (worse (of_used (take used l)) (of_block b)) refl refl
    where
      go : (x : Bool) (w : Fit) → ltb (length l) used ≡ x → worse (of_used (take used l)) (of_block b) ≡ w → memory_of (write_settings l used b) ≡ l
      go true w h q = rw h
      go false Good h q = rw (h, q) (writes_kept k ns n (rw (h, q) at e))
      go false (Refused j) h q = rw (h, q)
      go false (RefusedAt j v) h q = rw (h, q)

-- ---- "a label of up to 12 letters": of a good block of version 3 some letters, and then zeros to its end
abbrev pub Letter : ℕ → Type 0
Letter c = ((65 ≤ c) × (c ≤ 90)) ⊎ ((97 ≤ c) × (c ≤ 122))

letter_of_lem : (c : ℕ) → is_letter c ≡ true → Letter c
unfolding Layout.is_letter
letter_of_lem c h = go (ltb c 65) (ltb c 91) (ltb c 97) (ltb c 123) refl refl refl refl
  where
    go : (x y z t : Bool) → ltb c 65 ≡ x → ltb c 91 ≡ y → ltb c 97 ≡ z → ltb c 123 ≡ t → Letter c
    go true y z t e f g i = let k = rw e at h in let q : ◌≡◌ {A = ℕ} 0 1 = cc in absurd (omega arith)
    go false true z t e f g i = let a = ltb-false c 65 e in let b = ltb-true c 91 f in inl (omega arith, omega arith)
    go false false true t e f g i = let k = rw (e, f, g) at h in let q : ◌≡◌ {A = ℕ} 0 1 = cc in absurd (omega arith)
    go false false false true e f g i = let a = ltb-false c 97 g in let b = ltb-true c 123 i in inr (omega arith, omega arith)
    go false false false false e f g i = let k = rw (e, f, g, i) at h in let q : ◌≡◌ {A = ℕ} 0 1 = cc in absurd (omega arith)

-- n bytes of b from i on
pub record Label (b : List ℕ) (i n : ℕ) : Type 0 where
  pub count : ℕ
  pub most : count ≤ n
  pub letters : (j : ℕ) → j < count → Letter (get_or b (i + j) 0)
  pub zeros : (j : ℕ) → count ≤ j → j < n → get_or b (i + j) 0 ≡ 0

zeros_of : (n : ℕ) (b : List ℕ) (i : ℕ) → is_zeros n b i ≡ true → (j : ℕ) → j < n → get_or b (i + j) 0 ≡ 0
unfolding Layout.is_zeros
zeros_of zero b i h j l = absurd (omega arith)
zeros_of (suc n) b i h j l = go (eqb (get_or b i 0) 0) refl (hit_or j 0) (zeros_of n b (i + 1))
  where
    go : (x : Bool) → eqb (get_or b i 0) 0 ≡ x → (j ≡ 0) ⊎ (j ≢ 0) → (is_zeros n b (i + 1) ≡ true → (j : ℕ) → j < n → get_or b (i + 1 + j) 0 ≡ 0)
        → get_or b (i + j) 0 ≡ 0
    go false e c ih = let k = rw (e, is_zeros) at h in let q : ◌≡◌ {A = ℕ} 0 1 = cc in absurd (omega arith)
    go true e (inl c) ih = let z : i + j ≡ i = omega arith in rw z (eqb-true (get_or b i 0) 0 e)
    go true e (inr c) ih = let z : i + 1 + (j - 1) ≡ i + j = omega arith in rw z at (ih (rw (e, is_zeros) at h) (j - 1) (omega arith))

label_is : (n : ℕ) (b : List ℕ) (i : ℕ) → is_label n b i ≡ true → Label b i n
unfolding Layout.is_label
label_is zero b i h = record { count = 0; most = omega arith; letters = λ j l. absurd (omega arith); zeros = λ j k l. absurd (omega arith) }
label_is (suc n) b i h = go (is_letter (get_or b i 0)) refl (label_is n b (i + 1))
  where
    go : (x : Bool) → is_letter (get_or b i 0) ≡ x → (is_label n b (i + 1) ≡ true → Label b (i + 1) n) → Label b i (suc n)
    go false e ih = record {
      count = 0;
      most = omega arith;
      letters = λ j l. absurd (omega arith);
      zeros = λ j k l. zeros_of (suc n) b i (rw (e, is_label) at h) j l;
    }
    go true e ih = record {
      count = suc t.count;
      most = omega (arith, t.most);
      letters = λ j l. one j l (hit_or j 0);
      zeros = λ j k l. let z : i + 1 + (j - 1) ≡ i + j = omega arith in rw z at (t.zeros (j - 1) (omega arith) (omega arith));
    }
      where
        t : Label b (i + 1) n
        t = ih (rw (e, is_label) at h)

        one : (j : ℕ) → j < suc t.count → (j ≡ 0) ⊎ (j ≢ 0) → Letter (get_or b (i + j) 0)
        one j l (inl c) = let z : i + j ≡ i = omega arith in rw z (letter_of_lem (get_or b i 0) e)
        one j l (inr c) = let z : i + 1 + (j - 1) ≡ i + j = omega arith in rw z at (t.letters (j - 1) (omega arith))

pub good_label : (b : List ℕ) → of_block b ≡ Good → version_of b ≡ labelled → Label b label_place label_bytes
good_label b g v = label_is label_bytes b label_place (block_label b g v)

-- ---- there is a good file of each version with each number of entries: processors 2, 3, ..
unfoldable pub row_of : ℕ → List ℕ
row_of zero = []
row_of (suc k) = row_of k ++ ((k + 2) ∷ 1 ∷ 0 ∷ 11 ∷ 184 ∷ [])

unfoldable pub sample : ℕ → ℕ → List ℕ
sample v n =
    v ∷ n ∷ 16 ∷ 5 ∷ cond (eqb v 1) [] (cond (eqb v 2) (7 ∷ []) (7 ∷ 80 ∷ 111 ∷ 122 ∷ 110 ∷ 97 ∷ 110 ∷ 0 ∷ 0 ∷ 0 ∷ 0 ∷ 0 ∷ 0 ∷ []))
    ++ row_of n

unfoldable below : ℕ → (ℕ → Bool) → Bool
below zero t = true
below (suc n) t = t n && below n t

below_at : (n : ℕ) (t : ℕ → Bool) → below n t ≡ true → (i : ℕ) → i < n → t i ≡ true
unfolding below
below_at zero t h i l = absurd (omega arith)
below_at (suc n) t h i l = go (t n) refl (hit_or i n) (below_at n t)
  where
    go : (x : Bool) → t n ≡ x → (i ≡ n) ⊎ (i ≢ n) → (below n t ≡ true → (i : ℕ) → i < n → t i ≡ true) → t i ≡ true
    go false e c ih = let f = rw e at h in let k : ◌≡◌ {A = ℕ} 0 1 = cc in absurd (omega arith)
    go true e (inl c) ih = rw c e
    go true e (inr c) ih = ih (rw e at h) i (omega arith)

good_samples : below 3 (λ v. below 15 (λ n. is_good (of_block (sample (v + 1) n)))) ≡ true
unfolding below row_of sample Layout.is_good Layout.of_block Layout.is_block Layout.is_laid_out Layout.head_bytes Layout.in_bounds Layout.entries_from Layout.entry_at
    Layout.is_letter Layout.is_zeros Layout.is_label Layout.is_ranged Layout.is_entry Layout.are_entries Layout.bears Layout.names_differ Fresh.startable
good_samples = refl

sample_good : (v n : ℕ) → 1 ≤ v → v ≤ own_version → n ≤ most_entries → of_block (sample v n) ≡ Good
sample_good v n l u m =
    let k : v - 1 + 1 ≡ v = omega arith in
    let t = below_at 3 (λ v. below 15 (λ n. is_good (of_block (sample (v + 1) n)))) good_samples (v - 1) (omega arith) in
    good_is (of_block (sample v n)) (rw k at (below_at 15 (λ n. is_good (of_block (sample (v - 1 + 1) n))) t n (omega arith)))

pub record Sample (v n : ℕ) : Type 0 where
  pub file : List ℕ
  pub good : of_file file ≡ Good
  pub version : version_of (newest file) ≡ v
  pub count : count_of (newest file) ≡ n

pub a_sample : (v n : ℕ) → 1 ≤ v → v ≤ own_version → n ≤ most_entries → Sample v n
unfolding sample
a_sample v n l u m =
    let b = sample v n in
    record {
      file = filed [] b;
      good = filed_good [] b (sample_good v n l u m);
      version = ap version_of (filed_newest [] b);
      count = ap count_of (filed_newest [] b);
    }
