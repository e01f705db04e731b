-- Settings that survive a box swap (document 02, 5/13): "The exact layout goes to docs/". Blocks, trailers and files, as lists of bytes, and which of them
-- are good. "After 20, in this order: a version above the reader's own is refused by 29 with that version, any other break of layout in trailer or newest
-- block (over 14 entries too) by 28, a name twice, the name 1 or a field out of range by 26, memory untouched."
use Rattle.std.specs.Prelude.{ℕ, zero, suc, ◌+◌, ◌-◌, ◌*◌, Bool, true, false, cond, List, [], ◌∷◌, eqb, ltb, leb, length, get_or, take, drop}
use Rattle.model.specs.declared.Entry.{Entry}
use Rattle.model.specs.declared.Trailer.{Trailer}
use Rattle.model.specs.Told.{Fit}
use Rattle.model.specs.Told.Fit.{Good, Refused, RefusedAt}
use Rattle.model.specs.Map.{word_values, last_address, four_bits, first_name, last_name, last_priority}
use Rattle.model.specs.Address.{unless}
use Rattle.model.specs.Answer.{out_of_range, broken_layout, too_new}
use Rattle.model.specs.Fresh.{startable}

-- "each with a version from 1 to 3"; "a version above the reader's own"
abbrev pub first_version : ℕ
first_version = 1

abbrev pub sited : ℕ
sited = 2

abbrev pub labelled : ℕ
labelled = 3

abbrev pub own_version : ℕ
own_version = 3

-- "up to 14 further processors (name, priority, W, address)": an entry is five bytes
abbrev pub most_entries : ℕ
most_entries = 14

abbrev pub entry_bytes : ℕ
entry_bytes = 5

-- "a four-byte trailer"
abbrev pub trailer_bytes : ℕ
trailer_bytes = 4

-- ---- a block: version, number of entries, clock line, divider; "Version 2 adds a site number, version 3 a label of up to 12 letters"; then the entries
abbrev pub byte : List ℕ → ℕ → ℕ
byte b i = get_or b i 0

abbrev pub version_of : List ℕ → ℕ
version_of b = byte b 0

abbrev pub count_of : List ℕ → ℕ
count_of b = byte b 1

abbrev pub line_of : List ℕ → ℕ
line_of b = byte b 2

abbrev pub divider_of : List ℕ → ℕ
divider_of b = byte b 3

abbrev pub site_of : List ℕ → ℕ
site_of b = byte b 4

abbrev pub label_place : ℕ
label_place = 5

abbrev pub label_bytes : ℕ
label_bytes = 12

unfoldable pub head_bytes : ℕ → ℕ
head_bytes v = cond (eqb v first_version) 4 (cond (eqb v sited) 5 17)

abbrev pub block_bytes : ℕ → ℕ → ℕ
block_bytes v n = head_bytes v + n * entry_bytes

-- two bytes as a number, "high byte first"
abbrev pub two : ℕ → ℕ → ℕ
two h l = h * word_values + l

-- "(name, priority, W, address)": the entry at i, and the n entries from i on
unfoldable pub entry_at : List ℕ → ℕ → Entry
entry_at b i = record { name = byte b i; priority = byte b (i + 1); w = byte b (i + 2); address = two (byte b (i + 3)) (byte b (i + 4)) }

unfoldable pub entries_from : ℕ → List ℕ → ℕ → List Entry
entries_from zero b i = []
entries_from (suc n) b i = entry_at b i ∷ entries_from n b (i + entry_bytes)

abbrev pub entries_of : List ℕ → List Entry
entries_of b = entries_from (count_of b) b (head_bytes (version_of b))

-- ---- "a label of up to 12 letters": letters, then zeros to its end
unfoldable pub is_letter : ℕ → Bool
is_letter c = cond (ltb c 65) false (cond (ltb c 91) true (cond (ltb c 97) false (ltb c 123)))

-- n bytes from i on are zeros; are letters and then zeros
unfoldable pub is_zeros : ℕ → List ℕ → ℕ → Bool
is_zeros zero b i = true
is_zeros (suc n) b i = elim (eqb (byte b i) 0) [ true ↦ is_zeros n b (i + 1) | false ↦ false ]

unfoldable pub is_label : ℕ → List ℕ → ℕ → Bool
is_label zero b i = true
is_label (suc n) b i = elim (is_letter (byte b i)) [ true ↦ is_label n b (i + 1) | false ↦ is_zeros (suc n) b i ]

-- ---- "any other break of layout in .. newest block (over 14 entries too)": v is its version, n the number of its entries
unfoldable pub is_laid_out : List ℕ → ℕ → ℕ → Bool
is_laid_out b v n =
    unless (eqb (length b) (block_bytes v n)) false
    (cond (eqb v labelled) (is_label label_bytes b label_place) true)

unfoldable pub is_block : List ℕ → Bool
is_block b =
    cond (eqb (version_of b) 0) false
    (cond (eqb (length b) 1) false
    (cond (ltb most_entries (count_of b)) false
    (is_laid_out b (version_of b) (count_of b))))

-- ---- "a name twice, the name 1 or a field out of range"
unfoldable pub is_ranged : Entry → Bool
is_ranged e =
    cond (eqb e.priority 0) false
    (cond (ltb last_priority e.priority) false
    (cond (ltb four_bits e.w) false
    (leb e.address last_address)))

unfoldable pub is_entry : Entry → Bool
is_entry e =
    cond (leb e.name first_name) false
    (cond (ltb last_name e.name) false
    (is_ranged e))

unfoldable pub are_entries : List Entry → Bool
are_entries [] = true
are_entries (e ∷ es) = elim (is_entry e) [ true ↦ are_entries es | false ↦ false ]

-- one of the entries has the name n
unfoldable pub bears : ℕ → List Entry → Bool
bears n [] = false
bears n (e ∷ es) = elim (eqb e.name n) [ true ↦ true | false ↦ bears n es ]

unfoldable pub names_differ : List Entry → Bool
names_differ [] = true
names_differ (e ∷ es) = elim (bears e.name es) [ true ↦ false | false ↦ names_differ es ]

unfoldable pub in_bounds : List ℕ → Bool
in_bounds b =
    unless (startable (line_of b) (divider_of b)) false
    (unless (are_entries (entries_of b)) false
    (names_differ (entries_of b)))

-- ---- the verdict of a block: 29 "with that version", 28, 26
unfoldable pub of_block : List ℕ → Fit
of_block b =
    cond (eqb (length b) 0) (Refused broken_layout)
    (cond (ltb own_version (version_of b)) (RefusedAt too_new (version_of b))
    (unless (is_block b) (Refused broken_layout)
    (unless (in_bounds b) (Refused out_of_range)
    Good)))

-- ---- a file "ends in a four-byte trailer that points back: two bytes give the distance to the start of the newest block, one its version, one its length in
-- entries"
abbrev pub trailer_place : List ℕ → ℕ
trailer_place f = length f - trailer_bytes

unfoldable pub trailer_in : List ℕ → Trailer
trailer_in f = record {
  distance = two (byte f (trailer_place f)) (byte f (trailer_place f + 1));
  version = byte f (trailer_place f + 2);
  count = byte f (trailer_place f + 3);
}

-- what lies at a distance before the trailer, up to it
abbrev pub back : List ℕ → ℕ → List ℕ
back f d = take d (drop (trailer_place f - d) f)

abbrev pub newest : List ℕ → List ℕ
newest f = back f (trailer_in f).distance

-- "any other break of layout in trailer": the block begins as the trailer says, the trailer points back to a block of its version and number of entries, these
-- are good
unfoldable pub begins : List ℕ → Trailer → Bool
begins b t = unless (eqb (version_of b) t.version) false (eqb (count_of b) t.count)

unfoldable pub points_back : List ℕ → Trailer → Bool
points_back f t =
    unless (eqb t.distance (block_bytes t.version t.count)) false
    (cond (ltb (trailer_place f) t.distance) false
    (begins (back f t.distance) t))

unfoldable pub is_trailer : List ℕ → Trailer → Bool
is_trailer f t =
    cond (eqb t.version 0) false
    (cond (ltb most_entries t.count) false
    (points_back f t))

-- ---- the verdict of a file
unfoldable pub of_file : List ℕ → Fit
of_file f =
    cond (ltb (length f) trailer_bytes) (Refused broken_layout)
    (cond (ltb own_version (trailer_in f).version) (RefusedAt too_new (trailer_in f).version)
    (unless (is_trailer f (trailer_in f)) (Refused broken_layout)
    (of_block (newest f))))

unfoldable pub is_good : Fit → Bool
is_good Good = true
is_good (Refused k) = false
is_good (RefusedAt k v) = false
