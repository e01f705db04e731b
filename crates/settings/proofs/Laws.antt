-- What the reading of entries, blocks and files rests on.
use Rattle.std.proofs.Common.{◌≡◌, refl, sym, ap, ◌∙◌, cond, ℕ, zero, suc, ◌+◌, ◌-◌, ◌*◌, ◌/◌, ◌≤◌, ◌<◌, Bool, true, false, true≢false, not, ◌&&◌}
use Rattle.std.proofs.Common.{◌||◌, Some, None, List, [], ◌∷◌, length, get_or, take, drop, arith, eqb, ltb, lt-ltb, le-ltb, length-drop}
use Rattle.std.proofs.lemmas.Bool.Decides.{nat_tests}
use Rattle.std.proofs.lemmas.List.{get_or-drop, get_or-take, length-take-le, take_rest}
use Rattle.std.specs.Char.{is_ascii_alphabetic}
use Rattle.std.specs.List.{list_all, list_any, prefix_len}
use Rattle.model.specs.declared.Entry.{Entry}
use Rattle.model.specs.declared.Trailer.{Trailer}
use Rattle.model.specs.Layout as Layout
use Rattle.model.specs.Layout.{entry_bytes, entry_at, entries_from, is_letter, is_zeros, is_label, label_bytes, label_place, is_entry, are_entries}
use Rattle.model.specs.Layout.{bears, is_block, block_bytes, version_of, count_of}
use Rattle.model.specs.Layout.{trailer_in, is_trailer, is_good, of_file}
use Rattle.laws.specs.Fits.{ends_of, points_of, good_is, laid_of, laid_least}
use Rattle.settings.specs.Entries as Entries
use Rattle.settings.specs.Entries.{entries_in}

-- ---- bytes that are the same in two lists, so many from two places on
module _ (b c : List ℕ) where
  abbrev Same : ℕ → ℕ → ℕ → Type 0
  Same n i j = (k : ℕ) → k < n → get_or b (i + k) 0 ≡ get_or c (j + k) 0

  same_first : (n i j : ℕ) → Same (suc n) i j → get_or b i 0 ≡ get_or c j 0
  same_first n i j h = let p : i + 0 ≡ i = omega arith in let q : j + 0 ≡ j = omega arith in
      let z : get_or b (i + 0) 0 ≡ get_or c (j + 0) 0 = h 0 (omega arith) in
      rw (p, q) at z

  same_on : (n m p i j : ℕ) → m + n ≤ p → Same p i j → Same n (i + m) (j + m)
  same_on n m p i j l h = λ k g.
      let v : i + m + k ≡ i + (m + k) = omega arith in let w : j + m + k ≡ j + (m + k) = omega arith in rw (v, w) (h (m + k) (omega arith))

same_cons : (x n : ℕ) (b : List ℕ) → Same b (x ∷ b) n 0 1
same_cons x n b = λ k l. let v : 0 + k ≡ k = omega arith in let w : 1 + k ≡ suc k = omega arith in rw (v, w) refl

same_take : (n : ℕ) (b : List ℕ) → Same (take n b) b n 0 0
same_take n b = λ k l. let v : 0 + k ≡ k = omega arith in rw v (get_or-take n b k 0 l)

same_drop : (n i : ℕ) (b : List ℕ) → Same (drop i b) b n 0 i
same_drop n i b = λ k l. let v : 0 + k ≡ k = omega arith in rw v (get_or-drop i b k 0)

-- n bytes from i on, as a list
same_part : (n i : ℕ) (b : List ℕ) → Same (take n (drop i b)) b n 0 i
same_part n i b = λ k l. same_take n (drop i b) k l ∙ same_drop n i b k l

-- ---- the label
pub letters : (c : ℕ) → is_ascii_alphabetic c ≡ is_letter c
unfolding Layout.is_letter
letters c = grind (arith, nat_tests)

module _ (b c : List ℕ) where
  zeros_same : (n i j : ℕ) → Same b c n i j → is_zeros n b i ≡ is_zeros n c j
  unfolding Layout.is_zeros
  zeros_same zero i j h = refl
  zeros_same (suc n) i j h =
      ap (λ x. elim (eqb x 0) as (λ _. Bool) [ true ↦ is_zeros n b (i + 1) | false ↦ false ]) (same_first b c n i j h)
      ∙ ap (λ r. elim (eqb (get_or c j 0) 0) as (λ _. Bool) [ true ↦ r | false ↦ false ])
      (zeros_same n (i + 1) (j + 1) (same_on b c n 1 (suc n) i j (omega arith) h))

  label_same : (n i j : ℕ) → Same b c n i j → is_label n b i ≡ is_label n c j
  unfolding Layout.is_label
  label_same zero i j h = refl
  label_same (suc n) i j h =
      ap (λ x. elim (is_letter x) as (λ _. Bool) [ true ↦ is_label n b (i + 1) | false ↦ is_zeros (suc n) b i ]) (same_first b c n i j h)
      ∙ ap (λ r. elim (is_letter (get_or c j 0)) as (λ _. Bool) [ true ↦ r | false ↦ is_zeros (suc n) b i ])
      (label_same n (i + 1) (j + 1) (same_on b c n 1 (suc n) i j (omega arith) h))
      ∙ ap (λ r. elim (is_letter (get_or c j 0)) as (λ _. Bool) [ true ↦ is_label n c (j + 1) | false ↦ r ]) (zeros_same (suc n) i j h)

zeros_are : (b : List ℕ) → list_all (λ c. eqb c 0) b ≡ is_zeros (length b) b 0
unfolding Layout.is_zeros
zeros_are [] = refl
zeros_are (x ∷ b) = go (eqb x 0) (zeros_are b ∙ zeros_same b (x ∷ b) (length b) 0 1 (same_cons x (length b) b))
  where
    go : (v : Bool) {p q : Bool} → p ≡ q → (v && p) ≡ elim v as (λ _. Bool) [ true ↦ q | false ↦ false ]
    go true e = e
    go false e = refl

pub label_is : (b : List ℕ) → list_all (λ c. eqb c 0) (drop (prefix_len is_letter b) b) ≡ is_label (length b) b 0
unfolding Layout.is_label
label_is [] = refl
label_is (x ∷ b) = go (label_is b) (is_letter x)
  where
    go : list_all (λ c. eqb c 0) (drop (prefix_len is_letter b) b) ≡ is_label (length b) b 0 → (v : Bool)
        → list_all (λ c. eqb c 0) (drop (cond v (1 + prefix_len is_letter b) 0) (x ∷ b))
        ≡ elim v as (λ _. Bool) [ true ↦ is_label (length b) (x ∷ b) 1 | false ↦ is_zeros (suc (length b)) (x ∷ b) 0 ]
    go h true =
        let e : 1 + prefix_len is_letter b ≡ suc (prefix_len is_letter b) = omega arith in
        rw e (h ∙ label_same b (x ∷ b) (length b) 0 1 (same_cons x (length b) b))
    go h false = zeros_are (x ∷ b)

-- the label of a block, as a part of it
pub label_part : (b : List ℕ) (r : Bool) → label_place + label_bytes ≤ length b
    → r ≡ is_label (length (take label_bytes (drop label_place b))) (take label_bytes (drop label_place b)) 0 → r ≡ is_label label_bytes b label_place
label_part b r h e =
    let l = take label_bytes (drop label_place b) in
    let n : length l ≡ label_bytes = length-take-le label_bytes (drop label_place b) (omega (arith, length-drop label_place b)) in
    e ∙ ap (λ k. is_label k l 0) n ∙ label_same l b label_bytes 0 label_place (same_part label_bytes label_place b)

-- ---- entries
module _ (b c : List ℕ) where
  entry_same : (i j : ℕ) → Same b c 5 i j → entry_at b i ≡ entry_at c j
  unfolding Layout.entry_at
  entry_same i j h = rw (same_first b c 4 i j h, h 1 (omega arith), h 2 (omega arith), h 3 (omega arith), h 4 (omega arith))

  entries_same : (n i j : ℕ) → Same b c (n * 5) i j → entries_from n b i ≡ entries_from n c j
  unfolding Layout.entries_from
  entries_same zero i j h = refl
  entries_same (suc n) i j h =
      ap (λ e. e ∷ entries_from n b (i + 5)) (entry_same i j (λ k l. h k (omega arith)))
      ∙ ap (λ es. entry_at c j ∷ es) (entries_same n (i + 5) (j + 5) (same_on b c (n * 5) 5 (suc n * 5) i j (omega arith) h))

pub entries_part : (b : List ℕ) (i n : ℕ) → i + n * 5 ≤ length b → entries_in (take (i + n * 5 - i) (drop i b)) ≡ entries_from n b i
unfolding Entries.entries_in
entries_part b i n h =
    let e : i + n * 5 - i ≡ n * 5 = omega arith in
    let p = take (n * 5) (drop i b) in
    let l : length p ≡ n * 5 = length-take-le (n * 5) (drop i b) (omega (arith, length-drop i b)) in
    let z : length p / 5 ≡ n = omega arith in
    ap (λ k. entries_in (take k (drop i b))) e ∙ ap (λ k. entries_from k p 0) z ∙ entries_same p b n 0 i (same_part (n * 5) i b)

pub entries_none : (b : List ℕ) → length b < entry_bytes → entries_in b ≡ []
unfolding Entries.entries_in Layout.entries_from
entries_none b h = let z : length b / 5 ≡ 0 = omega arith in rw z

-- a list that has given one has fewer left
pub fewer : {s t : List Entry} {x : Entry} → s ≡ x ∷ t → length t < length s
fewer e = rw e (omega arith)

-- e and r are the bytes of the first and those behind it, x the first
pub entries_first : (b e r : List ℕ) (x : Entry) → e ≡ take entry_bytes b → r ≡ drop entry_bytes b → length r + entry_bytes ≡ length b → x ≡ entry_at e 0
    → entries_in b ≡ x ∷ entries_in r
unfolding Entries.entries_in Layout.entries_from
entries_first b e r x z y l ex =
    let n : length b / 5 ≡ suc (length r / 5) = omega arith in
    let s : Same r b (length r / 5 * 5) 0 5 = rw y (same_drop (length (drop 5 b) / 5 * 5) 5 b) in
    ap (λ k. entries_from k b 0) n
    ∙ ap (λ e. e ∷ entries_from (length r / 5) b 5) (sym (ex ∙ ap (λ l. entry_at l 0) z ∙ entry_same (take 5 b) b 0 0 (same_take 5 b)))
    ∙ ap (λ es. x ∷ es) (sym (entries_same r b (length r / 5) 0 5 s))

-- the entry at a place: g is what stands there and behind it, e the bytes of the entry, x that entry
pub entry_there : (b g e : List ℕ) (i : ℕ) (x : Entry) → g ≡ take (length b - i) (drop i b) → length g + i ≡ length b → 5 ≤ length g
    → e ≡ take 5 g → x ≡ entry_at e 0
    → Some x ≡ cond (ltb (length b) (i + 5)) None (Some (entry_at b i))
entry_there b g e i x eg n h z ex =
    let y : g ≡ drop i b = eg ∙ take_rest b i in
    let s : Same (take 5 g) b 5 0 i = rw y (same_part 5 i b) in
    rw (le-ltb (length b) (i + 5) (omega arith)) (ap Some (ex ∙ ap (λ l. entry_at l 0) z ∙ entry_same (take 5 g) b 0 i s))

pub entry_not : (b : List ℕ) (i : ℕ) → length b < i + 5 → None ≡ cond (ltb (length b) (i + 5)) None (Some (entry_at b i))
entry_not b i h = rw (lt-ltb (length b) (i + 5) h)

pub bears_any : (n : ℕ) (es : List Entry) → list_any (λ e. eqb e.name n) es ≡ bears n es
unfolding Layout.bears
bears_any n [] = refl
bears_any n (e ∷ es) = go (eqb e.name n) (bears_any n es)
  where
    go : (v : Bool) {p q : Bool} → p ≡ q → (v || p) ≡ elim v as (λ _. Bool) [ true ↦ true | false ↦ q ]
    go true e = refl
    go false e = e

pub entries_all : (es : List Entry) → list_all is_entry es ≡ are_entries es
unfolding Layout.are_entries
entries_all [] = refl
entries_all (e ∷ es) = go (is_entry e) (entries_all es)
  where
    go : (v : Bool) {p q : Bool} → p ≡ q → (v && p) ≡ elim v as (λ _. Bool) [ true ↦ q | false ↦ false ]
    go true e = e
    go false e = refl

-- ---- a block
pub block_least : (b : List ℕ) → is_block b ≡ true → 4 ≤ length b
block_least b h = laid_least b (laid_of b h)

pub block_long : (b : List ℕ) → is_block b ≡ true → block_bytes (version_of b) (count_of b) ≤ length b
block_long b h = let t = laid_of b h in omega (arith, t.long)

pub ruleset blocks = (block_least, block_long)

-- ---- a file
pub trailer_is : (f b : List ℕ) → 4 ≤ length f → b ≡ drop (length f - 4) f → trailer_in b ≡ trailer_in f
unfolding Layout.trailer_in
trailer_is f b h e =
    let n = length f - 4 in
    let l : length b - 4 ≡ 0 = omega (arith, ap length e, length-drop n f) in
    let s = same_drop 4 n f in
    let z : n + 0 ≡ n = omega arith in
    rw (l, e) (rw (s 0 (omega arith), s 1 (omega arith), s 2 (omega arith), s 3 (omega arith), z))

pub file_least : (f : List ℕ) → is_good (of_file f) ≡ true → 4 ≤ length f
file_least f h = (ends_of f (good_is (of_file f) h)).long

pub file_room : (f : List ℕ) (t : Trailer) → is_good (of_file f) ≡ true → t ≡ trailer_in f → t.distance + 4 ≤ length f
file_room f t h e = let s = ends_of f (good_is (of_file f) h) in rw e (omega (arith, (points_of f (trailer_in f) s.trailer).near, s.long))

-- x is what the code found of it
pub trailer_room : (f : List ℕ) (t : Trailer) (x : Bool) → x ≡ is_trailer f t → not x ≡ false → 4 ≤ length f → t.distance + 4 ≤ length f
trailer_room f t true ex h l = omega (arith, (points_of f t (sym ex)).near)
trailer_room f t false ex h l = absurd (true≢false h)
