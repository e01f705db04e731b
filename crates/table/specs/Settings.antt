-- Settings that survive a box swap: files with the answer and the words to be found afterwards, and buffers before and after a block is written. In the paper's
-- numbers, as every row.
use Rattle.std.specs.Prelude.{ℕ, zero, suc, ◌+◌, ◌*◌, ◌≡◌, refl, true, List, [], ◌∷◌, ◌++◌}
use Rattle.model.specs.Store.{bytes}
use Rattle.model.specs.Same.{by_trees}
use Rattle.table.specs.Program.{st1}
use Rattle.table.specs.Script as Script
use Rattle.table.specs.Script.{plays_from_zero, Script, ok, repeated}
use Rattle.table.specs.Script.Line.{settles, stores, step, judges, host, has}

-- ---- what rows are made of
-- entries: processor 2, priority 3, W 0, at 3000; processor 5, priority 15, W 15, at 8191
abbrev pub scale : List ℕ
scale = 2 ∷ 3 ∷ 0 ∷ 11 ∷ 184 ∷ []

abbrev pub five : List ℕ
five = 5 ∷ 15 ∷ 15 ∷ 31 ∷ 255 ∷ []

-- the label Poznan
abbrev pub poznan : List ℕ
poznan = 80 ∷ 111 ∷ 122 ∷ 110 ∷ 97 ∷ 110 ∷ 0 ∷ 0 ∷ 0 ∷ 0 ∷ 0 ∷ 0 ∷ []

-- version 1 without entries, line 47, divider 9; its trailer
abbrev pub empty : List ℕ
empty = 1 ∷ 0 ∷ 47 ∷ 9 ∷ []

abbrev pub empty_end : List ℕ
empty_end = 0 ∷ 4 ∷ 1 ∷ 0 ∷ []

-- ---- "fresh followed by creation of the entries in order, processor 1's LR staying": behind an older block
unfoldable pub stands : Script
stands =
    settles (empty ++ (3 ∷ 2 ∷ 16 ∷ 5 ∷ 7 ∷ []) ++ poznan ++ five ++ scale ++ (0 ∷ 27 ∷ 3 ∷ 2 ∷ [])) ok
    ∷ has (7 * 32 + 15) (16 ∷ 0 ∷ 0 ∷ 0 ∷ 0 ∷ 239 ∷ 17 ∷ 0 ∷ 236 ∷ 236 ∷ 17 ∷ 0 ∷ 5 ∷ [])
    ∷ has (236 * 32) (0 ∷ 237 ∷ 0 ∷ 0 ∷ 0 ∷ 0 ∷ 0 ∷ 17 ∷ 0 ∷ 0 ∷ 10 ∷ 192 ∷ 0 ∷ [])
    ∷ has (237 * 32) (0 ∷ 238 ∷ 0 ∷ 0 ∷ 0 ∷ 0 ∷ 0 ∷ (15 * 16 + 5) ∷ 0 ∷ 0 ∷ 31 ∷ 255 ∷ (128 + 15) ∷ 0 ∷ [])
    ∷ has (238 * 32) (0 ∷ 0 ∷ 0 ∷ 0 ∷ 0 ∷ 0 ∷ 0 ∷ (3 * 16 + 2) ∷ 0 ∷ 0 ∷ 11 ∷ 184 ∷ 128 ∷ 0 ∷ [])
    ∷ judges ok
    ∷ host 2752 (st1 2)
    ∷ step ok
    ∷ has (7 * 32 + 24) (238 ∷ (3 * 16 + 2) ∷ [])
    ∷ []

pub stands_holds : plays_from_zero bytes stands ≡ true
unfolding Script.plays_from_zero stands
stands_holds = by_trees (λ S. plays_from_zero S stands) refl

-- ---- the shortest file of each version; twelve letters, and none
unfoldable pub versions : Script
unfolding repeated
versions =
    settles (empty ++ empty_end) ok
    ∷ has (7 * 32 + 15) (47 ∷ [])
    ∷ has (7 * 32 + 27) (9 ∷ [])
    ∷ settles (2 ∷ 0 ∷ 16 ∷ 1 ∷ 255 ∷ 0 ∷ 5 ∷ 2 ∷ 0 ∷ []) ok
    ∷ has (7 * 32 + 15) (16 ∷ [])
    ∷ settles ((3 ∷ 0 ∷ 17 ∷ 255 ∷ 0 ∷ []) ++ repeated 12 (122 ∷ []) ++ (0 ∷ 17 ∷ 3 ∷ 0 ∷ [])) ok
    ∷ has (7 * 32 + 15) (17 ∷ [])
    ∷ settles ((3 ∷ 0 ∷ 18 ∷ 255 ∷ 0 ∷ []) ++ repeated 12 (0 ∷ []) ++ (0 ∷ 17 ∷ 3 ∷ 0 ∷ [])) ok
    ∷ has (7 * 32 + 15) (18 ∷ [])
    ∷ []

pub versions_holds : plays_from_zero bytes versions ≡ true
unfolding Script.plays_from_zero versions
versions_holds = by_trees (λ S. plays_from_zero S versions) refl

-- ---- fourteen entries; CRP of one name more finds a free page
unfoldable pub row_of : ℕ → List ℕ
row_of zero = []
row_of (suc n) = row_of n ++ ((n + 2) ∷ 1 ∷ 0 ∷ 11 ∷ 184 ∷ [])

unfoldable pub fourteen : Script
unfolding row_of
fourteen =
    settles ((1 ∷ 14 ∷ 16 ∷ 5 ∷ []) ++ row_of 14 ++ (0 ∷ 74 ∷ 1 ∷ 14 ∷ [])) ok
    ∷ has (7 * 32 + 20) (251 ∷ 5 ∷ [])
    ∷ has (250 * 32 + 7) ((1 * 16 + 15) ∷ [])
    ∷ judges ok
    ∷ []

pub fourteen_holds : plays_from_zero bytes fourteen ≡ true
unfolding Script.plays_from_zero fourteen
fourteen_holds = by_trees (λ S. plays_from_zero S fourteen) refl

-- ---- "a version above the reader's own is refused by 29 with that version, any other break of layout in trailer or newest block by 28": memory untouched
unfoldable pub breaks : Script
unfolding row_of repeated
breaks =
    settles [] (28 ∷ [])
    ∷ settles (4 ∷ 1 ∷ 0 ∷ []) (28 ∷ [])
    ∷ settles (255 ∷ 255 ∷ 4 ∷ 255 ∷ []) (29 ∷ 4 ∷ [])
    ∷ settles (0 ∷ 4 ∷ 0 ∷ 0 ∷ []) (28 ∷ [])
    ∷ settles (empty ++ (0 ∷ 4 ∷ 0 ∷ 0 ∷ [])) (28 ∷ [])
    ∷ settles (empty ++ (0 ∷ 5 ∷ 1 ∷ 0 ∷ [])) (28 ∷ [])
    ∷ settles (0 ∷ 16 ∷ 5 ∷ 0 ∷ 4 ∷ 1 ∷ 0 ∷ []) (28 ∷ [])
    ∷ settles ((4 ∷ 0 ∷ 16 ∷ 5 ∷ []) ++ empty_end) (28 ∷ [])
    ∷ settles ((1 ∷ 1 ∷ 16 ∷ 5 ∷ []) ++ empty_end) (28 ∷ [])
    ∷ settles ((1 ∷ 15 ∷ 16 ∷ 5 ∷ []) ++ row_of 15 ++ (0 ∷ 79 ∷ 1 ∷ 15 ∷ [])) (28 ∷ [])
    ∷ settles ((3 ∷ 0 ∷ 16 ∷ 5 ∷ 0 ∷ 65 ∷ 0 ∷ 65 ∷ []) ++ repeated 9 (0 ∷ []) ++ (0 ∷ 17 ∷ 3 ∷ 0 ∷ [])) (28 ∷ [])
    ∷ settles ((3 ∷ 0 ∷ 15 ∷ 0 ∷ 0 ∷ 64 ∷ []) ++ repeated 11 (0 ∷ []) ++ (0 ∷ 17 ∷ 3 ∷ 0 ∷ [])) (28 ∷ [])
    ∷ has (7 * 32 + 15) (repeated 13 (0 ∷ []))
    ∷ []

pub breaks_holds : plays_from_zero bytes breaks ≡ true
unfolding Script.plays_from_zero breaks
breaks_holds = by_trees (λ S. plays_from_zero S breaks) refl

-- ---- "a name twice, the name 1 or a field out of range by 26"
abbrev pub one_of : List ℕ → List ℕ
one_of e = (1 ∷ 1 ∷ 16 ∷ 5 ∷ []) ++ e ++ (0 ∷ 9 ∷ 1 ∷ 1 ∷ [])

unfoldable pub ranges : Script
unfolding repeated
ranges =
    settles (15 ∷ 1 ∷ 0 ∷ 15 ∷ 5 ∷ 0 ∷ 4 ∷ 1 ∷ 0 ∷ []) (26 ∷ [])
    ∷ settles (1 ∷ 0 ∷ 48 ∷ 5 ∷ 0 ∷ 4 ∷ 1 ∷ 0 ∷ []) (26 ∷ [])
    ∷ settles (1 ∷ 0 ∷ 16 ∷ 0 ∷ 0 ∷ 4 ∷ 1 ∷ 0 ∷ []) (26 ∷ [])
    ∷ settles (one_of (1 ∷ 1 ∷ 0 ∷ 11 ∷ 184 ∷ [])) (26 ∷ [])
    ∷ settles (one_of (16 ∷ 1 ∷ 0 ∷ 11 ∷ 184 ∷ [])) (26 ∷ [])
    ∷ settles (one_of (2 ∷ 0 ∷ 0 ∷ 11 ∷ 184 ∷ [])) (26 ∷ [])
    ∷ settles (one_of (2 ∷ 16 ∷ 0 ∷ 11 ∷ 184 ∷ [])) (26 ∷ [])
    ∷ settles (one_of (2 ∷ 1 ∷ 16 ∷ 11 ∷ 184 ∷ [])) (26 ∷ [])
    ∷ settles (one_of (2 ∷ 1 ∷ 0 ∷ 32 ∷ 0 ∷ [])) (26 ∷ [])
    ∷ settles ((1 ∷ 3 ∷ 16 ∷ 5 ∷ []) ++ scale ++ five ++ scale ++ (0 ∷ 19 ∷ 1 ∷ 3 ∷ [])) (26 ∷ [])
    ∷ has (7 * 32 + 15) (repeated 13 (0 ∷ []))
    ∷ settles (one_of (15 ∷ 15 ∷ 15 ∷ 31 ∷ 255 ∷ [])) ok
    ∷ []

pub ranges_holds : plays_from_zero bytes ranges ≡ true
unfolding Script.plays_from_zero ranges
ranges_holds = by_trees (λ S. plays_from_zero S ranges) refl

-- ---- "Writing puts a block and a new trailer in the old trailer's place, and the older blocks stay as they were; an empty file may be written to"
unfoldable pub writing : Script
unfolding repeated
writing =
    stores (repeated 10 (9 ∷ [])) 0 empty (62 ∷ 8 ∷ []) (empty ++ empty_end ++ (9 ∷ 9 ∷ []))
    ∷ stores (empty ++ empty_end ++ repeated 7 (9 ∷ [])) 8 (2 ∷ 0 ∷ 17 ∷ 6 ∷ 200 ∷ []) (62 ∷ 13 ∷ [])
    (empty ++ (2 ∷ 0 ∷ 17 ∷ 6 ∷ 200 ∷ 0 ∷ 5 ∷ 2 ∷ 0 ∷ 9 ∷ 9 ∷ []))
    ∷ stores ((7 ∷ 7 ∷ []) ++ empty ++ empty_end ++ repeated 9 (9 ∷ [])) 10 ((1 ∷ 1 ∷ 16 ∷ 5 ∷ []) ++ scale) (62 ∷ 19 ∷ [])
    ((7 ∷ 7 ∷ []) ++ empty ++ (1 ∷ 1 ∷ 16 ∷ 5 ∷ []) ++ scale ++ (0 ∷ 9 ∷ 1 ∷ 1 ∷ []))
    ∷ []

pub writing_holds : plays_from_zero bytes writing ≡ true
unfolding Script.plays_from_zero writing
writing_holds = by_trees (λ S. plays_from_zero S writing) refl

-- ---- "refused by 29, 28 and 26 alike, then by 35 if the lent buffer is too short, and changes nothing"
abbrev pub kept : List ℕ → ℕ → List ℕ → List ℕ → Script → Script
kept l u b ns s = stores l u b ns l ∷ s

unfoldable pub refused_writing : Script
unfolding repeated
refused_writing =
    kept (repeated 7 (9 ∷ [])) 0 empty (35 ∷ []) (kept (empty ++ empty_end ++ repeated 3 (9 ∷ [])) 8 empty (35 ∷ [])
    (kept (empty ++ empty_end) 9 (4 ∷ []) (35 ∷ []) (kept (repeated 3 (9 ∷ [])) 3 (1 ∷ 0 ∷ 15 ∷ 5 ∷ []) (28 ∷ [])
    (kept (empty ++ empty_end) 8 [] (28 ∷ []) (kept (empty ++ empty_end) 8 (1 ∷ 0 ∷ 15 ∷ 5 ∷ []) (26 ∷ [])
    (kept (empty ++ (0 ∷ 4 ∷ 5 ∷ 0 ∷ [])) 8 (6 ∷ []) (29 ∷ 5 ∷ []) (kept (empty ++ (0 ∷ 4 ∷ 0 ∷ 0 ∷ [])) 8 (6 ∷ []) (29 ∷ 6 ∷ [])
    (kept ((1 ∷ 0 ∷ 15 ∷ 5 ∷ []) ++ empty_end) 8 empty (26 ∷ []) (kept ((1 ∷ 0 ∷ 15 ∷ 5 ∷ []) ++ empty_end) 8 (1 ∷ []) (28 ∷ []) [])))))))))

pub refused_writing_holds : plays_from_zero bytes refused_writing ≡ true
unfolding Script.plays_from_zero refused_writing
refused_writing_holds = by_trees (λ S. plays_from_zero S refused_writing) refl
