-- The table: document 01's "Worked sums" (a)-(h), with (c), (d) and (e) on both sides, and one statement over them: every row runs as it says, by
-- the definitions, at the memory that the code has.
use Rattle.std.specs.Prelude.{◌+◌, ◌*◌, ◌/◌, ◌%◌, ◌≡◌, refl, true, List, [], ◌∷◌, ◌++◌}
use Rattle.model.specs.Store.{bytes}
use Rattle.model.specs.Same.{by_trees}
use Rattle.table.specs.Program.{win, sme, wnm, rme, st1, stp, dep, code}
use Rattle.table.specs.Script as Script
use Rattle.table.specs.Script.{plays_all, Script, ok, put_to_wait, begins, begins_with_2, times, repeated, faulty}
use Rattle.table.specs.Script.Line.{fresh_start, step, reads, judges, host, has}

-- (a) "Fresh, line 16, divider 5: page 7 words 15-27 are 16,0,0,0,0,237,19,0,236,236,17,0,5; page 236 words 7-12 are 17,0,0,10,192,0."
unfoldable pub row_a : Script
row_a =
    fresh_start 16 5 ok
    ∷ has (7 * 32 + 15) (16 ∷ 0 ∷ 0 ∷ 0 ∷ 0 ∷ 237 ∷ 19 ∷ 0 ∷ 236 ∷ 236 ∷ 17 ∷ 0 ∷ 5 ∷ [])
    ∷ has (236 * 32 + 7) (17 ∷ 0 ∷ 0 ∷ 10 ∷ 192 ∷ 0 ∷ [])
    ∷ judges ok
    ∷ reads (0 ∷ 0 ∷ 0 ∷ 0 ∷ 0 ∷ 0 ∷ 2752 ∷ 0 ∷ [])
    ∷ []

-- (b) "Then 224,66,107,184 at 2752 and 2,65,66 at 3000: SME to absent 2, flag 3. Page 237 words 0-2 are 0,35,128; page 236 word 5 is 237, word 11 is
-- 196; free list 238, semaphore 18."
unfoldable pub row_b : Script
row_b =
    fresh_start 16 5 ok
    ∷ host 2752 (224 ∷ 66 ∷ 107 ∷ 184 ∷ [])
    ∷ host 3000 (2 ∷ 65 ∷ 66 ∷ [])
    ∷ step ok
    ∷ has (237 * 32 + 0) (0 ∷ 35 ∷ 128 ∷ [])
    ∷ has (236 * 32 + 5) (237 ∷ [])
    ∷ has (236 * 32 + 11) (196 ∷ [])
    ∷ has (7 * 32 + 20) (238 ∷ 18 ∷ [])
    ∷ []

-- (c) "Length 29 accepted, 30 is fault 12."
unfoldable pub row_c29 : Script
row_c29 =
    begins (sme 2 3 3000)
    (host 3000 (29 ∷ 65 ∷ 66 ∷ [])
    ∷ step ok
    ∷ has (237 * 32 + 0) (0 ∷ 35 ∷ 128 ∷ [])
    ∷ has (236 * 32 + 5) (237 ∷ [])
    ∷ has (236 * 32 + 11) (196 ∷ [])
    ∷ [])

unfoldable pub row_c30 : Script
row_c30 =
    begins (sme 2 3 3000)
    (host 3000 (30 ∷ 65 ∷ 66 ∷ [])
    ∷ step (12 ∷ 1 ∷ [])
    ∷ has (236 * 32 + 10) (10 ∷ 192 ∷ 128 ∷ [])
    ∷ has (9 * 32 + 0) (2 ∷ (1 * 16 + 12) ∷ [])
    ∷ has (7 * 32 + 24) (0 ∷ 0 ∷ [])
    ∷ [])

-- (d) "RME to 7549 with length 0 accepted, length 1 fault 11."
unfoldable pub row_d0 : Script
row_d0 =
    begins (sme 1 3 3000 ++ wnm 0 0 ++ rme 1 3 7549)
    (host 3000 (0 ∷ 65 ∷ 66 ∷ [])
    ∷ step ok
    ∷ step ok
    ∷ step ok
    ∷ has 7549 (1 ∷ 3 ∷ 0 ∷ [])
    ∷ has (7 * 32 + 20) (238 ∷ 19 ∷ [])
    ∷ has (255 * 32 + 0) (237 ∷ [])
    ∷ has (236 * 32 + 5) (0 ∷ 0 ∷ [])
    ∷ has (236 * 32 + 11) (203 ∷ [])
    ∷ [])

unfoldable pub row_d1 : Script
row_d1 =
    begins (sme 1 3 3000 ++ wnm 0 0 ++ rme 1 3 7549)
    (host 3000 (1 ∷ 65 ∷ 66 ∷ [])
    ∷ step ok
    ∷ step ok
    ∷ step (11 ∷ 1 ∷ [])
    ∷ has 7549 (0 ∷ 0 ∷ 0 ∷ [])
    ∷ has (236 * 32 + 6) (237 ∷ [])
    ∷ has (9 * 32 + 0) (2 ∷ (1 * 16 + 11) ∷ [])
    ∷ [])

-- (e) "IK 54 accepted, 55 fault 5."
unfoldable pub row_e54 : Script
row_e54 =
    begins (win 54 2)
    (step put_to_wait
    ∷ has (236 * 32 + 2) (2 ∷ 0 ∷ 0 ∷ [])
    ∷ has (236 * 32 + 10) (10 ∷ 196 ∷ 64 ∷ [])
    ∷ has (4 * 32 + (2 * 54 + 1)) (255 ∷ 236 ∷ [])
    ∷ has (7 * 32 + 24) (0 ∷ 0 ∷ [])
    ∷ [])

unfoldable pub row_e55 : Script
row_e55 = faulty (win 55 2) 5

-- (f) "Fresh, STP of itself: LR 2754, idle."
unfoldable pub row_f : Script
row_f =
    begins (stp 1)
    (step ok
    ∷ has (236 * 32 + 10) (2754 / 256 ∷ 2754 % 256 ∷ 128 ∷ [])
    ∷ has (7 * 32 + 24) (0 ∷ 0 ∷ [])
    ∷ step (22 ∷ [])
    ∷ reads (22 ∷ [])
    ∷ [])

-- (g) "DEP of itself: 10."
unfoldable pub row_g : Script
row_g = faulty (dep 1) 10

-- (h) "31 faults fill page 9; the 32nd still stops its processor.": 1 starts 2, of a higher priority, again after each of its faults
unfoldable pub row_h : Script
row_h =
    begins_with_2 (repeated 32 (st1 2))
    (host 3000 (code 15 0)
    ∷ times 31 (step ok ∷ step (1 ∷ 2 ∷ []) ∷ [])
    ++ has (9 * 32 + 0) (32 ∷ repeated 31 ((2 * 16 + 1) ∷ []))
    ∷ step ok
    ∷ has (237 * 32 + 12) (0 ∷ [])
    ∷ step (1 ∷ 2 ∷ [])
    ∷ has (237 * 32 + 12) (128 ∷ [])
    ∷ has (9 * 32 + 0) (32 ∷ repeated 31 ((2 * 16 + 1) ∷ []))
    ∷ [])

unfoldable pub table : List Script
unfolding row_a row_b row_c29 row_c30 row_d0 row_d1 row_e54 row_e55 row_f row_g row_h Script.times Script.repeated
table = row_a ∷ row_b ∷ row_c29 ∷ row_c30 ∷ row_d0 ∷ row_d1 ∷ row_e54 ∷ row_e55 ∷ row_f ∷ row_g ∷ row_h ∷ []

-- the statement
pub table_holds : plays_all bytes table ≡ true
unfolding Script.plays_all table
table_holds = by_trees (λ S. plays_all S table) refl
