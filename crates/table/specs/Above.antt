-- No creating above yourself: what CRP with a priority is answered, and what stands afterwards. Document 02's 6/13, or its ruling, quoted at each row. In the
-- paper's numbers, as every row.
use Rattle.std.specs.Prelude.{◌+◌, ◌*◌, ◌/◌, ◌%◌, ◌≡◌, refl, true, [], ◌∷◌, ◌++◌}
use Rattle.model.specs.Store.{bytes}
use Rattle.model.specs.Same.{by_trees}
use Rattle.table.specs.Program.{win, sme, rme, st1, st2, crp, exi}
use Rattle.table.specs.Script as Script
use Rattle.table.specs.Script.{plays_from_zero, Script, ok, put_to_wait, begins, begins_with_2, faulty, mailed}
use Rattle.table.specs.Script.Line.{settles, step, signal, judges, host, made, has}

-- ---- "CRP with a priority higher than that of the processor running it is now fault 13": by one, and the highest; nothing is created
unfoldable pub by_one : Script
by_one = faulty (crp 2 2 0 3000) 13

pub by_one_holds : plays_from_zero bytes by_one ≡ true
unfolding Script.plays_from_zero by_one
by_one_holds = by_trees (λ S. plays_from_zero S by_one) refl

unfoldable pub by_many : Script
by_many =
    begins (crp 15 15 15 8191)
    (step (13 ∷ 1 ∷ []) ∷ has (7 * 32 + 20) (237 ∷ 19 ∷ []) ∷ has (236 * 32 + 10) (10 ∷ 192 ∷ 128 ∷ []) ∷ has (7 * 32 + 24) (0 ∷ 0 ∷ []) ∷ judges ok ∷ [])

pub by_many_holds : plays_from_zero bytes by_many ≡ true
unfolding Script.plays_from_zero by_many
by_many_holds = by_trees (λ S. plays_from_zero S by_many) refl

-- ---- "equal is allowed", W aside; and lower: by 1, and by 2, of priority 3, which then is refused by one more
unfoldable pub equal_and_lower : Script
equal_and_lower =
    settles (1 ∷ 1 ∷ 16 ∷ 5 ∷ 2 ∷ 3 ∷ 0 ∷ 11 ∷ 184 ∷ 0 ∷ 9 ∷ 1 ∷ 1 ∷ []) ok
    ∷ host 2752 (crp 3 1 15 3500 ++ st1 2)
    ∷ host 3000 (crp 4 3 15 3500 ++ crp 5 2 0 3500 ++ crp 6 4 0 3500)
    ∷ step ok
    ∷ has (238 * 32 + 7) ((1 * 16 + 3) ∷ 0 ∷ 0 ∷ 3500 / 256 ∷ 3500 % 256 ∷ (128 + 15) ∷ [])
    ∷ step ok
    ∷ step ok
    ∷ has (239 * 32 + 7) ((3 * 16 + 4) ∷ [])
    ∷ step ok
    ∷ has (240 * 32 + 7) ((2 * 16 + 5) ∷ [])
    ∷ step (13 ∷ 2 ∷ [])
    ∷ has (9 * 32) (2 ∷ (2 * 16 + 13) ∷ 0 ∷ [])
    ∷ has (7 * 32 + 20) (241 ∷ 15 ∷ [])
    ∷ has (7 * 32 + 24) (236 ∷ 17 ∷ [])
    ∷ judges ok
    ∷ []

pub equal_and_lower_holds : plays_from_zero bytes equal_and_lower ≡ true
unfolding Script.plays_from_zero equal_and_lower
equal_and_lower_holds = by_trees (λ S. plays_from_zero S equal_and_lower) refl

-- ---- "higher than that of the processor running it": 2, which is stopped, has priority 15, and 1 runs
unfoldable pub its_own_counts : Script
its_own_counts =
    settles (1 ∷ 1 ∷ 16 ∷ 5 ∷ 2 ∷ 15 ∷ 0 ∷ 11 ∷ 184 ∷ 0 ∷ 9 ∷ 1 ∷ 1 ∷ []) ok ∷ host 2752 (crp 3 2 0 3000) ∷ step (13 ∷ 1 ∷ []) ∷ judges ok ∷ []

pub its_own_counts_holds : plays_from_zero bytes its_own_counts ≡ true
unfolding Script.plays_from_zero its_own_counts
its_own_counts_holds = by_trees (λ S. plays_from_zero S its_own_counts) refl

-- ---- "It stands after 12": name 0
unfoldable pub after_12 : Script
after_12 = faulty (crp 0 2 0 3000) 12

pub after_12_holds : plays_from_zero bytes after_12 ≡ true
unfolding Script.plays_from_zero after_12
after_12_holds = by_trees (λ S. plays_from_zero S after_12) refl

-- "and before 9": the name exists; with an equal priority it is 9
unfoldable pub before_9 : Script
before_9 = faulty (crp 1 2 0 3000) 13

pub before_9_holds : plays_from_zero bytes before_9 ≡ true
unfolding Script.plays_from_zero before_9
before_9_holds = by_trees (λ S. plays_from_zero S before_9) refl

unfoldable pub equal_is_9 : Script
equal_is_9 = faulty (crp 1 1 0 3000) 9

pub equal_is_9_holds : plays_from_zero bytes equal_is_9 ≡ true
unfolding Script.plays_from_zero equal_is_9
equal_is_9_holds = by_trees (λ S. plays_from_zero S equal_is_9) refl

-- ---- "Direct and by EXI": NI, priority, W and the address are at 3000
unfoldable pub by_exi : Script
by_exi = begins (exi 11 0 3000) (host 3000 (2 ∷ 2 ∷ 0 ∷ 11 ∷ 184 ∷ []) ∷ step (13 ∷ 1 ∷ []) ∷ has (9 * 32) (2 ∷ (1 * 16 + 13) ∷ 0 ∷ []) ∷ judges ok ∷ [])

pub by_exi_holds : plays_from_zero bytes by_exi ≡ true
unfolding Script.plays_from_zero by_exi
by_exi_holds = by_trees (λ S. plays_from_zero S by_exi) refl

unfoldable pub equal_by_exi : Script
equal_by_exi = begins (exi 11 0 3000) (host 3000 (2 ∷ 1 ∷ 0 ∷ 11 ∷ 184 ∷ []) ∷ step ok ∷ has (237 * 32 + 7) ((1 * 16 + 2) ∷ []) ∷ judges ok ∷ [])

pub equal_by_exi_holds : plays_from_zero bytes equal_by_exi ≡ true
unfolding Script.plays_from_zero equal_by_exi
equal_by_exi_holds = by_trees (λ S. plays_from_zero S equal_by_exi) refl

-- ---- "12, 13, 9, wait for a page": none is free, all are mail in Q2 of 1
unfoldable pub before_the_wait : Script
unfolding Script.mailed
before_the_wait =
    begins (crp 2 2 0 3000)
    (made (7 * 32 + 20) (0 ∷ 0 ∷ 0 ∷ [])
    ∷ made (236 * 32 + 6) (237 ∷ [])
    ∷ mailed 18 237 (judges ok ∷ step (13 ∷ 1 ∷ []) ∷ has (7 * 32 + 20) (0 ∷ 0 ∷ 0 ∷ []) ∷ []))

pub before_the_wait_holds : plays_from_zero bytes before_the_wait ≡ true
unfolding Script.plays_from_zero before_the_wait
before_the_wait_holds = by_trees (λ S. plays_from_zero S before_the_wait) refl

-- ---- "A CRP that waited for a page is tested again when it runs anew, and keeps its grant if it faults." All pages are mail in Q2 of 2, which waits for
-- interrupt 20. CRP of 3 with priority 1 waits; its words then ask for priority 2; 2 reads a message, and its page, 238, is granted to 1: 13, and the grant
-- stays. 2 starts 1 again, at 2800, and its SME uses that page
unfoldable pub tested_anew : Script
unfolding Script.mailed
tested_anew =
    begins_with_2 (st1 2 ++ crp 3 1 0 3500)
    (host 3000 (win 20 1 ++ rme 2 1 3300 ++ win 20 1 ++ st2 1 2800 ++ win 20 1)
    ∷ host 2800 (sme 1 5 3200)
    ∷ step ok
    ∷ step put_to_wait
    ∷ made (7 * 32 + 20) (0 ∷ 0 ∷ 0 ∷ [])
    ∷ made (237 * 32 + 6) (238 ∷ [])
    ∷ mailed 17 238
    (judges ok
    ∷ step put_to_wait
    ∷ has (7 * 32 + 20) (0 ∷ 255 ∷ 236 ∷ [])
    ∷ host 2756 ((2 * 16 + 0) ∷ [])
    ∷ signal 20 0 ok
    ∷ step ok
    ∷ has (10 * 32 + 1) (238 ∷ [])
    ∷ step put_to_wait
    ∷ has (7 * 32 + 24) (236 ∷ 17 ∷ [])
    ∷ step (13 ∷ 1 ∷ [])
    ∷ has (10 * 32 + 1) (238 ∷ [])
    ∷ has (9 * 32) (2 ∷ (1 * 16 + 13) ∷ 0 ∷ [])
    ∷ judges ok
    ∷ signal 20 0 ok
    ∷ step ok
    ∷ step put_to_wait
    ∷ step ok
    ∷ has (236 * 32 + 5) (238 ∷ [])
    ∷ has (238 * 32 + 0) (0 ∷ (1 * 16 + 5) ∷ 0 ∷ [])
    ∷ has (10 * 32 + 1) (0 ∷ [])
    ∷ judges ok
    ∷ []))

pub tested_anew_holds : plays_from_zero bytes tested_anew ≡ true
unfolding Script.plays_from_zero tested_anew
tested_anew_holds = by_trees (λ S. plays_from_zero S tested_anew) refl

-- ---- "Page 9 and its rule take faults 1 to 13": 13 of processor 1, and 14
unfoldable pub page_9_takes_13 : Script
page_9_takes_13 = begins [] (made (9 * 32) (2 ∷ (1 * 16 + 13) ∷ []) ∷ judges ok ∷ made (9 * 32) (2 ∷ (1 * 16 + 14) ∷ []) ∷ judges (33 ∷ (9 * 32 + 1) ∷ []) ∷ [])

pub page_9_takes_13_holds : plays_from_zero bytes page_9_takes_13 ≡ true
unfolding Script.plays_from_zero page_9_takes_13
page_9_takes_13_holds = by_trees (λ S. plays_from_zero S page_9_takes_13) refl
