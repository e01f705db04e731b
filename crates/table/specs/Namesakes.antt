-- Notices to a namesake: what a deletion marks, what it returns, and how marked mail is read and judged. Document 02's 3/13, or its ruling, quoted at each row.
-- In the paper's numbers, as every row. The ledger is processor 2, the printer 3.
use Prim.Native.Nat.{ℕ, zero, suc, ◌+◌, ◌*◌}
use Rattle.std.specs.Prelude.{◌≡◌, refl, Bool, true, List, [], ◌∷◌, ◌++◌}
use Rattle.model.specs.Store.{bytes}
use Rattle.model.specs.Store.{Store}
use Rattle.model.specs.Delete.{delete}
use Rattle.model.specs.Same.{by_trees}
use Rattle.table.specs.Program.{sme, wnm, rme, st1, stp, crp, dep}
use Rattle.table.specs.Script as Script
use Rattle.table.specs.Script.{plays_from_zero, writes, looks, Script, ok, begins, begins_with_2, times}
use Rattle.table.specs.Script.Line.{step, judges, host, made, has}

-- ---- what rows are made of
-- the ledger, of a higher priority, stands on page 237; 1 creates the printer on 238 and starts the ledger; it sends the printer 65, 66, on page 239, and stops
-- itself; then 1 goes on with the instructions ws
abbrev pub ledger_sends : List ℕ → Script → Script
ledger_sends ws s =
    begins_with_2 (crp 3 1 0 3500 ++ st1 2 ++ ws)
    (host 3000 (sme 3 1 3200 ++ stp 2)
    ∷ host 3200 (2 ∷ 65 ∷ 66 ∷ [])
    ∷ step ok
    ∷ step ok
    ∷ has (7 * 32 + 24) (237 ∷ (2 * 16 + 2) ∷ [])
    ∷ step ok
    ∷ has (238 * 32 + 5) (239 ∷ [])
    ∷ has (239 * 32 + 0) (0 ∷ (2 * 16 + 1) ∷ 2 ∷ 65 ∷ 66 ∷ [])
    ∷ step ok
    ∷ has (7 * 32 + 24) (236 ∷ (1 * 16 + 1) ∷ [])
    ∷ s)

-- 1, 2 and 3 are on pages 236, 237 and 238. For 1 wait pages 239-241 in Q1, 242 and 243 in Q2; for 3 pages 244-246 in Q1, 247 and 248 in Q2: mail of 2 with and
-- without a text, of each flag, a notice under its name, mail of 2 that is marked already, and mail of 1 and 3. Then 2 is deleted
abbrev pub held_by_two : Script → Script
held_by_two s =
    begins (crp 2 1 0 3000 ++ crp 3 1 0 3000 ++ dep 2)
    (step ok
    ∷ step ok
    ∷ made (7 * 32 + 20) (249 ∷ 7 ∷ [])
    ∷ made (236 * 32 + 5) (239 ∷ 242 ∷ [])
    ∷ made (239 * 32 + 0) (240 ∷ (2 * 16 + 1) ∷ 0 ∷ [])
    ∷ made (240 * 32 + 0) (241 ∷ (3 * 16 + 1) ∷ 5 ∷ [])
    ∷ made (241 * 32 + 0) (0 ∷ (2 * 16 + 7) ∷ 29 ∷ [])
    ∷ made (242 * 32 + 0) (243 ∷ (2 * 16 + 3) ∷ 128 ∷ [])
    ∷ made (243 * 32 + 0) (0 ∷ (2 * 16 + 2) ∷ 10 ∷ [])
    ∷ made (238 * 32 + 5) (244 ∷ 247 ∷ [])
    ∷ made (244 * 32 + 0) (245 ∷ (2 * 16 + 1) ∷ 64 ∷ [])
    ∷ made (245 * 32 + 0) (246 ∷ (1 * 16 + 2) ∷ 3 ∷ [])
    ∷ made (246 * 32 + 0) (0 ∷ (2 * 16 + 4) ∷ 1 ∷ [])
    ∷ made (247 * 32 + 0) (248 ∷ (2 * 16 + 5) ∷ 93 ∷ [])
    ∷ made (248 * 32 + 0) (0 ∷ (2 * 16 + 6) ∷ 2 ∷ [])
    ∷ judges ok
    ∷ step ok
    ∷ s)

-- ---- "The ledger was deleted and made again while its old mail waited at the printer. The printer was then deleted": the mail is marked; the new ledger, on
-- page 240, has nothing in Q1, and the page of the mail is free, between those of the ledger and of the printer
unfoldable pub ledger_made_again : Script
ledger_made_again =
    ledger_sends (dep 2 ++ crp 2 1 0 3000 ++ dep 3)
    (step ok
    ∷ has (239 * 32 + 0) (0 ∷ (2 * 16 + 1) ∷ (64 + 2) ∷ 65 ∷ 66 ∷ [])
    ∷ step ok
    ∷ has (236 * 32 + 1) (238 ∷ [])
    ∷ has (238 * 32 + 1) (240 ∷ [])
    ∷ has (240 * 32 + 7) ((1 * 16 + 2) ∷ [])
    ∷ step ok
    ∷ has (240 * 32 + 5) (0 ∷ 0 ∷ [])
    ∷ has (7 * 32 + 20) (241 ∷ 18 ∷ [])
    ∷ has (255 * 32 + 0) (237 ∷ [])
    ∷ has (237 * 32 + 0) (239 ∷ [])
    ∷ has (239 * 32 + 0) (238 ∷ [])
    ∷ has (238 * 32 + 0) (0 ∷ [])
    ∷ judges ok
    ∷ [])

pub ledger_made_again_holds : plays_from_zero bytes ledger_made_again ≡ true
unfolding Script.plays_from_zero ledger_made_again
ledger_made_again_holds = by_trees (λ S. plays_from_zero S ledger_made_again) refl

-- ---- "only an unmarked message whose sender's name exists becomes a notice": the same, with the ledger not deleted
unfoldable pub living_ledger_noticed : Script
living_ledger_noticed =
    ledger_sends (dep 3)
    (step ok ∷ has (237 * 32 + 5) (239 ∷ 0 ∷ []) ∷ has (239 * 32 + 0) (0 ∷ (3 * 16 + 1) ∷ 128 ∷ []) ∷ has (7 * 32 + 20) (240 ∷ 17 ∷ []) ∷ judges ok ∷ [])

pub living_ledger_noticed_holds : plays_from_zero bytes living_ledger_noticed ≡ true
unfolding Script.plays_from_zero living_ledger_noticed
living_ledger_noticed_holds = by_trees (λ S. plays_from_zero S living_ledger_noticed) refl

-- ---- "Unmarked mail under its name counts as sent by it": mail of 2 from before there is a 2. 3 is deleted and 2 gets the notice; and what waits at 1 is
-- marked when 2 is deleted
unfoldable pub unmarked_is_its_own : Script
unmarked_is_its_own =
    begins (crp 3 1 0 3000 ++ crp 2 1 0 3000 ++ dep 3 ++ dep 2)
    (step ok
    ∷ made (7 * 32 + 20) (240 ∷ 16 ∷ [])
    ∷ made (237 * 32 + 5) (238 ∷ [])
    ∷ made (238 * 32 + 0) (0 ∷ (2 * 16 + 1) ∷ 3 ∷ [])
    ∷ made (236 * 32 + 5) (239 ∷ [])
    ∷ made (239 * 32 + 0) (0 ∷ (2 * 16 + 1) ∷ 4 ∷ [])
    ∷ step ok
    ∷ step ok
    ∷ has (240 * 32 + 5) (238 ∷ [])
    ∷ has (238 * 32 + 1) ((3 * 16 + 1) ∷ 128 ∷ [])
    ∷ step ok
    ∷ has (239 * 32 + 1) ((2 * 16 + 1) ∷ (64 + 4) ∷ [])
    ∷ judges ok
    ∷ [])

pub unmarked_is_its_own_holds : plays_from_zero bytes unmarked_is_its_own ≡ true
unfolding Script.plays_from_zero unmarked_is_its_own
unmarked_is_its_own_holds = by_trees (λ S. plays_from_zero S unmarked_is_its_own) refl

-- ---- "deleting a processor marks every message it sent that is still unread, by 64 added in word 2": in Q1 and in Q2, of each holder and flag
unfoldable pub every_unread_marked : Script
every_unread_marked =
    held_by_two
    (has (239 * 32 + 0) (240 ∷ (2 * 16 + 1) ∷ (64 + 0) ∷ [])
    ∷ has (241 * 32 + 0) (0 ∷ (2 * 16 + 7) ∷ (64 + 29) ∷ [])
    ∷ has (243 * 32 + 0) (0 ∷ (2 * 16 + 2) ∷ (64 + 10) ∷ [])
    ∷ has (246 * 32 + 0) (0 ∷ (2 * 16 + 4) ∷ (64 + 1) ∷ [])
    ∷ has (248 * 32 + 0) (0 ∷ (2 * 16 + 6) ∷ (64 + 2) ∷ [])
    ∷ has (236 * 32 + 5) (239 ∷ 242 ∷ [])
    ∷ has (238 * 32 + 5) (244 ∷ 247 ∷ [])
    ∷ judges ok
    ∷ [])

pub every_unread_marked_holds : plays_from_zero bytes every_unread_marked ≡ true
unfolding Script.plays_from_zero every_unread_marked
every_unread_marked_holds = by_trees (λ S. plays_from_zero S every_unread_marked) refl

-- "each message with its name as sender": and no other's
unfoldable pub other_senders_stay : Script
other_senders_stay = held_by_two (has (240 * 32 + 0) (241 ∷ (3 * 16 + 1) ∷ 5 ∷ []) ∷ has (245 * 32 + 0) (246 ∷ (1 * 16 + 2) ∷ 3 ∷ []) ∷ [])

pub other_senders_stay_holds : plays_from_zero bytes other_senders_stay ≡ true
unfolding Script.plays_from_zero other_senders_stay
other_senders_stay_holds = by_trees (λ S. plays_from_zero S other_senders_stay) refl

-- "notices aren't marked"
unfoldable pub notices_stay : Script
notices_stay = held_by_two (has (242 * 32 + 0) (243 ∷ (2 * 16 + 3) ∷ 128 ∷ []) ∷ [])

pub notices_stay_holds : plays_from_zero bytes notices_stay ≡ true
unfolding Script.plays_from_zero notices_stay
notices_stay_holds = by_trees (λ S. plays_from_zero S notices_stay) refl

-- "marked mail isn't marked again"
unfoldable pub marked_once : Script
marked_once = held_by_two (has (244 * 32 + 0) (245 ∷ (2 * 16 + 1) ∷ 64 ∷ []) ∷ has (247 * 32 + 0) (248 ∷ (2 * 16 + 5) ∷ 93 ∷ []) ∷ [])

pub marked_once_holds : plays_from_zero bytes marked_once ≡ true
unfolding Script.plays_from_zero marked_once
marked_once_holds = by_trees (λ S. plays_from_zero S marked_once) refl

-- ---- "its own queues included": 2 has mail of its own in Q2, page 238, and in Q1, page 239. "its freed page shows 64 + length"
unfoldable pub own_queues_marked : Script
unfolding Script.times
own_queues_marked =
    begins_with_2 (st1 2 ++ dep 2)
    (host 3000 (sme 2 1 3200 ++ sme 2 2 3300 ++ wnm 2 1 ++ stp 2)
    ∷ host 3200 (29 ∷ [])
    ∷ host 3300 (2 ∷ 65 ∷ 66 ∷ [])
    ∷ times 5 (step ok ∷ [])
    ++ has (237 * 32 + 5) (239 ∷ 238 ∷ [])
    ∷ step ok
    ∷ has (238 * 32 + 0) (239 ∷ (2 * 16 + 1) ∷ (64 + 29) ∷ [])
    ∷ has (239 * 32 + 0) (237 ∷ (2 * 16 + 2) ∷ (64 + 2) ∷ 65 ∷ 66 ∷ [])
    ∷ has (7 * 32 + 20) (240 ∷ 19 ∷ [])
    ∷ judges ok
    ∷ [])

pub own_queues_marked_holds : plays_from_zero bytes own_queues_marked ≡ true
unfolding Script.plays_from_zero own_queues_marked
own_queues_marked_holds = by_trees (λ S. plays_from_zero S own_queues_marked) refl

-- ---- "Marked mail is read as before, and RME hands out the true length": 2 sends to 1 and is deleted, then 1 reads
unfoldable pub true_length_read : Script
unfolding Script.times
true_length_read =
    begins_with_2 (st1 2 ++ dep 2 ++ wnm 2 3 ++ rme 2 3 3300)
    (host 3000 (sme 1 3 3200 ++ stp 2)
    ∷ host 3200 (2 ∷ 65 ∷ 66 ∷ [])
    ∷ times 4 (step ok ∷ [])
    ++ has (238 * 32 + 1) ((2 * 16 + 3) ∷ (64 + 2) ∷ [])
    ∷ step ok
    ∷ step ok
    ∷ has 3300 (2 ∷ 3 ∷ 2 ∷ 65 ∷ 66 ∷ 0 ∷ [])
    ∷ has (236 * 32 + 5) (0 ∷ 0 ∷ [])
    ∷ has (7 * 32 + 20) (239 ∷ 19 ∷ [])
    ∷ judges ok
    ∷ [])

pub true_length_read_holds : plays_from_zero bytes true_length_read ≡ true
unfolding Script.plays_from_zero true_length_read
true_length_read_holds = by_trees (λ S. plays_from_zero S true_length_read) refl

-- "used for the target": as in worked sum (d), 7549 has room for length 0
unfoldable pub marked_none_at_7549 : Script
marked_none_at_7549 =
    begins (sme 1 3 3000 ++ wnm 0 0 ++ rme 1 3 7549)
    (host 3000 (0 ∷ 65 ∷ 66 ∷ [])
    ∷ step ok
    ∷ made (237 * 32 + 2) ((64 + 0) ∷ [])
    ∷ step ok
    ∷ step ok
    ∷ has 7549 (1 ∷ 3 ∷ 0 ∷ [])
    ∷ has (236 * 32 + 5) (0 ∷ 0 ∷ [])
    ∷ has (255 * 32 + 0) (237 ∷ [])
    ∷ [])

pub marked_none_at_7549_holds : plays_from_zero bytes marked_none_at_7549 ≡ true
unfolding Script.plays_from_zero marked_none_at_7549
marked_none_at_7549_holds = by_trees (λ S. plays_from_zero S marked_none_at_7549) refl

-- and none for length 1
unfoldable pub marked_one_at_7549 : Script
marked_one_at_7549 =
    begins (sme 1 3 3000 ++ wnm 0 0 ++ rme 1 3 7549)
    (host 3000 (1 ∷ 65 ∷ 66 ∷ [])
    ∷ step ok
    ∷ made (237 * 32 + 2) ((64 + 1) ∷ [])
    ∷ step ok
    ∷ step (11 ∷ 1 ∷ [])
    ∷ has 7549 (0 ∷ 0 ∷ 0 ∷ [])
    ∷ has (236 * 32 + 5) (0 ∷ 237 ∷ [])
    ∷ [])

pub marked_one_at_7549_holds : plays_from_zero bytes marked_one_at_7549 ≡ true
unfolding Script.plays_from_zero marked_one_at_7549
marked_one_at_7549_holds = by_trees (λ S. plays_from_zero S marked_one_at_7549) refl

-- ---- "word 2 of a message is 0-29, 64-93 or 128": page 237 is a message; each number, and what the judge tells of it
abbrev pub sized : ℕ → List ℕ → Script → Script
sized v ns s = made (237 * 32 + 2) (v ∷ []) ∷ judges ns ∷ s

unfoldable pub marks_well_formed : Script
marks_well_formed = begins (sme 1 3 3000) (step ok ∷ sized 0 ok (sized 29 ok (sized 64 ok (sized 93 ok (sized 128 ok [])))))

pub marks_well_formed_holds : plays_from_zero bytes marks_well_formed ≡ true
unfolding Script.plays_from_zero marks_well_formed
marks_well_formed_holds = by_trees (λ S. plays_from_zero S marks_well_formed) refl

abbrev pub broken_237 : List ℕ
broken_237 = 32 ∷ (237 * 32 + 0) ∷ []

unfoldable pub between_marks_broken : Script
between_marks_broken =
    begins (sme 1 3 3000)
    (step ok ∷ sized 30 broken_237 (sized 63 broken_237 (sized 94 broken_237 (sized 127 broken_237 []))))

pub between_marks_broken_holds : plays_from_zero bytes between_marks_broken ≡ true
unfolding Script.plays_from_zero between_marks_broken
between_marks_broken_holds = by_trees (λ S. plays_from_zero S between_marks_broken) refl

-- "192 (a marked notice) is broken": and all above 128
unfoldable pub marked_notice_broken : Script
marked_notice_broken = begins (sme 1 3 3000) (step ok ∷ sized 129 broken_237 (sized 157 broken_237 (sized 192 broken_237 (sized 255 broken_237 []))))

pub marked_notice_broken_holds : plays_from_zero bytes marked_notice_broken ≡ true
unfolding Script.plays_from_zero marked_notice_broken
marked_notice_broken_holds = by_trees (λ S. plays_from_zero S marked_notice_broken) refl

-- ---- "The marking follows leaving the processor list". On a well-formed memory nobody can tell it from marking before: a mark moves nothing, and the deleted
-- one's own queues are marked either way. So this row is of the definition itself, on a memory that no judge accepts: more processors on the list than a walk
-- has pages, which is twenty. Pages 100, 101 .. are on the list, linked through word 1 from word 23 of page 7; the first, 100, is the ledger, the last has mail
-- of it, on page 200 with five words, in Q1. The last is reached only once the first has left
module _ (S : Store) where
  unfoldable pub chained : ℕ → S.M → ℕ → S.M
  unfolding Script.writes
  chained zero m p = writes S m (p * 32 + 5) (200 ∷ [])
  chained (suc n) m p = chained n (writes S m (p * 32 + 1) ((p + 1) ∷ [])) (p + 1)

  -- with n more behind the first
  unfoldable pub behind_ledger : ℕ → S.M
  unfolding Script.writes chained
  behind_ledger n =
      let m = writes S (writes S S.zeros (7 * 32 + 23) (100 ∷ [])) (100 * 32 + 7) ((1 * 16 + 2) ∷ []) in
      chained n (writes S m (200 * 32 + 0) (0 ∷ (2 * 16 + 1) ∷ 5 ∷ [])) 100

  unfoldable pub last_marked : ℕ → Bool
  unfolding Script.plays_from_zero behind_ledger
  last_marked n = looks S (delete S (behind_ledger n) 100) (200 * 32 + 0) (0 ∷ (2 * 16 + 1) ∷ (64 + 5) ∷ [])

pub marks_after_leaving_holds : last_marked bytes 20 ≡ true
unfolding last_marked
marks_after_leaving_holds = by_trees (λ S. last_marked S 20) refl
