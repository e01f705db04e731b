-- Rows that refute wrong models: one for each edit of crates/*/slips that no worked sum and no other row refutes, by the edit's name. On the model as it is
-- each holds; with the edit it does not.
use Rattle.std.specs.Prelude.{◌+◌, ◌*◌, ◌/◌, ◌%◌, ◌≡◌, refl, true, [], ◌∷◌, ◌++◌}
use Rattle.model.specs.Store.{bytes}
use Rattle.model.specs.Same.{by_trees}
use Rattle.table.specs.Program.{win, sme, wnm, rme, tme, st1, crp, dep, exi}
use Rattle.table.specs.Script as Script
use Rattle.table.specs.Script.{plays_from_zero, Script, ok, put_to_wait, registers, begins, begins_with_2, mailed}
use Rattle.table.specs.Script.Line.{step, signal, sets, judges, host, made, has}

-- ---- deleting
-- "Q2 then Q1 from the front: a message whose sender's name exists becomes a notice from NI to it"
unfoldable pub forgets_q1 : Script
forgets_q1 = begins (crp 2 1 0 3000 ++ sme 2 3 3100 ++ dep 2) (step ok ∷ step ok ∷ step ok ∷ has (236 * 32 + 5) (238 ∷ []) ∷ [])

pub forgets_q1_holds : plays_from_zero bytes forgets_q1 ≡ true
unfolding Script.plays_from_zero forgets_q1
forgets_q1_holds = by_trees (λ S. plays_from_zero S forgets_q1) refl

-- "A notice has 128 in word 2": also one that was mail with a text
unfoldable pub notice_keeps_the_text : Script
notice_keeps_the_text =
    begins (crp 2 1 0 3000 ++ sme 2 3 3100 ++ dep 2)
    (host 3100 (1 ∷ 65 ∷ []) ∷ step ok ∷ step ok ∷ step ok ∷ has (238 * 32 + 1) ((2 * 16 + 3) ∷ 128 ∷ []) ∷ [])

pub notice_keeps_the_text_holds : plays_from_zero bytes notice_keeps_the_text ≡ true
unfolding Script.plays_from_zero notice_keeps_the_text
notice_keeps_the_text_holds = by_trees (λ S. plays_from_zero S notice_keeps_the_text) refl

-- "all others and all notices are given back": a notice from 1, which exists
unfoldable pub returned_notice : Script
returned_notice =
    begins (crp 2 1 0 3000 ++ sme 2 3 3100 ++ dep 2)
    (step ok ∷ step ok ∷ made (238 * 32 + 2) (128 ∷ []) ∷ step ok ∷ has (236 * 32 + 5) (0 ∷ []) ∷ has (255 * 32 + 0) (238 ∷ []) ∷ [])

pub returned_notice_holds : plays_from_zero bytes returned_notice ≡ true
unfolding Script.plays_from_zero returned_notice
returned_notice_holds = by_trees (λ S. plays_from_zero S returned_notice) refl

-- "leave any wait queue (not woken)": 2 is stopped and waits for a page, all others are mail of 1; its own page is then free
unfoldable pub grant_to_the_deleted : Script
unfolding Script.mailed
grant_to_the_deleted =
    begins (dep 2)
    (made (7 * 32 + 20) (0 ∷ 255 ∷ 237 ∷ [])
    ∷ made (236 * 32 + 1) (237 ∷ [])
    ∷ made (237 * 32 + 0) (0 ∷ 0 ∷ 0 ∷ 0 ∷ 0 ∷ 0 ∷ 0 ∷ 18 ∷ 0 ∷ 0 ∷ 0 ∷ 0 ∷ 192 ∷ [])
    ∷ made (236 * 32 + 6) (238 ∷ [])
    ∷ mailed 17 238 (step ok ∷ has (10 * 32 + 2) (0 ∷ []) ∷ has (7 * 32 + 20) (237 ∷ 1 ∷ 0 ∷ []) ∷ []))

pub grant_to_the_deleted_holds : plays_from_zero bytes grant_to_the_deleted ≡ true
unfolding Script.plays_from_zero grant_to_the_deleted
grant_to_the_deleted_holds = by_trees (λ S. plays_from_zero S grant_to_the_deleted) refl

-- ---- mail
-- "Joining is at the end, with link 0"
unfoldable pub deliver_at_the_front : Script
deliver_at_the_front = begins (sme 1 1 3000 ++ sme 1 2 3000) (step ok ∷ step ok ∷ has (236 * 32 + 5) (237 ∷ []) ∷ has (237 * 32 + 0) (238 ∷ []) ∷ [])

pub deliver_at_the_front_holds : plays_from_zero bytes deliver_at_the_front ≡ true
unfolding Script.plays_from_zero deliver_at_the_front
deliver_at_the_front_holds = by_trees (λ S. plays_from_zero S deliver_at_the_front) refl

-- "The page joins NI's Q1": 2 gets it, and not 1, which sent it
unfoldable pub mail_to_the_wrong_processor : Script
mail_to_the_wrong_processor = begins (crp 2 1 0 3000 ++ sme 2 3 3100) (step ok ∷ step ok ∷ has (237 * 32 + 5) (238 ∷ []) ∷ has (236 * 32 + 5) (0 ∷ []) ∷ [])

pub mail_to_the_wrong_processor_holds : plays_from_zero bytes mail_to_the_wrong_processor ≡ true
unfolding Script.plays_from_zero mail_to_the_wrong_processor
mail_to_the_wrong_processor_holds = by_trees (λ S. plays_from_zero S mail_to_the_wrong_processor) refl

-- "text length at A, text from A+1"
unfoldable pub text_a_word_late : Script
text_a_word_late = begins (sme 1 3 3000) (host 3000 (2 ∷ 65 ∷ 66 ∷ []) ∷ step ok ∷ has (237 * 32 + 1) ((1 * 16 + 3) ∷ 2 ∷ 65 ∷ 66 ∷ []) ∷ [])

pub text_a_word_late_holds : plays_from_zero bytes text_a_word_late ≡ true
unfolding Script.plays_from_zero text_a_word_late
text_a_word_late_holds = by_trees (λ S. plays_from_zero S text_a_word_late) refl

-- "first match in Q1 to the end of Q2"
unfoldable pub wnm_takes_the_last : Script
wnm_takes_the_last = begins (sme 1 1 3000 ++ sme 1 1 3000 ++ wnm 1 1) (step ok ∷ step ok ∷ step ok ∷ has (236 * 32 + 5) (238 ∷ 237 ∷ []) ∷ [])

pub wnm_takes_the_last_holds : plays_from_zero bytes wnm_takes_the_last ≡ true
unfolding Script.plays_from_zero wnm_takes_the_last
wnm_takes_the_last_holds = by_trees (λ S. plays_from_zero S wnm_takes_the_last) refl

-- "Q1 messages tested, the found one too, go to Q2 in order": the first is found, the second is not tested and stays
unfoldable pub tail_moved : Script
tail_moved =
    begins (sme 1 1 3000 ++ sme 1 2 3000 ++ tme 1 1 3200)
    (step ok ∷ step ok ∷ step ok ∷ has (236 * 32 + 10) (3200 / 256 ∷ 3200 % 256 ∷ []) ∷ has (236 * 32 + 5) (238 ∷ 237 ∷ []) ∷ has (237 * 32 + 0) (0 ∷ []) ∷ [])

pub tail_moved_holds : plays_from_zero bytes tail_moved ≡ true
unfolding Script.plays_from_zero tail_moved
tail_moved_holds = by_trees (λ S. plays_from_zero S tail_moved) refl

-- RME's page leaves Q2 before it is given back: of two messages in Q2 the second stays
unfoldable pub given_back_before_unlinked : Script
given_back_before_unlinked =
    begins (sme 1 1 3000 ++ sme 1 2 3000 ++ tme 1 3 3200 ++ rme 1 1 3100) (step ok ∷ step ok ∷ step ok ∷ step ok ∷ has (236 * 32 + 6) (238 ∷ []) ∷ [])

pub given_back_before_unlinked_holds : plays_from_zero bytes given_back_before_unlinked ≡ true
unfolding Script.plays_from_zero given_back_before_unlinked
given_back_before_unlinked_holds = by_trees (λ S. plays_from_zero S given_back_before_unlinked) refl

-- "RME 6, then 11 on its target"
unfoldable pub order_rme : Script
order_rme = begins (rme 0 0 0) (step (6 ∷ 1 ∷ []) ∷ [])

pub order_rme_holds : plays_from_zero bytes order_rme ≡ true
unfolding Script.plays_from_zero order_rme
order_rme_holds = by_trees (λ S. plays_from_zero S order_rme) refl

-- ---- who runs, waiting, EXI
-- "the running one stays if ready and no ready one has higher priority"
unfoldable pub lower_runs : Script
lower_runs = begins_with_2 (st1 2) (step ok ∷ has (7 * 32 + 24) (237 ∷ (2 * 16 + 2) ∷ []) ∷ [])

pub lower_runs_holds : plays_from_zero bytes lower_runs ≡ true
unfolding Script.plays_from_zero lower_runs
lower_runs_holds = by_trees (λ S. plays_from_zero S lower_runs) refl

-- "13-15 and 16-31 keep words 4-6 and 16-31 of page 0 while another runs": the last of them
unfoldable pub saved_words : Script
saved_words = begins_with_2 (st1 2) (host 31 (9 ∷ []) ∷ step ok ∷ has (236 * 32 + 31) (9 ∷ []) ∷ has 31 (0 ∷ []) ∷ [])

pub saved_words_holds : plays_from_zero bytes saved_words ≡ true
unfolding Script.plays_from_zero saved_words
saved_words_holds = by_trees (λ S. plays_from_zero S saved_words) refl

-- "The processor list links through word 1, all else through word 0."
unfoldable pub list_link : Script
list_link = begins (crp 2 1 0 3000) (step ok ∷ has (236 * 32 + 0) (0 ∷ 237 ∷ []) ∷ [])

pub list_link_holds : plays_from_zero bytes list_link ≡ true
unfolding Script.plays_from_zero list_link
list_link_holds = by_trees (λ S. plays_from_zero S list_link) refl

-- "an interrupt's is minus its waiters"
unfoldable pub forgets_semaphore : Script
forgets_semaphore = begins (win 20 1) (step put_to_wait ∷ signal 20 0 ok ∷ has (4 * 32 + (2 * 20 + 1)) (0 ∷ 0 ∷ []) ∷ [])

pub forgets_semaphore_holds : plays_from_zero bytes forgets_semaphore ≡ true
unfolding Script.plays_from_zero forgets_semaphore
forgets_semaphore_holds = by_trees (λ S. plays_from_zero S forgets_semaphore) refl

-- "it advances by 4": EXI of GIN, whose own length is 2
unfoldable pub exi_advance : Script
exi_advance = begins (exi 2 0 0) (step ok ∷ has (236 * 32 + 11) (196 ∷ []) ∷ [])

pub exi_advance_holds : plays_from_zero bytes exi_advance ≡ true
unfolding Script.plays_from_zero exi_advance
exi_advance_holds = by_trees (λ S. plays_from_zero S exi_advance) refl

-- ---- faults, and the judge
-- "A fault sets the stopped bit, enters page 9, leaves LR": and leaves A
unfoldable pub fault_clears_a : Script
fault_clears_a = begins (dep 1) (sets (registers 7 0 0 0 0 2752 0) ok ∷ step (10 ∷ 1 ∷ []) ∷ has (236 * 32 + 8) (7 ∷ []) ∷ [])

pub fault_clears_a_holds : plays_from_zero bytes fault_clears_a ≡ true
unfolding Script.plays_from_zero fault_clears_a
fault_clears_a_holds = by_trees (λ S. plays_from_zero S fault_clears_a) refl

-- and leaves the X registers
unfoldable pub fault_spoils_page0 : Script
fault_spoils_page0 = begins (dep 1) (host 24 (9 ∷ []) ∷ step (10 ∷ 1 ∷ []) ∷ has 24 (9 ∷ []) ∷ [])

pub fault_spoils_page0_holds : plays_from_zero bytes fault_spoils_page0 ≡ true
unfolding Script.plays_from_zero fault_spoils_page0
fault_spoils_page0_holds = by_trees (λ S. plays_from_zero S fault_spoils_page0) refl

-- "every control page is used once": one that is free is granted too
unfoldable pub judge_grants : Script
judge_grants = begins [] (made (10 * 32 + 1) (237 ∷ []) ∷ judges (30 ∷ 237 * 32 ∷ []) ∷ [])

pub judge_grants_holds : plays_from_zero bytes judge_grants ≡ true
unfolding Script.plays_from_zero judge_grants
judge_grants_holds = by_trees (λ S. plays_from_zero S judge_grants) refl
