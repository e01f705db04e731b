-- Deleting, with document 02's 3/13, notices to a namesake: "Now deleting a processor marks every message it sent that is still unread".
-- Every message leaves its queue before it is returned, and the deleted one has left the processor list before: so no page is granted to it.
-- Its own mail to itself is marked first, and then given back.
use Rattle.std.specs.Prelude.{ℕ, zero, suc, Bool, true, false, cond, eqb}
use Rattle.model.specs.Store.{Store}
use Rattle.model.specs.Map.{place, link, list_link, q1, q2, size, mark_added, grant_for, processor_list, control_pages}
use Rattle.model.specs.Address.{word, store, at, write, unless}
use Rattle.model.specs.Queue.{leave}
use Rattle.model.specs.Processor.{name, page_of}
use Rattle.model.specs.Wait.{leave_wait}
use Rattle.model.specs.Page.{give_back}
use Rattle.model.specs.Mail.{sender, flag, unmarked, deliver, make_notice}

module _ (S : Store) where
  -- "leave any wait queue (not woken); leave the processor list"
  unfoldable pub unlisted : S.M → ℕ → S.M
  unlisted m p = leave S (leave_wait S m p) processor_list list_link p

  -- "Unmarked mail under its name counts as sent by it; marked mail isn't marked again"; "notices aren't marked": message q, the name n
  unfoldable pub sent_by : S.M → ℕ → ℕ → Bool
  sent_by m n q = cond (unmarked S m q) (eqb (sender S m q) n) false

  -- "by 64 added in word 2"
  unfoldable pub marked : S.M → ℕ → ℕ → S.M
  marked m n q = cond (sent_by m n q) (store S m q size (mark_added (word S m q size))) m

  -- every message that hangs from the cell at a
  unfoldable pub marked_from : ℕ → S.M → ℕ → ℕ → S.M
  marked_from zero m n a = m
  marked_from (suc i) m n a = elim (eqb (at S m a) 0) [ true ↦ m | false ↦ marked_from i (marked m n (at S m a)) n (place (at S m a) link) ]

  -- "still unread": in Q1 or Q2, of the processor of page p
  unfoldable pub mail_marked : S.M → ℕ → ℕ → S.M
  mail_marked m n p = marked_from control_pages (marked_from control_pages m n (place p q1)) n (place p q2)

  -- of every processor that hangs from the cell at a
  unfoldable pub all_marked : ℕ → S.M → ℕ → ℕ → S.M
  all_marked zero m n a = m
  all_marked (suc i) m n a = elim (eqb (at S m a) 0) [ true ↦ m | false ↦ all_marked i (mail_marked m n (at S m a)) n (place (at S m a) list_link) ]

  -- "The marking follows leaving the processor list, its own queues included.": the name n, of page p
  unfoldable pub sent_marked : S.M → ℕ → ℕ → S.M
  sent_marked m n p = mail_marked (all_marked control_pages m n processor_list) n p

  -- "a message whose sender's name exists becomes a notice from NI to it with its flag": message q, NI n, the sender on page p
  unfoldable pub noticed : S.M → ℕ → ℕ → ℕ → S.M
  noticed m n q p = deliver S (make_notice S m q n (flag S m q)) p q

  -- "all others and all notices are given back"; "marked mail is given back and makes no notice"
  unfoldable pub returned : S.M → ℕ → ℕ → S.M
  returned m n q =
      unless (unmarked S m q) (give_back S m q)
      (cond (eqb (page_of S m (sender S m q)) 0) (give_back S m q)
      (noticed m n q (page_of S m (sender S m q))))

  -- "from the front": every message of the queue with header h
  unfoldable pub emptied : ℕ → S.M → ℕ → ℕ → S.M
  emptied zero m n h = m
  emptied (suc i) m n h = elim (eqb (at S m h) 0) [ true ↦ m | false ↦ emptied i (returned (leave S m h link (at S m h)) n (at S m h)) n h ]

  -- "Q2 then Q1"
  unfoldable pub mail_returned : S.M → ℕ → ℕ → S.M
  mail_returned m n p = emptied control_pages (emptied control_pages m n (place p q2)) n (place p q1)

  -- "then the grant"
  unfoldable pub grant_returned : S.M → ℕ → S.M
  grant_returned m n = cond (eqb (at S m (grant_for n)) 0) m (give_back S (write S m (grant_for n) 0) (at S m (grant_for n)))

  -- the mail that it sent is marked, and the mail that it has returned
  unfoldable pub mail_settled : S.M → ℕ → ℕ → S.M
  mail_settled m n p = mail_returned (sent_marked m n p) n p

  -- "In order: ..; then its own page."
  unfoldable pub delete : S.M → ℕ → S.M
  delete m p = give_back S (grant_returned (mail_settled (unlisted m p) (name S m p) p) (name S m p)) p
