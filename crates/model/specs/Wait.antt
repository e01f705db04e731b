-- Pages: semaphores and waiting. Sending: "Waking leaves the queue and clears the waiting bit and reason."
-- A wait queue is known by the address s of its semaphore: its header is the next word, for interrupts, for the page queue and for a
-- processor's own message wait alike. So "The free semaphore is the free count less the waiters; an interrupt's is minus its waiters; a
-- processor's own is -1 while it waits for a message, else 0" holds by one step: who joins lowers it, who leaves raises it.
use Rattle.std.specs.Prelude.{ℕ, zero, suc, ◌+◌, Bool, true, false, cond, eqb}
use Rattle.model.specs.Store.{Store}
use Rattle.model.specs.Map.{place, raised, lowered, wait_set, wait_cleared, link, reason, state, own_semaphore, free_semaphore, semaphore_after}
use Rattle.model.specs.Map.{interrupts}
use Rattle.model.specs.Address.{word, store, at, write}
use Rattle.model.specs.Queue.{first, queue, join, leave}

module _ (S : Store) where
  -- page p joins, leaves the wait queue at s
  unfoldable pub enqueue : S.M → ℕ → ℕ → S.M
  enqueue m s p = join S (write S m s (lowered (at S m s))) (s + 1) link p

  unfoldable pub unqueue : S.M → ℕ → ℕ → S.M
  unqueue m s p = leave S (write S m s (raised (at S m s))) (s + 1) link p

  -- page p is put to wait in the queue at s, with w as reason
  unfoldable pub put_to_wait : S.M → ℕ → ℕ → ℕ → S.M
  put_to_wait m s p w = enqueue (store S (store S m p state (wait_set (word S m p state))) p reason w) s p

  -- "Waking leaves the queue and clears the waiting bit and reason."
  unfoldable pub wake : S.M → ℕ → ℕ → S.M
  wake m s p = cleared (unqueue m s p)
    where
      cleared : S.M → S.M
      cleared m = store S (store S m p state (wait_cleared (word S m p state))) p reason 0

  -- whether the queue at s holds page p; the search ends where the queue ends, whatever page 0 holds
  unfoldable pub queued : S.M → ℕ → ℕ → Bool
  queued m s p = eqb (first (eqb p) (queue S m (s + 1))) p

  -- where p waits: in one of the first n interrupt queues, else for a page, else for a message
  unfoldable pub seat : ℕ → S.M → ℕ → ℕ
  seat zero m p = elim (queued m free_semaphore p) [ true ↦ free_semaphore | false ↦ place p own_semaphore ]
  seat (suc n) m p = elim (queued m (semaphore_after n) p) [ true ↦ semaphore_after n | false ↦ seat n m p ]

  -- Deleting: "leave any wait queue (not woken)"
  unfoldable pub leave_wait : S.M → ℕ → S.M
  leave_wait m p = cond (queued m (seat interrupts m p) p) (unqueue m (seat interrupts m p) p) m
