-- Pages: "SME and CRP use the page granted to them, else the first free one"; "A page given back goes to the first waiter".
use Rattle.std.specs.Prelude.{ℕ, cond, eqb}
use Rattle.model.specs.Store.{Store}
use Rattle.model.specs.Map.{raised, lowered, link, grant_for, free_list, free_semaphore, page_queue}
use Rattle.model.specs.Address.{at, write}
use Rattle.model.specs.Queue.{join, leave}
use Rattle.model.specs.Processor.{name}
use Rattle.model.specs.Wait.{wake}

-- a page taken, 0 for none, and the memory without it
pub data Taken (M : Type 0) : Type 0 where
  took : ℕ → M → Taken M

module _ (S : Store) where
  -- where the grant of the processor of page p stands
  abbrev pub grant_of : S.M → ℕ → ℕ
  grant_of m p = grant_for (name S m p)

  -- "the first free one"
  unfoldable pub take_free : S.M → ℕ → S.M
  take_free m q = leave S (write S m free_semaphore (lowered (at S m free_semaphore))) free_list link q

  unfoldable pub first_free : S.M → Taken S.M
  first_free m = cond (eqb (at S m free_list) 0) (took 0 m) (took (at S m free_list) (take_free m (at S m free_list)))

  -- "SME and CRP use the page granted to them, else the first free one": the processor of page p
  unfoldable pub take_page : S.M → ℕ → Taken S.M
  take_page m p = cond (eqb (at S m (grant_of m p)) 0) (first_free m) (took (at S m (grant_of m p)) (write S m (grant_of m p) 0))

  -- "with no waiter, to the end of the free list"
  unfoldable pub free_page : S.M → ℕ → S.M
  free_page m q = join S (write S m free_semaphore (raised (at S m free_semaphore))) free_list link q

  -- "to the first waiter as its grant and wakes it": the waiter of page p
  unfoldable pub grant_page : S.M → ℕ → ℕ → S.M
  grant_page m p q = wake S (write S m (grant_of m p) q) free_semaphore p

  -- "A page given back goes to the first waiter as its grant and wakes it; with no waiter, to the end of the free list."
  unfoldable pub give_back : S.M → ℕ → S.M
  give_back m q = cond (eqb (at S m page_queue) 0) (free_page m q) (grant_page m (at S m page_queue) q)
