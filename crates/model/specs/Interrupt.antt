-- Interrupts.
use Rattle.std.specs.Prelude.{ℕ, zero, suc, Bool, true, false, cond, eqb, ltb}
use Rattle.model.specs.Store.{Store}
use Rattle.model.specs.Map.{raised, lowered, link, reason, word_a, semaphore_of, header_of, clock_line, c0, c1, c2, c3, divider, control_pages}
use Rattle.model.specs.Map.{first_classed, last_outer, c0_interrupt, c1_interrupt, c2_interrupt, c3_interrupt, c1_end, c2_end, c3_end}
use Rattle.model.specs.Address.{word, store, at, write}
use Rattle.model.specs.Wait.{wake}

module _ (S : Store) where
  -- "For 48-50 those removed get the class number 0-31 in A."
  unfoldable pub classed : S.M → ℕ → ℕ → ℕ → S.M
  classed m k c p = cond (ltb k first_classed) m (cond (ltb last_outer k) m (store S m p word_a c))

  -- "reason 1 wakes and leaves, else reason falls by one"
  unfoldable pub struck : S.M → ℕ → ℕ → ℕ → S.M
  struck m k c p = cond (eqb (word S m p reason) 1) (classed (wake S m (semaphore_of k) p) k c p) (store S m p reason (lowered (word S m p reason)))

  -- "Each waiter front to back": from page p on; the next is read before p leaves
  unfoldable pub served_from : ℕ → S.M → ℕ → ℕ → ℕ → S.M
  served_from zero m k c p = m
  served_from (suc n) m k c p = elim (eqb p 0) [ true ↦ m | false ↦ served_from n (struck m k c p) k c (word S m p link) ]

  -- interrupt k is served, with class number c
  unfoldable pub serve : S.M → ℕ → ℕ → S.M
  serve m k c = served_from control_pages m k c (at S m (header_of k))

  -- a counter counts; whether it comes to its end e; there "it is 0 and" interrupt k "is served"
  unfoldable pub counts : S.M → ℕ → S.M
  counts m c = write S m c (raised (at S m c))

  unfoldable pub ends : S.M → ℕ → ℕ → Bool
  ends m c e = eqb (raised (at S m c)) e

  unfoldable pub turns : S.M → ℕ → ℕ → S.M
  turns m c k = serve (write S m c 0) k 0

  -- "at 60, 54"
  unfoldable pub c3_counts : S.M → S.M
  c3_counts m = cond (ends m c3 c3_end) (turns m c3 c3_interrupt) (counts m c3)

  -- "at 60, 53 and C3"
  unfoldable pub c2_counts : S.M → S.M
  c2_counts m = cond (ends m c2 c2_end) (c3_counts (turns m c2 c2_interrupt)) (counts m c2)

  -- "at 10, 52 and C2"
  unfoldable pub c1_counts : S.M → S.M
  c1_counts m = cond (ends m c1 c1_end) (c2_counts (turns m c1 c1_interrupt)) (counts m c1)

  -- "then C0 counts; at the divider it is 0 and 51 is served and C1 counts"
  unfoldable pub c0_counts : S.M → S.M
  c0_counts m = cond (ends m c0 (at S m divider)) (c1_counts (turns m c0 c0_interrupt)) (counts m c0)

  -- "An interrupt on the clock line is served, then C0 counts"
  unfoldable pub delivered : S.M → ℕ → ℕ → S.M
  delivered m k c = cond (eqb k (at S m clock_line)) (c0_counts (serve m k c)) (serve m k c)
