-- Fresh start and well-formed memory: "every control page is used once". Lists of pages, how often a number stands in them, and which cells
-- head them.
use Rattle.std.specs.Prelude.{ℕ, zero, suc, ◌+◌, Bool, true, false, cond, ◌&&◌, List, [], ◌∷◌, ◌++◌, leb, ltb, eqb}
use Rattle.model.specs.Store.{Store}
use Rattle.model.specs.Map.{place, page_size, processor_list, free_list, page_queue, own_queue, q1, q2, grants, grants_end, interrupts, header_after}
use Rattle.model.specs.Map.{control_pages}
use Rattle.model.specs.Address.{at}
use Rattle.model.specs.Queue.{walk}

-- how often z stands in a list
abbrev pub hit : Bool → ℕ
hit true = 1
hit false = 0

abbrev pub count : ℕ → List ℕ → ℕ
count z [] = 0
count z (x ∷ xs) = hit (eqb z x) + count z xs

-- for the address of each cell that heads a list: the pages of that list
abbrev pub Lists : Type 0
Lists = ℕ → List ℕ

-- how often z stands in the lists of the cells hs
abbrev pub sum : ℕ → Lists → List ℕ → ℕ
sum z L [] = 0
sum z L (a ∷ hs) = count z (L a) + sum z L hs

-- f of each
abbrev pub each_of : (ℕ → ℕ) → List ℕ → List ℕ
each_of f [] = []
each_of f (x ∷ xs) = f x ∷ each_of f xs

-- n numbers from a on, by steps of d
unfoldable pub range : ℕ → ℕ → ℕ → List ℕ
range zero d a = []
range (suc n) d a = a ∷ range n d (a + d)

-- the page in a cell; 0 is none
abbrev pub some : ℕ → List ℕ
some zero = []
some (suc n) = suc n ∷ []

-- "The processor list links through word 1, all else through word 0."
unfoldable pub link_of : ℕ → ℕ
link_of a = hit (eqb a processor_list)

-- Q1 and Q2, and the own message wait, of the processors' pages ps
abbrev pub mails : List ℕ → List ℕ
mails [] = []
mails (p ∷ ps) = place p q1 ∷ place p q2 ∷ mails ps

abbrev pub owns : List ℕ → List ℕ
owns [] = []
owns (p ∷ ps) = place p own_queue ∷ owns ps

-- the heads of what uses a page: the processor list, the free list, Q1 and Q2 of each processor, the words of page 10
abbrev pub uses : List ℕ → List ℕ
uses ps = processor_list ∷ free_list ∷ (mails ps ++ range page_size 1 grants)

-- the heads of the wait queues: the page queue, each processor's own message wait, the interrupts
abbrev pub queues : List ℕ → List ℕ
queues ps = page_queue ∷ (owns ps ++ range interrupts 2 (header_after 0))

-- a word of page 10
unfoldable pub is_grant : ℕ → Bool
is_grant a = leb grants a && ltb a grants_end

-- how far the list of a head goes: one page more than there are stands for a list that comes back on itself; a grant is one page
unfoldable pub reach : ℕ → ℕ
reach a = cond (is_grant a) 1 (suc control_pages)

module _ (S : Store) where
  -- the list of each head
  unfoldable pub lists : S.M → Lists
  lists m a = elim (is_grant a) [ true ↦ some (at S m a) | false ↦ walk S (suc control_pages) m (link_of a) a ]
