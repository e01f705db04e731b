-- Memory map: "A header holds the first page, a link the next, 0 ends." A cell is the address of a word that points to a page, a header or a
-- link alike; a walk along cells has twenty pages left at most.
use Rattle.std.specs.Prelude.{ℕ, zero, suc, Bool, true, false, List, [], ◌∷◌, eqb}
use Rattle.model.specs.Store.{Store}
use Rattle.model.specs.Map.{place, link, list_link, processor_list, control_pages}
use Rattle.model.specs.Address.{word, store, at, write}

-- the first of a list of pages that a test picks; 0: none
unfoldable pub first : (ℕ → Bool) → List ℕ → ℕ
first t [] = 0
first t (x ∷ xs) = elim (t x) [ true ↦ x | false ↦ first t xs ]

module _ (S : Store) where
  -- the pages that hang from the cell at a, along links in word k, at most n
  unfoldable pub walk : ℕ → S.M → ℕ → ℕ → List ℕ
  walk zero m k a = []
  walk (suc n) m k a = elim (eqb (at S m a) 0) [ true ↦ [] | false ↦ at S m a ∷ walk n m k (place (at S m a) k) ]

  -- "The processor list links through word 1, all else through word 0."
  abbrev pub processors : S.M → List ℕ
  processors m = walk control_pages m list_link processor_list

  abbrev pub queue : S.M → ℕ → List ℕ
  queue m h = walk control_pages m link h

  -- from the cell at a, along links in word k, the first cell that holds v: 0 for the end, a page for the cell that points to it
  unfoldable pub cell_of : ℕ → S.M → ℕ → ℕ → ℕ → ℕ
  cell_of zero m k a v = a
  cell_of (suc n) m k a v = elim (eqb (at S m a) v) [ true ↦ a | false ↦ cell_of n m k (place (at S m a) k) v ]

  -- "Joining is at the end, with link 0": page p, in the queue with header h and links in word k
  unfoldable pub join : S.M → ℕ → ℕ → ℕ → S.M
  join m h k p = ends (store S m p k 0)
    where
      ends : S.M → S.M
      ends m = write S m (cell_of control_pages m k h 0) p

  -- "a page that leaves has that link set to 0"
  unfoldable pub leave : S.M → ℕ → ℕ → ℕ → S.M
  leave m h k p = store S (write S m (cell_of control_pages m k h p) (word S m p k)) p k 0
