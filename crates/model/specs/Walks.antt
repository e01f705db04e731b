-- Say what is broken: which pages a walk meets on any memory, and where it ends.
use Rattle.std.specs.Prelude.{ℕ, zero, suc, Bool, true, false, ◌&&◌, List, [], ◌∷◌, ◌++◌, leb}
use Rattle.model.specs.Store.{Store}
use Rattle.model.specs.Map.{place, first_control, last_control}
use Rattle.model.specs.Address.{at}
use Rattle.model.specs.Lists.{Lists, link_of, reach}

-- a number of a control page
unfoldable pub is_control : ℕ → Bool
is_control x = leb first_control x && leb x last_control

module _ (S : Store) where
  -- the control pages that are met from the cell at a on, along links in word k, at most n: a walk ends at the first word that is none
  unfoldable pub path : ℕ → S.M → ℕ → ℕ → List ℕ
  path zero m k a = []
  path (suc n) m k a = elim (is_control (at S m a)) [ true ↦ at S m a ∷ path n m k (place (at S m a) k) | false ↦ [] ]

  -- the list of each head; a word of page 10 is a walk of one page
  unfoldable pub met : S.M → Lists
  met m a = path (reach a) m (link_of a) a

-- the cell where the walk ended that met the pages xs
abbrev pub last_cell : ℕ → ℕ → List ℕ → ℕ
last_cell k a [] = a
last_cell k a (x ∷ xs) = last_cell k (place x k) xs

-- all the pages of the lists of the cells hs
abbrev pub gather : Lists → List ℕ → List ℕ
gather L [] = []
gather L (a ∷ hs) = L a ++ gather L hs
