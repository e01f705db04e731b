-- Say what is broken: a row of the table names the numbers that a rule speaks of, and the address that each of them tells if it breaks the
-- rule. A sentence is rows, a class sentences; what a class tells is the lowest of its addresses.
use Rattle.std.specs.Prelude.{ℕ, min, true, false, List, [], ◌∷◌, ◌++◌}
use Rattle.model.specs.Told.{Finding}
use Rattle.model.specs.Told.Finding.{Nothing, Broken}
use Rattle.model.specs.Rule.{Rule, holds}

pub data Row : Type 0 where
  tells : List ℕ → (ℕ → ℕ) → (ℕ → Rule) → Row

-- the address of each that breaks its rule
unfoldable pub broken : (ℕ → ℕ) → (ℕ → Rule) → List ℕ → List ℕ
broken a r [] = []
broken a r (x ∷ xs) = elim (holds (r x)) [ true ↦ broken a r xs | false ↦ a x ∷ broken a r xs ]

-- "offending address", of a sentence and of a class
unfoldable pub offending : List Row → List ℕ
offending [] = []
offending (tells xs a r ∷ t) = broken a r xs ++ offending t

unfoldable pub offending_in : List (List Row) → List ℕ
offending_in [] = []
offending_in (s ∷ ss) = offending s ++ offending_in ss

-- "the lowest": the least of a and the numbers bs
unfoldable pub least : ℕ → List ℕ → ℕ
least a [] = a
least a (b ∷ bs) = least (min a b) bs

-- "The classes are tried in that order": a class is its number and its sentences
pub data Class : Type 0 where
  class : ℕ → List (List Row) → Class

unfoldable pub tell : ℕ → List ℕ → Finding → Finding
tell n [] t = t
tell n (a ∷ bs) t = Broken n (least a bs)

unfoldable pub first : List Class → Finding
first [] = Nothing
first (class n ss ∷ cs) = tell n (offending_in ss) (first cs)
