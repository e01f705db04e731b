-- Fresh start and well-formed memory: a rule is a sentence that a machine can test, and `holds` tests it.
use Rattle.std.specs.Prelude.{ℕ, zero, suc, Bool, true, false, not, List, [], ◌∷◌, leb, eqb}

pub data Rule : Type 0 where
  same most : ℕ → ℕ → Rule
  never : Bool → Rule
  both : Rule → Rule → Rule
  each : List ℕ → (ℕ → Rule) → Rule
  below : ℕ → (ℕ → Rule) → Rule
  when_same unless_same when_most : ℕ → ℕ → Rule → Rule

-- x lies in lo-hi; x is less than y
abbrev pub among : ℕ → ℕ → ℕ → Rule
among x lo hi = both (most lo x) (most x hi)

abbrev pub under : ℕ → ℕ → Rule
under x y = most (suc x) y

-- of each of a list, and of each of 0 .. n - 1
unfoldable pub all : (ℕ → Bool) → List ℕ → Bool
all f [] = true
all f (x ∷ xs) = elim (f x) [ true ↦ all f xs | false ↦ false ]

unfoldable pub every : (ℕ → Bool) → ℕ → Bool
every f zero = true
every f (suc n) = elim (f n) [ true ↦ every f n | false ↦ false ]

unfoldable pub holds : Rule → Bool
holds (same x y) = eqb x y
holds (most x y) = leb x y
holds (never b) = not b
holds (both r s) = elim (holds r) [ true ↦ holds s | false ↦ false ]
holds (each xs f) = all (λ z. holds (f z)) xs
holds (below n f) = every (λ i. holds (f i)) n
holds (when_same x y r) = elim (eqb x y) [ true ↦ holds r | false ↦ true ]
holds (unless_same x y r) = elim (eqb x y) [ true ↦ true | false ↦ holds r ]
holds (when_most x y r) = elim (leb x y) [ true ↦ holds r | false ↦ true ]
