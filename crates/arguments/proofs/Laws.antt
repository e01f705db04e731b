-- Whether so many argument words lie within their fields, tested from the first on, or as the definition goes, from the last.
use Prim.Native.Nat.{ℕ, zero, suc, ◌+◌, ◌≤◌, ◌<◌}
use mathlib.Core.Path.{◌≡◌, refl, ap, ◌∙◌}
use mathlib.Core.Bool.{Bool, true, false}
use mathlib.Core.List.{List, [], ◌∷◌, ◌++◌}
use lib.Dec.{leb}
use lib.ListN.{get_or}
use native.Mathlib.Omega.{arith}
use Rattle.std.specs.List.{list_all, range_with_len}
use Rattle.std.specs.Prelude.{◌&&◌}
use Rattle.std.proofs.lemmas.List.Folds.{list_all-append}
use Rattle.model.specs.Instruction as Instruction
use Rattle.model.specs.Instruction.{limit_for}
use Rattle.model.specs.Bytes.{Memory, argument, within}

-- the first n + 1 numbers from a on are the first n and a + n
more_numbers : (a n b : ℕ) → b ≡ a + n → range_with_len a (suc n) ≡ range_with_len a n ++ b ∷ []
more_numbers a zero b e = let s : b ≡ a = omega arith in rw s
more_numbers a (suc n) b e = ap (λ xs. a ∷ xs) (more_numbers (a + 1) n b (omega arith))

both_ways : (b c : Bool) → (c && (b && true)) ≡ elim b [ true ↦ c | false ↦ false ]
both_ways true true = refl
both_ways true false = refl
both_ways false true = refl
both_ways false false = refl

module _ (m : Memory) (e s : ℕ) (limits : List ℕ) (h : (i : ℕ) → i < 5 → get_or limits i 0 ≡ limit_for s i) where
  abbrev pub fits : ℕ → Bool
  fits i = leb (argument m e i) (get_or limits i 0)

  pub fits_all : (n : ℕ) → n ≤ 5 → list_all fits (range_with_len 0 n) ≡ within n m e s
  unfolding Instruction.within
  fits_all zero l = refl
  fits_all (suc n) l =
      ap (list_all fits) (more_numbers 0 n n (omega arith))
      ∙ list_all-append fits (range_with_len 0 n) (n ∷ [])
      ∙ both_ways (fits n) (list_all fits (range_with_len 0 n))
      ∙ ap (λ c. elim (fits n) [ true ↦ c | false ↦ false ]) (fits_all n (omega arith))
      ∙ ap (λ k. elim (leb (argument m e n) k) [ true ↦ within n m e s | false ↦ false ]) (h n (omega arith))
