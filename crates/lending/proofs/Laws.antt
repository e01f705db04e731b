-- Laws of the list that `burst` lends, a law for each way through the code.
use Rattle.std.proofs.Common.{◌≡◌, refl, sym, ap, ◌∙◌, ℕ, zero, suc, ◌+◌, ◌≤◌, ◌<◌, arith, add-one}
use Rattle.std.proofs.Common.{List, [], ◌∷◌, length, get_or, set, take, get_or-take, length-take-le}
use Rattle.lending.specs.Lists.{in_byte, gathered}

-- one more: the n-th goes in behind those in front of it
set_more : (n : ℕ) (v l : List ℕ) → n < length v → n < length l → set (gathered n v l) n (in_byte (get_or v n 0)) ≡ gathered (suc n) v l
unfolding gathered
set_more n [] l a b = absurd (omega arith)
set_more n (x ∷ v) [] a b = absurd (omega arith)
set_more zero (x ∷ v) (y ∷ l) a b = refl
set_more (suc n) (x ∷ v) (y ∷ l) a b = ap (λ r. in_byte x ∷ r) (set_more n v l (omega arith) (omega arith))

module _ (v l l₁ : List ℕ) where
  pub gathered_none : l ≡ gathered 0 v l
  unfolding gathered
  gathered_none = refl

  pub gathered_more : (n k x : ℕ) → l₁ ≡ gathered n v l → n < length (take k v) → k ≤ length v → k ≤ length l → x ≡ in_byte (get_or (take k v) n 0)
      → set l₁ n x ≡ gathered (n + 1) v l
  gathered_more n k x i o a b ex =
      let long = length-take-le k v a in
      rw (i, ex, get_or-take k v n 0 (omega arith)) (set_more n v l (omega arith) (omega arith) ∙ ap (λ j. gathered j v l) (sym (add-one n)))

pub ruleset lists = (gathered_none, gathered_more)
