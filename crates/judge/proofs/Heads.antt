-- The list of an empty head. Places are as the code reckons them.
use Prim.Native.Nat.{ℕ, zero, suc, ◌<◌}
use mathlib.Core.Path.{◌≡◌, refl, sym, ◌∙◌}
use mathlib.Core.Bool.{Bool, true, false, cond}
use mathlib.Core.List.{[]}
use native.Mathlib.Omega.{arith}
use lib.ListN.{length}
use lib.Dec.{eqb}
use borrow.Author.Tests.{ne_eqb}
use Rattle.model.specs.Map.{place}
use Rattle.model.specs.Rule.{same, holds}
use Rattle.model.specs.Lists as Lists
use Rattle.model.specs.Lists.{is_grant, link_of, reach}
use Rattle.model.specs.Bytes.{Memory, at, lists}
use Rattle.queues.proofs.Laws.{walk_end, walk_on}
use Rattle.lists.proofs.Folds.{lists_is}

reach_some : (a : ℕ) → 0 < reach a
unfolding Lists.reach
reach_some a = go (is_grant a)
  where
    go : (b : Bool) → 0 < cond b 1 21
    go true = omega arith
    go false = omega arith

module _ (m : Memory) (a w : ℕ) (ew : w ≡ at m a) where
  pub head_none : w ≡ 0 → lists m a ≡ []
  head_none z = lists_is m a ∙ walk_end (reach a) m (link_of a) a w ew z

  pub head_some : (w ≡ 0 → ⊥) → length (lists m a) ≡ 0 → ⊥
  head_some n e =
      let q = lists_is m a ∙ walk_on (reach a) m (link_of a) a w (place w (link_of a)) (λ z. omega (arith, reach_some a, z)) ew n refl in
      let h = rw q at e in
      omega (arith, h)

-- whether it is empty, by its word
pub empty_is : (m : Memory) (a : ℕ) (b : Bool) → b ≡ holds (same (at m a) 0) → b ≡ holds (same (length (lists m a)) 0)
unfolding holds
empty_is m a b e = e ∙ go (at m a) refl
  where
    go : (w : ℕ) → w ≡ at m a → eqb w 0 ≡ eqb (length (lists m a)) 0
    go zero ew = rw (head_none m a 0 ew refl)
    go (suc n) ew =
        let none : suc n ≡ 0 → ⊥ = λ z. omega (arith, z) in
        ne_eqb (suc n) 0 none ∙ sym (ne_eqb (length (lists m a)) 0 (head_some m a (suc n) ew none))
