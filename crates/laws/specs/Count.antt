-- How often a number stands in a list: what "used once" is counted with. Assumes nothing.
use Rattle.std.specs.Prelude.{◌≡◌, refl, ◌≢◌, ◌⊎◌, Bool, true, false, List, [], ◌∷◌, ◌++◌, ℕ, zero, suc, ◌+◌, ◌≤◌, eqb}
use Rattle.std.proofs.Common.{sym, ap, inl, inr, arith, eqb-true, eq-eqb, ne_eqb}
use Rattle.std.proofs.lemmas.Bool.{eqb-false}
use Rattle.model.specs.Lists.{hit, count, each_of}

pub hit_le : (b : Bool) → hit b ≤ 1
hit_le true = omega arith
hit_le false = omega arith

pub hit_self : (x : ℕ) → hit (eqb x x) ≡ 1
hit_self x = rw (eq-eqb x x refl)

pub hit_other : (z x : ℕ) → z ≢ x → hit (eqb z x) ≡ 0
hit_other z x h = rw (ne_eqb z x h)

-- a number that stands in the list and one that does not are two
pub hit_or : (z x : ℕ) → (z ≡ x) ⊎ (z ≢ x)
hit_or z x = go (eqb z x) refl
  where
    go : (b : Bool) → eqb z x ≡ b → (z ≡ x) ⊎ (z ≢ x)
    go true e = inl (eqb-true z x e)
    go false e = inr (eqb-false z x e)

pub count_append : (z : ℕ) (xs ys : List ℕ) → count z (xs ++ ys) ≡ count z xs + count z ys
count_append z [] ys = omega arith
count_append z (x ∷ xs) ys = omega (arith, count_append z xs ys)

pub count_ne : (z x : ℕ) (xs : List ℕ) → count x xs ≡ 0 → 1 ≤ count z xs → z ≢ x
count_ne z x xs n h e = omega (arith, ap (λ (y : ℕ). count y xs) e)

pub one_hit : (z x : ℕ) → z ≡ x → hit (eqb z x) ≡ 1
one_hit z x e = rw (eq-eqb z x e)

pub zero_or : (n : ℕ) → (n ≡ 0) ⊎ (1 ≤ n)
zero_or zero = inl refl
zero_or (suc n) = inr (omega arith)

pub count_mid : (x : ℕ) (xs ys : List ℕ) → 1 ≤ count x (xs ++ x ∷ ys)
count_mid x xs ys = omega (arith, count_append x xs (x ∷ ys), hit_self x)

-- one who has the name
pub record Bearer (f : ℕ → ℕ) (ps : List ℕ) (k : ℕ) : Type 0 where
  pub who : ℕ
  pub here : 1 ≤ count who ps
  pub is : f who ≡ k

pub bearer_of : (f : ℕ → ℕ) (ps : List ℕ) (k : ℕ) → 1 ≤ count k (each_of f ps) → Bearer f ps k
bearer_of f [] k h = absurd (omega arith)
bearer_of f (p ∷ ps) k h = go (hit_or k (f p)) (bearer_of f ps k)
  where
    go : (k ≡ f p) ⊎ (k ≢ f p) → (1 ≤ count k (each_of f ps) → Bearer f ps k) → Bearer f (p ∷ ps) k
    go (inl e) ih = record { who = p; here = omega (arith, hit_self p); is = sym e }
    go (inr n) ih =
        let t = ih (omega (arith, hit_other k (f p) n)) in
        record { who = t.who; here = omega (arith, t.here); is = t.is }
