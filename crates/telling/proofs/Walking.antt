-- A law for each way through the walks: a walk ends at the first word that is no control page, and the list of a head is a walk.
use Prim.Native.Nat.{ℕ, zero, suc, ◌+◌, ◌-◌, ◌≤◌, ◌<◌}
use mathlib.Core.Path.{◌≡◌, refl, sym, ap, subst, ◌∙◌}
use mathlib.Core.Bool.{Bool, true, false, cond, true≢false, ◌&&◌}
use mathlib.Core.List.{List, [], ◌∷◌}
use native.Mathlib.Omega.{arith}
use lib.ListN.{length}
use native.Mathlib.Numerals.{sub-one}
use Rattle.model.specs.Map.{place, first_control, last_control}
use Rattle.model.specs.Rule.{most, among, holds}
use Rattle.std.specs.Prelude.{fold, filter}
use lib.Dec.{eqb, leb}
use borrow.Author.Tests.{eq-eqb, ne_eqb, eqb-true, eqb-false, leb-true}
use Rattle.model.specs.Lists as Lists
use Rattle.model.specs.Lists.{link_of, reach, is_grant, count, hit}
use Rattle.model.specs.Walks as Walks
use Rattle.model.specs.Walks.{is_control, last_cell}
use Rattle.model.specs.Bytes.{Memory, at, path, met}
use Rattle.telling.proofs.Parts.{both_and}

-- ---- whether a word is a control page's number
control_is : (x : ℕ) → holds (among x first_control last_control) ≡ is_control x
unfolding holds Walks.is_control
control_is x = both_and (most first_control x) (most x last_control)

-- ---- a walk from the cell at a, which holds w; b says whether w is such a number
module _ (n : ℕ) (m : Memory) (k a : ℕ) where
  pub path_none : n ≡ 0 → path n m k a ≡ []
  unfolding Walks.path
  path_none e = rw e

  module _ (w : ℕ) (b : Bool) (e : w ≡ at m a) (eb : b ≡ holds (among w first_control last_control)) where
    pub path_end : b ≡ false → path n m k a ≡ []
    unfolding Walks.path
    path_end h = go n
      where
        f : is_control (at m a) ≡ false
        f = ap is_control (sym e) ∙ sym (control_is w) ∙ sym eb ∙ h

        go : (n : ℕ) → path n m k a ≡ []
        go zero = refl
        go (suc i) = rw (f, Walks.path)

    pub path_on : (c : ℕ) → (n ≡ 0 → ⊥) → b ≡ true → c ≡ place w k → path n m k a ≡ w ∷ path (n - 1) m k c
    unfolding Walks.path
    path_on c o h ec = go n o
      where
        f : is_control (at m a) ≡ true
        f = ap is_control (sym e) ∙ sym (control_is w) ∙ sym eb ∙ h

        go : (n : ℕ) → (n ≡ 0 → ⊥) → path n m k a ≡ w ∷ path (n - 1) m k c
        go zero o = absurd (o refl)
        go (suc i) o = rw (f, Walks.path, ← e, ← ec, sub-one)

-- a list that has given one has fewer left
pub fewer : {s t : List ℕ} {x : ℕ} → s ≡ x ∷ t → length t < length s
fewer e = rw e (omega arith)

-- ---- the list of a head
pub met_is : (m : Memory) (a k n : ℕ) → k ≡ link_of a → n ≡ reach a → path n m k a ≡ met m a
unfolding Walks.met
met_is m a k n ek en = rw (ek, en)

-- that of a head that holds no control page
pub met_empty : (m : Memory) (a w : ℕ) (b : Bool) → w ≡ at m a → b ≡ holds (among w first_control last_control) → b ≡ false → met m a ≡ []
unfolding Walks.met
met_empty m a w b e eb h = path_end (reach a) m (link_of a) a w b e eb h

-- no list has more than 21
path_short : (n : ℕ) (m : Memory) (k a : ℕ) → length (path n m k a) ≤ n
unfolding Walks.path
path_short zero m k a = omega arith
path_short (suc n) m k a = go (is_control (at m a)) (path_short n m k (place (at m a) k))
  where
    go : (b : Bool) → length {A = ℕ} (path n m k (place (at m a) k)) ≤ n
        → length {A = ℕ} (elim b [ true ↦ at m a ∷ path n m k (place (at m a) k) | false ↦ [] ]) ≤ suc n
    go true ih = omega (arith, ih)
    go false ih = omega arith

reach_short : (a : ℕ) → reach a ≤ 21
unfolding Lists.reach
reach_short a = go (is_grant a)
  where
    go : (b : Bool) → cond b 1 21 ≤ 21
    go true = omega arith
    go false = omega arith

pub met_short : (m : Memory) (a : ℕ) → length {A = ℕ} (met m a) ≤ 21
unfolding Walks.met
met_short m a = omega (arith, path_short (reach a) m (link_of a) a, reach_short a)

-- ---- where a walk ends, and how often a page is met
module _ (k : ℕ) where
  pub fold_cell : (a : ℕ) (xs : List ℕ) → fold (λ _ p. place p k) a xs ≡ last_cell k a xs
  fold_cell a [] = refl
  fold_cell a (x ∷ xs) = fold_cell (place x k) xs

place_low : (x k : ℕ) → is_control x ≡ true → k < 32 → place x k < 8192
unfolding Walks.is_control
place_low x k e lk = omega (arith, leb-true x last_control (and_right (leb first_control x) (leb x last_control) e), lk)
  where
    and_right : (b c : Bool) → (b && c) ≡ true → c ≡ true
    and_right true c e = e
    and_right false c e = absurd (true≢false (sym e))

last_low : (m : Memory) (n k a : ℕ) → k < 32 → a < 8192 → last_cell k a (path n m k a) < 8192
unfolding Walks.path
last_low m zero k a lk la = la
last_low m (suc n) k a lk la = go (is_control (at m a)) refl (λ l. last_low m n k (place (at m a) k) lk l)
  where
    go : (b : Bool) → is_control (at m a) ≡ b
        → (place (at m a) k < 8192 → last_cell k (place (at m a) k) (path n m k (place (at m a) k)) < 8192)
        → last_cell k a (elim b [ true ↦ at m a ∷ path n m k (place (at m a) k) | false ↦ [] ]) < 8192
    go true e ih = ih (place_low (at m a) k e lk)
    go false e ih = la

-- as a fold finds it
pub end_is : (m : Memory) (a k r : ℕ) → k ≡ link_of a → k < 32 → a < 8192 → r ≡ fold (λ _ p. place p k) a (met m a)
    → (r ≡ last_cell (link_of a) a (met m a)) × (r < 8192)
unfolding Walks.met
end_is m a k r ek lk la er =
    let e : r ≡ last_cell (link_of a) a (met m a) = subst (λ (j : ℕ). r ≡ last_cell j a (met m a)) ek (er ∙ fold_cell k a (met m a)) in
    let l : last_cell (link_of a) a (met m a) < 8192 = last_low m (reach a) (link_of a) a (subst (λ (j : ℕ). j < 32) ek lk) la in
    (e, subst (λ (z : ℕ). z < 8192) (sym e) l)

pub filter_count : (z : ℕ) (xs : List ℕ) → length (filter (λ x. eqb x z) xs) ≡ count z xs
filter_count z [] = refl
filter_count z (x ∷ xs) = go (eqb z x) refl (filter_count z xs)
  where
    go : (b : Bool) → eqb z x ≡ b → length (filter (λ x. eqb x z) xs) ≡ count z xs → length (cond (eqb x z) (x ∷ filter (λ x. eqb x z) xs) (filter (λ x. eqb x z) xs)) ≡ hit b + count z xs
    go true e ih = rw (eq-eqb x z (sym (eqb-true z x e))) (omega (arith, ih))
    go false e ih = rw (ne_eqb x z (λ q. eqb-false z x e (sym q))) (omega (arith, ih))
