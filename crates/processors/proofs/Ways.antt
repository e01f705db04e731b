-- How a choice of the model is answered: by what the code found. o is what came of it, x and y are what the model chooses between.
use Prim.Native.Nat.{ℕ, ◌≤◌, ◌<◌}
use mathlib.Core.Path.{◌≡◌}
use mathlib.Core.Bool.{Bool, true, false, cond}
use lib.Dec.{eqb, ltb, leb}
use borrow.Author.Tests.{eq-eqb, ne_eqb, lt-ltb, le-ltb, le-leb, lt-leb}

module _ {A : Type 0} (o x y : A) where
  -- two numbers are compared
  module _ (k l : ℕ) where
    pub if_equal : k ≡ l → o ≡ x → o ≡ cond (eqb k l) x y
    if_equal h e = rw (eq-eqb k l h) e

    pub if_other : (k ≡ l → ⊥) → o ≡ y → o ≡ cond (eqb k l) x y
    if_other h e = rw (ne_eqb k l h) e

    pub if_below : k < l → o ≡ x → o ≡ cond (ltb k l) x y
    if_below h e = rw (lt-ltb k l h) e

    pub if_from : l ≤ k → o ≡ y → o ≡ cond (ltb k l) x y
    if_from h e = rw (le-ltb k l h) e

  -- the number k was found as v
  module _ (v k l : ℕ) (ev : v ≡ k) where
    pub found_equal : v ≡ l → o ≡ x → o ≡ cond (eqb k l) x y
    found_equal h e = rw (← ev, eq-eqb v l h) e

    pub found_other : (v ≡ l → ⊥) → o ≡ y → o ≡ cond (eqb k l) x y
    found_other h e = rw (← ev, ne_eqb v l h) e

    pub found_least : l ≤ v → o ≡ x → o ≡ cond (leb l k) x y
    found_least h e = rw (← ev, le-leb l v h) e

    pub found_less : v < l → o ≡ y → o ≡ cond (leb l k) x y
    found_less h e = rw (← ev, lt-leb l v h) e

    pub found_below : v < l → o ≡ x → o ≡ cond (ltb k l) x y
    found_below h e = rw (← ev, lt-ltb v l h) e

    pub found_from : l ≤ v → o ≡ y → o ≡ cond (ltb k l) x y
    found_from h e = rw (← ev, le-ltb v l h) e

  -- the test t was found to be b
  module _ (b t : Bool) (eb : b ≡ t) where
    pub found_true : b ≡ true → o ≡ x → o ≡ cond t x y
    found_true h e = rw (← eb, h) e

    pub found_false : b ≡ false → o ≡ y → o ≡ cond t x y
    found_false h e = rw (← eb, h) e

pub ruleset ways = (
  if_equal,
  if_other,
  if_below,
  if_from,
  found_equal,
  found_other,
  found_least,
  found_less,
  found_below,
  found_from,
  found_true,
  found_false,
)
