-- The parts of a rule: what each says of the tests that the code makes.
use Prim.Native.Nat.{ℕ, ◌≤◌, ◌<◌}
use mathlib.Core.Path.{◌≡◌, refl, sym, ◌∙◌}
use mathlib.Core.Bool.{Bool, true, false, ◌&&◌}
use lib.Dec.{eqb, leb}
use borrow.Author.Tests.{eq-eqb, ne_eqb, le-leb, lt-leb}
use Rattle.model.specs.Rule.{Rule, same, most, both, when_same, unless_same, when_most, holds}

pub both_and : (r s : Rule) → holds (both r s) ≡ (holds r && holds s)
unfolding holds
both_and r s = go (holds r) (holds s)
  where
    go : (b c : Bool) → elim b [ true ↦ c | false ↦ false ] ≡ (b && c)
    go true c = refl
    go false c = refl

pub both_is : (r s : Rule) (a b c : Bool) → c ≡ (a && b) → a ≡ holds r → b ≡ holds s → c ≡ holds (both r s)
both_is r s a b c e ea eb = rw (both_and r s, ← ea, ← eb) e

module _ (r s : Rule) where
  pub both_yes : (c : Bool) → true ≡ holds r → c ≡ holds s → c ≡ holds (both r s)
  both_yes c h k = both_is r s true c c refl h k

  pub both_no : false ≡ holds r → false ≡ holds (both r s)
  both_no h = both_is r s false (holds s) false refl h refl

  pub both_first : (b : Bool) → b ≡ holds r → true ≡ holds s → b ≡ holds (both r s)
  both_first true h k = both_is r s true true true refl h k
  both_first false h k = both_no h

module _ (x y : ℕ) where
  pub same_is : eqb x y ≡ holds (same x y)
  unfolding holds
  same_is = refl

  pub most_is : leb x y ≡ holds (most x y)
  unfolding holds
  most_is = refl

  pub same_yes : x ≡ y → true ≡ holds (same x y)
  same_yes e = sym (eq-eqb x y e) ∙ same_is

  pub same_no : (x ≡ y → ⊥) → false ≡ holds (same x y)
  same_no n = sym (ne_eqb x y n) ∙ same_is

  pub most_yes : x ≤ y → true ≡ holds (most x y)
  most_yes h = sym (le-leb x y h) ∙ most_is

  pub most_no : y < x → false ≡ holds (most x y)
  most_no h = sym (lt-leb x y h) ∙ most_is

  module _ (r : Rule) where
    pub when_yes : (c : Bool) → x ≡ y → c ≡ holds r → c ≡ holds (when_same x y r)
    unfolding holds
    when_yes c h k = rw (eq-eqb x y h, holds) k

    pub when_no : (x ≡ y → ⊥) → true ≡ holds (when_same x y r)
    unfolding holds
    when_no h = rw (ne_eqb x y h, holds)

    pub unless_yes : x ≡ y → true ≡ holds (unless_same x y r)
    unfolding holds
    unless_yes h = rw (eq-eqb x y h, holds)

    pub unless_no : (c : Bool) → (x ≡ y → ⊥) → c ≡ holds r → c ≡ holds (unless_same x y r)
    unfolding holds
    unless_no c h k = rw (ne_eqb x y h, holds) k

    pub least_yes : (c : Bool) → x ≤ y → c ≡ holds r → c ≡ holds (when_most x y r)
    unfolding holds
    least_yes c h k = rw (le-leb x y h, holds) k

    pub least_no : y < x → true ≡ holds (when_most x y r)
    unfolding holds
    least_no h = rw (lt-leb x y h, holds)
