-- The lowest address: of one, of lists, of the rows of a sentence and of the sentences of a class.
use Prim.Native.Nat.{ℕ, min}
use mathlib.Core.Path.{◌≡◌, refl, sym, ap, ◌∙◌}
use mathlib.Core.Bool.{Bool, true, false, cond}
use mathlib.Core.List.{List, [], ◌∷◌, ◌++◌, append-nil}
use native.Mathlib.Omega.{arith}
use Rattle.std.specs.Prelude.{Option, Some, None, fold, option_to_list}
use Rattle.model.specs.Rule.{Rule, holds}
use Rattle.model.specs.Tell.{Row, broken, offending, offending_in}
use Rattle.model.specs.Tell.Row.{tells}
use Rattle.telling.specs.Rows.{lowest, lowest_by}

-- the lower of two, where there are any
abbrev pub lower : Option ℕ → Option ℕ → Option ℕ
lower None b = b
lower (Some x) None = Some x
lower (Some x) (Some y) = Some (min x y)

min_min : (x y z : ℕ) → min x (min y z) ≡ min (min x y) z
min_min x y z = omega arith

fold_min : (x y : ℕ) (ys : List ℕ) → min x (fold min y ys) ≡ fold min (min x y) ys
fold_min x y [] = refl
fold_min x y (z ∷ zs) = fold_min x (min y z) zs ∙ ap (λ (w : ℕ). fold min w zs) (min_min x y z)

lower_fold : (x : ℕ) (ys : List ℕ) → lower (Some x) (lowest ys) ≡ Some (fold min x ys)
lower_fold x [] = refl
lower_fold x (y ∷ ys) = ap Some (fold_min x y ys)

lower_more : (x : ℕ) (o : Option ℕ) (ys : List ℕ) → o ≡ lowest ys → lower (Some x) o ≡ Some (fold min x ys)
lower_more x o ys e = ap (lower (Some x)) e ∙ lower_fold x ys

fold_app : (x : ℕ) (xs ys : List ℕ) → Some (fold min x (xs ++ ys)) ≡ lower (Some (fold min x xs)) (lowest ys)
fold_app x [] ys = sym (lower_fold x ys)
fold_app x (y ∷ xs) ys = fold_app (min x y) xs ys

pub lowest_app : (xs ys : List ℕ) → lowest (xs ++ ys) ≡ lower (lowest xs) (lowest ys)
lowest_app [] ys = refl
lowest_app (x ∷ xs) ys = fold_app x xs ys

-- what was told stands for those of which it is the lowest
lowest_one : (o : Option ℕ) → lowest (option_to_list o) ≡ o
lowest_one None = refl
lowest_one (Some x) = refl

pub lowest_more : (o : Option ℕ) (xs ys zs : List ℕ) → o ≡ lowest xs → lowest ys ≡ lowest zs → lowest (option_to_list o ++ ys) ≡ lowest (xs ++ zs)
lowest_more o xs ys zs e f =
    lowest_app (option_to_list o) ys
    ∙ ap (λ (p : Option ℕ). lower p (lowest ys)) (lowest_one o ∙ e)
    ∙ ap (lower (lowest xs)) f
    ∙ sym (lowest_app xs zs)

module _ (a : ℕ → ℕ) (r : ℕ → Rule) where
  -- the address told of x
  abbrev pub row : ℕ → Option ℕ
  row x = cond (holds (r x)) None (Some (a x))

  pub broken_app : (xs ys : List ℕ) → broken a r (xs ++ ys) ≡ broken a r xs ++ broken a r ys
  unfolding broken
  broken_app [] ys = refl
  broken_app (x ∷ xs) ys = go (holds (r x)) (broken_app xs ys)
    where
      go : (b : Bool) → broken a r (xs ++ ys) ≡ broken a r xs ++ broken a r ys
          → elim b [ true ↦ broken a r (xs ++ ys) | false ↦ a x ∷ broken a r (xs ++ ys) ]
          ≡ elim b [ true ↦ broken a r xs | false ↦ a x ∷ broken a r xs ] ++ broken a r ys
      go true ih = ih
      go false ih = ap (λ (l : List ℕ). a x ∷ l) ih

  -- ---- one: whether the rule holds, and the address
  pub one_told : (x c : ℕ) (b : Bool) (o : Option ℕ) → o ≡ cond b None (Some c) → b ≡ holds (r x) → c ≡ a x → o ≡ lowest_by a r (x ∷ [])
  unfolding broken
  one_told x c b o eo eb ec = eo ∙ go b eb
    where
      go : (b : Bool) → b ≡ holds (r x) → cond b None (Some c) ≡ lowest_by a r (x ∷ [])
      go true e = rw (← e, broken)
      go false e = rw (← e, broken, ← ec)

  pub row_is : (x c : ℕ) (b : Bool) (o : Option ℕ) → o ≡ cond b None (Some c) → b ≡ holds (r x) → c ≡ a x → o ≡ row x
  row_is x c b o eo eb ec = rw (← eb, ← ec) eo

  -- ---- a row in parts, told in ys: its first one and the others, those of one list and the others, the last ones
  module _ (o : Option ℕ) (xs : List ℕ) where
    pub told_first : (x : ℕ) (ys : List ℕ) → o ≡ lowest_by a r (x ∷ []) → lowest ys ≡ lowest_by a r xs → lowest (option_to_list o ++ ys) ≡ lowest_by a r (x ∷ xs)
    told_first x ys eo es = lowest_more o (broken a r (x ∷ [])) ys (broken a r xs) eo es ∙ ap lowest (sym (broken_app (x ∷ []) xs))

    pub told_then : (ys zs : List ℕ) → o ≡ lowest_by a r xs → lowest ys ≡ lowest_by a r zs → lowest (option_to_list o ++ ys) ≡ lowest_by a r (xs ++ zs)
    told_then ys zs eo es = lowest_more o (broken a r xs) ys (broken a r zs) eo es ∙ ap lowest (sym (broken_app xs zs))

    pub told_last : o ≡ lowest_by a r xs → lowest (option_to_list o ++ []) ≡ lowest_by a r xs
    told_last e = lowest_more o (broken a r xs) [] [] e refl ∙ ap lowest (append-nil (broken a r xs))

-- ---- the rows of a sentence, the sentences of a class, told in ys
module _ (o : Option ℕ) where
  module _ (xs : List ℕ) (a : ℕ → ℕ) (r : ℕ → Rule) (e : o ≡ lowest_by a r xs) where
    pub row_only : o ≡ lowest (offending (tells xs a r ∷ []))
    unfolding offending
    row_only = e ∙ ap lowest (sym (append-nil (broken a r xs)))

    pub rows_next : (ys : List ℕ) (t : List Row) → lowest ys ≡ lowest (offending t) → lowest (option_to_list o ++ ys) ≡ lowest (offending (tells xs a r ∷ t))
    unfolding offending
    rows_next ys t et = lowest_more o (broken a r xs) ys (offending t) e et

  pub sentences_next : (ys : List ℕ) (s : List Row) (ss : List (List Row)) → o ≡ lowest (offending s) → lowest ys ≡ lowest (offending_in ss)
      → lowest (option_to_list o ++ ys) ≡ lowest (offending_in (s ∷ ss))
  unfolding offending_in
  sentences_next ys s ss eo es = lowest_more o (offending s) ys (offending_in ss) eo es

pub rows_none : lowest [] ≡ lowest (offending [])
unfolding offending
rows_none = refl

pub sentences_none : lowest [] ≡ lowest (offending_in [])
unfolding offending_in
sentences_none = refl

pub all_is : (o : Option ℕ) (ys zs : List ℕ) → o ≡ lowest ys → lowest ys ≡ lowest zs → o ≡ lowest zs
all_is o ys zs e f = e ∙ f

pub ruleset rows = (one_told, row_only, rows_none, rows_next, all_is)

pub ruleset sentences = (sentences_none, sentences_next, all_is)

pub ruleset heads = (told_first, told_then, told_last, all_is)
