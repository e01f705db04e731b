-- The classes in their order. And where the judge accepts, nothing is told.
use Prim.Native.Nat.{ℕ, min, ◌≤◌}
use mathlib.Core.Path.{◌≡◌, refl, sym, ap, ◌∙◌}
use Rattle.std.specs.Prelude.{Option, Some, None, fold, is_some, unwrap_or}
use mathlib.Core.Bool.{Bool, true, true≢false}
use mathlib.Core.Logic.{◌⊎◌, inl, inr}
use mathlib.Core.List.{List, [], ◌∷◌}
use native.Mathlib.Omega.{arith}
use lib.ListN.{length}
use Rattle.model.specs.Told.{Finding}
use Rattle.model.specs.Told.Finding.{Nothing, Broken}
use Rattle.model.specs.Map.{memory_size, control_pages, first_control, processor_list}
use Rattle.model.specs.Store.{bytes}
use Rattle.model.specs.Lists.{count, sum}
use Rattle.model.specs.Tell.{Row, Class, least, offending_in, tell, first}
use Rattle.model.specs.Tell.Class.{class}
use Rattle.model.specs.Classes as Classes
use Rattle.model.specs.Classes.{controls, used}
use Rattle.model.specs.Bytes.{Memory, judged, told_of, met}
use Rattle.laws.specs.Chain.{Page}
use Rattle.laws.specs.Heads.{one, page_or, range1_at}
use Rattle.laws.specs.Met.{met_pages, none_else}
use Rattle.laws.specs.Tells.{clear_means_in}
use Rattle.laws.specs.Exactly.{judged_nothing}
use Rattle.telling.specs.Rows.{here, lowest}
use Rattle.telling.specs.Met as Met
use Rattle.telling.specs.Met.{Single}

fold_least : (a : ℕ) (bs : List ℕ) → fold min a bs ≡ least a bs
unfolding least
fold_least a [] = refl
fold_least a (b ∷ bs) = fold_least (min a b) bs

-- the lowest of none and of some
some_not : {x : ℕ} → Some x ≡ None → ⊥
some_not e = true≢false (ap is_some e)

nothing : (l : List ℕ) → None ≡ lowest l → l ≡ []
nothing [] e = refl
nothing (b ∷ bs) e = absurd (some_not (sym e))

module _ (n : ℕ) (ss : List (List Row)) (cs : List Class) (o : Option ℕ) (e : o ≡ lowest (offending_in ss)) where
  pub class_tells : (a : ℕ) → o ≡ Some a → Broken n a ≡ first (class n ss ∷ cs)
  unfolding first tell
  class_tells a h = go (offending_in ss) (sym h ∙ e)
    where
      go : (l : List ℕ) → Some a ≡ lowest l → Broken n a ≡ tell n l (first cs)
      go [] f = absurd (some_not f)
      go (b ∷ bs) f = ap (Broken n) (ap (λ (p : Option ℕ). unwrap_or p a) f ∙ fold_least b bs)

  pub class_clear : (t : Finding) → o ≡ None → t ≡ first cs → t ≡ first (class n ss ∷ cs)
  unfolding first tell
  class_clear t h k = rw (nothing (offending_in ss) (sym h ∙ e)) k

pub all_clear : Nothing ≡ first []
unfolding first
all_clear = refl

module _ (m : Memory) where
  -- where 30 tells nothing, no page is twice on the processor list
  pub pages_single : (o : Option ℕ) → o ≡ lowest (offending_in (here (Classes.of_pages bytes) m)) → o ≡ None → Single m
  unfolding Classes.of_pages Classes.used_once Classes.once Met.Single
  pages_single o e h z =
      let c = clear_means_in _ (nothing (offending_in (here (Classes.of_pages bytes) m)) (sym h ∙ e)) in
      go (page_or z) (c.0.0 z)
    where
      go : Page z ⊎ (one z ≡ 0) → (1 ≤ count z controls → sum z (met m) (used (met m processor_list)) ≡ 1) → count z (met m processor_list) ≤ 1
      go (inl p) f = omega (arith, f (omega (arith, range1_at control_pages first_control z p.0 (omega arith))))
      go (inr q) f = omega (arith, none_else (met m processor_list) (met_pages m processor_list) z q)

  pub accepted_is : (b : Bool) → length m ≡ memory_size → b ≡ judged m → b ≡ true → Nothing ≡ told_of m
  accepted_is b l e h = sym (judged_nothing m l (sym e ∙ h))

pub ruleset findings = (class_tells, class_clear, all_clear, pages_single)
