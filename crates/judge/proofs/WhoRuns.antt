-- A law for each way through the rules of who runs. Premises stand in the code's order.
use Prim.Native.Nat.{ℕ, suc}
use mathlib.Core.Path.{◌≡◌, refl}
use mathlib.Core.Bool.{Bool, true, false, ◌&&◌}
use lib.Dec.{eqb, ltb}
use Rattle.model.specs.Map.{label, list_link, processor_list, running_label, running_page, state, wait_bit}
use Rattle.model.specs.Store.{bytes}
use Rattle.model.specs.Rule.{same, each, holds}
use Rattle.model.specs.Lists.{count}
use Rattle.model.specs.Judge as Judge
use Rattle.model.specs.Bytes.{Memory, at, word, walk, lists}
use Rattle.lists.specs.Heads.{rule}
use Rattle.lists.proofs.Folds.{both_yes, both_no, both_is, same_is, most_is, when_yes, when_no, unless_yes, unless_no}
use Rattle.lists.proofs.Folds.{processors_walk}

pub runner_is : (m : Memory) (p n l w s : ℕ) (d r : Bool) → n ≡ count p (walk 21 m list_link processor_list)
    → l ≡ at m running_label → w ≡ word m p label → s ≡ word m p state
    → d ≡ (eqb l w && ltb s wait_bit) → r ≡ (eqb n 1 && d) → r ≡ holds (rule (Judge.runner bytes) m p)
unfolding Judge.runner
runner_is m p n l w s d r en el ew es ed er =
    rw (processors_walk m, ← en, ← el, ← ew, ← es)
    (both_is _ _ (eqb n 1) d r er (same_is n 1) (both_is _ _ (eqb l w) (ltb s wait_bit) d ed (same_is l w) (most_is (suc s) wait_bit)))

module _ (m : Memory) (p : ℕ) (b : Bool) (ep : p ≡ at m running_page) where
  module _ (z : p ≡ 0) (eb : b ≡ holds (same (at m running_label) 0)) where
    pub running_idle : (c : Bool) → b ≡ true → c ≡ holds (each (lists m processor_list) (rule (Judge.not_higher bytes) m)) → c ≡ holds (rule (Judge.running bytes) m)
    unfolding Judge.running
    running_idle c h ec = rw (← ep) (both_yes _ _ b (when_yes p 0 _ b z eb) c h (both_yes _ _ true (unless_yes p 0 _ z) c refl ec))

    pub running_wrong : b ≡ false → false ≡ holds (rule (Judge.running bytes) m)
    unfolding Judge.running
    running_wrong h = rw (← ep) (both_no _ _ b (when_yes p 0 _ b z eb) h)

  module _ (z : p ≡ 0 → ⊥) (eb : b ≡ holds (rule (Judge.runner bytes) m p)) where
    pub running_one : (c : Bool) → b ≡ true → c ≡ holds (each (lists m processor_list) (rule (Judge.not_higher bytes) m)) → c ≡ holds (rule (Judge.running bytes) m)
    unfolding Judge.running
    running_one c h ec = rw (← ep) (both_yes _ _ true (when_no p 0 _ z) c refl (both_yes _ _ b (unless_no p 0 _ b z eb) c h ec))

    pub running_none : b ≡ false → false ≡ holds (rule (Judge.running bytes) m)
    unfolding Judge.running
    running_none h = rw (← ep) (both_yes _ _ true (when_no p 0 _ z) false refl (both_no _ _ b (unless_no p 0 _ b z eb) h))

pub ruleset runs = (runner_is, running_idle, running_wrong, running_one, running_none)
