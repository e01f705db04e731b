-- What `all` tests over a list of pages, and over the first numbers, is the rule of each.
use Prim.Native.Nat.{ℕ}
use mathlib.Core.Path.{◌≡◌}
use mathlib.Core.Bool.{Bool, true, false}
use mathlib.Core.List.{List}
use denote.Param.Members.{Mut}
use Rattle.std.specs.Prelude.{Option}
use Rattle.std.specs.Option.{MatchOption}
use Rattle.std.specs.Iterator.{YieldsThen}
use Rattle.std.specs.List.{FoldsTo, range_with_len}
use Rattle.std.specs.Map.Iter.{TakesFirst}
use Rattle.std.specs.Fn.{Called}
use Rattle.std.proofs.lemmas.Iterator.{YieldsList}
use Rattle.std.proofs.lemmas.Iterator.Consumers.{YieldsList-from_rest}
use Rattle.std.proofs.lemmas.Iterator.Search.{all_from_yields_List}
use Rattle.model.specs.Rule.{Rule, each, below, holds}
use Rattle.lists.proofs.Folds.{all_each, all_below}

abbrev AllRan : {S A F : Type 0} → (S → Option A → S → Type 0) → Mut F (A × Unit {0}) Bool → S → F → Bool → S → Type 0
AllRan {S} {A} {F} steps g s f r u =
    (xs : List A) × (o : Option A) × (j : F) × YieldsThen steps s xs o u × FoldsTo (λ p x q. Called g p (x, tt) true q) f xs j
    × MatchOption o (r ≡ true) (λ x. (r ≡ false) × ((h : F) × Called g j (x, tt) false h))

pub list_holds : {A F : Type 0} {shows : A → ℕ} {g : Mut F (A × Unit {0}) Bool} (R : ℕ → Rule) (xs s u : List ℕ) (f : F) (r : Bool)
    → AllRan (TakesFirst shows) g s f r u → s ≡ xs → ((x : A) (b : Bool) (q : F) → Called g f (x, tt) b q → (q ≡ f) × (b ≡ holds (R (shows x)))) → r ≡ holds (each xs R)
list_holds R xs s u f r d e calls = all_each R xs r (all_from_yields_List (λ x. holds (R x)) u f r d (YieldsList-from_rest xs e) calls)

pub range_holds : {S F : Type 0} {steps : S → Option ℕ → S → Type 0} {g : Mut F (ℕ × Unit {0}) Bool} (R : ℕ → Rule) (n : ℕ) (s u : S) (f : F) (r : Bool)
    → AllRan steps g s f r u → YieldsList steps (λ x. x) s (range_with_len 0 n) → ((x : ℕ) (b : Bool) (q : F) → Called g f (x, tt) b q → (q ≡ f) × (b ≡ holds (R x))) → r ≡ holds (below n R)
range_holds R n s u f r d e calls = all_below R n r (all_from_yields_List (λ x. holds (R x)) u f r d e calls)
