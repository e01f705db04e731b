-- A law for each way through the walks along links. Those of `walk` and `first` serve every recursion that looks for a page.
use Prim.Native.Nat.{ℕ, zero, suc, ◌-◌, ◌<◌}
use mathlib.Core.Path.{◌≡◌, refl, sym, ap, ◌∙◌}
use mathlib.Core.Bool.{Bool, true, false, cond}
use mathlib.Core.List.{List, [], ◌∷◌}
use lib.ListN.{length}
use lib.Dec.{eqb}
use borrow.Author.Tests.{eq-eqb, ne_eqb}
use native.Mathlib.Numerals.{sub-one}
use Rattle.std.proofs.Common.{⊎_elim}
use Rattle.std.proofs.lemmas.Bool.{cases_eq}
use native.Mathlib.Omega.{arith}
use Rattle.std.specs.Prelude.{Option, Some, None}
use Rattle.std.specs.List.{find}
use Rattle.std.specs.Option.{option_map}
use Rattle.model.specs.declared.ControlPage.{ControlPage}
use Rattle.model.specs.Coded as Coded
use Rattle.model.specs.Coded.{found}
use Rattle.model.specs.Map.{place, control_pages}
use Rattle.model.specs.Queue as Queue
use Rattle.model.specs.Queue.{first}
use Rattle.model.specs.Bytes.{Memory, at, write, store, walk, cell_of, join}

pub cell_none : (n : ℕ) (m : Memory) (k a v : ℕ) → n ≡ 0 → a ≡ cell_of n m k a v
unfolding Queue.cell_of
cell_none zero m k a v e = refl
cell_none (suc n) m k a v e = absurd (omega arith)

pub cell_here : (n : ℕ) (m : Memory) (k a v w : ℕ) → w ≡ at m a → w ≡ v → a ≡ cell_of n m k a v
unfolding Queue.cell_of
cell_here zero m k a v w e h = refl
cell_here (suc n) m k a v w e h = rw (← e, eq-eqb w v h, Queue.cell_of)

pub cell_on : (n : ℕ) (m : Memory) (k a v w b r : ℕ) → w ≡ at m a → (n ≡ 0 → ⊥) → (w ≡ v → ⊥) → b ≡ place w k → r ≡ cell_of (n - 1) m k b v
    → r ≡ cell_of n m k a v
unfolding Queue.cell_of
cell_on zero m k a v w b r e o z eb h = absurd (o refl)
cell_on (suc n) m k a v w b r e o z eb h = rw (← e, ne_eqb w v z, Queue.cell_of, ← e, ← eb) (simp sub-one at h)

pub ruleset cells = (cell_none, cell_here, cell_on)

-- ---- joining at the cell c
pub join_is : (m m₁ m₂ : Memory) (h k q c : ℕ) → m₁ ≡ store m q k 0 → c ≡ cell_of control_pages m₁ k h 0 → m₂ ≡ write m₁ c q → m₂ ≡ join m h k q
unfolding Queue.join
join_is m m₁ m₂ h k q c e₁ ec e₂ = rw (← e₁, ← ec) e₂

-- ---- what was found names a page or none
pub found_is : (k : ℕ) → (k ≡ 0 → ⊥) → found k ≡ Some (record { 0 = k })
unfolding Coded.found
found_is k z = rw (ne_eqb k 0 z)

pub found_none : (k : ℕ) → k ≡ 0 → found k ≡ None
unfolding Coded.found
found_none k z = rw (eq-eqb k 0 z)

pub none_is : (k : ℕ) → None ≡ found k → k ≡ 0
none_is k e = ⊎_elim (λ (z : k ≡ 0). z) (λ (z : k ≡ 0 → ⊥). let h : found k ≡ Some (record { 0 = k }) = found_is k z in cc) (cases_eq k 0)

pub some_not : (k : ℕ) (p : ControlPage) → Some p ≡ found k → k ≡ 0 → ⊥
some_not k p e z = let h : found k ≡ None = found_none k z in cc

pub some_is : (k : ℕ) (p : ControlPage) → Some p ≡ found k → p.0 ≡ k
some_is k p e = let h : found k ≡ Some (record { 0 = k }) = found_is k (some_not k p e) in cc

-- ---- the list that hangs from a cell
pub walk_none : (n : ℕ) (m : Memory) (k a : ℕ) → n ≡ 0 → walk n m k a ≡ []
unfolding Queue.walk
walk_none zero m k a e = refl
walk_none (suc n) m k a e = absurd (omega arith)

pub walk_end : (n : ℕ) (m : Memory) (k a w : ℕ) → w ≡ at m a → w ≡ 0 → walk n m k a ≡ []
unfolding Queue.walk
walk_end zero m k a w e z = refl
walk_end (suc n) m k a w e z = rw (← e, eq-eqb w 0 z, Queue.walk)

pub walk_on : (n : ℕ) (m : Memory) (k a w b : ℕ) → (n ≡ 0 → ⊥) → w ≡ at m a → (w ≡ 0 → ⊥) → b ≡ place w k → walk n m k a ≡ w ∷ walk (n - 1) m k b
unfolding Queue.walk
walk_on zero m k a w b o e z eb = absurd (o refl)
walk_on (suc n) m k a w b o e z eb = rw (← e, ne_eqb w 0 z, Queue.walk, ← e, ← eb, sub-one)

-- the same, of what was found in the cell
pub walk_stops : (n : ℕ) (m : Memory) (k a : ℕ) → None ≡ found (at m a) → walk n m k a ≡ []
unfolding Queue.walk
walk_stops zero m k a e = refl
walk_stops (suc n) m k a e = rw (eq-eqb (at m a) 0 (none_is (at m a) e), Queue.walk)

pub walk_goes : (n : ℕ) (m : Memory) (k a b : ℕ) (p : ControlPage) → (n ≡ 0 → ⊥) → Some p ≡ found (at m a) → b ≡ place p.0 k
    → walk n m k a ≡ p.0 ∷ walk (n - 1) m k b
unfolding Queue.walk
walk_goes zero m k a b p o e eb = absurd (o refl)
walk_goes (suc n) m k a b p o e eb =
    rw (ne_eqb (at m a) 0 (some_not (at m a) p e), Queue.walk, ← (some_is (at m a) p e), ← eb, sub-one)

-- a list that has given one has fewer left
pub fewer : {s t : List ℕ} {x : ℕ} → s ≡ x ∷ t → length t < length s
fewer e = rw e (omega arith)

-- ---- a search by recursion along a walk
module _ (t : ℕ → Bool) (n : ℕ) (m : Memory) (k a : ℕ) where
  pub first_none : n ≡ 0 → None ≡ found (first t (walk n m k a))
  unfolding Queue.first Coded.found
  first_none e = rw (walk_none n m k a e)

  pub first_end : None ≡ found (at m a) → None ≡ found (first t (walk n m k a))
  unfolding Queue.first Coded.found
  first_end e = rw (walk_stops n m k a e)

  module _ (p : ControlPage) (c : Bool) (o : n ≡ 0 → ⊥) (e : Some p ≡ found (at m a)) (ec : c ≡ t p.0) where
    pub first_here : c ≡ true → Some p ≡ found (first t (walk n m k a))
    unfolding Queue.first
    first_here h = rw (walk_goes n m k a (place p.0 k) p o e refl, ← ec, h, first) (e ∙ ap found (sym (some_is (at m a) p e)))

    pub first_on : (b : ℕ) (r : Option ControlPage) → c ≡ false → b ≡ place p.0 k → r ≡ found (first t (walk (n - 1) m k b))
        → r ≡ found (first t (walk n m k a))
    unfolding Queue.first
    first_on b r h eb er = rw (walk_goes n m k a b p o e eb, ← ec, h, first) er

pub ruleset searches = (first_none, first_end, first_here, first_on)

-- ---- a search along a walk: no page of it is 0
abbrev pub NoZero : List ℕ → Type 0
NoZero [] = Unit {0}
NoZero (x ∷ xs) = (x ≡ 0 → ⊥) × NoZero xs

no_zero_if : (b : Bool) (w : ℕ) (xs : List ℕ) → (b ≡ false → w ≡ 0 → ⊥) → NoZero xs → NoZero (elim b [ true ↦ [] | false ↦ w ∷ xs ])
no_zero_if true w xs z h = tt
no_zero_if false w xs z h = (z refl, h)

pub no_zero : (n : ℕ) (m : Memory) (k a : ℕ) → NoZero (walk n m k a)
unfolding Queue.walk
no_zero zero m k a = tt
no_zero (suc n) m k a =
    no_zero_if (eqb (at m a) 0) (at m a) (walk n m k (place (at m a) k)) (λ e z. let h : eqb (at m a) 0 ≡ true = eq-eqb (at m a) 0 z in cc)
    (no_zero n m k (place (at m a) k))

-- what was found has its number, and is none where the number is 0
none_found : (r : Option ControlPage) → option_map (λ (p : ControlPage). p.0) r ≡ None → r ≡ None
none_found None e = refl
none_found (Some p) e = cc

page_found : (r : Option ControlPage) (x : ℕ) → (x ≡ 0 → ⊥) → option_map (λ (p : ControlPage). p.0) r ≡ Some x → r ≡ found x
unfolding Coded.found
page_found None x z e = cc
page_found (Some p) x z e = let h : p.0 ≡ x = cc in rw (ne_eqb x 0 z, ← h)

search_if : (b : Bool) (t : ℕ → Bool) (x : ℕ) (xs : List ℕ) (r : Option ControlPage) → (x ≡ 0 → ⊥) → (option_map (λ (p : ControlPage). p.0) r ≡ find t xs
    → r ≡ found (first t xs))
    → option_map (λ (p : ControlPage). p.0) r ≡ cond b (Some x) (find t xs) → r ≡ found (elim b [ true ↦ x | false ↦ first t xs ])
search_if true t x xs r z more e = page_found r x z e
search_if false t x xs r z more e = more e

search_found : (t : ℕ → Bool) (xs : List ℕ) (r : Option ControlPage) → NoZero xs → option_map (λ (p : ControlPage). p.0) r ≡ find t xs → r ≡ found (first t xs)
unfolding Queue.first Coded.found
search_found t [] r h e = none_found r e
search_found t (x ∷ xs) r h e = search_if (t x) t x xs r h.0 (search_found t xs r h.1) e

pub found_by : (t : ℕ → Bool) (n : ℕ) (m : Memory) (k a : ℕ) (r : Option ControlPage) → option_map (λ (p : ControlPage). p.0) r ≡ find t (walk n m k a)
    → r ≡ found (first t (walk n m k a))
found_by t n m k a r e = search_found t (walk n m k a) r (no_zero n m k a) e
