-- Laws of what is added one after the other: of the first, of two lists, and that `try_fold` over an iterator gives it.
use Prim.Native.Nat.{ℕ}
use mathlib.Core.Path.{◌≡◌, refl, sym, ap, subst, ◌∙◌}
use mathlib.Core.Bool.{true≢false}
use mathlib.Core.List.{List, [], ◌∷◌, ◌++◌}
use denote.Param.Members.{Mut}
use Rattle.std.specs.Prelude.{Option, Some, None, is_some}
use Rattle.std.specs.Option.{option_and_then, MatchOption}
use Rattle.std.specs.Iterator.{AlwaysYields, Yields, TryFoldTurn, TryFoldsItems}
use Rattle.std.specs.ControlFlow.{continue_value}
use Rattle.std.specs.declared.ops.ControlFlow.{ControlFlow}
use Rattle.std.specs.List.{FoldsTo}
use Rattle.std.specs.Fn.{Called}
use Rattle.std.proofs.lemmas.Iterator.{YieldsList}
use Rattle.lists.specs.Seen as Seen
use Rattle.lists.specs.Seen.{onward}

pub none_some : {A : Type 0} {x : A} → None ≡ Some x → ⊥
none_some e = true≢false (sym (ap is_some e))

pub same_some : {x y : ℕ} → Some x ≡ Some y → x ≡ y
same_some {x} {y} e = ap (λ (o : Option ℕ). elim o [ None ↦ x | Some z ↦ z ]) e

module _ (f : ℕ → ℕ → Option ℕ) where
  pub onward_cons : (x : ℕ) (xs : List ℕ) (b d : ℕ) → onward f b (x ∷ xs) ≡ Some d → (c : ℕ) × (f b x ≡ Some c) × (onward f c xs ≡ Some d)
  unfolding Seen.onward
  onward_cons x xs b d e = go (f b x) refl e
    where
      go : (o : Option ℕ) → f b x ≡ o → option_and_then (λ c. onward f c xs) o ≡ Some d → (c : ℕ) × (f b x ≡ Some c) × (onward f c xs ≡ Some d)
      go None h k = absurd (none_some k)
      go (Some c) h k = (c, h, k)

  pub onward_on : (x : ℕ) (xs : List ℕ) (b c : ℕ) → f b x ≡ Some c → onward f b (x ∷ xs) ≡ onward f c xs
  unfolding Seen.onward
  onward_on x xs b c e = ap (λ o. option_and_then (λ d. onward f d xs) o) e

  pub onward_off : (x : ℕ) (xs : List ℕ) (b : ℕ) → f b x ≡ None → onward f b (x ∷ xs) ≡ None
  unfolding Seen.onward
  onward_off x xs b e = ap (λ o. option_and_then (λ d. onward f d xs) o) e

  pub onward_append : (xs ys : List ℕ) (b : ℕ) → onward f b (xs ++ ys) ≡ option_and_then (λ c. onward f c ys) (onward f b xs)
  unfolding Seen.onward
  onward_append [] ys b = refl
  onward_append (x ∷ xs) ys b = go (λ c. onward_append xs ys c) (f b x)
    where
      go : ((c : ℕ) → onward f c (xs ++ ys) ≡ option_and_then (λ d. onward f d ys) (onward f c xs)) → (o : Option ℕ)
          → option_and_then (λ c. onward f c (xs ++ ys)) o ≡ option_and_then (λ c. onward f c ys) (option_and_then (λ c. onward f c xs) o)
      go k None = refl
      go k (Some c) = k c

-- ---- `try_fold` over an iterator whose items are seen as numbers, by a closure that computes h
module _ {S A F : Type 0} (E : Type 0) (steps : S → Option A → S → Type 0) (v : A → ℕ) (g : Mut F (ℕ × (A × Unit {0})) (Option ℕ)) (h : ℕ → ℕ → Option ℕ) (f : F)
    (calls : (a : ℕ) (x : A) (o : Option ℕ) (q : F) → Called g f (a, (x, tt)) o q → (q ≡ f) × (o ≡ h a (v x))) (u : S) (r : Option ℕ) where
  abbrev Branches : Option ℕ → ControlFlow E ℕ → Type 0
  Branches o c = o ≡ continue_value c

  abbrev Last : Option A → F → ℕ → Type 0
  Last o j a = MatchOption o (r ≡ Some a) (λ x. (w : Option ℕ) × (k : F) × (e : E) × Called g j (a, (x, tt)) w k × (w ≡ None) × (r ≡ None))

  ends : (xs : List A) (all : List ℕ) (s t : S) (o : Option A) (j : F) (a b : ℕ) → AlwaysYields steps v s all → Yields steps s xs t → steps t o u
      → FoldsTo {P = F × ℕ} (TryFoldTurn g Branches) (f, b) xs (j, a) → Last o j a → r ≡ onward h b all
  unfolding Seen.onward
  ends [] [] s t None j a b e y p c l = l ∙ ap Some (sym (ap (λ (q : F × ℕ). q.1) c))
  ends [] [] s t (Some x) j a b e y p c l = absurd (e x u (subst (λ k. steps k (Some x) u) (sym y) p))
  ends [] (z ∷ all) s t None j a b e y p c l = absurd (e.0 u (subst (λ k. steps k None u) (sym y) p))
  ends [] (z ∷ all) s t (Some x) j a b e y p c l =
      let same : v x ≡ z = (e.1 x u (subst (λ k. steps k (Some x) u) (sym y) p)).0 in
      let told = calls b x l.0 l.1 (subst (λ (q : F × ℕ). Called g q.0 (q.1, (x, tt)) l.0 l.1) (sym c) l.3) in
      l.5 ∙ sym (onward_off h z all b (ap (h b) (sym same) ∙ sym told.1 ∙ l.4))
  ends (x ∷ xs) [] s t o j a b e y p c l = absurd (e x y.0 y.1)
  ends (x ∷ xs) (z ∷ all) s t o j a b e y p c l =
      let next = e.1 x y.0 y.1 in
      let told = calls b x c.1.0 c.0.0 c.1.1 in
      let rest = ends xs all y.0 t o j a c.0.1 next.1 y.2 p (subst (λ (k : F). FoldsTo {P = F × ℕ} (TryFoldTurn g Branches) (k, c.0.1) xs (j, a)) told.0 c.2) l in
      rest ∙ sym (onward_on h z all b c.0.1 (ap (h b) (sym next.0) ∙ sym told.1 ∙ c.1.2))

pub try_fold_is : {S A F E : Type 0} {steps : S → Option A → S → Type 0} {v : A → ℕ} {g : Mut F (ℕ × (A × Unit {0})) (Option ℕ)} {s : S} {all : List ℕ} (h : ℕ → ℕ → Option ℕ)
    (u : S) (f : F) (b : ℕ) (r : Option ℕ)
    → TryFoldsItems steps {B = ℕ} {E = E} g (λ o c. o ≡ continue_value c) (λ _ o. o ≡ None) s f b r u
    → YieldsList steps v s all → ((a : ℕ) (x : A) (o : Option ℕ) (q : F) → Called g f (a, (x, tt)) o q → (q ≡ f) × (o ≡ h a (v x))) → r ≡ onward h b all
try_fold_is {S} {A} {F} {E} {steps} {v} {g} {s} {all} h u f b r d e calls =
    ends E steps v g h f calls u r d.0 all s d.4.0 d.1 d.2 d.3 b e.runs d.4.1 d.4.2 d.5 d.6
