-- Names that differ, as pages: the rule `names`.
use Prim.Native.Nat.{ℕ, ◌+◌, ◌≤◌, ◌<◌}
use mathlib.Core.Path.{◌≡◌, refl, sym, ap, ◌∙◌, fun_ext}
use mathlib.Core.Bool.{Bool, true, false, cond, ◌&&◌}
use mathlib.Core.List.{List, [], ◌∷◌}
use native.Mathlib.Omega.{arith}
use lib.Dec.{eqb, leb}
use borrow.Author.Tests.{eq-eqb, ne_eqb, eqb-true, eqb-false, leb-true, leb-false}
use Rattle.std.specs.Prelude.{Option, Some, None, is_some}
use Rattle.model.specs.Map.{lower, four_bits, first_control, processor_list, label}
use Rattle.model.specs.Store.{bytes}
use Rattle.model.specs.Rule.{same, holds, all}
use Rattle.model.specs.Lists.{hit, count, each_of}
use Rattle.model.specs.Judge as Judge
use Rattle.model.specs.Bytes.{Memory, word, lists, name}
use Rattle.lists.specs.Heads.{rule}
use Rattle.lists.proofs.Folds.{both_and}
use Rattle.lists.specs.Seen as Seen
use Rattle.lists.specs.Seen.{has, see, onward, titled_by, titled, with_name, named}
use Rattle.lists.proofs.Onward.{none_some, onward_cons, onward_on}
use Rattle.lists.proofs.Counting.{above, if_true, has_most, see_yes, see_count}
use Rattle.lists.proofs.Uses.{iff, and_true, none}

shift : (k n : ℕ) → eqb (first_control + k) (first_control + n) ≡ eqb k n
shift k n = go (eqb k n) refl
  where
    go : (c : Bool) → eqb k n ≡ c → eqb (first_control + k) (first_control + n) ≡ c
    go true h = let e = eqb-true k n h in eq-eqb (first_control + k) (first_control + n) (omega arith)
    go false h = let e = eqb-false k n h in ne_eqb (first_control + k) (first_control + n) (λ y. e (omega arith))

module _ (m : Memory) where
  abbrev N : List ℕ → List ℕ
  N ps = each_of (name m) ps

  abbrev Apart : ℕ → List ℕ → Type 0
  Apart b ps = (k : ℕ) → k ≤ four_bits → has b (first_control + k) + count k (N ps) ≤ 1

  abbrev ok : ℕ → Bool
  ok p = holds (titled m p)

  -- what is known of names with one more
  one_name : (b p c : ℕ) → with_name m b p ≡ Some c → (ok p ≡ true) × (see b (first_control + name m p) ≡ Some c)
  unfolding Seen.with_name
  one_name b p c e = go (ok p) refl e
    where
      go : (t : Bool) → ok p ≡ t → cond t (see b (first_control + name m p)) None ≡ Some c → (ok p ≡ true) × (see b (first_control + name m p) ≡ Some c)
      go true h k = (h, k)
      go false h k = absurd (none_some k)

  good_name : (b p c : ℕ) → ok p ≡ true → see b (first_control + name m p) ≡ Some c → with_name m b p ≡ Some c
  unfolding Seen.with_name
  good_name b p c h e = rw h e

  apart : (ps : List ℕ) (b d : ℕ) → onward (with_name m) b ps ≡ Some d → (all ok ps ≡ true) × Apart b ps
  unfolding all
  apart [] b d e = (refl, λ k h. omega (arith, has_most b (first_control + k)))
  apart (p ∷ ps) b d e =
      let n = onward_cons (with_name m) p ps b d e in
      let o = one_name b p n.0 n.1 in
      let r = apart ps n.0 d n.2 in (
        rw (o.0, all) r.0,
        λ k l.
            let i = r.1 k l in
            let s = see_count (first_control + k) (omega arith) b (first_control + name m p) n.0 o.1 in
            let t = ap hit (shift k (name m p)) in
            omega arith,
      )

  together : (ps : List ℕ) (b : ℕ) → b < above → all ok ps ≡ true → Apart b ps → named m b ps ≡ true
  unfolding Seen.onward all
  together [] b h e s = refl
  together (p ∷ ps) b h e s =
      let g = if_true (ok p) (all ok ps) e in
      let one = s (name m p) (omega arith) in
      let self : hit (eqb (name m p) (name m p)) ≡ 1 = rw (eq-eqb (name m p) (name m p) refl) in
      let y = see_yes b (first_control + name m p) (omega arith) (omega arith) (omega arith) h in
      ap is_some (onward_on (with_name m) p ps b y.0 (good_name b p y.0 g.0 y.1))
      ∙ together ps y.0 y.2 g.1 (λ k l.
      let i = s k l in
      let t = see_count (first_control + k) (omega arith) b (first_control + name m p) y.0 y.1 in
      let u = ap hit (shift k (name m p)) in
      omega arith)

  abbrev one_of : List ℕ → ℕ → Bool
  one_of all-ps p = eqb (count (name m p) (N all-ps)) 1

  bears : (qs ps : List ℕ) → ((k : ℕ) → k ≤ four_bits → count k (N ps) ≤ 1) → ((k : ℕ) → count k (N qs) ≤ count k (N ps)) → all (one_of ps) qs ≡ true
  unfolding all
  bears [] ps f s = refl
  bears (q ∷ qs) ps f s =
      let self : hit (eqb (name m q) (name m q)) ≡ 1 = rw (eq-eqb (name m q) (name m q) refl) in
      let l = f (name m q) (omega arith) in
      let w = s (name m q) in
      rw (eq-eqb (count (name m q) (N ps)) 1 (omega arith), all) (bears qs ps f (λ k. let y = s k in omega arith))

  borne : (qs ps : List ℕ) (k : ℕ) → all (one_of ps) qs ≡ true → 1 ≤ count k (N qs) → count k (N ps) ≡ 1
  unfolding all
  borne [] ps k e l = absurd (omega arith)
  borne (q ∷ qs) ps k e l = go (if_true (one_of ps q) (all (one_of ps) qs) e) (λ a b. borne qs ps k a b) (eqb k (name m q)) refl
    where
      go : (one_of ps q ≡ true) × (all (one_of ps) qs ≡ true) → (all (one_of ps) qs ≡ true → 1 ≤ count k (N qs) → count k (N ps) ≡ 1)
          → (c : Bool) → eqb k (name m q) ≡ c → count k (N ps) ≡ 1
      go g ih true h = rw (eqb-true k (name m q) h) (eqb-true (count (name m q) (N ps)) 1 g.0)
      go g ih false h = ih g.1 (let y : hit (eqb k (name m q)) ≡ 0 = rw h in omega arith)

  all_both : (f g : ℕ → Bool) (qs : List ℕ) → all (λ p. f p && g p) qs ≡ (all f qs && all g qs)
  unfolding all
  all_both f g [] = refl
  all_both f g (q ∷ qs) = go (f q) (g q) (all_both f g qs)
    where
      go : (b c : Bool) → all (λ p. f p && g p) qs ≡ (all f qs && all g qs)
          → ◌≡◌ {A = Bool} (elim (b && c) [ true ↦ all (λ p. f p && g p) qs | false ↦ false ])
          (elim b [ true ↦ all f qs | false ↦ false ] && elim c [ true ↦ all g qs | false ↦ false ])
      go true true e = e
      go true false e = last (all f qs)
        where
          last : (x : Bool) → false ≡ (x && false)
          last true = refl
          last false = refl
      go false c e = refl

  named_is : (ps : List ℕ) → named m 0 ps ≡ (all (one_of ps) ps && all ok ps)
  named_is ps = iff (named m 0 ps) (all (one_of ps) ps && all ok ps) (there (onward (with_name m) 0 ps) refl) back
    where
      there : (o : Option ℕ) → onward (with_name m) 0 ps ≡ o → is_some o ≡ true → (all (one_of ps) ps && all ok ps) ≡ true
      there None q e = cc
      there (Some d) q e =
          let r = apart ps 0 d q in
          rw (bears ps ps (λ k l. let y = r.1 k l in omega arith) (λ k. omega arith), r.0)

      back : (all (one_of ps) ps && all ok ps) ≡ true → named m 0 ps ≡ true
      back e =
          let p = and_true (all (one_of ps) ps) (all ok ps) e in
          together ps 0 (omega arith) p.1 (λ k l. small k (leb 1 (count k (N ps))) refl p.0)
        where
          small : (k : ℕ) (c : Bool) → leb 1 (count k (N ps)) ≡ c → all (one_of ps) ps ≡ true → has 0 (first_control + k) + count k (N ps) ≤ 1
          small k true h a = let y = borne ps ps k a (leb-true 1 (count k (N ps)) h) in omega (arith, none (first_control + k))
          small k false h a = let y = leb-false 1 (count k (N ps)) h in omega (arith, none (first_control + k))

  label_is : (p : ℕ) → holds (rule (Judge.label bytes) m p) ≡ (one_of (lists m processor_list) p && ok p)
  unfolding Judge.label Seen.titled_by holds
  label_is p = both_and (same (count (name m p) (N (lists m processor_list))) 1) (titled m p)

  pub names_are : named m 0 (lists m processor_list) ≡ holds (rule (Judge.names bytes) m)
  unfolding holds Judge.names
  names_are =
      named_is (lists m processor_list) ∙ sym (all_both (one_of (lists m processor_list)) ok (lists m processor_list)) ∙ sym (all_same (lists m processor_list))
    where
      all_same : (qs : List ℕ) → all (λ p. holds (rule (Judge.label bytes) m p)) qs ≡ all (λ p. one_of (lists m processor_list) p && ok p) qs
      all_same qs = ap (λ (g : ℕ → Bool). all g qs) (fun_ext label_is)

-- ---- the name of a processor, a law for each way
module _ (m : Memory) (b p l : ℕ) (t : Bool) (el : l ≡ word m p label) (et : t ≡ holds (titled_by l)) where
  good : t ≡ holds (titled m p)
  good = rw el at et

  pub name_yes : (o : Option ℕ) → t ≡ true → o ≡ see b (first_control + lower l) → o ≡ with_name m b p
  unfolding Seen.with_name
  name_yes o h e = rw (← good, h) (e ∙ ap (λ (y : ℕ). see b (first_control + lower y)) el)

  pub name_no : t ≡ false → None ≡ with_name m b p
  unfolding Seen.with_name
  name_no h = rw (← good, h)

pub ruleset naming = (name_yes, name_no)
