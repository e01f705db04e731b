-- Chains over the pages of a walk and over numbers: what `filter_map(..).min()` gives of a row, and of the lists of several heads.
use native.Mathlib.Omega.{arith}
use Prim.Native.Nat.{ℕ, zero, suc, ◌+◌, ◌-◌}
use mathlib.Core.Path.{◌≡◌, refl, sym, ap, ◌∙◌}
use mathlib.Core.Bool.{Bool, true, false, cond, ◌&&◌}
use mathlib.Core.List.{List, [], ◌∷◌, ◌++◌, append_assoc}
use denote.Param.Members.{Mut}
use Rattle.std.specs.Prelude.{Option, Some, None, MatchOption, filter_map}
use Rattle.std.specs.List.{FoldsTo, cons_option, range_with_len, list_all}
use Rattle.std.specs.declared.iter.FilterMap.{FilterMap}
use Rattle.std.specs.declared.ops.Range.{Range}
use Rattle.std.specs.Iterator.{PicksByCmp, YieldsThen}
use Rattle.std.specs.Iterator.Adapters.{filter_map_source, filter_map_callee, filter_map_steps}
use Rattle.std.specs.Map.Iter.{TakesFirst}
use Rattle.std.specs.Ordering.{nat_cmp, min_by_ordering}
use Rattle.std.specs.Fn.{Called}
use Rattle.std.proofs.iter.Yields.{nat_range_steps}
use Rattle.std.proofs.lemmas.Iterator.{YieldsList-from_range}
use Rattle.std.proofs.lemmas.Iterator.Consumers.{YieldsList-from_rest, YieldsList-from_filter_map, min_from_yields_List}
use Rattle.std.proofs.lemmas.Iterator.Search.{all_from_yields_List}
use Rattle.std.proofs.lemmas.Iterator.Adapters.{option_map_id}
use Rattle.model.specs.Map.{place, own_queue, q1, q2, interrupts, header_after}
use Rattle.model.specs.Rule.{Rule, each, all, holds}
use Rattle.model.specs.Lists.{Lists, range, mails, owns}
use Rattle.model.specs.Walks.{gather}
use Rattle.model.specs.Tell.{broken}
use Rattle.model.specs.Classes.{lines}
use Rattle.telling.specs.Rows.{lowest, lowest_by}
use Rattle.telling.proofs.Lows.{row, lower, lowest_app, broken_app}

broken_is : (a : ℕ → ℕ) (r : ℕ → Rule) (xs : List ℕ) → filter_map (row a r) xs ≡ broken a r xs
unfolding broken
broken_is a r [] = refl
broken_is a r (x ∷ xs) = go (holds (r x)) (broken_is a r xs)
  where
    go : (b : Bool) → filter_map (row a r) xs ≡ broken a r xs
        → cons_option (cond b None (Some (a x))) (filter_map (row a r) xs) ≡ elim b [ true ↦ broken a r xs | false ↦ a x ∷ broken a r xs ]
    go true ih = ih
    go false ih = ap (λ (l : List ℕ). a x ∷ l) ih

range_is : (a n : ℕ) → range n 1 a ≡ range_with_len a n
unfolding range
range_is a zero = refl
range_is a (suc n) = ap (λ (l : List ℕ). a ∷ l) (range_is (a + 1) n)

-- numbers d further
shifted : (a : ℕ → ℕ) (r : ℕ → Rule) (d n b : ℕ) → filter_map (λ k. row a r (d + k)) (range n 1 b) ≡ broken a r (range n 1 (d + b))
unfolding range broken
shifted a r d zero b = refl
shifted a r d (suc n) b =
    let e : d + (b + 1) ≡ d + b + 1 = omega arith in
    let ih : filter_map (λ k. row a r (d + k)) (range n 1 (b + 1)) ≡ broken a r (range n 1 (d + b + 1)) =
    shifted a r d n (b + 1) ∙ ap (λ (c : ℕ). broken a r (range n 1 c)) e in
    go (holds (r (d + b))) ih
  where
    go : (c : Bool) → filter_map (λ k. row a r (d + k)) (range n 1 (b + 1)) ≡ broken a r (range n 1 (d + b + 1))
        → cons_option (cond c None (Some (a (d + b)))) (filter_map (λ k. row a r (d + k)) (range n 1 (b + 1)))
        ≡ elim c [ true ↦ broken a r (range n 1 (d + b + 1)) | false ↦ a (d + b) ∷ broken a r (range n 1 (d + b + 1)) ]
    go true ih = ih
    go false ih = ap (λ (l : List ℕ). a (d + b) ∷ l) ih

-- ---- what is told in groups: of the numbers H x at each x
cons_lower : (o : Option ℕ) (xs : List ℕ) → lowest (cons_option o xs) ≡ lower o (lowest xs)
cons_lower None xs = refl
cons_lower (Some x) xs = lowest_app (x ∷ []) xs

module _ (a : ℕ → ℕ) (r : ℕ → Rule) (H : ℕ → List ℕ) where
  in_groups : (xs : List ℕ) → lowest (filter_map (λ x. lowest_by a r (H x)) xs) ≡ lowest_by a r (gather H xs)
  unfolding broken
  in_groups [] = refl
  in_groups (x ∷ xs) =
      cons_lower (lowest_by a r (H x)) (filter_map (λ x. lowest_by a r (H x)) xs)
      ∙ ap (lower (lowest_by a r (H x))) (in_groups xs)
      ∙ sym (lowest_app (broken a r (H x)) (broken a r (gather H xs)))
      ∙ ap lowest (sym (broken_app a r (H x) (gather H xs)))

abbrev two : ℕ → List ℕ
two p = place p q1 ∷ place p q2 ∷ []

abbrev own : ℕ → List ℕ
own p = place p own_queue ∷ []

mails_are : (ps : List ℕ) → gather two ps ≡ mails ps
mails_are [] = refl
mails_are (p ∷ ps) = ap (λ (l : List ℕ). place p q1 ∷ place p q2 ∷ l) (mails_are ps)

owns_are : (ps : List ℕ) → gather own ps ≡ owns ps
owns_are [] = refl
owns_are (p ∷ ps) = ap (λ (l : List ℕ). place p own_queue ∷ l) (owns_are ps)

letters_are : (L : Lists) (ps : List ℕ) → gather (λ p. L (place p q1) ++ L (place p q2)) ps ≡ gather L (mails ps)
letters_are L [] = refl
letters_are L (p ∷ ps) =
    ap (λ (l : List ℕ). (L (place p q1) ++ L (place p q2)) ++ l) (letters_are L ps) ∙ append_assoc (L (place p q1)) (L (place p q2)) (gather L (mails ps))

heads_are : gather (λ k. header_after k ∷ []) (range interrupts 1 0) ≡ lines
unfolding range
heads_are = refl

queues_are : (L : Lists) → gather (λ k. L (header_after k)) (range interrupts 1 0) ≡ gather L lines
unfolding range
queues_are L = refl

-- ---- over the pages of a walk: a row, and the rows of the lists of processors
module _ {F A : Type 0} (v : A → ℕ) {w xs : List ℕ} {s : FilterMap (List ℕ) F} (g : Mut F (A × Unit {0}) (Option ℕ)) {f : F} (o : Option ℕ)
    (ran : PicksByCmp (filter_map_steps (TakesFirst v) g) min_by_ordering (λ a b. nat_cmp a b) s o) (source : filter_map_source s ≡ w) (is : w ≡ xs)
    (callee : filter_map_callee s ≡ f) where
  abbrev Tells : (ℕ → Option ℕ) → Type 0
  Tells h = (x : A) (t : Option ℕ) (q : F) → Called g f (x, tt) t q → (q ≡ f) × (t ≡ h (v x))

  walked : (h : ℕ → Option ℕ) → Tells h → o ≡ lowest (filter_map h xs)
  walked h tells =
      sym (option_map_id o) ∙ min_from_yields_List s o ran (YieldsList-from_filter_map g h (YieldsList-from_rest xs (source ∙ is)) callee tells)

  module _ (a : ℕ → ℕ) (r : ℕ → Rule) where
    pub walk_told : Tells (row a r) → o ≡ lowest_by a r xs
    walk_told tells = walked (row a r) tells ∙ ap lowest (broken_is a r xs)

    pub mails_told : Tells (λ p. lowest_by a r (place p q1 ∷ place p q2 ∷ [])) → o ≡ lowest_by a r (mails xs)
    mails_told tells = walked _ tells ∙ in_groups a r two xs ∙ ap (lowest_by a r) (mails_are xs)

    pub owns_told : Tells (λ p. lowest_by a r (place p own_queue ∷ [])) → o ≡ lowest_by a r (owns xs)
    owns_told tells = walked _ tells ∙ in_groups a r own xs ∙ ap (lowest_by a r) (owns_are xs)

    pub letters_told : (L : Lists) → Tells (λ p. lowest_by a r (L (place p q1) ++ L (place p q2))) → o ≡ lowest_by a r (gather L (mails xs))
    letters_told L tells = walked _ tells ∙ in_groups a r _ xs ∙ ap (lowest_by a r) (letters_are L xs)

-- ---- over numbers: a row, and the rows of the queues of the interrupts
module _ {F : Type 0} {s : FilterMap (Range ℕ) F} {w : Range ℕ} (g : Mut F (ℕ × Unit {0}) (Option ℕ)) {f : F} (o : Option ℕ)
    (ran : PicksByCmp (filter_map_steps nat_range_steps g) min_by_ordering (λ a b. nat_cmp a b) s o) (source : filter_map_source s ≡ w)
    (callee : filter_map_callee s ≡ f) (n b : ℕ) (start : w.start ≡ b) (end : w.end ≡ b + n) where
  abbrev Says : (ℕ → Option ℕ) → Type 0
  Says h = (x : ℕ) (t : Option ℕ) (q : F) → Called g f (x, tt) t q → (q ≡ f) × (t ≡ h x)

  counted : (h : ℕ → Option ℕ) → Says h → o ≡ lowest (filter_map h (range n 1 b))
  counted h says =
      let len : w.end - w.start ≡ n = omega (arith, start, end) in
      let road = YieldsList-from_range w.start w.end n source len in
      sym (option_map_id o) ∙ min_from_yields_List s o ran (YieldsList-from_filter_map {v = λ x. x} g h road callee says)
      ∙ ap (λ (c : ℕ). lowest (filter_map h (range_with_len c n))) start
      ∙ ap (λ (l : List ℕ). lowest (filter_map h l)) (sym (range_is b n))

  module _ (a : ℕ → ℕ) (r : ℕ → Rule) where
    pub range_told : Says (row a r) → o ≡ lowest_by a r (range n 1 b)
    range_told says = counted (row a r) says ∙ ap lowest (broken_is a r (range n 1 b))

    -- where the closure speaks of what is d further
    pub shifted_told : (d : ℕ) → Says (λ k. row a r (d + k)) → o ≡ lowest_by a r (range n 1 (d + b))
    shifted_told d says = counted _ says ∙ ap lowest (shifted a r d n b)

    range_groups : (H : ℕ → List ℕ) → Says (λ k. lowest_by a r (H k)) → o ≡ lowest_by a r (gather H (range n 1 b))
    range_groups H says = counted _ says ∙ in_groups a r H (range n 1 b)

-- of the heads of the interrupts' queues, and of the pages in them
module _ {F : Type 0} {s : FilterMap (Range ℕ) F} {w : Range ℕ} (g : Mut F (ℕ × Unit {0}) (Option ℕ)) {f : F} (o : Option ℕ)
    (ran : PicksByCmp (filter_map_steps nat_range_steps g) min_by_ordering (λ a b. nat_cmp a b) s o) (source : filter_map_source s ≡ w)
    (callee : filter_map_callee s ≡ f) (start : w.start ≡ 0) (end : w.end ≡ interrupts) (a : ℕ → ℕ) (r : ℕ → Rule) where
  pub heads_told : ((x : ℕ) (t : Option ℕ) (q : F) → Called g f (x, tt) t q → (q ≡ f) × (t ≡ lowest_by a r (header_after x ∷ []))) → o ≡ lowest_by a r lines
  heads_told says = range_groups g o ran source callee interrupts 0 start end a r (λ k. header_after k ∷ []) says ∙ ap (lowest_by a r) heads_are

  pub queues_told : (L : Lists) → ((x : ℕ) (t : Option ℕ) (q : F) → Called g f (x, tt) t q → (q ≡ f) × (t ≡ lowest_by a r (L (header_after x))))
      → o ≡ lowest_by a r (gather L lines)
  queues_told L says = range_groups g o ran source callee interrupts 0 start end a r (λ k. L (header_after k)) says ∙ ap (lowest_by a r) (queues_are L)

-- ---- whether a rule holds of each page of a walk
all_each : (r : ℕ → Rule) (xs : List ℕ) → list_all (λ x. holds (r x)) xs ≡ holds (each xs r)
unfolding holds all
all_each r [] = refl
all_each r (x ∷ xs) = go (holds (r x)) (all_each r xs)
  where
    go : (b : Bool) → list_all (λ x. holds (r x)) xs ≡ holds (each xs r)
        → (b && list_all (λ x. holds (r x)) xs) ≡ elim b [ true ↦ holds (each xs r) | false ↦ false ]
    go true ih = ih
    go false ih = refl

pub walk_all : {F A : Type 0} (v : A → ℕ) {w : List ℕ} {g : Mut F (A × Unit {0}) Bool} (L : Lists) (d c : ℕ) (r : ℕ → Rule) (u : List ℕ) (f : F) (b : Bool)
    → (ys : List A) × (o : Option A) × (j : F) × YieldsThen (TakesFirst v) w ys o u × FoldsTo (λ p x q. Called g p (x, tt) true q) f ys j
    × MatchOption o (b ≡ true) (λ x. (b ≡ false) × ((h : F) × Called g j (x, tt) false h))
    → w ≡ L d → d ≡ c → ((x : A) (a : Bool) (q : F) → Called g f (x, tt) a q → (q ≡ f) × (a ≡ holds (r (v x)))) → b ≡ holds (each (L c) r)
walk_all v {w} {g} L d c r u f b ran is at tells =
    all_from_yields_List {g = g} (λ x. holds (r x)) u f b ran (YieldsList-from_rest (L c) (is ∙ ap L at)) tells ∙ all_each r (L c)
