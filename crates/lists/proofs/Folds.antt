-- Laws of the rules' parts, and that a rule of each of a list, or of a range, is what `all` tests: they serve every rule. That the list of a head, a
-- grant too, is a walk, and how many of a list pass.
use Prim.Native.Nat.{ℕ, zero, suc, ◌+◌, ◌≤◌, ◌<◌}
use mathlib.Core.Path.{◌≡◌, refl, sym, ap, ◌∙◌}
use mathlib.Core.Bool.{Bool, true, false, cond, ◌&&◌}
use mathlib.Core.List.{List, [], ◌∷◌, ◌++◌}
use native.Mathlib.Omega.{arith}
use lib.ListN.{length}
use lib.Dec.{eqb, leb}
use borrow.Author.Tests.{eq-eqb, ne_eqb, le-leb, lt-leb}
use Rattle.std.specs.Prelude.{filter}
use Rattle.std.specs.List.{list_all, range_with_len}
use Rattle.std.proofs.lemmas.List.Folds.{list_all-append}
use Rattle.queues.proofs.Laws.{walk_end}
use Rattle.model.specs.Map.{place, grants, grants_end, processor_list}
use Rattle.model.specs.Queue as Queue
use Rattle.model.specs.Rule.{Rule, same, most, both, each, below, when_same, unless_same, when_most, among, holds, all, every}
use Rattle.model.specs.Lists as Lists
use Rattle.model.specs.Lists.{hit, count, each_of, some, is_grant, link_of, reach}
use Rattle.model.specs.Bytes.{Memory, at, walk, lists, name}

-- ---- the parts of a rule
module _ (r s : Rule) (b : Bool) (e : b ≡ holds r) where
  pub both_yes : (c : Bool) → b ≡ true → c ≡ holds s → c ≡ holds (both r s)
  unfolding holds
  both_yes c h k = rw (← e, h, holds) k

  pub both_no : b ≡ false → false ≡ holds (both r s)
  unfolding holds
  both_no h = rw (← e, h, holds)

pub ruleset parts = (both_yes, both_no)

pub both_true : (r s : Rule) (b : Bool) → b ≡ holds r → true ≡ holds s → b ≡ holds (both r s)
both_true r s true e k = both_yes r s true e true refl k
both_true r s false e k = both_no r s false e refl

-- the parts as a conjunction, for laws that move them
if_and : (b c : Bool) → elim b [ true ↦ c | false ↦ false ] ≡ (b && c)
if_and true c = refl
if_and false c = refl

pub both_and : (r s : Rule) → holds (both r s) ≡ (holds r && holds s)
unfolding holds
both_and r s = if_and (holds r) (holds s)

-- two parts, both tested
pub both_is : (r s : Rule) (a b c : Bool) → c ≡ (a && b) → a ≡ holds r → b ≡ holds s → c ≡ holds (both r s)
both_is r s a b c e ea eb = rw (both_and r s, ← ea, ← eb) e

pub each_nil : (f : ℕ → Rule) → holds (each [] f) ≡ true
unfolding holds all
each_nil f = refl

pub cons_and : (f : ℕ → Rule) (x : ℕ) (xs : List ℕ) → holds (each (x ∷ xs) f) ≡ (holds (f x) && holds (each xs f))
unfolding holds all
cons_and f x xs = if_and (holds (f x)) (holds (each xs f))

module _ (x y : ℕ) where
  pub same_is : eqb x y ≡ holds (same x y)
  unfolding holds
  same_is = refl

  pub most_is : leb x y ≡ holds (most x y)
  unfolding holds
  most_is = refl

  module _ (r : Rule) where
    pub when_yes : (c : Bool) → x ≡ y → c ≡ holds r → c ≡ holds (when_same x y r)
    unfolding holds
    when_yes c h k = rw (eq-eqb x y h, holds) k

    pub when_no : (x ≡ y → ⊥) → true ≡ holds (when_same x y r)
    unfolding holds
    when_no h = rw (ne_eqb x y h, holds)

    pub unless_yes : x ≡ y → true ≡ holds (unless_same x y r)
    unfolding holds
    unless_yes h = rw (eq-eqb x y h, holds)

    pub unless_no : (c : Bool) → (x ≡ y → ⊥) → c ≡ holds r → c ≡ holds (unless_same x y r)
    unfolding holds
    unless_no c h k = rw (ne_eqb x y h, holds) k

    pub least_yes : (c : Bool) → x ≤ y → c ≡ holds r → c ≡ holds (when_most x y r)
    unfolding holds
    least_yes c h k = rw (le-leb x y h, holds) k

    pub least_no : y < x → true ≡ holds (when_most x y r)
    unfolding holds
    least_no h = rw (lt-leb x y h, holds)

pub lies_is : (x lo hi : ℕ) (r : Bool) → r ≡ (leb lo x && leb x hi) → r ≡ holds (among x lo hi)
lies_is x lo hi r e = both_is (most lo x) (most x hi) (leb lo x) (leb x hi) r e (most_is lo x) (most_is x hi)

-- ---- each of a list, and of 0 .. n - 1, as `all` tests them
pub each_all : (f : ℕ → Rule) (xs : List ℕ) → list_all (λ x. holds (f x)) xs ≡ holds (each xs f)
unfolding holds all
each_all f [] = refl
each_all f (x ∷ xs) = rw (each_all f xs) (sym (if_and (holds (f x)) (holds (each xs f))))

pub all_each : (f : ℕ → Rule) (xs : List ℕ) (r : Bool) → r ≡ list_all (λ x. holds (f x)) xs → r ≡ holds (each xs f)
all_each f xs r e = e ∙ each_all f xs

-- the first n + 1 numbers from a on are the first n and a + n
more_numbers : (a n : ℕ) → range_with_len a (suc n) ≡ range_with_len a n ++ (a + n) ∷ []
more_numbers a zero = let e : a + 0 ≡ a = omega arith in rw e
more_numbers a (suc n) = let e : a + 1 + n ≡ a + suc n = omega arith in rw (more_numbers (a + 1) n, e)

below_all : (f : ℕ → Rule) (n : ℕ) → list_all (λ k. holds (f k)) (range_with_len 0 n) ≡ holds (below n f)
unfolding holds every
below_all f zero = refl
below_all f (suc n) =
    let t : ℕ → Bool = λ k. holds (f k) in
    let z : 0 + n ≡ n = omega arith in
    let e : list_all t (range_with_len 0 (suc n)) ≡ (list_all t (range_with_len 0 n) && (t n && true)) =
    ap (list_all t) (more_numbers 0 n)
    ∙ list_all-append t (range_with_len 0 n) ((0 + n) ∷ [])
    ∙ ap (λ k. list_all t (range_with_len 0 n) && (t k && true)) z in
    e ∙ rw (below_all f n) (last_first (holds (f n)) (holds (below n f)))
  where
    last_first : (b c : Bool) → (c && (b && true)) ≡ elim b [ true ↦ c | false ↦ false ]
    last_first true true = refl
    last_first true false = refl
    last_first false true = refl
    last_first false false = refl

pub all_below : (f : ℕ → Rule) (n : ℕ) (r : Bool) → r ≡ list_all (λ k. holds (f k)) (range_with_len 0 n) → r ≡ holds (below n f)
all_below f n r e = e ∙ below_all f n

-- ---- the list of a head
some_walk : (w : ℕ) → some w ≡ elim (eqb w 0) [ true ↦ [] | false ↦ w ∷ [] ]
some_walk zero = refl
some_walk (suc n) = rw (ne_eqb (suc n) 0 (λ e. omega arith))

pub lists_is : (m : Memory) (a : ℕ) → lists m a ≡ walk (reach a) m (link_of a) a
unfolding Lists.lists Lists.reach Queue.walk
lists_is m a = go (is_grant a)
  where
    go : (b : Bool) → elim b [ true ↦ some (at m a) | false ↦ walk 21 m (link_of a) a ] ≡ walk (cond b 1 21) m (link_of a) a
    go true = some_walk (at m a)
    go false = refl

-- that of an empty head
pub lists_none : (m : Memory) (a w : ℕ) → w ≡ at m a → w ≡ 0 → lists m a ≡ []
lists_none m a w e z = lists_is m a ∙ walk_end (reach a) m (link_of a) a w e z

pub processors_walk : (m : Memory) → lists m processor_list ≡ walk 21 m 1 processor_list
unfolding Lists.lists Lists.is_grant Lists.link_of
processors_walk m = refl

-- a walk is no longer than it may go
pub walk_most : (n : ℕ) (m : Memory) (k a : ℕ) → length (walk n m k a) ≤ n
unfolding Queue.walk
walk_most zero m k a = omega arith
walk_most (suc n) m k a = go (walk_most n m k (place (at m a) k)) (eqb (at m a) 0)
  where
    go : length (walk n m k (place (at m a) k)) ≤ n → (b : Bool) → length {A = ℕ} (elim b [ true ↦ [] | false ↦ at m a ∷ walk n m k (place (at m a) k) ]) ≤ suc n
    go l true = omega arith
    go l false = omega arith

reach_most : (a : ℕ) → reach a ≤ 21
unfolding Lists.reach
reach_most a = go (is_grant a)
  where
    go : (b : Bool) → cond b 1 21 ≤ 21
    go true = omega arith
    go false = omega arith

pub lists_most : (m : Memory) (a : ℕ) → length (lists m a) ≤ 21
lists_most m a = omega (arith, ap length (lists_is m a), walk_most (reach a) m (link_of a) a, reach_most a)

-- ---- how many of a list pass
pub filter_most : (t : ℕ → Bool) (xs : List ℕ) → length (filter t xs) ≤ length xs
filter_most t [] = omega arith
filter_most t (x ∷ xs) = go (filter_most t xs) (t x)
  where
    go : length (filter t xs) ≤ length xs → (b : Bool) → length (cond b (x ∷ filter t xs) (filter t xs)) ≤ suc (length xs)
    go l true = omega arith
    go l false = omega arith

pub count_passed : (z : ℕ) (xs : List ℕ) → length (filter (λ x. eqb z x) xs) ≡ count z xs
count_passed z [] = refl
count_passed z (x ∷ xs) = go (count_passed z xs) (eqb z x)
  where
    go : length (filter (λ y. eqb z y) xs) ≡ count z xs → (b : Bool) → length (cond b (x ∷ filter (λ y. eqb z y) xs) (filter (λ y. eqb z y) xs)) ≡ hit b + count z xs
    go e true = omega arith
    go e false = omega arith

pub names_passed : (m : Memory) (z : ℕ) (xs : List ℕ) → length (filter (λ x. eqb z (name m x)) xs) ≡ count z (each_of (name m) xs)
names_passed m z [] = refl
names_passed m z (x ∷ xs) = go (names_passed m z xs) (eqb z (name m x))
  where
    go : length (filter (λ y. eqb z (name m y)) xs) ≡ count z (each_of (name m) xs) → (b : Bool)
        → length (cond b (x ∷ filter (λ y. eqb z (name m y)) xs) (filter (λ y. eqb z (name m y)) xs)) ≡ hit b + count z (each_of (name m) xs)
    go e true = omega arith
    go e false = omega arith

module _ (m : Memory) (a k n : ℕ) (ek : k ≡ link_of a) (en : n ≡ reach a) where
  pub lists_walk : (r : List ℕ) → r ≡ walk n m k a → r ≡ lists m a
  lists_walk r e = rw (lists_is m a, ← ek, ← en) e

pub link_list : (a : ℕ) → a ≡ processor_list → 1 ≡ link_of a
unfolding Lists.link_of
link_list a h = rw (eq-eqb a processor_list h)

pub link_other : (a : ℕ) → (a ≡ processor_list → ⊥) → 0 ≡ link_of a
unfolding Lists.link_of
link_other a h = rw (ne_eqb a processor_list h)

pub left_low : (a : ℕ) → a < grants → 21 ≡ reach a
unfolding Lists.reach Lists.is_grant
left_low a h = rw (lt-leb grants a h)

pub left_grant : (a : ℕ) → grants ≤ a → a < grants_end → 1 ≡ reach a
unfolding Lists.reach Lists.is_grant
left_grant a h k = rw (le-leb grants a h, le-leb (suc a) grants_end k)

pub left_high : (a : ℕ) → grants_end ≤ a → 21 ≡ reach a
unfolding Lists.reach Lists.is_grant
left_high a h = rw (le-leb grants a (omega arith), lt-leb (suc a) grants_end (omega arith))

pub ruleset folds = (lies_is, lists_walk, link_list, link_other, left_low, left_grant, left_high)
