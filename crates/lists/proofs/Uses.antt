-- The pages of the lists of heads are all pages, once each, exactly if the lists are good and each page is used once.
use Prim.Native.Nat.{ℕ, zero, suc, ◌+◌, ◌-◌, ◌≤◌, ◌<◌}
use mathlib.Core.Path.{◌≡◌, refl, sym, ap, ◌∙◌}
use mathlib.Core.Bool.{Bool, true, false, ◌&&◌}
use mathlib.Core.List.{List, [], ◌∷◌}
use native.Mathlib.Omega.{arith}
use lib.ListN.{length}
use lib.Dec.{eqb, leb}
use borrow.Author.Tests.{eq-eqb, le-leb, eqb-true, eqb-false}
use Rattle.std.specs.Prelude.{Option, Some, None}
use Rattle.model.specs.Map.{first_control, last_control, control_pages, word_values}
use Rattle.model.specs.Rule.{both, most, each, among, holds, all}
use Rattle.model.specs.Lists.{Lists, sum, range}
use Rattle.lists.proofs.Folds.{both_is}
use Rattle.lists.specs.Seen as Seen
use Rattle.lists.specs.Seen.{all_pages, is_page, has, onward, see_all, see_lists}
use Rattle.lists.proofs.Onward.{same_some, onward_cons, onward_on}
use Rattle.lists.proofs.Bits.{bit, bit_ones, ones_bit}
use Rattle.lists.proofs.Counting.{above, if_true, has_bit, page_bit, all_count, all_pages_lem, all_end, grown, all_good, Single}

-- a list that ends and holds control pages: the rule `list`
unfoldable pub good : List ℕ → Bool
good xs = holds (both (most (length xs) control_pages) (each xs (λ x. among x first_control last_control)))

good_is : (xs : List ℕ) → length xs ≤ control_pages → all is_page xs ≡ true → good xs ≡ true
unfolding good Seen.is_page holds
good_is xs l e =
    let ends : true ≡ holds (most (length xs) control_pages) = sym (le-leb (length xs) control_pages l) in
    sym (both_is (most (length xs) control_pages) (each xs (λ x. among x first_control last_control)) true true true refl ends (sym e))

pub good_pages : (xs : List ℕ) → good xs ≡ true → all is_page xs ≡ true
unfolding good Seen.is_page holds
good_pages xs e = (if_true (leb (length xs) control_pages) (all (λ x. holds (among x first_control last_control)) xs) e).1

-- ---- the lists of the heads hs
module _ (L : Lists) where
  abbrev add : ℕ → ℕ → Option ℕ
  add b a = see_all b (L a)

  pub lists_count : (z : ℕ) → first_control ≤ z → (hs : List ℕ) (b c : ℕ) → see_lists L b hs ≡ Some c → has c z ≡ has b z + sum z L hs
  unfolding Seen.onward
  lists_count z lo [] b c e = let s : b ≡ c = same_some e in rw s (omega arith)
  lists_count z lo (a ∷ hs) b c e =
      let n = onward_cons add a hs b c e in
      omega (arith, all_count z lo (L a) b n.0 n.1, lists_count z lo hs n.0 c n.2)

  pub lists_listed : (hs : List ℕ) (b c : ℕ) → see_lists L b hs ≡ Some c → all (λ a. good (L a)) hs ≡ true
  unfolding all
  lists_listed [] b c e = refl
  lists_listed (a ∷ hs) b c e =
      let n = onward_cons add a hs b c e in
      rw (good_is (L a) (all_end (L a) b n.0 n.1) (all_pages_lem (L a) b n.0 n.1), all) (lists_listed hs n.0 c n.2)

  pub lists_good : (hs : List ℕ) (b : ℕ) → b < above → all (λ a. good (L a)) hs ≡ true → Single b (λ z. sum z L hs) → (c : ℕ) × (see_lists L b hs ≡ Some c) × (c < above)
  unfolding Seen.onward all
  lists_good [] b h e s = (b, refl, h)
  lists_good (a ∷ hs) b h e s =
      let p = if_true (good (L a)) (all (λ x. good (L x)) hs) e in
      let y = all_good (L a) b h (good_pages (L a) p.0) (λ z lo hi. let k = s z lo hi in omega arith) in
      let n = lists_good hs y.0 y.2 p.1 (λ z lo hi. let k = s z lo hi in let c = all_count z lo (L a) b y.0 y.1 in omega arith) in
      grown (see_lists L b (a ∷ hs)) (see_lists L y.0 hs) (onward_on add a hs b y.0 y.1) n

-- ---- all of a range, and each
pub range_all : (f : ℕ → Bool) (n a : ℕ) → ((z : ℕ) → a ≤ z → z < a + n → f z ≡ true) → all f (range n 1 a) ≡ true
unfolding all range
range_all f zero a g = refl
range_all f (suc n) a g = rw (g a (omega arith) (omega arith), all) (range_all f n (a + 1) (λ z lo hi. g z (omega arith) (omega arith)))

pub range_at : (f : ℕ → Bool) (n a z : ℕ) → all f (range n 1 a) ≡ true → a ≤ z → z < a + n → f z ≡ true
unfolding all range
range_at f zero a z e lo hi = absurd (omega arith)
range_at f (suc n) a z e lo hi =
    let p = if_true (f a) (all f (range n 1 (a + 1))) e in
    go (λ l. range_at f n (a + 1) z p.1 l (omega arith)) p.0 (eqb z a) refl
  where
    go : (a + 1 ≤ z → f z ≡ true) → f a ≡ true → (c : Bool) → eqb z a ≡ c → f z ≡ true
    go ih q true h = rw (eqb-true z a h) q
    go ih q false h = ih (let s = eqb-false z a h in omega arith)

pub iff : (b c : Bool) → (b ≡ true → c ≡ true) → (c ≡ true → b ≡ true) → b ≡ c
iff true true f g = refl
iff true false f g = sym (f refl)
iff false true f g = g refl
iff false false f g = refl

pub and_true : (b c : Bool) → (b && c) ≡ true → (b ≡ true) × (c ≡ true)
and_true true c e = (refl, e)
and_true false c e = (cc, cc)

zero_bit : (k : ℕ) → bit k 0 ≡ 0
unfolding bit
zero_bit zero = refl
zero_bit (suc k) = zero_bit k

pub none : (z : ℕ) → has 0 z ≡ 0
none z = has_bit 0 z ∙ zero_bit (z - first_control)

-- ---- the whole: used once
abbrev pub are_all : Option ℕ → Bool
are_all None = false
are_all (Some b) = eqb b all_pages

module _ (L : Lists) (hs : List ℕ) where
  abbrev end : Option ℕ
  end = see_lists L 0 hs

  abbrev once : ℕ → Bool
  once = λ z. eqb (sum z L hs) 1

  abbrev rules : Bool
  rules = all (λ a. good (L a)) hs && all once (range control_pages 1 first_control)

  full_rules : (o : Option ℕ) → end ≡ o → are_all o ≡ true → rules ≡ true
  full_rules None q h = cc
  full_rules (Some b) q h =
      let e = eqb-true b all_pages h in
      let o : all once (range control_pages 1 first_control) ≡ true =
      range_all once control_pages first_control (λ z lo hi.
      let c = lists_count L z lo hs 0 b q in
      let k = ones_bit control_pages b (z - first_control) (omega arith) (omega arith) in
      eq-eqb (sum z L hs) 1 (omega (arith, has_bit b z, none z))) in
      rw (lists_listed L hs 0 b q, o)

  rules_full : rules ≡ true → are_all end ≡ true
  rules_full h =
      let p = and_true (all (λ a. good (L a)) hs) (all once (range control_pages 1 first_control)) h in
      let one : (z : ℕ) → first_control ≤ z → z < word_values → sum z L hs ≡ 1 =
      λ z lo hi. eqb-true (sum z L hs) 1 (range_at once control_pages first_control z p.1 lo (omega arith)) in
      let l = lists_good L hs 0 (omega arith) p.0 (λ z lo hi. omega (arith, one z lo hi, none z)) in
      let bit_one : (k : ℕ) → k < control_pages → bit k l.0 ≡ 1 =
      λ k q.
      let c = lists_count L (first_control + k) (omega arith) hs 0 l.0 l.1 in
      let w = one (first_control + k) (omega arith) (omega arith) in
      omega (arith, none (first_control + k), page_bit l.0 k) in
      let b = bit_ones control_pages l.0 l.2 bit_one in
      ap are_all l.1 ∙ eq-eqb l.0 all_pages (omega arith)

  pub used_once_lem : are_all end ≡ rules
  used_once_lem = iff (are_all end) rules (full_rules end refl) rules_full
