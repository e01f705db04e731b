-- Pages seen are counts: with the pages of a list, page z is among them as often as it stands there; and where a list holds control pages and none
-- twice, they can be added. A list of which all can be added is no longer than there are pages.
use Prim.Native.Nat.{ℕ, ◌+◌, ◌-◌, ◌*◌, ◌/◌, ◌%◌, ◌≤◌, ◌<◌, ◌^◌}
use mathlib.Core.Path.{◌≡◌, refl, sym, ap, ◌∙◌}
use mathlib.Core.Bool.{Bool, true, false, cond}
use mathlib.Core.List.{List, [], ◌∷◌}
use native.Mathlib.Omega.{arith}
use lib.Dec.{eqb, leb}
use lib.ListN.{length}
use lib.Pow.{pow-lt}
use borrow.Author.Tests.{eq-eqb, ne_eqb, le-leb, lt-leb, eqb-true, eqb-false, leb-true}
use Rattle.std.specs.Prelude.{Option, Some, None}
use Rattle.model.specs.Map.{first_control, last_control, control_pages, word_values}
use Rattle.model.specs.Rule.{holds, all}
use Rattle.model.specs.Lists.{hit, count}
use Rattle.lists.proofs.Folds.{lies_is}
use Rattle.lists.specs.Seen as Seen
use Rattle.lists.specs.Seen.{is_page, has, see, onward, see_all}
use Rattle.lists.proofs.Onward.{none_some, same_some, onward_cons, onward_on}
use Rattle.lists.proofs.Bits.{bit, bit_is, bit_most, bit_same, bit_other, bit_below, ones, ones_more, ones_most}

-- what is above every number of pages
abbrev pub above : ℕ
above = 1048576

pub if_true : (b c : Bool) → elim b [ true ↦ c | false ↦ false ] ≡ true → (b ≡ true) × (c ≡ true)
if_true true c e = (refl, e)
if_true false c e = (cc, cc)

page_yes : (x : ℕ) → first_control ≤ x → x < word_values → is_page x ≡ true
unfolding Seen.is_page
page_yes x lo hi = sym (lies_is x first_control last_control true (rw (le-leb first_control x lo, le-leb x last_control (omega arith))))

page_no : (x : ℕ) → x < first_control → is_page x ≡ false
unfolding Seen.is_page
page_no x h = sym (lies_is x first_control last_control false (rw (lt-leb first_control x h)))

pub in_page : (x : ℕ) → is_page x ≡ true → (first_control ≤ x) × (x < word_values)
unfolding Seen.is_page holds
in_page x e =
    let p = if_true (leb first_control x) (leb x last_control) e in
    let lo = leb-true first_control x p.0 in
    let hi = leb-true x last_control p.1 in
    (lo, omega arith)

pub has_bit : (b z : ℕ) → has b z ≡ bit (z - first_control) b
unfolding Seen.has
has_bit b z = bit_is (z - first_control) b

pub page_bit : (b k : ℕ) → has b (first_control + k) ≡ bit k b
page_bit b k = let e : first_control + k - first_control ≡ k = omega arith in has_bit b (first_control + k) ∙ ap (λ (y : ℕ). bit y b) e

pub has_most : (b z : ℕ) → has b z ≤ 1
has_most b z = omega (arith, has_bit b z, bit_most (z - first_control) b)

-- ---- one page: the three ways
pub see_out : (b x : ℕ) → x < first_control → None ≡ see b x
unfolding Seen.see
see_out b x h = rw (page_no x h)

module _ (b x k : ℕ) (lo : first_control ≤ x) (hi : x < word_values) (ek : k ≡ x - first_control) where
  is_has : b / 2 ^ k % 2 ≡ has b x
  unfolding Seen.has
  is_has = ap (λ (y : ℕ). b / 2 ^ y % 2) ek

  see_twice : b / 2 ^ k % 2 ≡ 1 → None ≡ see b x
  unfolding Seen.see
  see_twice h = rw (page_yes x lo hi, eq-eqb (has b x) 1 (sym is_has ∙ h))

  see_new : b / 2 ^ k % 2 ≡ 0 → Some (b + 2 ^ k) ≡ see b x
  unfolding Seen.see
  see_new h = rw (page_yes x lo hi, ne_eqb (has b x) 1 (λ q. omega (arith, is_has)), ek)

  see_below : b < above → b / 2 ^ k % 2 ≡ 0 → b + 2 ^ k < above
  see_below h q =
      let e : bit k b ≡ 0 = omega (arith, bit_is k b) in
      let l = bit_below control_pages k b h (omega arith) e in
      omega arith

-- the same as the code has them: v is the number b as callers see it, and a bit is the remainder of a shift
module _ (b x k : ℕ) (ek : k ≡ x - first_control) (lo : first_control ≤ x) (hi : x < word_values) where
  is_bit : 1 * 2 ^ k % 4294967296 ≡ 2 ^ k
  is_bit = let l : 2 ^ k < 2 ^ control_pages = pow-lt {i = k} {j = control_pages} (omega arith) in omega arith

  pub bit_twice : (v : ℕ) → b ≡ v → (b / 2 ^ k % 2 ≡ 0 → ⊥) → None ≡ see v x
  bit_twice v e n = let h : b / 2 ^ k % 2 ≡ 1 = omega arith in rw (← e) (see_twice b x k lo hi ek h)

  pub bit_new : (v : ℕ) → b ≡ v → b / 2 ^ k % 2 ≡ 0 → Some (b + 1 * 2 ^ k % 4294967296) ≡ see v x
  bit_new v e h = rw (is_bit, ← e) (see_new b x k lo hi ek h)

  pub bit_fits : b < above → b / 2 ^ k % 2 ≡ 0 → b + 1 * 2 ^ k % 4294967296 < above
  bit_fits h q = rw is_bit (see_below b x k lo hi ek h q)

pub ruleset seeing = (see_out, bit_twice, bit_new, bit_fits)

-- what is known of pages with one more
pub see_good : (b x c : ℕ) → see b x ≡ Some c → (is_page x ≡ true) × (has b x ≡ 0) × (c ≡ b + 2 ^ (x - first_control))
unfolding Seen.see
see_good b x c e = go (is_page x) refl (eqb (has b x) 1) refl e
  where
    go : (p : Bool) → is_page x ≡ p → (d : Bool) → eqb (has b x) 1 ≡ d → cond p (cond d None (Some (b + 2 ^ (x - first_control)))) None ≡ Some c
        → (is_page x ≡ true) × (has b x ≡ 0) × (c ≡ b + 2 ^ (x - first_control))
    go false h d k q = absurd (none_some q)
    go true h true k q = absurd (none_some q)
    go true h false k q = (h, omega (arith, has_most b x, eqb-false (has b x) 1 k), sym (same_some q))

-- a page that was not among them is added
pub see_yes : (b x : ℕ) → first_control ≤ x → x < word_values → has b x ≡ 0 → b < above → (c : ℕ) × (see b x ≡ Some c) × (c < above)
unfolding Seen.has
see_yes b x lo hi q h =
    (b + 2 ^ (x - first_control), sym (see_new b x (x - first_control) lo hi refl q), see_below b x (x - first_control) lo hi refl h q)

module _ (z : ℕ) (lo : first_control ≤ z) where
  pub see_count : (b x c : ℕ) → see b x ≡ Some c → has c z ≡ has b z + hit (eqb z x)
  see_count b x c e =
      let g = see_good b x c e in
      let p = in_page x g.0 in
      go p.0 (sym (has_bit b x) ∙ g.1) g.2 (eqb z x) refl
    where
      go : first_control ≤ x → bit (x - first_control) b ≡ 0 → c ≡ b + 2 ^ (x - first_control) → (d : Bool) → eqb z x ≡ d → has c z ≡ has b z + hit d
      go g q k true h =
          let s = eqb-true z x h in
          let u : bit (z - first_control) b ≡ 0 = rw s q in
          let v : bit (z - first_control) (b + 2 ^ (x - first_control)) ≡ 1 = rw s (bit_same (x - first_control) b q) in
          rw k (omega (arith, has_bit (b + 2 ^ (x - first_control)) z, has_bit b z))
      go g q k false h =
          let s = eqb-false z x h in
          let v = bit_other (x - first_control) (z - first_control) b q (λ (y : z - first_control ≡ x - first_control). s (omega arith)) in
          rw k (omega (arith, has_bit (b + 2 ^ (x - first_control)) z, has_bit b z))

  -- the law of the pages seen
  pub all_count : (xs : List ℕ) (b c : ℕ) → see_all b xs ≡ Some c → has c z ≡ has b z + count z xs
  unfolding Seen.onward
  all_count [] b c e = let s : b ≡ c = same_some e in rw s (omega arith)
  all_count (x ∷ xs) b c e =
      let n = onward_cons see x xs b c e in
      omega (arith, see_count b x n.0 n.1, all_count xs n.0 c n.2)

-- and they are control pages
pub all_pages_lem : (xs : List ℕ) (b c : ℕ) → see_all b xs ≡ Some c → all is_page xs ≡ true
unfolding all
all_pages_lem [] b c e = refl
all_pages_lem (x ∷ xs) b c e =
    let n = onward_cons see x xs b c e in
    let g = see_good b x n.0 n.1 in
    rw (g.0, all) (all_pages_lem xs n.0 c n.2)

-- and no more than there are
all_ones : (xs : List ℕ) (b c : ℕ) → see_all b xs ≡ Some c → ones control_pages b + length xs ≡ ones control_pages c
unfolding Seen.onward
all_ones [] b c e = let s : b ≡ c = same_some e in rw s (omega arith)
all_ones (x ∷ xs) b c e =
    let n = onward_cons see x xs b c e in
    let g = see_good b x n.0 n.1 in
    let p = in_page x g.0 in
    let m = ones_more control_pages (x - first_control) b (omega arith) (sym (has_bit b x) ∙ g.1) in
    omega (arith, m, ap (ones control_pages) g.2, all_ones xs n.0 c n.2)

pub all_end : (xs : List ℕ) (b c : ℕ) → see_all b xs ≡ Some c → length xs ≤ control_pages
all_end xs b c e = omega (arith, all_ones xs b c e, ones_most control_pages c)

-- the other way round: control pages, none twice
abbrev pub Single : ℕ → (ℕ → ℕ) → Type 0
Single b f = (z : ℕ) → first_control ≤ z → z < word_values → has b z + f z ≤ 1

pub grown : (o k : Option ℕ) → o ≡ k → (c : ℕ) × (k ≡ Some c) × (c < above) → (c : ℕ) × (o ≡ Some c) × (c < above)
grown o k e n = (n.0, e ∙ n.1, n.2)

pub all_good : (xs : List ℕ) (b : ℕ) → b < above → all is_page xs ≡ true → Single b (λ z. count z xs) → (c : ℕ) × (see_all b xs ≡ Some c) × (c < above)
unfolding Seen.onward all
all_good [] b h e s = (b, refl, h)
all_good (x ∷ xs) b h e s =
    let p = if_true (is_page x) (all is_page xs) e in
    let r = in_page x p.0 in
    let one : has b x + count x (x ∷ xs) ≤ 1 = s x r.0 r.1 in
    let same : hit (eqb x x) ≡ 1 = rw (eq-eqb x x refl) in
    let y = see_yes b x r.0 r.1 (omega arith) h in
    let n = all_good xs y.0 y.2 p.1 (λ z lo hi. let k = s z lo hi in let c = see_count z lo b x y.0 y.1 in omega arith) in
    grown (see_all b (x ∷ xs)) (see_all y.0 xs) (onward_on see x xs b y.0 y.1) n
