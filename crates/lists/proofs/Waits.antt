-- The pages of the wait queues are those with the waiting bit exactly if the queues are good, the waiting bits are right and who waits is a
-- processor; where the processors' list is good and holds no page twice.
use Prim.Native.Nat.{ℕ, ◌+◌, ◌≤◌, ◌<◌}
use mathlib.Core.Path.{◌≡◌, refl, sym, ap, ◌∙◌}
use mathlib.Core.Bool.{Bool, true, false, cond, ◌&&◌}
use mathlib.Core.List.{List, [], ◌∷◌}
use native.Mathlib.Omega.{arith}
use lib.Dec.{eqb, leb}
use borrow.Author.Tests.{eq-eqb, le-leb, eqb-true, eqb-false, leb-true}
use Rattle.std.specs.Prelude.{Option, Some, None, filter}
use Rattle.std.specs.Option.{option_eq}
use Rattle.model.specs.Map.{first_control, control_pages, word_values}
use Rattle.model.specs.Rule.{all}
use Rattle.model.specs.Lists.{Lists, hit, count, sum, range}
use Rattle.lists.specs.Seen.{is_page, has, see_lists, flags}
use Rattle.lists.proofs.Bits.{bit, bit_same_all}
use Rattle.lists.proofs.Counting.{above, if_true, in_page, page_bit, all_count, all_good}
use Rattle.lists.proofs.Uses.{good, lists_count, lists_listed, lists_good, range_all, range_at, iff, and_true, none}

-- ---- those of a list that pass
module _ (t : ℕ → Bool) where
  pages_pass : (ps : List ℕ) → all is_page ps ≡ true → all is_page (filter t ps) ≡ true
  unfolding all
  pages_pass [] e = refl
  pages_pass (p ∷ ps) e = let g = if_true (is_page p) (all is_page ps) e in go g.0 (pages_pass ps g.1) (t p)
    where
      go : is_page p ≡ true → all is_page (filter t ps) ≡ true → (c : Bool) → all is_page (cond c (p ∷ filter t ps) (filter t ps)) ≡ true
      go k ih true = rw (k, all) ih
      go k ih false = ih

  zero_more : (c : Bool) (n : ℕ) → cond c n 0 ≡ cond c (0 + n) 0
  zero_more true n = omega arith
  zero_more false n = refl

  count_pass : (z : ℕ) (ps : List ℕ) → count z (filter t ps) ≡ cond (t z) (count z ps) 0
  count_pass z [] = go (t z)
    where
      go : (c : Bool) → ◌≡◌ {A = ℕ} 0 (cond c 0 0)
      go true = refl
      go false = refl
  count_pass z (p ∷ ps) = go (count_pass z ps) (eqb z p) refl (t p) refl
    where
      go : count z (filter t ps) ≡ cond (t z) (count z ps) 0 → (d : Bool) → eqb z p ≡ d → (c : Bool) → t p ≡ c
          → count z (cond c (p ∷ filter t ps) (filter t ps)) ≡ cond (t z) (hit (eqb z p) + count z ps) 0
      go ih true h true k =
          let s : t z ≡ true = ap t (eqb-true z p h) ∙ k in
          let q : count z (filter t ps) ≡ count z ps = rw s at ih in
          rw s (omega arith)
      go ih true h false k =
          let s : t z ≡ false = ap t (eqb-true z p h) ∙ k in
          let q : count z (filter t ps) ≡ 0 = rw s at ih in
          rw s (omega arith)
      go ih false h true k = rw h (let e = ih ∙ zero_more (t z) (count z ps) in omega (arith, e))
      go ih false h false k = rw h (ih ∙ zero_more (t z) (count z ps))

-- ---- each of a list, and a member
member : (g : ℕ → Bool) (z : ℕ) (ps : List ℕ) → all g ps ≡ true → count z ps ≡ 1 → g z ≡ true
unfolding all
member g z [] e n = absurd (omega arith)
member g z (p ∷ ps) e n = go (if_true (g p) (all g ps) e) (λ a k. member g z ps a k) (eqb z p) refl
  where
    go : (g p ≡ true) × (all g ps ≡ true) → (all g ps ≡ true → count z ps ≡ 1 → g z ≡ true) → (c : Bool) → eqb z p ≡ c → g z ≡ true
    go q ih true h = rw (eqb-true z p h) q.0
    go q ih false h = ih q.1 (let k : hit (eqb z p) ≡ 0 = rw h in omega arith)

some_page : (z : ℕ) (qs : List ℕ) → all is_page qs ≡ true → 1 ≤ count z qs → is_page z ≡ true
unfolding all
some_page z [] e l = absurd (omega arith)
some_page z (q ∷ qs) e l = go (if_true (is_page q) (all is_page qs) e) (λ a k. some_page z qs a k) (eqb z q) refl
  where
    go : (is_page q ≡ true) × (all is_page qs ≡ true) → (all is_page qs ≡ true → 1 ≤ count z qs → is_page z ≡ true) → (c : Bool) → eqb z q ≡ c → is_page z ≡ true
    go g ih true h = rw (eqb-true z q h) g.0
    go g ih false h = ih g.1 (let k : hit (eqb z q) ≡ 0 = rw h in omega arith)

each_of_all : (g : ℕ → Bool) (ps qs : List ℕ) → ((z : ℕ) → 1 ≤ count z qs → g z ≡ true) → ((z : ℕ) → count z ps ≤ count z qs) → all g ps ≡ true
unfolding all
each_of_all g [] qs k s = refl
each_of_all g (p ∷ ps) qs k s =
    let e : hit (eqb p p) ≡ 1 = rw (eq-eqb p p refl) in
    rw (k p (let w = s p in omega arith), all) (each_of_all g ps qs k (λ z. let w = s z in omega arith))

-- ---- the whole: the wait queues
module _ (L : Lists) (hs ps : List ℕ) (f : ℕ → ℕ) (bits : (z : ℕ) → f z ≤ 1) (pages : all is_page ps ≡ true)
    (single : (z : ℕ) → first_control ≤ z → z < word_values → count z ps ≤ 1) where
  abbrev found : Option ℕ
  found = see_lists L 0 hs

  abbrev waits : ℕ → Bool
  waits = λ p. eqb (f p) 1

  -- the waiting bit is right; who waits is a processor
  abbrev right : ℕ → Bool
  right = λ p. eqb (sum p L hs) (f p)

  abbrev known : ℕ → Bool
  known = λ z. leb (sum z L hs) (count z ps)

  abbrev rules : Bool
  rules = all (λ a. good (L a)) hs && (all right ps && all known (range control_pages 1 first_control))

  -- what of the waiting ones is in the list
  flag_none : (z : ℕ) → count z ps ≡ 0 → count z (filter waits ps) ≡ 0
  flag_none z e = count_pass waits z ps ∙ rw e (go (waits z))
    where
      go : (c : Bool) → ◌≡◌ {A = ℕ} (cond c 0 0) 0
      go true = refl
      go false = refl

  flag_one : (z : ℕ) → count z ps ≡ 1 → count z (filter waits ps) ≡ f z
  flag_one z e = count_pass waits z ps ∙ rw e (go (waits z) refl (bits z))
    where
      go : (c : Bool) → waits z ≡ c → f z ≤ 1 → cond c 1 0 ≡ f z
      go true h l = sym (eqb-true (f z) 1 h)
      go false h l = let q = eqb-false (f z) 1 h in omega arith

  flag_most : (z : ℕ) → count z (filter waits ps) ≤ count z ps
  flag_most z = rw (count_pass waits z ps) (go (waits z))
    where
      go : (c : Bool) → cond c (count z ps) 0 ≤ count z ps
      go true = omega arith
      go false = omega arith

  flagged_is : (w : ℕ) × (flags f 0 ps ≡ Some w) × (w < above)
  flagged_is = all_good (filter waits ps) 0 (omega arith) (pages_pass waits ps pages) (λ z lo hi. omega (arith, none z, single z lo hi, flag_most z))

  abbrev flagged : ℕ
  flagged = flagged_is.0

  flag_count : (z : ℕ) → first_control ≤ z → has flagged z ≡ count z (filter waits ps)
  flag_count z lo = omega (arith, none z, all_count z lo (filter waits ps) 0 flagged flagged_is.1)

  in_range_lem : (z : ℕ) → 1 ≤ count z ps → (first_control ≤ z) × (z < word_values)
  in_range_lem z n = in_page z (some_page z ps pages n)

  -- from the pages found
  module _ (b : ℕ) (is : found ≡ Some b) (e : b ≡ flagged) where
    waits_flag : (z : ℕ) → first_control ≤ z → sum z L hs ≡ count z (filter waits ps)
    waits_flag z lo =
        let c = lists_count L z lo hs 0 b is in
        let q : has b z ≡ has flagged z = ap (λ (y : ℕ). has y z) e in
        omega (arith, none z, flag_count z lo)

    are_right : (z : ℕ) → 1 ≤ count z ps → right z ≡ true
    are_right z n =
        let r = in_range_lem z n in
        let o = single z r.0 r.1 in
        let one : count z ps ≡ 1 = omega arith in
        eq-eqb (sum z L hs) (f z) (waits_flag z r.0 ∙ flag_one z one)

    are_known : (z : ℕ) → first_control ≤ z → known z ≡ true
    are_known z lo = le-leb (sum z L hs) (count z ps) (omega (arith, waits_flag z lo, flag_most z))

    from_found : rules ≡ true
    from_found =
        let r : all right ps ≡ true = each_of_all right ps ps are_right (λ z. omega arith) in
        let k : all known (range control_pages 1 first_control) ≡ true = range_all known control_pages first_control (λ z lo hi. are_known z lo) in
        rw (lists_listed L hs 0 b is, r, k)

  found_rules : (o : Option ℕ) → found ≡ o → option_eq eqb o (Some flagged) ≡ true → rules ≡ true
  found_rules None q h = cc
  found_rules (Some b) q h = from_found b q (eqb-true b flagged h)

  -- from the rules
  module _ (most : (z : ℕ) → first_control ≤ z → z < word_values → sum z L hs ≤ count z ps) (r : all right ps ≡ true) where
    flag_waits : (z : ℕ) → first_control ≤ z → z < word_values → sum z L hs ≡ count z (filter waits ps)
    flag_waits z lo hi = go (most z lo hi) (single z lo hi) (eqb (count z ps) 1) refl
      where
        go : sum z L hs ≤ count z ps → count z ps ≤ 1 → (c : Bool) → eqb (count z ps) 1 ≡ c → sum z L hs ≡ count z (filter waits ps)
        go m o true h =
            let q = eqb-true (count z ps) 1 h in
            eqb-true (sum z L hs) (f z) (member right z ps r q) ∙ sym (flag_one z q)
        go m o false h = let q = eqb-false (count z ps) 1 h in omega (arith, flag_none z (omega arith))

    bits_same : (b : ℕ) → found ≡ Some b → (k : ℕ) → k < control_pages → bit k b ≡ bit k flagged
    bits_same b is k q =
        let c = lists_count L (first_control + k) (omega arith) hs 0 b is in
        let w = flag_count (first_control + k) (omega arith) in
        let g = flag_waits (first_control + k) (omega arith) (omega arith) in
        omega (arith, none (first_control + k), page_bit b k, page_bit flagged k)

  rules_found : rules ≡ true → option_eq eqb found (Some flagged) ≡ true
  rules_found h =
      let a = and_true (all (λ a. good (L a)) hs) (all right ps && all known (range control_pages 1 first_control)) h in
      let b = and_true (all right ps) (all known (range control_pages 1 first_control)) a.1 in
      let most : (z : ℕ) → first_control ≤ z → z < word_values → sum z L hs ≤ count z ps =
      λ z lo hi. leb-true (sum z L hs) (count z ps) (range_at known control_pages first_control z b.1 lo (omega arith)) in
      let l = lists_good L hs 0 (omega arith) a.0 (λ z lo hi. omega (arith, most z lo hi, single z lo hi, none z)) in
      let s : l.0 ≡ flagged = bit_same_all control_pages l.0 flagged l.2 flagged_is.2 (bits_same most b.0 l.0 l.1) in
      ap (λ (o : Option ℕ). option_eq eqb o (Some flagged)) l.1 ∙ eq-eqb l.0 flagged s

  pub waits_are : option_eq eqb found (flags f 0 ps) ≡ rules
  waits_are =
      ap (λ (o : Option ℕ). option_eq eqb found o) flagged_is.1
      ∙ iff (option_eq eqb found (Some flagged)) rules (found_rules found refl) rules_found
