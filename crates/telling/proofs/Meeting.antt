-- Marks are counts: the mark of a page is how often it stands in the lists, up to twice. A law for each way through the marking, and for what
-- is asked of a page by its mark.
use Prim.Native.Nat.{ℕ, zero, suc, min, ◌+◌, ◌-◌, ◌*◌, ◌/◌, ◌%◌, ◌^◌, ◌≤◌, ◌<◌}
use mathlib.Core.Path.{◌≡◌, refl, sym, ap, ◌∙◌}
use mathlib.Core.Bool.{Bool, true, false, cond}
use mathlib.Core.List.{List, [], ◌∷◌, ◌++◌}
use native.Mathlib.Omega.{arith}
use lib.Dec.{eqb, leb, ltb}
use lib.Pow.{pow-lt, pow_pos}
use borrow.Author.Tests.{eq-eqb, ne_eqb, eqb-true, eqb-false, lt-ltb, le-ltb, ltb-true, ltb-false, le-leb, lt-leb, leb-true, leb-false}
use Rattle.std.specs.Prelude.{fold}
use Rattle.std.specs.List.{range_with_len}
use Rattle.model.specs.Map.{first_control, last_name, place, own_queue, q1, q2, free_list, grant_for, header_after, interrupts}
use Rattle.model.specs.Map.{page_queue, processor_list, label}
use Rattle.model.specs.Map.{state}
use Rattle.model.specs.Store.{bytes}
use Rattle.model.specs.Rule.{same, holds, most as at_most}
use Rattle.model.specs.Judge as Judge
use Rattle.model.specs.Classes as Classes
use Rattle.telling.proofs.Parts.{both_yes, both_no, same_is, most_is, unless_yes, unless_no}
use Rattle.model.specs.Lists.{Lists, hit, count, sum, each_of, range, mails, owns, queues}
use Rattle.model.specs.Classes.{used}
use Rattle.model.specs.Bytes.{Memory, at, word, name, met}
use Rattle.laws.specs.Chain.{Pages}
use Rattle.laws.specs.Met.{met_pages}
use Rattle.telling.specs.Rows.{here, ranked}
use Rattle.telling.specs.Met as Met
use Rattle.telling.specs.Met.{most, times, seen, marked, marked_all, marked_lists, title, titles, used_marks, wait_marks, list_marks, name_marks, Single}
use Rattle.telling.proofs.Digits.{digit, digit_is, digit_same, digit_other, digit_below}

-- ---- what a mark weighs, as it is shifted
pub unit_is : (x k r : ℕ) → x < 256 → k ≡ 2 * (x - first_control) → r ≡ (1 * 2 ^ k) % 2 ^ 64
    → (r ≡ 2 ^ (2 * (x - first_control))) × (0 < r) × (r < most)
unit_is x k r hi ek er =
    let l : 2 ^ k < 2 ^ 40 = pow-lt {i = k} {j = 40} (omega arith) in
    let p = pow_pos k in
    let e : r ≡ 2 ^ k = omega arith in
    (e ∙ ap (λ (y : ℕ). 2 ^ y) ek, omega arith, omega arith)

times_digit : (t z : ℕ) → times t z ≡ digit (z - first_control) t
unfolding Met.times
times_digit t z = digit_is (z - first_control) t

-- ---- one page more: of the marks t, seen as s
module _ (t s x u : ℕ) (es : t ≡ s) (eu : u ≡ 2 ^ (2 * (x - first_control))) where
  times_is : t / u % 4 ≡ times s x
  unfolding Met.times
  times_is = rw (eu, es)

  pub seen_here : first_control ≤ x → t / u % 4 ≡ seen s x
  unfolding Met.seen
  seen_here h = rw (le-leb first_control x h) times_is

  pub mark_new : t / u % 4 < 2 → t + u ≡ marked s x
  unfolding Met.marked
  mark_new h = rw (← times_is, lt-ltb (t / u % 4) 2 h, eu, es)

  pub mark_full : 2 ≤ t / u % 4 → t ≡ marked s x
  unfolding Met.marked
  mark_full h = rw (← times_is, le-ltb (t / u % 4) 2 h, es)

  pub mark_below : x < 256 → t < most → t / u % 4 < 2 → t + u < most
  mark_below hi b h =
      let q = times_is in
      rw eu (digit_below 20 (x - first_control) t b (omega arith) (omega (arith, es, times_digit s x, ap (digit (x - first_control)) es)))

pub seen_low : (s x : ℕ) → x < first_control → 0 ≡ seen s x
unfolding Met.seen
seen_low s x h = rw (lt-leb first_control x h)

-- the mark of page z, with page x once more
mark_times : (t x z : ℕ) → first_control ≤ x → first_control ≤ z → times t z ≤ 2 → times (marked t x) z ≡ min 2 (times t z + hit (eqb z x))
unfolding Met.marked
mark_times t x z lx lz h = go (eqb z x) refl (ltb (times t x) 2) refl
  where
    go : (b : Bool) → eqb z x ≡ b → (c : Bool) → ltb (times t x) 2 ≡ c
        → times (cond c (t + 2 ^ (2 * (x - first_control))) t) z ≡ min 2 (times t z + hit b)
    go true e true k =
        let q = eqb-true z x e in
        let f : times t z ≡ times t x = ap (times t) q in
        let g : times (t + 2 ^ (2 * (x - first_control))) z ≡ times (t + 2 ^ (2 * (x - first_control))) x = ap (times (t + 2 ^ (2 * (x - first_control)))) q in
        let l = ltb-true (times t x) 2 k in
        let d = digit_same (x - first_control) t (omega (arith, times_digit t x)) in
        omega (arith, times_digit t x, times_digit (t + 2 ^ (2 * (x - first_control))) x)
    go true e false k =
        let f : times t z ≡ times t x = ap (times t) (eqb-true z x e) in
        let l = ltb-false (times t x) 2 k in
        omega arith
    go false e true k =
        let n = eqb-false z x e in
        let l = ltb-true (times t x) 2 k in
        let d = digit_other (x - first_control) (z - first_control) t (omega (arith, times_digit t x)) (λ q. n (omega arith)) in
        omega (arith, times_digit t z, times_digit (t + 2 ^ (2 * (x - first_control))) z)
    go false e false k = omega arith

digit_zero : (k : ℕ) → digit k 0 ≡ 0
unfolding digit
digit_zero zero = refl
digit_zero (suc k) = digit_zero k

-- ---- a list of control pages
all_times : (t z : ℕ) (xs : List ℕ) → Pages xs → first_control ≤ z → times t z ≤ 2 → times (marked_all t xs) z ≡ min 2 (times t z + count z xs)
all_times t z [] p lz h = omega arith
all_times t z (x ∷ xs) p lz h =
    let e = mark_times t x z p.0.0 lz h in
    let i = all_times (marked t x) z xs p.1 lz (omega arith) in
    omega arith

lists_times : (t z : ℕ) (L : Lists) (hs : List ℕ) → ((a : ℕ) → Pages (L a)) → first_control ≤ z → times t z ≤ 2
    → times (marked_lists t L hs) z ≡ min 2 (times t z + sum z L hs)
lists_times t z L [] p lz h = omega arith
lists_times t z L (a ∷ hs) p lz h =
    let e = all_times t z (L a) (p a) lz h in
    let i = lists_times (marked_all t (L a)) z L hs p lz (omega arith) in
    omega arith

-- no page is met yet
none_yet_lem : (z : ℕ) → times 0 z ≡ 0
unfolding Met.times
none_yet_lem z = go (z - first_control)
  where
    go : (k : ℕ) → 0 / 2 ^ (2 * k) % 4 ≡ 0
    go k = digit_is k 0 ∙ digit_zero k

-- what is no control page is in no list
count_low : (z : ℕ) (xs : List ℕ) → Pages xs → z < first_control → count z xs ≡ 0
count_low z [] p l = refl
count_low z (x ∷ xs) p l = let n : z ≡ x → ⊥ = λ q. omega (arith, p.0.0) in rw (ne_eqb z x n) (omega (arith, count_low z xs p.1 l))

sum_low : (z : ℕ) (L : Lists) (hs : List ℕ) → ((a : ℕ) → Pages (L a)) → z < first_control → sum z L hs ≡ 0
sum_low z L [] p l = refl
sum_low z L (a ∷ hs) p l = omega (arith, count_low z (L a) (p a) l, sum_low z L hs p l)

seen_is : (t z n : ℕ) → (first_control ≤ z → times t z ≡ min 2 n) → (z < first_control → n ≡ 0) → seen t z ≡ min 2 n
unfolding Met.seen
seen_is t z n h l = go (leb first_control z) refl
  where
    go : (b : Bool) → leb first_control z ≡ b → cond b (times t z) 0 ≡ min 2 n
    go true e = h (leb-true first_control z e)
    go false e = omega (arith, l (leb-false first_control z e))

module _ (z : ℕ) where
  all_seen : (xs : List ℕ) → Pages xs → seen (marked_all 0 xs) z ≡ min 2 (count z xs)
  all_seen xs p =
      seen_is (marked_all 0 xs) z (count z xs)
      (λ lz. all_times 0 z xs p lz (omega (arith, none_yet_lem z)) ∙ ap (min 2) (omega (arith, none_yet_lem z)))
      (count_low z xs p)

  lists_seen : (L : Lists) (hs : List ℕ) → ((a : ℕ) → Pages (L a)) → seen (marked_lists 0 L hs) z ≡ min 2 (sum z L hs)
  lists_seen L hs p =
      seen_is (marked_lists 0 L hs) z (sum z L hs)
      (λ lz. lists_times 0 z L hs p lz (omega (arith, none_yet_lem z)) ∙ ap (min 2) (omega (arith, none_yet_lem z)))
      (sum_low z L hs p)

module _ (m : Memory) (z : ℕ) where
  used_seen : seen (used_marks m) z ≡ min 2 (sum z (met m) (used (met m processor_list)))
  unfolding Met.used_marks
  used_seen = lists_seen z (met m) (used (met m processor_list)) (met_pages m)

  wait_seen : seen (wait_marks m) z ≡ min 2 (sum z (met m) (queues (met m processor_list)))
  unfolding Met.wait_marks
  wait_seen = lists_seen z (met m) (queues (met m processor_list)) (met_pages m)

  list_seen : seen (list_marks m) z ≡ min 2 (count z (met m processor_list))
  unfolding Met.list_marks
  list_seen = all_seen z (met m processor_list) (met_pages m processor_list)

-- names are told apart by their pages
title_count : (m : Memory) (k : ℕ) (ps : List ℕ) → count (title k) (titles m ps) ≡ count k (each_of (name m) ps)
unfolding Met.title
title_count m k [] = refl
title_count m k (p ∷ ps) = rw (title_count m k ps, same (eqb k (name m p)) refl)
  where
    same : (b : Bool) → eqb k (name m p) ≡ b → eqb (first_control + k) (first_control + name m p) ≡ eqb k (name m p)
    same true e =
        ap (λ (x : ℕ). eqb (first_control + k) (first_control + x)) (sym (eqb-true k (name m p) e)) ∙ eq-eqb (first_control + k) (first_control + k) refl
        ∙ sym e
    same false e = ne_eqb (first_control + k) (first_control + name m p) (λ q. eqb-false k (name m p) e (omega arith)) ∙ sym e

title_pages : (m : Memory) (ps : List ℕ) → Pages (titles m ps)
unfolding Met.title
title_pages m [] = tt
title_pages m (p ∷ ps) = ((omega arith, omega arith), title_pages m ps)

name_seen : (m : Memory) (k : ℕ) → seen (name_marks m) (title k) ≡ min 2 (count k (each_of (name m) (met m processor_list)))
unfolding Met.name_marks
name_seen m k =
    all_seen (title k) (titles m (met m processor_list)) (title_pages m (met m processor_list)) ∙ ap (min 2) (title_count m k (met m processor_list))

-- ---- what is asked of a page by its mark
once_eq : (n : ℕ) → eqb (min 2 n) 1 ≡ eqb n 1
once_eq n = go (eqb n 1) refl
  where
    go : (b : Bool) → eqb n 1 ≡ b → eqb (min 2 n) 1 ≡ b
    go true e = eq-eqb (min 2 n) 1 (omega (arith, eqb-true n 1 e))
    go false e = let f = eqb-false n 1 e in ne_eqb (min 2 n) 1 (λ q. f (omega arith))

bit_eq : (n v : ℕ) → v ≤ 1 → eqb (min 2 n) v ≡ eqb n v
bit_eq n v h = go (eqb n v) refl
  where
    go : (b : Bool) → eqb n v ≡ b → eqb (min 2 n) v ≡ b
    go true e = eq-eqb (min 2 n) v (omega (arith, eqb-true n v e))
    go false e = let f = eqb-false n v e in ne_eqb (min 2 n) v (λ q. f (omega arith))

most_eq : (n k : ℕ) → k ≤ 1 → leb (min 2 n) (min 2 k) ≡ leb n k
most_eq n k h = go (leb n k) refl
  where
    go : (b : Bool) → leb n k ≡ b → leb (min 2 n) (min 2 k) ≡ b
    go true e = le-leb (min 2 n) (min 2 k) (omega (arith, leb-true n k e))
    go false e = lt-leb (min 2 n) (min 2 k) (omega (arith, leb-false n k e))

some_eq : (n : ℕ) → leb 1 (min 2 n) ≡ leb 1 n
some_eq n = go (leb 1 n) refl
  where
    go : (b : Bool) → leb 1 n ≡ b → leb 1 (min 2 n) ≡ b
    go true e = le-leb 1 (min 2 n) (omega (arith, leb-true 1 n e))
    go false e = lt-leb 1 (min 2 n) (omega (arith, leb-false 1 n e))

module _ (m : Memory) (t z n : ℕ) where
  pub once_by : t ≡ used_marks m → n ≡ seen t z → eqb n 1 ≡ holds (here (Classes.once bytes) m z)
  unfolding Classes.once
  once_by et en = rw (en, et, used_seen m z) (once_eq (sum z (met m) (used (met m processor_list))) ∙ same_is (sum z (met m) (used (met m processor_list))) 1)

  pub bit_by : (w v : ℕ) → t ≡ wait_marks m → n ≡ seen t z → w ≡ word m z state → v ≡ w % 128 / 64 → eqb n v ≡ holds (here (Judge.bit bytes) m z)
  unfolding Judge.bit
  bit_by w v et en ew ev =
      let s = sum z (met m) (queues (met m processor_list)) in
      rw (en, et, wait_seen m z) (bit_eq s v (omega arith) ∙ rw (← ew, ← ev) (same_is s v))

  pub waiter_by : (u k : ℕ) → t ≡ wait_marks m → u ≡ list_marks m → Single m → n ≡ seen t z → k ≡ seen u z
      → leb n k ≡ holds (here (Judge.waiter bytes) m z)
  unfolding Judge.waiter Met.Single
  waiter_by u k et eu s en ek =
      let x = sum z (met m) (queues (met m processor_list)) in
      let y = count z (met m processor_list) in
      rw (en, ek, et, eu, wait_seen m z, list_seen m z) (most_eq x y (s z) ∙ most_is x y)

module _ (m : Memory) (t n : ℕ) (et : t ≡ name_marks m) where
  module _ (p w c : ℕ) (ew : w ≡ word m p label) (ec : c ≡ title (w % 16)) (en : n ≡ seen t c) where
    name_is : eqb n 1 ≡ holds (same (count (w % 16) (each_of (name m) (met m processor_list))) 1)
    name_is = let k = count (w % 16) (each_of (name m) (met m processor_list)) in rw (en, et, ec, name_seen m (w % 16)) (once_eq k ∙ same_is k 1)

    pub label_own : (b : Bool) → n ≡ 1 → b ≡ holds (ranked w) → b ≡ holds (here (Judge.label bytes) m p)
    unfolding Judge.label
    label_own b h eb = rw (← ew) (both_yes _ _ b (sym (eq-eqb n 1 h) ∙ name_is) eb)

    pub label_other : (n ≡ 1 → ⊥) → false ≡ holds (here (Judge.label bytes) m p)
    unfolding Judge.label
    label_other h = rw (← ew) (both_no _ _ (sym (ne_eqb n 1 h) ∙ name_is))

  -- the grant of name k, at g
  module _ (k g w : ℕ) (eg : g ≡ grant_for k) (ew : w ≡ at m g) where
    pub existing_none : w ≡ 0 → true ≡ holds (here (Classes.existing bytes) m k)
    unfolding Classes.existing
    existing_none h = rw (← eg, ← ew) (unless_yes w 0 _ h)

    pub existing_by : (c : ℕ) → (w ≡ 0 → ⊥) → c ≡ title k → n ≡ seen t c → leb 1 n ≡ holds (here (Classes.existing bytes) m k)
    unfolding Classes.existing
    existing_by c h ec en =
        let x = count k (each_of (name m) (met m processor_list)) in
        let e : leb 1 n ≡ holds (at_most 1 x) = rw (en, et, ec, name_seen m k) (some_eq x ∙ most_is 1 x) in
        rw (← eg, ← ew) (unless_no w 0 _ (leb 1 n) h e)

pub ruleset labels = (label_own, label_other)

pub ruleset existing = (existing_none, existing_by)

-- ---- the marking, as folds go: along a list, over the processors' mail, their own queues and names, over grants and interrupts
pub fold_marks : (t : ℕ) (xs : List ℕ) → fold marked t xs ≡ marked_all t xs
fold_marks t [] = refl
fold_marks t (x ∷ xs) = fold_marks (marked t x) xs

module _ (m : Memory) where
  abbrev pub mails_of : ℕ → ℕ → ℕ
  mails_of t p = marked_all (marked_all t (met m (place p q1))) (met m (place p q2))

  abbrev pub owns_of : ℕ → ℕ → ℕ
  owns_of t p = marked_all t (met m (place p own_queue))

  abbrev pub name_of : ℕ → ℕ → ℕ
  name_of t p = marked t (title (name m p))

  abbrev pub grant_of : ℕ → ℕ → ℕ
  grant_of t k = marked_all t (met m (grant_for k))

  abbrev pub queue_of : ℕ → ℕ → ℕ
  queue_of t k = marked_all t (met m (header_after k))

  fold_mails : (t : ℕ) (ps : List ℕ) → fold mails_of t ps ≡ marked_lists t (met m) (mails ps)
  fold_mails t [] = refl
  fold_mails t (p ∷ ps) = fold_mails (mails_of t p) ps

  fold_owns : (t : ℕ) (ps : List ℕ) → fold owns_of t ps ≡ marked_lists t (met m) (owns ps)
  fold_owns t [] = refl
  fold_owns t (p ∷ ps) = fold_owns (owns_of t p) ps

  fold_names : (t : ℕ) (ps : List ℕ) → fold name_of t ps ≡ marked_all t (titles m ps)
  fold_names t [] = refl
  fold_names t (p ∷ ps) = fold_names (name_of t p) ps

  fold_grants : (t : ℕ) → fold grant_of t (range_with_len 1 15) ≡ marked_lists t (met m) (range last_name 1 (grant_for 1))
  unfolding range
  fold_grants t = refl

  fold_queues : (t : ℕ) → fold queue_of t (range_with_len 0 54) ≡ marked_lists t (met m) (range interrupts 2 (header_after 0))
  unfolding range
  fold_queues t = refl

  lists_app : (t : ℕ) (xs ys : List ℕ) → marked_lists t (met m) (xs ++ ys) ≡ marked_lists (marked_lists t (met m) xs) (met m) ys
  lists_app t [] ys = refl
  lists_app t (x ∷ xs) ys = lists_app (marked_all t (met m x)) xs ys

  pub used_is : (l f q r : ℕ) → l ≡ list_marks m → f ≡ marked_all l (met m free_list) → q ≡ fold mails_of f (met m processor_list)
      → r ≡ fold grant_of q (range_with_len 1 15) → r ≡ used_marks m
  unfolding Met.used_marks Met.list_marks
  used_is l f q r el ef eq er =
      let s : used_marks m ≡ marked_lists (marked_all (marked_all 0 (met m processor_list)) (met m free_list)) (met m)
      (mails (met m processor_list) ++ range last_name 1 (grant_for 1)) = refl in
      er ∙ fold_grants q
      ∙ sym (s ∙ rw (← el, ← ef, lists_app f (mails (met m processor_list)) (range last_name 1 (grant_for 1)), ← fold_mails f (met m processor_list), ← eq))

  pub waits_is : (q o r : ℕ) → q ≡ marked_all 0 (met m page_queue) → o ≡ fold owns_of q (met m processor_list)
      → r ≡ fold queue_of o (range_with_len 0 54) → r ≡ wait_marks m
  unfolding Met.wait_marks
  waits_is q o r eq eo er =
      let s : wait_marks m
      ≡ marked_lists (marked_all 0 (met m page_queue)) (met m) (owns (met m processor_list) ++ range interrupts 2 (header_after 0)) = refl in
      er ∙ fold_queues o
      ∙ sym (s ∙ rw (← eq, lists_app q (owns (met m processor_list)) (range interrupts 2 (header_after 0)), ← fold_owns q (met m processor_list), ← eo))

  pub names_is : (t r : ℕ) → t ≡ 0 → r ≡ fold name_of t (met m processor_list) → r ≡ name_marks m
  unfolding Met.name_marks
  names_is t r z e = rw z at e ∙ fold_names 0 (met m processor_list)
