-- The whole: the pages used are all pages, once each; those who wait are those with the waiting bit; and the rest.
use Prim.Native.Nat.{ℕ, ◌≤◌, ◌<◌}
use mathlib.Core.Path.{◌≡◌, refl, sym, ap, ◌∙◌}
use mathlib.Core.Bool.{Bool, true, false, ◌&&◌, and_assoc}
use mathlib.Core.List.{List, [], ◌∷◌, ◌++◌}
use native.Mathlib.Omega.{arith}
use lib.Dec.{eqb, leb}
use borrow.Author.Tests.{eqb-true}
use Rattle.model.specs.Map.{control_pages, first_control, free_list, grants, list_link, page_size, processor_list, word_values}
use Rattle.model.specs.Store.{bytes}
use Rattle.model.specs.Rule.{Rule, both, each, holds, all}
use Rattle.model.specs.Lists.{Lists, count, sum, range, mails, uses, queues}
use Rattle.model.specs.Judge as Judge
use Rattle.model.specs.Bytes.{Memory, walk, lists, judged, waiting}
use Rattle.lists.specs.Heads.{rule}
use Rattle.std.specs.Prelude.{Option, Some, None}
use Rattle.std.specs.Option.{option_eq}
use Rattle.lists.specs.Seen.{all_pages, is_page, see_lists, flags}
use Rattle.lists.proofs.Folds.{both_and, cons_and, each_nil}
use Rattle.lists.proofs.Counting.{if_true}
use Rattle.lists.proofs.Uses.{good, good_pages, are_all, used_once_lem, and_true, range_at}
use Rattle.lists.proofs.Waits.{waits_are}
use Rattle.lists.proofs.Folds.{processors_walk}
use Rattle.judge.specs.Tails as Tails
use Rattle.judge.specs.Tails.{waited, linked, tabled}

each_append : (f : ℕ → Rule) (xs ys : List ℕ) → holds (each (xs ++ ys) f) ≡ (holds (each xs f) && holds (each ys f))
each_append f [] ys = rw (each_nil f)
each_append f (x ∷ xs) ys =
    rw (cons_and f x (xs ++ ys), each_append f xs ys, cons_and f x xs) (sym (and_assoc (holds (f x)) (holds (each xs f)) (holds (each ys f))))

module _ (m : Memory) where
  abbrev ps : List ℕ
  ps = lists m processor_list

  abbrev list : ℕ → Rule
  list = rule (Judge.list bytes) m

  -- what is asked, in its order
  abbrev uses_listed : Bool
  uses_listed = holds (each (uses ps) list)

  abbrev queues_listed : Bool
  queues_listed = holds (each (queues ps) list)

  abbrev used_once : Bool
  used_once = holds (rule (Judge.used_once bytes) m)

  abbrev names : Bool
  names = holds (rule (Judge.names bytes) m)

  abbrev waiting_bits : Bool
  waiting_bits = holds (rule (Judge.waiting_bits bytes) m)

  abbrev rest : Bool
  rest = holds (waited m)

  listed_and : holds (rule (Judge.listed bytes) m) ≡ (uses_listed && queues_listed)
  unfolding Judge.listed
  listed_and = each_append list (uses ps) (queues ps)

  linked_and : holds (linked m) ≡ ((uses_listed && queues_listed) && (used_once && (names && (waiting_bits && rest))))
  unfolding Tails.linked
  linked_and =
      let bits : Rule = both (rule (Judge.waiting_bits bytes) m) (waited m) in
      let named : Rule = both (rule (Judge.names bytes) m) bits in
      let once : Rule = both (rule (Judge.used_once bytes) m) named in
      rw (
        both_and (rule (Judge.listed bytes) m) once,
        both_and (rule (Judge.used_once bytes) m) named,
        both_and (rule (Judge.names bytes) m) bits,
        both_and (rule (Judge.waiting_bits bytes) m) (waited m),
        listed_and,
      )

  -- the rules as the laws of the bits state them
  list_good : (hs : List ℕ) → all (λ a. good (lists m a)) hs ≡ holds (each hs list)
  unfolding good holds Judge.list Judge.page
  list_good hs = refl

  once_good : all (λ z. eqb (sum z (lists m) (uses ps)) 1) (range control_pages 1 first_control) ≡ used_once
  unfolding holds Judge.used_once Judge.once
  once_good = refl

  waits_good :
      (all (λ p. eqb (sum p (lists m) (queues ps)) (waiting m p)) ps
      && all (λ z. leb (sum z (lists m) (queues ps)) (count z ps)) (range control_pages 1 first_control))
      ≡ waiting_bits
  unfolding holds Judge.waiting_bits Judge.bit Judge.waiter
  waits_good = sym (both_and (each ps (rule (Judge.bit bytes) m)) (each (range control_pages 1 first_control) (rule (Judge.waiter bytes) m)))

  -- the pages used are all, or not
  module _ (u : Option ℕ) (eu : u ≡ see_lists (lists m) 0 (uses ps)) where
    used_are : are_all u ≡ (uses_listed && used_once)
    used_are = rw eu (used_once_lem (lists m) (uses ps) ∙ rw (list_good (uses ps), once_good))

    unused : are_all u ≡ false → false ≡ holds (linked m)
    unused h =
        no uses_listed queues_listed used_once (names && (waiting_bits && rest)) (sym used_are ∙ h) ∙ sym linked_and
      where
        no : (a c b r : Bool) → (a && b) ≡ false → false ≡ ((a && c) && (b && r))
        no true true true r e = cc
        no true true false r e = refl
        no true false b r e = refl
        no false c b r e = refl

    pub linked_none : u ≡ None → false ≡ holds (linked m)
    linked_none h = unused (ap are_all h)

    module _ (n : ℕ) (hn : u ≡ Some n) (a : Bool) (ea : a ≡ eqb n all_pages) where
      pub linked_unused : a ≡ false → false ≡ holds (linked m)
      linked_unused h = unused (ap are_all hn ∙ sym ea ∙ h)

      module _ (h : a ≡ true) where
        parts : (uses_listed ≡ true) × (used_once ≡ true)
        parts = and_true uses_listed used_once (sym used_are ∙ ap are_all hn ∙ sym ea ∙ h)

        -- the processors are control pages
        full_pages : all is_page ps ≡ true
        unfolding all
        full_pages =
            let p = if_true (good ps) (all (λ b. good (lists m b)) (free_list ∷ (mails ps ++ range page_size 1 grants))) (list_good (uses ps) ∙ parts.0) in
            good_pages ps p.0

        single : (z : ℕ) → first_control ≤ z → z < word_values → count z ps ≤ 1
        single z lo hi =
            let once = range_at (λ y. eqb (sum y (lists m) (uses ps)) 1) control_pages first_control z (once_good ∙ parts.1) lo (omega arith) in
            let e = eqb-true (sum z (lists m) (uses ps)) 1 once in
            omega arith

        -- those that wait are those with the waiting bit, or not; z is where the code begins
        module _ (w f : Option ℕ) (z : ℕ) (ew : w ≡ see_lists (lists m) 0 (queues ps)) (ez : z ≡ 0) (ef : f ≡ flags (waiting m) z (walk 21 m list_link processor_list))
            (d : Bool) (ed : d ≡ option_eq eqb w f) where
          waited_are : d ≡ (queues_listed && waiting_bits)
          waited_are =
              let e : f ≡ flags (waiting m) 0 ps = rw (processors_walk m) (rw ez at ef) in
              ed ∙ rw (ew, e) (waits_are (lists m) (queues ps) ps (waiting m) (λ y. omega arith) full_pages single ∙ rw (list_good (queues ps), waits_good))

          pub linked_unwaited : d ≡ false → false ≡ holds (linked m)
          linked_unwaited k =
              no uses_listed queues_listed used_once names waiting_bits rest (sym waited_are ∙ k) ∙ sym linked_and
            where
              no : (a c b n d r : Bool) → (c && d) ≡ false → false ≡ ((a && c) && (b && (n && (d && r))))
              no true true true true true r e = cc
              no true true true true false r e = refl
              no true true true false d r e = refl
              no true true false n d r e = refl
              no true false b n d r e = refl
              no false c b n d r e = refl

          pub linked_rest : (r : Bool) → d ≡ true → r ≡ (names && rest) → r ≡ holds (linked m)
          linked_rest r k er =
              let q = and_true queues_listed waiting_bits (sym waited_are ∙ k) in
              er ∙ rw (linked_and, parts.0, parts.1, q.0, q.1)

-- two parts, the second asked only where the first holds
module _ (b x : Bool) (e : b ≡ x) where
  pub and_yes : (c y : Bool) → b ≡ true → c ≡ y → c ≡ (x && y)
  and_yes c y h k = rw (← e, h) k

  pub and_no : (y : Bool) → b ≡ false → false ≡ (x && y)
  and_no y h = rw (← e, h)

-- ---- the tables stand last, and are asked first
out : (r s x : Rule) (t : Bool) → holds x ≡ (holds s && t) → holds (both r x) ≡ (holds (both r s) && t)
out r s x t e = rw (both_and r x, both_and r s, e) (sym (and_assoc (holds r) (holds s) t))

module _ (m : Memory) where
  abbrev at_lists : (Memory → List ℕ → Lists → Rule) → Rule
  at_lists f = rule f m

  judged_and : judged m ≡ (holds (linked m) && holds (tabled m))
  unfolding Judge.judged Judge.well_formed Tails.linked Tails.waited Tails.paged Tails.mailed Tails.tabled
  judged_and =
      let t = holds (tabled m) in
      let e0 = both_and (at_lists (Judge.running bytes)) (tabled m) in
      let e1 = out (at_lists (Judge.messages bytes)) _ _ t e0 in
      let e2 = out (at_lists (Judge.granted bytes)) _ _ t e1 in
      let e3 = out (at_lists (Judge.page_waits bytes)) _ _ t e2 in
      let e4 = out (at_lists (Judge.semaphores bytes)) _ _ t e3 in
      let e5 = out (at_lists (Judge.message_waits bytes)) _ _ t e4 in
      let e6 = out (at_lists (Judge.reasons bytes)) _ _ t e5 in
      let e7 = out (at_lists (Judge.waiting_bits bytes)) _ _ t e6 in
      let e8 = out (at_lists (Judge.names bytes)) _ _ t e7 in
      let e9 = out (at_lists (Judge.used_once bytes)) _ _ t e8 in
      out (at_lists (Judge.listed bytes)) _ _ t e9

  module _ (b : Bool) (e : b ≡ holds (tabled m)) where
    pub judged_no : b ≡ false → false ≡ judged m
    judged_no h = go (holds (linked m)) ∙ sym judged_and
      where
        go : (x : Bool) → false ≡ (x && holds (tabled m))
        go true = sym h ∙ e
        go false = refl

    pub judged_yes : (r : Bool) → b ≡ true → r ≡ holds (linked m) → r ≡ judged m
    judged_yes r h k = k ∙ go (holds (linked m)) ∙ sym judged_and
      where
        go : (x : Bool) → x ≡ (x && holds (tabled m))
        go true = sym h ∙ e
        go false = refl

pub ruleset whole = (linked_none, linked_unused, linked_unwaited, linked_rest, and_yes, and_no, judged_no, judged_yes)
