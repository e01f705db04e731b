-- Well-formed: which cells head a list, that each stands once in the sum of its kind, and what a page in a list is. Assumes nothing.
use Rattle.std.specs.Prelude.{◌≡◌, refl, ◌⊎◌, Bool, true, false, ◌&&◌, List, ℕ, ◌≤◌, ◌<◌, leb, ltb}
use Rattle.std.proofs.Common.{ap, inl, inr, arith, leb-true, ltb-true, le-leb, lt-ltb, le-ltb, subst, sym}
use Rattle.std.proofs.lemmas.Bool.{lt-leb}
use Rattle.model.specs.Map.{free_list, grant_for, grants, grants_end, guarded_last, header_after, interrupts, own_queue, page_queue, page_size, place}
use Rattle.model.specs.Map.{processor_list, q1, q2}
use Rattle.model.specs.Lists as Model
use Rattle.model.specs.Lists.{count, Lists, mails, owns, uses, queues, is_grant}
use Rattle.laws.specs.Count.{hit_other, count_append, zero_or}
use Rattle.laws.specs.Chain.{Page}
use Rattle.laws.specs.Heads.{one_le, one_page, sum_one, range1_at, range2_at, range_low, range_none1, range_none2, mails_at, owns_at, mails_of}
use Rattle.laws.specs.Heads.{owns_of, grant_words, line_heads}
use Rattle.laws.specs.Uses.{others, Among, Sep, proc_page, proc_once}

-- ---- the heads there are
pub in_uses : (ps : List ℕ) (a : ℕ) → 1 ≤ count a (uses ps) → Among ps a
in_uses ps a h = omega (arith, count_append a (uses ps) (queues ps))

pub in_queues : (ps : List ℕ) (a : ℕ) → 1 ≤ count a (queues ps) → Among ps a
in_queues ps a h = omega (arith, count_append a (uses ps) (queues ps))

pub in_procs : (ps : List ℕ) → Among ps processor_list
in_procs ps = in_uses ps processor_list (omega arith)

pub in_free : (ps : List ℕ) → Among ps free_list
in_free ps = in_uses ps free_list (omega arith)

pub in_asking : (ps : List ℕ) → Among ps page_queue
in_asking ps = in_queues ps page_queue (omega arith)

pub queue_at : (ps : List ℕ) (a b : ℕ) → a ≡ b → 1 ≤ count b (queues ps) → 1 ≤ count a (queues ps)
queue_at ps a b e h = let P : ℕ → Type 0 = λ x. 1 ≤ count x (queues ps) in subst P (sym e) h

pub int_queue : (ps : List ℕ) (k : ℕ) → k < interrupts → 1 ≤ count (header_after k) (queues ps)
int_queue ps k h = omega (arith, count_append (header_after k) (owns ps) line_heads, range2_at interrupts (header_after 0) k h)

pub in_own : (ps : List ℕ) (p : ℕ) → 1 ≤ count p ps → Among ps (place p own_queue)
in_own ps p h = in_queues ps (place p own_queue) (omega (arith, count_append (place p own_queue) (owns ps) line_heads, owns_at p ps))

pub in_q : (ps : List ℕ) (p w : ℕ) → q1 ≤ w → w ≤ q2 → 1 ≤ count p ps → Among ps (place p w)
in_q ps p w i j h = in_uses ps (place p w) (omega (arith, count_append (place p w) (mails ps) grant_words, mails_at p w ps i j))

pub in_grant : (ps : List ℕ) (k : ℕ) → k < page_size → Among ps (grant_for k)
in_grant ps k h = in_uses ps (grant_for k) (omega (
  arith,
  count_append (grant_for k) (mails ps) grant_words,
  range1_at page_size grants (grant_for k) (omega arith)
      (omega arith),
))

-- ---- words of page 10
pub grant_low : (a : ℕ) → a < grants → is_grant a ≡ false
unfolding Model.is_grant
grant_low a h = rw (lt-leb grants a h)

pub grant_high : (a : ℕ) → grants_end ≤ a → is_grant a ≡ false
unfolding Model.is_grant
grant_high a h = rw (le-leb grants a (omega arith), le-ltb a grants_end h)

pub grant_is : (k : ℕ) → k < page_size → is_grant (grant_for k) ≡ true
unfolding Model.is_grant
grant_is k h = rw (le-leb grants (grant_for k) (omega arith), lt-ltb (grant_for k) grants_end (omega arith))

pub grant_of_lem : (a : ℕ) → is_grant a ≡ true → (grants ≤ a) × (a < grants_end)
unfolding Model.is_grant
grant_of_lem a e = go (leb grants a) (ltb a grants_end) refl refl e
  where
    go : (s t : Bool) → leb grants a ≡ s → ltb a grants_end ≡ t → s && t ≡ true → (grants ≤ a) × (a < grants_end)
    go true true f g e = (leb-true grants a f, ltb-true a grants_end g)
    go true false f g e = let z : ◌≡◌ {A = ℕ} 0 1 = cc in absurd (omega arith)
    go false t f g e = let z : ◌≡◌ {A = ℕ} 0 1 = cc in absurd (omega arith)

-- ---- what is in a list
-- a message or a free page is no processor's
pub use_free : {ps : List ℕ} {L : Lists} → Sep ps L → (a q : ℕ) → 1 ≤ count a (others ps) → 1 ≤ count q (L a) → Page q × (count q ps ≡ 0)
use_free {ps} {L} s a q h i =
    let e : count q (L processor_list) ≡ count q ps = ap (count q) s.procs in
    (one_page q (omega (arith, s.most q, sum_one q L a (others ps) h)), omega (arith, s.most q, sum_one q L a (others ps) h, one_le q))

pub q_free : {ps : List ℕ} {L : Lists} → Sep ps L → (p w q : ℕ) → q1 ≤ w → w ≤ q2 → 1 ≤ count p ps → 1 ≤ count q (L (place p w)) → Page q × (count q ps ≡ 0)
q_free {ps} {L} s p w q l u h i = use_free s (place p w) q (omega (arith, count_append (place p w) (mails ps) grant_words, mails_at p w ps l u)) i

pub wait_page : {ps : List ℕ} {L : Lists} → Sep ps L → (a q : ℕ) → 1 ≤ count a (queues ps) → 1 ≤ count q (L a) → 1 ≤ count q ps
wait_page {ps} {L} s a q h i = omega (arith, s.waits q, sum_one q L a (queues ps) h)

pub all_pages_lem : {ps : List ℕ} {L : Lists} → Sep ps L → (a x : ℕ) → Among ps a → 1 ≤ count x (L a) → Page x
all_pages_lem {ps} {L} s a x h j = go (zero_or (count a (uses ps)))
  where
    go : (count a (uses ps) ≡ 0) ⊎ (1 ≤ count a (uses ps)) → Page x
    go (inl e) = proc_page s x (wait_page s a x (omega (arith, count_append a (uses ps) (queues ps))) j)
    go (inr i) = one_page x (omega (arith, s.most x, sum_one x L a (uses ps) i))

-- ---- which head stands in which sum, and once
pub none_low : (a : ℕ) (ps : List ℕ) → ((p : ℕ) → 1 ≤ count p ps → Page p) → a < guarded_last → (count a (mails ps) ≡ 0) × (count a (owns ps) ≡ 0)
none_low a ps g h = (go (zero_or (count a (mails ps))), go2 (zero_or (count a (owns ps))))
  where
    go : (count a (mails ps) ≡ 0) ⊎ (1 ≤ count a (mails ps)) → count a (mails ps) ≡ 0
    go (inl e) = e
    go (inr i) = let r = mails_of a ps i in let t = g r.page r.proc in absurd (omega arith)

    go2 : (count a (owns ps) ≡ 0) ⊎ (1 ≤ count a (owns ps)) → count a (owns ps) ≡ 0
    go2 (inl e) = e
    go2 (inr i) = let r = owns_of a ps i in let t = g r.page r.proc in absurd (omega arith)

-- a is a head of uses only, once; or of queues only, once
pub record InUses (ps : List ℕ) (a : ℕ) : Type 0 where
  pub here : count a (uses ps) ≡ 1
  pub away : count a (queues ps) ≡ 0

pub record InQueues (ps : List ℕ) (a : ℕ) : Type 0 where
  pub here : count a (queues ps) ≡ 1
  pub away : count a (uses ps) ≡ 0

module _ {ps : List ℕ} {L : Lists} (s : Sep ps L) where
  low_none : (a : ℕ) → a < guarded_last → (count a (mails ps) ≡ 0) × (count a (owns ps) ≡ 0)
  low_none a h = none_low a ps (proc_page s) h

  pub free_once : InUses ps free_list
  free_once = let n = low_none free_list (omega arith) in record {
    here = omega (arith, n, count_append free_list (mails ps) grant_words, range_low page_size 1 grants free_list (omega arith));
    away = omega (arith, n, count_append free_list (owns ps) line_heads, range_none2 interrupts (header_after 0) free_list (omega arith));
  }

  pub asking_once : InQueues ps page_queue
  asking_once = let n = low_none page_queue (omega arith) in record {
    here = omega (arith, n, count_append page_queue (owns ps) line_heads, range_none2 interrupts (header_after 0) page_queue (omega arith));
    away = omega (arith, n, count_append page_queue (mails ps) grant_words, range_low page_size 1 grants page_queue (omega arith));
  }

  pub int_once : (k : ℕ) → k < interrupts → InQueues ps (header_after k)
  int_once k h = let a = header_after k in let n = low_none (header_after k) (omega arith) in record {
    here =
        omega (
          arith,
          n,
          count_append (header_after k) (owns ps) line_heads,
          range2_at interrupts (header_after 0) k h,
          hit_other (header_after k) page_queue (omega arith),
        );
    away = omega (
      arith,
      n,
      count_append (header_after k) (mails ps) grant_words,
      range_low page_size 1 grants (header_after k) (omega arith),
      hit_other (header_after k) processor_list (omega arith),
      hit_other (header_after k) free_list (omega arith),
    );
  }

  pub grant_once : (k : ℕ) → k < page_size → InUses ps (grant_for k)
  grant_once k h = let n = low_none (grant_for k) (omega arith) in record {
    here = omega (
      arith,
      n,
      count_append (grant_for k) (mails ps) grant_words,
      range1_at page_size grants (grant_for k) (omega arith) (omega arith),
      hit_other (grant_for k) processor_list (omega arith),
      hit_other (grant_for k) free_list (omega arith),
    );
    away = omega (
      arith,
      n,
      count_append (grant_for k) (owns ps) line_heads,
      range_none2 interrupts (header_after 0) (grant_for k) (omega arith),
      hit_other (grant_for k) page_queue
          (omega arith),
    );
  }

  pub q_once : (p w : ℕ) → q1 ≤ w → w ≤ q2 → 1 ≤ count p ps → InUses ps (place p w)
  q_once p w l u h = let g = proc_page s p h in let a = place p w in record {
    here = omega (
      arith,
      proc_once s p,
      mails_at p w ps l u,
      count_append (place p w) (mails ps) grant_words,
      range_none1 page_size grants (place p w)
          (omega arith),
      hit_other (place p w) processor_list (omega arith),
      hit_other (place p w) free_list (omega arith),
    );
    away = omega (
      arith,
      not_own,
      count_append (place p w) (owns ps) line_heads,
      range_none2 interrupts (header_after 0) (place p w) (omega arith),
      hit_other (place p w) page_queue (omega arith),
    );
  }
    where
      not_own : count (place p w) (owns ps) ≡ 0
      not_own = go (zero_or (count (place p w) (owns ps)))
        where
          go : (count (place p w) (owns ps) ≡ 0) ⊎ (1 ≤ count (place p w) (owns ps)) → count (place p w) (owns ps) ≡ 0
          go (inl e) = e
          go (inr i) = let r = owns_of (place p w) ps i in absurd (omega arith)

  pub own_once : (p : ℕ) → 1 ≤ count p ps → InQueues ps (place p own_queue)
  own_once p h = let g = proc_page s p h in record {
    here = omega (
      arith,
      proc_once s p,
      owns_at p ps,
      count_append (place p own_queue) (owns ps) line_heads,
      range_none2 interrupts (header_after 0) (place p own_queue) (omega arith),
      hit_other (place p own_queue) page_queue (omega arith),
    );
    away = omega (
      arith,
      not_mail,
      count_append (place p own_queue) (mails ps) grant_words,
      range_none1 page_size grants (place p own_queue) (omega arith),
      hit_other (place p own_queue) processor_list (omega arith),
      hit_other (place p own_queue) free_list (omega arith),
    );
  }
    where
      not_mail : count (place p own_queue) (mails ps) ≡ 0
      not_mail = go (zero_or (count (place p own_queue) (mails ps)))
        where
          go : (count (place p own_queue) (mails ps) ≡ 0) ⊎ (1 ≤ count (place p own_queue) (mails ps)) → count (place p own_queue) (mails ps) ≡ 0
          go (inl e) = e
          go (inr i) = let r = mails_of (place p own_queue) ps i in absurd (omega arith)

-- 0 is no head
pub queues_pos : (ps : List ℕ) (a : ℕ) → ((p : ℕ) → 1 ≤ count p ps → Page p) → 1 ≤ count a (queues ps) → 1 ≤ a
queues_pos ps a g h = go (zero_or a)
  where
    go : (a ≡ 0) ⊎ (1 ≤ a) → 1 ≤ a
    go (inl e) =
        let n = none_low a ps g (omega arith) in
        absurd (omega (
          arith,
          n,
          count_append a (owns ps) line_heads,
          range_low interrupts 2 (header_after 0) a (omega arith),
          hit_other a page_queue (omega arith),
        ))
    go (inr i) = i
