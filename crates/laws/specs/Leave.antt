-- Deleting: "leave any wait queue (not woken); leave the processor list". The deleted one is found in the queue where it waits, if it waits; then its page
-- and its mail are in hand. Assumes nothing.
use Rattle.std.specs.Prelude.{◌≡◌, refl, ◌≢◌, ◌⊎◌, Bool, true, false, List, [], ◌∷◌, ◌++◌, length, ℕ, zero, suc, ◌+◌, ◌-◌, ◌≤◌, ◌<◌, eqb}
use Rattle.std.proofs.Common.{sym, ap, ◌∙◌, inl, inr, arith}
use borrow.Author.Tests.{eqb-true, eqb-false}
use Rattle.model.specs.Map as Map
use Rattle.model.specs.Map.{control_pages, free_semaphore, header_after, interrupts, link, list_link, lower, own_queue, own_semaphore, page_queue, place}
use Rattle.model.specs.Map.{processor_list, raised, running_page, semaphore_after, size, wait_cleared}
use Rattle.model.specs.Bytes.{word, queue, queued, seat, unlisted, leave}
use Rattle.model.specs.Queue as Queue
use Rattle.model.specs.Queue.{first}
use Rattle.model.specs.Wait as Wait
use Rattle.model.specs.Delete as Delete
use Rattle.model.specs.Lists.{count, Lists, sum, uses, queues}
use Rattle.laws.specs.Count.{hit_other, hit_or, count_append, zero_or}
use Rattle.laws.specs.Chain.{Page, Chain, walk_chain, split_at_page}
use Rattle.laws.specs.Queues.{upd, upd_other}
use Rattle.laws.specs.Heads.{one, one_le, short, sum_two, sum_pos, sum_skip, Seat, seat_of}
use Rattle.laws.specs.Heads.Seat.{line, page, own}
use Rattle.laws.specs.Uses.{Sep, proc_page, list_short}
use Rattle.laws.specs.Places.{in_queues, q_free, queues_pos, queue_at}
use Rattle.laws.specs.Inv.{Base, Facts, Mem, Message, View, no_one}
use Rattle.laws.specs.Views.{put1, put1_other, with_words}
use Rattle.laws.specs.Stores.{sem_mem}
use Rattle.laws.specs.JoinLeave.{chain0, leave_mem}
use Rattle.laws.specs.Changes.{int_sem, own_sem, page_sem, Off, facts_off, queue_once}
use Rattle.laws.specs.Wake.{seat_head, not_procs, facts_wake, woken_idle}
use Rattle.laws.specs.Simple.{first_in}
use Rattle.laws.specs.Members.{count_more, uses_more}
use Rattle.laws.specs.Shrink.{in_P, gone, shrunk, shrink_facts, shrink_mem, mail_left}

-- ---- whether a queue holds a page
first_is : (p : ℕ) (xs : List ℕ) → 1 ≤ count p xs → first (eqb p) xs ≡ p
unfolding Queue.first
first_is p [] h = absurd (omega arith)
first_is p (x ∷ xs) h = go (eqb p x) refl (first_is p xs)
  where
    go : (c : Bool) → eqb p x ≡ c → (1 ≤ count p xs → first (eqb p) xs ≡ p) → first (eqb p) (x ∷ xs) ≡ p
    go true e ih = rw (e, Queue.first) (sym (eqb-true p x e))
    go false e ih = rw (e, Queue.first) (ih (omega (arith, hit_other p x (eqb-false p x e))))

-- ---- where a page waits, by whether each queue in its turn holds it
module _ (m : List ℕ) (p : ℕ) where
  pub seat_hit : (n : ℕ) → queued m (semaphore_after n) p ≡ true → seat (suc n) m p ≡ semaphore_after n
  unfolding Wait.seat
  seat_hit n e = rw (e, Wait.seat)

  pub seat_miss : (n : ℕ) → queued m (semaphore_after n) p ≡ false → seat (suc n) m p ≡ seat n m p
  unfolding Wait.seat
  seat_miss n e = rw (e, Wait.seat)

  pub seat_page : queued m free_semaphore p ≡ true → seat 0 m p ≡ free_semaphore
  unfolding Wait.seat
  seat_page e = rw (e, Wait.seat)

  pub seat_own : queued m free_semaphore p ≡ false → seat 0 m p ≡ place p own_semaphore
  unfolding Wait.seat
  seat_own e = rw (e, Wait.seat)

module _ {m : List ℕ} {ps : List ℕ} {L : Lists} {W : View} {hs : List ℕ} {g : ℕ} (b : Base m ps L W hs g) (p : ℕ) (hp : 1 ≤ count p ps) where
  s : Sep ps L
  s = b.facts.sep

  pg : Page p
  pg = proc_page s p hp

  pub queue_is : (a : ℕ) → 1 ≤ count (a + 1) (queues ps) → queue m (a + 1) ≡ L (a + 1)
  queue_is a h =
      walk_chain control_pages m link (a + 1) (L (a + 1)) (chain0 s b.mem (a + 1) (seat_head s a h) (λ d. not_procs s a h (sym d)))
      (list_short s (a + 1) (in_queues ps (a + 1) h))

  pub queued_in : (a : ℕ) → 1 ≤ count (a + 1) (queues ps) → queued m a p ≡ true → 1 ≤ count p (L (a + 1))
  unfolding Wait.queued
  queued_in a h e =
      let q = queue_is a h in
      let c = eqb-true (first (eqb p) (L (a + 1))) p (rw q at e) in
      let t = first_in (eqb p) (L (a + 1)) (omega (arith, pg, c)) in
      rw c at t.0

  queued_out : (a : ℕ) → 1 ≤ count (a + 1) (queues ps) → queued m a p ≡ false → count p (L (a + 1)) ≡ 0
  unfolding Wait.queued
  queued_out a h e = go (zero_or (count p (L (a + 1))))
    where
      go : (count p (L (a + 1)) ≡ 0) ⊎ (1 ≤ count p (L (a + 1))) → count p (L (a + 1)) ≡ 0
      go (inl z) = z
      go (inr i) =
          let q = queue_is a h in
          absurd (eqb-false (first (eqb p) (L (a + 1))) p (rw q at e) (first_is p (L (a + 1)) i))

  -- ---- where it waits
  record Found (n t : ℕ) : Type 0 where
    is : 1 ≤ count (t + 1) (queues ps)
    line : queued m t p ≡ false → (k : ℕ) → k < n → count p (L (header_after k)) ≡ 0
    asking : queued m t p ≡ false → count p (L page_queue) ≡ 0
    own : queued m t p ≡ false → count p (L (place p own_queue)) ≡ 0

  no : (t u : ℕ) {A : Type 0} → t ≡ u → queued m u p ≡ true → queued m t p ≡ false → A
  no t u e h f = let z : ◌≡◌ {A = ℕ} 0 1 = cc in absurd (omega arith)

  found : (n : ℕ) → n ≤ interrupts → Found n (seat n m p)
  found zero l = go (queued m free_semaphore p) refl
    where
      go : (c : Bool) → queued m free_semaphore p ≡ c → Found 0 (seat 0 m p)
      go true e = rw (seat_page m p e) (record {
        is = page_sem ps;
        line = λ f k h. no free_semaphore free_semaphore refl e f;
        asking = λ f. no free_semaphore free_semaphore refl e f;
        own = λ f. no free_semaphore free_semaphore refl e f;
      })
      go false e =
          let d : place p own_semaphore + 1 ≡ place p own_queue = omega arith in
          rw (seat_own m p e) (record {
            is = own_sem s p hp;
            line = λ f k h. absurd (omega arith);
            asking = λ f. queued_out free_semaphore (page_sem ps) e;
            own = λ f. rw d at (queued_out (place p own_semaphore) (own_sem s p hp) f);
          })
  found (suc n) l = go (queued m (semaphore_after n) p) refl (found n (omega arith))
    where
      at1 : semaphore_after n + 1 ≡ header_after n
      at1 = omega arith

      seat_n : 1 ≤ count (semaphore_after n + 1) (queues ps)
      seat_n = int_sem ps n (omega arith)

      go : (c : Bool) → queued m (semaphore_after n) p ≡ c → Found n (seat n m p) → Found (suc n) (seat (suc n) m p)
      go true e ih = rw (seat_hit m p n e) (record {
        is = seat_n;
        line = λ f k h. no (semaphore_after n) (semaphore_after n) refl e f;
        asking = λ f. no (semaphore_after n) (semaphore_after n) refl e f;
        own = λ f. no (semaphore_after n) (semaphore_after n) refl e f;
      })
      go false e ih = rw (seat_miss m p n e) (record {
        is = ih.is;
        line = λ f k h. lines f k h (hit_or k n);
        asking = ih.asking;
        own = ih.own;
      })
        where
          lines : queued m (seat n m p) p ≡ false → (k : ℕ) → k < suc n → (k ≡ n) ⊎ (k ≢ n) → count p (L (header_after k)) ≡ 0
          lines f k h (inl d) = rw d (rw at1 at (queued_out (semaphore_after n) seat_n e))
          lines f k h (inr d) = ih.line f k (omega arith)

  pub seat_is : 1 ≤ count (seat interrupts m p + 1) (queues ps)
  seat_is = (found interrupts (omega arith)).is

  -- it waits nowhere
  pub seat_none : queued m (seat interrupts m p) p ≡ false → sum p L (queues ps) ≡ 0
  seat_none f = sum_pos p L (queues ps) (λ a h. none a h (queues_pos ps a (proc_page s) h))
    where
      t : Found interrupts (seat interrupts m p)
      t = found interrupts (omega arith)

      none : (a : ℕ) → 1 ≤ count a (queues ps) → 1 ≤ a → count p (L a) ≡ 0
      none a h i = let d : a - 1 + 1 ≡ a = omega arith in rw (← d) (go (a - 1) (seat_of ps (a - 1) (queue_at ps _ _ d h)))
        where
          own_wait : (y : ℕ) → 1 ≤ count y ps → (count p (L (place y own_queue)) ≡ 0) ⊎ (1 ≤ count p (L (place y own_queue))) → count p (L (place y own_queue)) ≡ 0
          own_wait y u (inl z) = z
          own_wait y u (inr j) = let o = (b.facts.own y u p j).owner in rw (← o) (t.own f)

          go : (a : ℕ) → Seat ps a → count p (L (a + 1)) ≡ 0
          go a (line k u e) = let d : a + 1 ≡ header_after k = omega arith in rw d (t.line f k u)
          go a (page e) = rw e (t.asking f)
          go a (own y u e) = let d : a + 1 ≡ place y own_queue = omega arith in rw d (own_wait y u (zero_or (count p (L (place y own_queue)))))

-- ---- what the deleted one leaves behind: its page and its mail, in hand, and the chains of its mail
-- what is in hand is short
pub tot_short : {m : List ℕ} {ps : List ℕ} {L : Lists} {W : View} {hs : List ℕ} {g : ℕ} → Base m ps L W hs g → (xs : List ℕ)
    → ((z : ℕ) → count z xs ≤ count z hs) → length xs ≤ control_pages
tot_short b xs f = short xs (λ z. omega (arith, f z, b.all z))

pub record Letters (m : List ℕ) (xs : List ℕ) : Type 0 where
  pub at : (x : ℕ) → 1 ≤ count x xs → Message (word m x Map.note) (word m x size)

pub record Bag (m : List ℕ) (p : ℕ) (g : ℕ) : Type 0 where
  pub procs : List ℕ
  pub lists : Lists
  pub view : View
  pub q1 : List ℕ
  pub q2 : List ℕ
  pub base : Base m procs lists view (q2 ++ q1 ++ p ∷ []) g
  pub chain1 : Chain m link (place p Map.q1) q1
  pub chain2 : Chain m link (place p Map.q2) q2
  pub letters1 : Letters m q1
  pub letters2 : Letters m q2

-- it waits nowhere: Z is what the memory holds, X what the sentences are about, and they differ at its page at most
module _ (xs : List ℕ) (p : ℕ) (ys : List ℕ) {m : List ℕ} {K : Lists} {Z X : View} (x : Mem m (xs ++ p ∷ ys) K Z) (f : Facts (xs ++ p ∷ ys) K X no_one)
    (idle : sum p K (queues (xs ++ p ∷ ys)) ≡ 0) (runs : X.low running_page ≢ p) (off : Off p X Z) where
  sf : Sep (xs ++ p ∷ ys) K
  sf = f.sep

  abbrev Y : View
  Y = with_words Z (put1 Z.note p 0) (put1 Z.size p (Z.reason p)) Z.reason Z.label Z.state

  off_Y : Off p X Y
  off_Y = record {
    note = λ z d. put1_other Z.note p 0 z d ∙ off.note z d;
    size = λ z d. put1_other Z.size p (Z.reason p) z d ∙ off.size z d;
    reason = off.reason;
    label = off.label;
    state = off.state;
    sem = off.sem;
    low = off.low;
    code = off.code;
    next = off.next;
    entry = off.entry;
  }

  mem_Y : Mem (leave m processor_list list_link p) (xs ++ ys) (upd K processor_list (xs ++ ys)) Y
  mem_Y = shrink_mem xs p ys sf x

  facts_Y : Facts (xs ++ ys) (upd K processor_list (xs ++ ys)) Y (lower (X.label p))
  facts_Y = facts_off p (gone xs p ys sf) (λ a h d.
      rw (upd_other K processor_list a (xs ++ ys) d)
      (omega (
        arith,
        sum_two p K processor_list a (uses (xs ++ p ∷ ys)) (λ e. d (sym e)) (omega arith) (omega (arith, h, uses_more xs p ys a)),
        sf.most p,
        one_le p,
        ap (count p) sf.procs,
        in_P xs p ys,
      ))) off_Y (shrink_facts xs p ys sf f idle runs)

  letters : (w : ℕ) → Map.q1 ≤ w → w ≤ Map.q2 → Letters (leave m processor_list list_link p) (K (place p w))
  letters w u v = record {
    at = λ z h.
        let t = q_free sf p w z u v (in_P xs p ys) h in
        let d : z ≢ p = λ e. omega (arith, ap (λ (y : ℕ). count y (xs ++ p ∷ ys)) e, t.1, in_P xs p ys) in
        let o : count z (xs ++ ys) ≡ 0 = omega (arith, t.1, count_more xs p ys z) in
        rw (mem_Y.reads.words.note z t.0 o, mem_Y.reads.words.size z t.0 o, off_Y.note z d, off_Y.size z d) (f.mail p w (in_P xs p ys) u v z h);
  }

  left_bag : ((z : ℕ) → sum z K (uses (xs ++ p ∷ ys)) ≡ one z) → Bag (leave m processor_list list_link p) p (lower (X.label p))
  left_bag all = record {
    procs = xs ++ ys;
    lists = upd K processor_list (xs ++ ys);
    view = Y;
    q1 = K (place p Map.q1);
    q2 = K (place p Map.q2);
    base = record {
      mem = mem_Y;
      facts = facts_Y;
      all = λ z.
          omega (
            arith,
            shrunk xs p ys sf z,
            all z,
            count_append z (K (place p Map.q2) ++ K (place p Map.q1)) (p ∷ []),
            count_append z (K (place p Map.q2))
                (K (place p Map.q1)),
          );
    };
    chain1 = mail_left xs p ys sf x Map.q1 (omega arith) (omega arith);
    chain2 = mail_left xs p ys sf x Map.q2 (omega arith) (omega arith);
    letters1 = letters Map.q1 (omega arith) (omega arith);
    letters2 = letters Map.q2 (omega arith) (omega arith);
  }

-- ---- the model's step
unlisted_in : (xs : List ℕ) (p : ℕ) (ys : List ℕ) {m : List ℕ} {L : Lists} {W : View} → Base m (xs ++ p ∷ ys) L W [] no_one → W.low running_page ≢ p
    → Bag (unlisted m p) p (lower (W.label p))
unfolding Delete.unlisted Wait.leave_wait Wait.unqueue
unlisted_in xs p ys {m} {L} {W} b runs = go (queued m t p) refl
  where
    P : List ℕ
    P = xs ++ p ∷ ys

    hp : 1 ≤ count p (xs ++ p ∷ ys)
    hp = in_P xs p ys

    t : ℕ
    t = seat interrupts m p

    h : 1 ≤ count (seat interrupts m p + 1) (queues (xs ++ p ∷ ys))
    h = seat_is b p hp

    go : (c : Bool) → queued m (seat interrupts m p) p ≡ c → Bag (unlisted m p) p (lower (W.label p))
    go false e =
        rw e (left_bag xs p ys b.mem b.facts (seat_none b p hp e) runs
        (record {
          note = λ z d. refl;
          size = λ z d. refl;
          reason = λ z d. refl;
          label = λ z d. refl;
          state = λ z d. refl;
          sem = refl;
          low = refl;
          code = refl;
          next = refl;
          entry = refl;
        })
        (λ z. omega (arith, b.all z)))
    go true e =
        let sp = b.facts.sep in
        let a = seat interrupts m p in
        let r = split_at_page p (L (a + 1)) (queued_in b p hp a h e) in
        let x1 = sem_mem sp b.mem a (raised (W.sem a)) h in
        let x2 = leave_mem sp x1 (a + 1) (seat_head sp a h) (λ d. not_procs sp a h (sym d)) p r.0 r.1 r.2 in
        rw (e, b.mem.reads.sems a h) (left_bag xs p ys x2 (facts_wake a p r.0 r.1 b.facts h r.2) (woken_idle a p r.0 r.1 b.facts h
        r.2) runs
        (record {
          note = λ z d. refl;
          size = λ z d. refl;
          reason = λ z d. sym (put1_other W.reason p 0 z d);
          label = λ z d. refl;
          state = λ z d. sym (put1_other W.state p (wait_cleared (W.state p)) z d);
          sem = refl;
          low = refl;
          code = refl;
          next = refl;
          entry = refl;
        })
        (λ z. omega (arith, b.all z, sum_skip z L (a + 1) (r.0 ++ r.1) (uses (xs ++ p ∷ ys)) (queue_once sp a h).away)))

pub unlisted_bag : {m : List ℕ} {ps : List ℕ} {L : Lists} {W : View} (p : ℕ) → 1 ≤ count p ps → W.low running_page ≢ p → Base m ps L W [] no_one
    → Bag (unlisted m p) p (lower (W.label p))
unlisted_bag {ps = ps} p hp runs b = let r = split_at_page p ps hp in unlisted_in r.0 p r.1 (rw r.2 at b) runs
