-- Sending: "Waking leaves the queue and clears the waiting bit and reason." A processor that wakes, from any of the wait queues, keeps the invariant; so
-- does one whose reason falls by one; and which words waking leaves. Assumes nothing.
use Rattle.std.specs.Prelude.{◌≡◌, ◌≢◌, ◌⊎◌, false, List, ◌∷◌, ◌++◌, ℕ, ◌+◌, ◌%◌, ◌≤◌, ◌<◌, length, get_or, eqb}
use Rattle.std.proofs.Common.{sym, ap, ◌∙◌, inl, inr, arith, length-append, subst}
use Rattle.model.specs.Map.{control_pages, free_list, free_semaphore, grant_for, header_after, less, link, lower, own_queue, page_queue, page_size, place}
use Rattle.model.specs.Map.{processor_list, q1, q2, raised, reason, state, stop_cleared, wait_bit, wait_cleared, wait_in, zeros_in}
use Rattle.model.specs.Bytes.{store, word, unqueue, wake}
use Rattle.model.specs.Wait as Wait
use Rattle.model.specs.Lists.{hit, count, Lists, sum, uses, queues, is_grant}
use Rattle.laws.specs.Count.{hit_self, hit_other, hit_or, count_append, count_mid}
use Rattle.laws.specs.Chain.{Page}
use Rattle.laws.specs.Queues.{upd, upd_same, upd_other}
use Rattle.laws.specs.Heads.{sum_one, sum_skip, sum_upd, Seat, seat_of}
use Rattle.laws.specs.Heads.Seat.{line, page, own}
use Rattle.laws.specs.Uses.{Head, Sep, proc_page, proc_once, list_short}
use Rattle.laws.specs.Places.{in_queues, in_free, int_queue, own_once, q_once, free_once, grant_once, grant_low, grant_high, wait_page}
use Rattle.laws.specs.Inv.{View, stock, stock_page, stock_else, Facts, Mem, Base}
use Rattle.laws.specs.Frames.{other}
use Rattle.laws.specs.Views.{put1, put1_same, put1_other, with_words, with_sem}
use Rattle.laws.specs.Stores.{sem_mem, state_mem, reason_mem}
use Rattle.laws.specs.JoinLeave.{leave_mem, leave_frame}
use Rattle.laws.specs.Changes.{queue_once, stock_same}

pub wake_bits : (w : ℕ) → (wait_in (wait_cleared w) ≡ 0) × (zeros_in (wait_cleared w) ≡ zeros_in w)
wake_bits w =
    let a : stop_cleared (wait_cleared w) ≡ w % wait_bit = omega arith in
    let b : wait_cleared w % wait_bit ≡ w % wait_bit = omega arith in
    (rw a (omega arith), rw b)

-- the header of a wait queue is no word of page 10
pub seat_head : {ps : List ℕ} {L : Lists} → Sep ps L → (a : ℕ) → 1 ≤ count (a + 1) (queues ps) → Head ps (a + 1)
seat_head {ps} s a h = (in_queues ps (a + 1) h, go (seat_of ps a h))
  where
    go : Seat ps a → is_grant (a + 1) ≡ false
    go (line k u e) = grant_low (a + 1) (omega arith)
    go (page e) = grant_low (a + 1) (omega arith)
    go (own p u e) = let g = proc_page s p u in grant_high (a + 1) (omega arith)

-- what is no head of a wait queue
module _ {ps : List ℕ} {L : Lists} (s : Sep ps L) (a : ℕ) (h : 1 ≤ count (a + 1) (queues ps)) where
  pub seat_not : (b : ℕ) → count b (queues ps) ≡ 0 → b ≢ a + 1
  seat_not b z e = omega (arith, ap (λ (y : ℕ). count y (queues ps)) e)

  pub not_procs : processor_list ≢ a + 1
  not_procs e = omega (arith, (queue_once s a h).away, ap (λ (y : ℕ). count y (uses ps)) e)

  pub not_free : free_list ≢ a + 1
  not_free = seat_not free_list (free_once s).away

  pub not_mail : (p w : ℕ) → 1 ≤ count p ps → q1 ≤ w → w ≤ q2 → place p w ≢ a + 1
  not_mail p w i u v = seat_not (place p w) (q_once s p w u v i).away

  pub not_given : (k : ℕ) → k < page_size → grant_for k ≢ a + 1
  not_given k i = seat_not (grant_for k) (grant_once s k i).away

-- how many pages may count beside the waiters
pub stock_le : {ps : List ℕ} {L : Lists} → Sep ps L → (a : ℕ) → stock L a ≤ control_pages
stock_le {ps} {L} s a = go (hit_or a free_semaphore)
  where
    go : (a ≡ free_semaphore) ⊎ (a ≢ free_semaphore) → stock L a ≤ control_pages
    go (inl e) = rw (e, stock_page L) (list_short s free_list (in_free ps))
    go (inr n) = rw (stock_else L a n) (omega arith)

-- page p no longer waits in the queue at a
abbrev pub woken : View → ℕ → ℕ → View
woken W a p =
    with_sem (with_words W W.note W.size (put1 W.reason p 0) W.label (put1 W.state p (wait_cleared (W.state p))))
    (put1 W.sem a (raised (W.sem a)))

module _ {ps : List ℕ} {L : Lists} {W : View} {g : ℕ} (a p : ℕ) (xs ys : List ℕ) (f : Facts ps L W g) (h : 1 ≤ count (a + 1) (queues ps))
    (e : L (a + 1) ≡ xs ++ p ∷ ys) where
  s : Sep ps L
  s = f.sep

  abbrev K : Lists
  K = upd L (a + 1) (xs ++ ys)

  count_e : (z : ℕ) → count z (L (a + 1)) ≡ count z (xs ++ ys) + hit (eqb z p)
  count_e z = omega (arith, ap (count z) e, count_append z xs (p ∷ ys), count_append z xs ys)

  length_e : length (L (a + 1)) ≡ length (xs ++ ys) + 1
  length_e = omega (arith, ap length e, length-append xs (p ∷ ys), length-append xs ys)

  pub woken_in : 1 ≤ count p (L (a + 1))
  woken_in = omega (arith, count_e p, hit_self p)

  pub woken_proc : 1 ≤ count p ps
  woken_proc = wait_page s (a + 1) p h woken_in

  other_list : (b : ℕ) → b ≢ a + 1 → K b ≡ L b
  other_list b n = upd_other L (a + 1) b (xs ++ ys) n

  sum_wake : (z : ℕ) → sum z K (queues ps) + hit (eqb z p) ≡ sum z L (queues ps)
  sum_wake z = omega (arith, sum_upd z L (a + 1) (xs ++ ys) (queues ps) (queue_once s a h).here, count_e z)

  alone : sum p L (queues ps) ≡ 1
  alone = omega (arith, sum_one p L (a + 1) (queues ps) h, woken_in, s.waits p, proc_once s p)

  pub woken_idle : sum p K (queues ps) ≡ 0
  woken_idle = omega (arith, sum_wake p, hit_self p, alone)

  -- who is in a wait queue then was there before, and is another
  stays : (b x : ℕ) → 1 ≤ count b (queues ps) → 1 ≤ count x (K b) → (1 ≤ count x (L b)) × (x ≢ p)
  stays b x i j = go (hit_or b (a + 1))
    where
      others : x ≡ p → 1 ≤ count p (K b) → ⊥
      others d c = omega (arith, sum_one p K b (queues ps) i, sum_wake p, hit_self p, alone)

      here : x ≡ p → ⊥
      here d = others d (rw d at j)

      go : (b ≡ a + 1) ⊎ (b ≢ a + 1) → (1 ≤ count x (L b)) × (x ≢ p)
      go (inl d) = let c = rw (d, upd_same) at j in (rw d (omega (arith, count_e x)), here)
      go (inr n) = (rw (other_list b n) at j, here)

  kept_state : (x : ℕ) → x ≢ p → (woken W a p).state x ≡ W.state x
  kept_state x n = put1_other W.state p (wait_cleared (W.state p)) x n

  kept_reason : (x : ℕ) → x ≢ p → (woken W a p).reason x ≡ W.reason x
  kept_reason x n = put1_other W.reason p 0 x n

  pub wake_sep : Sep ps K
  wake_sep = record {
    procs = other_list processor_list (not_procs s a h) ∙ s.procs;
    most = λ z. omega (arith, sum_skip z L (a + 1) (xs ++ ys) (uses ps) (queue_once s a h).away, s.most z);
    waits = λ z. omega (arith, sum_wake z, s.waits z);
  }

  pub facts_wake : Facts ps K (woken W a p) g
  facts_wake =
      let w5 : (y : ℕ) → 1 ≤ count y ps → K (place y q1) ≡ L (place y q1) = λ y i.
      other_list (place y q1) (not_mail s a h y q1 i (omega arith) (omega arith)) in
      let wg : (k : ℕ) → k < page_size → K (grant_for k) ≡ L (grant_for k) = λ k i. other_list (grant_for k) (not_given s a h k i) in
      let wf = other_list free_list (not_free s a h) in
      record {
        sep = wake_sep;
        names = f.names;
        seats = record {
          bit = λ x i. bit x i (hit_or x p);
          zeros = λ x i. zeros x i (hit_or x p);
          served = λ k i x j. let t = stays (header_after k) x (int_queue ps k i) j in rw (kept_reason x t.1) (f.seats.served k i x t.0);
          asking = λ x j. let t = stays page_queue x (omega arith) j in rw (kept_reason x t.1) (f.seats.asking x t.0);
          quiet = λ x i z. quiet x i z (hit_or x p);
        };
        own = λ y i x j.
            let c = stays (place y own_queue) x (omega (arith, (own_once s y i).here)) j in
            let t = f.own y i x c.0 in
            let d : y ≢ p = λ z. c.1 (t.owner ∙ z) in
            record { owner = t.owner; flag = rw (kept_reason y d) t.flag; none = λ q b. rw (kept_reason y d) (t.none q (rw (w5 y i) at b)) };
        sems = λ b i. sems b i (hit_or b a);
        granted = record {
          bare = λ x j. let t = stays page_queue x (omega arith) j in rw (wf, wg (lower (W.label x)) (omega arith)) (f.granted.bare x t.0);
          known = λ k i. rw (wg k i) (f.granted.known k i);
        };
        mail = λ y w i u v q j. f.mail y w i u v q (rw (other_list (place y w) (not_mail s a h y w i u v)) at j);
        runs = f.runs;
        codes = f.codes;
        clock = f.clock;
        faults = f.faults;
      }
    where
      bit : (x : ℕ) → 1 ≤ count x ps → (x ≡ p) ⊎ (x ≢ p) → sum x K (queues ps) ≡ wait_in ((woken W a p).state x)
      bit x i (inl d) =
          let u : sum p K (queues ps) ≡ wait_in (wait_cleared (W.state p)) = omega (arith, wake_bits (W.state p), sum_wake p, hit_self p, alone) in
          let B : ℕ → Type 0 = λ y. sum y K (queues ps) ≡ wait_in (wait_cleared (W.state p)) in
          rw (put1_same W.state p (wait_cleared (W.state p)) x d) (subst B (sym d) u)
      bit x i (inr d) = rw (kept_state x d) (omega (arith, sum_wake x, hit_other x p d, f.seats.bit x i))

      zeros : (x : ℕ) → 1 ≤ count x ps → (x ≡ p) ⊎ (x ≢ p) → zeros_in ((woken W a p).state x) ≡ 0
      zeros x i (inl d) =
          rw (put1_same W.state p (wait_cleared (W.state p)) x d) ((wake_bits (W.state p)).1 ∙ f.seats.zeros p woken_proc)
      zeros x i (inr d) = rw (kept_state x d) (f.seats.zeros x i)

      quiet : (x : ℕ) → 1 ≤ count x ps → wait_in ((woken W a p).state x) ≡ 0 → (x ≡ p) ⊎ (x ≢ p) → (woken W a p).reason x ≡ 0
      quiet x i z (inl d) = put1_same W.reason p 0 x d
      quiet x i z (inr d) = kept_reason x d ∙ f.seats.quiet x i (rw (kept_state x d) at z)

      sems : (b : ℕ) → 1 ≤ count (b + 1) (queues ps) → (b ≡ a) ⊎ (b ≢ a) → (woken W a p).sem b ≡ less (stock K b) (length (K (b + 1)))
      sems b i (inl d) =
          rw (put1_same W.sem a (raised (W.sem a)) b d, d, upd_same, stock_same L K (other_list free_list (not_free s a h)) a, f.sems a h)
          (omega (arith, length_e, list_short s (a + 1) (in_queues ps (a + 1) h), stock_le s a))
      sems b i (inr n) =
          rw (put1_other W.sem a (raised (W.sem a)) b n, other_list (b + 1) (omega arith), stock_same L K (other_list free_list (not_free s a h)) b)
          (f.sems b i)

-- the model's step on the memory, and on the invariant
pub wake_mem : {m : List ℕ} {ps : List ℕ} {L : Lists} {W : View} (a p : ℕ) (xs ys : List ℕ) → Sep ps L → Sep ps (upd L (a + 1) (xs ++ ys))
    → Mem m ps L W → 1 ≤ count (a + 1) (queues ps) → Page p → L (a + 1) ≡ xs ++ p ∷ ys → Mem (wake m a p) ps (upd L (a + 1) (xs ++ ys)) (woken W a p)
unfolding Wait.wake Wait.unqueue
wake_mem {m} {ps} {L} {W} a p xs ys s s2 x h pg e =
    let x1 = sem_mem s x a (raised (W.sem a)) h in
    let x2 = leave_mem s x1 (a + 1) (seat_head s a h) (λ d. not_procs s a h (sym d)) p xs ys e in
    let x3 = state_mem s2 x2 p (wait_cleared (W.state p)) pg in
    rw (x.reads.sems a h, x2.reads.words.state p pg) (reason_mem s2 x3 p 0 (wait_page s (a + 1) p h (rw e (count_mid p xs ys))))

pub wake_base : {m : List ℕ} {ps : List ℕ} {L : Lists} {W : View} {hs : List ℕ} {g : ℕ} (a p : ℕ) (xs ys : List ℕ) → Base m ps L W hs g
    → 1 ≤ count (a + 1) (queues ps) → L (a + 1) ≡ xs ++ p ∷ ys → Base (wake m a p) ps (upd L (a + 1) (xs ++ ys)) (woken W a p) hs g
wake_base {m} {ps} {L} {W} a p xs ys b h e =
    let s = b.facts.sep in
    let pg = proc_page s p (woken_proc a p xs ys b.facts h e) in
    record {
      mem = wake_mem a p xs ys s (wake_sep a p xs ys b.facts h e) b.mem h pg e;
      facts = facts_wake a p xs ys b.facts h e;
      all = λ z. omega (arith, sum_skip z L (a + 1) (xs ++ ys) (uses ps) (queue_once s a h).away, b.all z);
    }

-- which words stay: all but the semaphore and the header, the links of the queue, and of the one that wakes words 2 and 12
module _ {m : List ℕ} {ps : List ℕ} {L : Lists} {W : View} (s : Sep ps L) (x : Mem m ps L W) (a p : ℕ) (xs ys : List ℕ) (h : 1 ≤ count (a + 1) (queues ps))
    (e : L (a + 1) ≡ xs ++ p ∷ ys) (c : ℕ) (na : c ≢ a) (nh : c ≢ a + 1) (nl : (z : ℕ) → 1 ≤ count z (L (a + 1)) → c ≢ place z link) where
  pub unqueue_frame : get_or (unqueue m a p) c 0 ≡ get_or m c 0
  unfolding Wait.unqueue
  unqueue_frame =
      let v = raised (get_or m a 0) in
      leave_frame s (sem_mem s x a v h) (a + 1) (seat_head s a h) (λ d. not_procs s a h (sym d)) p xs ys e c nh nl ∙ other m a v c na

  pub wake_frame : c ≢ place p reason → c ≢ place p state → get_or (wake m a p) c 0 ≡ get_or m c 0
  unfolding Wait.wake
  wake_frame n2 n12 =
      let m2 = unqueue m a p in
      let t = wait_cleared (word m2 p state) in
      other (store m2 p state t) (place p reason) 0 c n2 ∙ other m2 (place p state) t c n12 ∙ unqueue_frame
