-- Which words differ: what a state is, and in a well-formed memory which queue it names. Assumes nothing.
use Rattle.std.specs.Prelude.{◌≡◌, refl, ◌≢◌, ◌↔◌, ◌⊎◌, Bool, true, false, List, [], ℕ, ◌+◌, ◌≤◌, ◌<◌, eqb}
use Rattle.std.proofs.Common.{sym, ◌∙◌, inl, inr, arith, eq-eqb, ne_eqb, le-leb}
use Rattle.std.proofs.Math.Path.{ap}
use Rattle.model.specs.declared.State.{State}
use Rattle.model.specs.Map.{place, stop_in, state, reason, processor_list, page_queue, free_semaphore, interrupts, header_after, semaphore_after, own_queue}
use Rattle.model.specs.Map.{own_semaphore}
use Rattle.model.specs.Lists.{hit, count, sum, queues}
use Rattle.model.specs.Differ as Differ
use Rattle.model.specs.Differ.{queue_at, no_queue, for_message}
use Rattle.model.specs.Bytes.{word, processors, queue, running, waiting, queued, seat, queue_of, state_of, lists}
use Rattle.laws.specs.Count.{hit_or}
use Rattle.laws.specs.Heads.{sum_one, sum_two, Seat, seat_of}
use Rattle.laws.specs.Heads.Seat.{line, page, own}
use Rattle.laws.specs.Uses.{Sep, proc_page, proc_once}
use Rattle.laws.specs.Inv.{Base, no_one, view}
use Rattle.laws.specs.Judged.{WellFormed, invariant}
use Rattle.laws.specs.Who.{listed}
use Rattle.laws.specs.Changes.{int_sem, own_sem, page_sem}
use Rattle.laws.specs.Leave.{queue_is, queued_in, seat_is, seat_none}
use Rattle.laws.specs.Renaming.{queue_own}

-- ---- "state": the stopped and the waiting bit; whether it is the one that runs; the queue it waits in; and its reason
-- whether one number is another, told by 1 and 0
hit_is : (x y : ℕ) → (hit (eqb x y) ≡ 1) ↔ (x ≡ y)
hit_is x y = go (hit_or x y)
  where
    go : (x ≡ y) ⊎ (x ≢ y) → (hit (eqb x y) ≡ 1) ↔ (x ≡ y)
    go (inl e) = (λ h. e, λ h. rw (eq-eqb x y h))
    go (inr d) = (λ h. let z = rw (ne_eqb x y d) at h in absurd (omega (arith, z)), λ h. absurd (d h))

hits_same : (x y z w : ℕ) → ((x ≡ y) ↔ (z ≡ w)) → hit (eqb x y) ≡ hit (eqb z w)
hits_same x y z w f = go (hit_or x y)
  where
    go : (x ≡ y) ⊎ (x ≢ y) → hit (eqb x y) ≡ hit (eqb z w)
    go (inl e) = rw (eq-eqb x y e, eq-eqb z w (f.0 e))
    go (inr d) = rw (ne_eqb x y d, ne_eqb z w (λ e. d (f.1 e)))

-- two states are equal exactly if these five are
module _ (m : List ℕ) (p : ℕ) (k : List ℕ) (q : ℕ) where
  abbrev Five : Type 0
  Five =
      (stop_in (word m p state) ≡ stop_in (word k q state)) × (waiting m p ≡ waiting k q) × ((running m ≡ p) ↔ (running k ≡ q))
      × (queue_of m p ≡ queue_of k q) × (word m p reason ≡ word k q reason)

  five : state_of m p ≡ state_of k q → Five
  unfolding Differ.state_of
  five e =
      let r : hit (eqb (running m) p) ≡ hit (eqb (running k) q) = ap (λ (s : State). s.runs) e in (
        ap (λ (s : State). s.stopped) e,
        ap (λ (s : State). s.waiting) e,
        (
          λ h. (hit_is (running k) q).0 (sym r ∙ (hit_is (running m) p).1 h),
          λ h. (hit_is (running m) p).0 (r ∙ (hit_is (running k) q).1 h),
        ),
        ap (λ (s : State). s.queue) e,
        ap (λ (s : State). s.reason) e,
      )

  five_so : Five → state_of m p ≡ state_of k q
  unfolding Differ.state_of
  five_so (s, w, r, u, n) = λ i. record {
    stopped = s i;
    waiting = w i;
    runs = hits_same (running m) p (running k) q r i;
    queue = u i;
    reason = n i;
  }

  pub state_is_five : (state_of m p ≡ state_of k q)
      ↔ ((stop_in (word m p state) ≡ stop_in (word k q state)) × (waiting m p ≡ waiting k q) × ((running m ≡ p) ↔ (running k ≡ q))
      × (queue_of m p ≡ queue_of k q) × (word m p reason ≡ word k q reason))
  state_is_five = (five, five_so)

-- ---- "the queue it waits in (interrupt 1-54, for a page, for a message, none)"
queue_low : (s : ℕ) → s ≤ free_semaphore → queue_at s ≡ s
unfolding Differ.queue_at
queue_low s h = rw (le-leb s free_semaphore h)

queue_held : (m : List ℕ) (p : ℕ) → queued m (seat interrupts m p) p ≡ true → queue_of m p ≡ queue_at (seat interrupts m p)
unfolding Differ.queue_of
queue_held m p e = rw e

queue_none : (m : List ℕ) (p : ℕ) → queued m (seat interrupts m p) p ≡ false → queue_of m p ≡ no_queue
unfolding Differ.queue_of
queue_none m p e = rw e

module _ {m : List ℕ} (w : WellFormed m) (p : ℕ) (hp : 1 ≤ count p (processors m)) where
  base : Base m (lists m processor_list) (lists m) (view m) [] no_one
  base = (invariant w).base

  sep : Sep (lists m processor_list) (lists m)
  sep = base.facts.sep

  in_list : 1 ≤ count p (lists m processor_list)
  in_list = rw (listed base) at hp

  -- it stands in the queue whose semaphore is a: that is where it is found
  found : (a : ℕ) → 1 ≤ count (a + 1) (queues (lists m processor_list)) → 1 ≤ count p (queue m (a + 1)) → queue_of m p ≡ queue_at a
  found a h i = go (queued m (seat interrupts m p) p) refl (hit_or (seat interrupts m p) a)
    where
      here : 1 ≤ count p (lists m (a + 1))
      here = rw (queue_is base p in_list a h) at i

      go : (c : Bool) → queued m (seat interrupts m p) p ≡ c → (seat interrupts m p ≡ a) ⊎ (seat interrupts m p ≢ a) → queue_of m p ≡ queue_at a
      go true e (inl d) = queue_held m p e ∙ ap queue_at d
      go true e (inr d) =
          let s = seat_is base p in_list in
          let j = queued_in base p in_list (seat interrupts m p) s e in
          absurd (omega (
            arith,
            j,
            here,
            sum_two p (lists m) (seat interrupts m p + 1) (a + 1) (queues (lists m processor_list)) (λ f. d (omega (arith, f))) s h,
            sep.waits p,
            proc_once sep p,
          ))
      go false e d = absurd (omega (arith, here, sum_one p (lists m) (a + 1) (queues (lists m processor_list)) h, seat_none base p in_list e))

  -- the queue that is named holds it
  record Held : Type 0 where
    seated : Seat (lists m processor_list) (seat interrupts m p)
    held : 1 ≤ count p (queue m (seat interrupts m p + 1))
    named : queue_of m p ≡ queue_at (seat interrupts m p)

  held : queue_of m p ≢ no_queue → Held
  held d = go (queued m (seat interrupts m p) p) refl
    where
      go : (c : Bool) → queued m (seat interrupts m p) p ≡ c → Held
      go true e =
          let s = seat_is base p in_list in
          record {
            seated = seat_of (lists m processor_list) (seat interrupts m p) s;
            held = rw (queue_is base p in_list (seat interrupts m p) s) (queued_in base p in_list (seat interrupts m p) s e);
            named = queue_held m p e;
          }
      go false e = absurd (d (queue_none m p e))

  -- a queue outside the control pages is told by its semaphore's address, each processor's own by one number
  data Told (s : ℕ) : Type 0 where
    low : semaphore_after 0 ≤ s → queue_at s ≡ s → Told s
    mail : (y : ℕ) → 1 ≤ count y (lists m processor_list) → s ≡ place y own_semaphore → queue_at s ≡ for_message → Told s

  told : (s : ℕ) → Seat (lists m processor_list) s → Told s
  told s (line k u e) = low (omega arith) (queue_low s (omega arith))
  told s (page e) = low (omega arith) (queue_low s (omega arith))
  told s (own y u e) = let g = proc_page sep y u in mail y u e (ap queue_at e ∙ queue_own y (omega arith))

  waits_low : (s : ℕ) → semaphore_after 0 ≤ s → s ≤ free_semaphore → 1 ≤ count (s + 1) (queues (lists m processor_list))
      → (queue_of m p ≡ s) ↔ (1 ≤ count p (queue m (s + 1)))
  waits_low s l u h = (λ e. let r = held (λ z. omega (arith, e, z)) in back e r (told (seat interrupts m p) r.seated), λ i. found s h i ∙ queue_low s u)
    where
      back : queue_of m p ≡ s → Held → Told (seat interrupts m p) → 1 ≤ count p (queue m (s + 1))
      back e r (low i n) = let a : seat interrupts m p ≡ s = sym n ∙ sym r.named ∙ e in rw a at r.held
      back e r (mail y i f n) = absurd (omega (arith, e, r.named, n))

  pub waits_line : (i : ℕ) → i < interrupts → (queue_of m p ≡ semaphore_after i) ↔ (1 ≤ count p (queue m (header_after i)))
  waits_line i l =
      let a : semaphore_after i + 1 ≡ header_after i = omega arith in
      rw a at (waits_low (semaphore_after i) (omega arith) (omega arith) (int_sem (lists m processor_list) i l))

  pub waits_page : (queue_of m p ≡ free_semaphore) ↔ (1 ≤ count p (queue m page_queue))
  waits_page = waits_low free_semaphore (omega arith) (omega arith) (page_sem (lists m processor_list))

  pub waits_mail : (queue_of m p ≡ for_message) ↔ (1 ≤ count p (queue m (place p own_queue)))
  waits_mail = (λ e. let r = held (λ z. omega (arith, e, z)) in back e r (told (seat interrupts m p) r.seated), forth)
    where
      forth : 1 ≤ count p (queue m (place p own_queue)) → queue_of m p ≡ for_message
      forth h =
          let a : place p own_semaphore + 1 ≡ place p own_queue = omega arith in
          let g = proc_page sep p in_list in
          found (place p own_semaphore) (own_sem sep p in_list) (rw a h) ∙ queue_own p (omega arith)

      -- who stands in a message wait is its owner
      back : queue_of m p ≡ for_message → Held → Told (seat interrupts m p) → 1 ≤ count p (queue m (place p own_queue))
      back e r (low i n) = absurd (omega (arith, e, r.named, n))
      back e r (mail y i f n) =
          let a : seat interrupts m p + 1 ≡ place y own_queue = omega (arith, f) in
          let h : 1 ≤ count p (queue m (place y own_queue)) = rw a at r.held in
          let q : queue m (place y own_queue) ≡ lists m (place y own_queue) = rw a at (queue_is base p in_list (seat interrupts m p) (seat_is base p in_list)) in
          rw (sym (base.facts.own y i p (rw q at h)).owner) at h

  -- none, exactly if the waiting bit is not set
  pub waits_not : (queue_of m p ≡ no_queue) ↔ (waiting m p ≡ 0)
  waits_not = (back, forth)
    where
      bit : sum p (lists m) (queues (lists m processor_list)) ≡ waiting m p
      bit = base.facts.seats.bit p in_list

      back : queue_of m p ≡ no_queue → waiting m p ≡ 0
      back e = go (queued m (seat interrupts m p) p) refl
        where
          some : Told (seat interrupts m p) → queue_at (seat interrupts m p) ≢ no_queue
          some (low i n) z = omega (arith, z, n)
          some (mail y i f n) z = omega (arith, z, n)

          go : (c : Bool) → queued m (seat interrupts m p) p ≡ c → waiting m p ≡ 0
          go true f =
              let s = seat_of (lists m processor_list) (seat interrupts m p) (seat_is base p in_list) in
              absurd (some (told (seat interrupts m p) s) (sym (queue_held m p f) ∙ e))
          go false f = sym bit ∙ seat_none base p in_list f

      forth : waiting m p ≡ 0 → queue_of m p ≡ no_queue
      forth e = go (queued m (seat interrupts m p) p) refl
        where
          go : (c : Bool) → queued m (seat interrupts m p) p ≡ c → queue_of m p ≡ no_queue
          go true f =
              let s = seat_is base p in_list in
              let j = queued_in base p in_list (seat interrupts m p) s f in
              absurd (omega (arith, j, sum_one p (lists m) (seat interrupts m p + 1) (queues (lists m processor_list)) s, bit, e))
          go false f = queue_none m p f
