-- Pages, Instructions: "wait in IK's queue", "wait in the page queue", "else wait". A processor that is put to wait, in any of the wait queues, keeps the
-- invariant if its reason fits the queue. Assumes nothing.
use Rattle.std.specs.Prelude.{◌≡◌, refl, ◌≢◌, ◌⊎◌, List, [], ◌∷◌, ◌++◌, ℕ, ◌+◌, ◌%◌, ◌≤◌, ◌<◌, length, eqb}
use Rattle.std.proofs.Common.{sym, ap, ◌∙◌, inl, inr, arith, length-append, subst}
use Rattle.model.specs.Map.{a_word, free_list, free_semaphore, grant_for, header_after, interrupts, less, lower, lowered, own_queue, own_semaphore}
use Rattle.model.specs.Map.{page_queue, page_size, place, processor_list, q1, semaphore_after, semaphore_of, stop_cleared, wait_bit, wait_in, wait_set}
use Rattle.model.specs.Map.{zeros_in}
use Rattle.model.specs.Wait as Wait
use Rattle.model.specs.Bytes.{put_to_wait}
use Rattle.model.specs.Lists.{hit, count, Lists, sum, uses, queues}
use Rattle.laws.specs.Count.{hit_self, hit_other, hit_or, count_append, zero_or}
use Rattle.laws.specs.Queues.{upd, upd_same, upd_other}
use Rattle.laws.specs.Heads.{one_le, sum_one, sum_two, sum_skip, sum_upd}
use Rattle.laws.specs.Uses.{Head, Sep, proc_page, list_short}
use Rattle.laws.specs.Places.{in_queues, int_queue, own_once}
use Rattle.laws.specs.Inv.{View, Waits, stock, Facts, Base}
use Rattle.laws.specs.Views.{put1, put1_same, put1_other, with_words, with_sem}
use Rattle.laws.specs.Stores.{sem_mem, state_mem, reason_mem}
use Rattle.laws.specs.JoinLeave.{join_mem}
use Rattle.laws.specs.Changes.{queue_once, stock_same}
use Rattle.laws.specs.Wake.{seat_head, not_procs, not_free, not_mail, not_given, stock_le}

pub wait_bits : (w : ℕ) → (wait_in (wait_set w) ≡ 1) × (zeros_in (wait_set w) ≡ zeros_in w)
wait_bits w =
    let a : stop_cleared (wait_set w) ≡ wait_bit + w % wait_bit = omega arith in
    let c : wait_set w % wait_bit ≡ w % wait_bit = omega arith in
    (rw a (omega arith), rw c)

-- page p waits in the queue at a with reason w
abbrev pub waiting : View → ℕ → ℕ → ℕ → View
waiting W a p w =
    with_sem (with_words W W.note W.size (put1 W.reason p w) W.label (put1 W.state p (wait_set (W.state p))))
    (put1 W.sem a (lowered (W.sem a)))

-- the reason fits the queue
pub record Fit (ps : List ℕ) (L : Lists) (W : View) (a p w : ℕ) : Type 0 where
  pub line : (k : ℕ) → k < interrupts → a ≡ semaphore_after k → (1 ≤ w) × (w ≤ a_word)
  pub page : a ≡ free_semaphore → (w ≡ 0) × (length (L free_list) ≡ 0) × (length (L (grant_for (lower (W.label p)))) ≡ 0)
  pub own : (y : ℕ) → 1 ≤ count y ps → a ≡ place y own_semaphore → Waits w W.note (L (place y q1)) y p

-- an interrupt's queue with a count, the page queue where no page is free or granted
pub line_fit : {ps : List ℕ} {L : Lists} {W : View} {p : ℕ} → Sep ps L → (k c : ℕ) → 1 ≤ k → k ≤ interrupts → 1 ≤ c → c ≤ a_word → Fit ps L W (semaphore_of k) p c
line_fit s k c k1 k2 l u = record {
  line = λ j h e. (l, u);
  page = λ e. absurd (omega arith);
  own = λ y h e. let t = proc_page s y h in absurd (omega arith);
}

pub page_fit : {ps : List ℕ} {L : Lists} {W : View} {p : ℕ} → Sep ps L → L free_list ≡ [] → length (L (grant_for (lower (W.label p)))) ≡ 0
    → Fit ps L W free_semaphore p 0
page_fit s f g = record {
  line = λ k h e. absurd (omega arith);
  page = λ e. (refl, ap length f, g);
  own = λ y h e. let t = proc_page s y h in absurd (omega arith);
}

-- a processor that does not wait is in no list with links in word 0
pub waits_not : {ps : List ℕ} {L : Lists} → Sep ps L → (p : ℕ) → 1 ≤ count p ps → sum p L (queues ps) ≡ 0 → (c : ℕ) → Head ps c → c ≢ processor_list
    → count p (L c) ≡ 0
waits_not {ps} {L} s p h z c hc n = go (zero_or (count c (uses ps)))
  where
    go : (count c (uses ps) ≡ 0) ⊎ (1 ≤ count c (uses ps)) → count p (L c) ≡ 0
    go (inl e) = omega (arith, sum_one p L c (queues ps) (omega (arith, hc.0, count_append c (uses ps) (queues ps))), z)
    go (inr i) = omega (arith, sum_two p L processor_list c (uses ps) (λ e. n (sym e)) (omega arith) i, s.most p, one_le p, ap (count p) s.procs)

module _ {ps : List ℕ} {L : Lists} {W : View} {g : ℕ} (a p w : ℕ) (f : Facts ps L W g) (h : 1 ≤ count (a + 1) (queues ps)) (hp : 1 ≤ count p ps)
    (idle : wait_in (W.state p) ≡ 0) (fit : Fit ps L W a p w) where
  s : Sep ps L
  s = f.sep

  abbrev K : Lists
  K = upd L (a + 1) (L (a + 1) ++ p ∷ [])

  pub nowhere : sum p L (queues ps) ≡ 0
  nowhere = f.seats.bit p hp ∙ idle

  other_list : (b : ℕ) → b ≢ a + 1 → K b ≡ L b
  other_list b n = upd_other L (a + 1) b (L (a + 1) ++ p ∷ []) n

  sum_wait : (z : ℕ) → sum z K (queues ps) ≡ sum z L (queues ps) + hit (eqb z p)
  sum_wait z =
      omega (arith, sum_upd z L (a + 1) (L (a + 1) ++ p ∷ []) (queues ps) (queue_once s a h).here, count_append z (L (a + 1)) (p ∷ []))

  not_in : (b : ℕ) → 1 ≤ count b (queues ps) → (x : ℕ) → 1 ≤ count x (L b) → x ≢ p
  not_in b i x j d = let c : count p (L b) ≡ count x (L b) = ap (λ (y : ℕ). count y (L b)) (sym d) in omega (arith, sum_one p L b (queues ps) i, nowhere)

  -- who is in a wait queue then was there before, or is the new one
  split : (b x : ℕ) → 1 ≤ count b (queues ps) → 1 ≤ count x (K b) → ((1 ≤ count x (L b)) × (x ≢ p)) ⊎ ((x ≡ p) × (b ≡ a + 1))
  split b x i j = go (hit_or b (a + 1)) (hit_or x p)
    where
      go : (b ≡ a + 1) ⊎ (b ≢ a + 1) → (x ≡ p) ⊎ (x ≢ p) → ((1 ≤ count x (L b)) × (x ≢ p)) ⊎ ((x ≡ p) × (b ≡ a + 1))
      go (inl d) (inl c) = inr (c, d)
      go (inl d) (inr c) = inl (rw d (omega (arith, rw (d, upd_same) at j, count_append x (L (a + 1)) (p ∷ []), hit_other x p c)), c)
      go (inr n) c = let k = rw (other_list b n) at j in inl (k, not_in b i x k)

  kept_state : (x : ℕ) → x ≢ p → (waiting W a p w).state x ≡ W.state x
  kept_state x n = put1_other W.state p (wait_set (W.state p)) x n

  kept_reason : (x : ℕ) → x ≢ p → (waiting W a p w).reason x ≡ W.reason x
  kept_reason x n = put1_other W.reason p w x n

  new_reason : (x : ℕ) → x ≡ p → (waiting W a p w).reason x ≡ w
  new_reason x d = put1_same W.reason p w x d

  pub facts_wait : Facts ps K (waiting W a p w) g
  facts_wait =
      let w5 : (y : ℕ) → 1 ≤ count y ps → K (place y q1) ≡ L (place y q1) = λ y i.
      other_list (place y q1) (not_mail s a h y q1 i (omega arith) (omega arith)) in
      let wg : (k : ℕ) → k < page_size → K (grant_for k) ≡ L (grant_for k) = λ k i. other_list (grant_for k) (not_given s a h k i) in
      let wf = other_list free_list (not_free s a h) in
      record {
        sep = record {
          procs = other_list processor_list (not_procs s a h) ∙ s.procs;
          most = λ z. omega (arith, sum_skip z L (a + 1) (L (a + 1) ++ p ∷ []) (uses ps) (queue_once s a h).away, s.most z);
          waits = λ z. waits z (hit_or z p);
        };
        names = f.names;
        seats = record {
          bit = λ x i. bit x i (hit_or x p);
          zeros = λ x i. zeros x i (hit_or x p);
          served = λ k i x j. served k i x (split (header_after k) x (int_queue ps k i) j);
          asking = λ x j. asking x (split page_queue x (omega arith) j);
          quiet = λ x i z. quiet x i z (hit_or x p);
        };
        own = λ y i x j. rw (w5 y i) (owns y i x (split (place y own_queue) x (omega (arith, (own_once s y i).here)) j));
        sems = λ b i. sems b i (hit_or b a);
        granted = record {
          bare = λ x j. rw (wf, wg (lower (W.label x)) (omega arith)) (bare x (split page_queue x (omega arith) j));
          known = λ k i. rw (wg k i) (f.granted.known k i);
        };
        mail = λ y v i l u q j. f.mail y v i l u q (rw (other_list (place y v) (not_mail s a h y v i l u)) at j);
        runs = f.runs;
        codes = f.codes;
        clock = f.clock;
        faults = f.faults;
      }
    where
      waits : (z : ℕ) → (z ≡ p) ⊎ (z ≢ p) → sum z K (queues ps) ≤ count z ps
      waits z (inl d) =
          let u : sum p K (queues ps) ≤ count p ps = omega (arith, sum_wait p, nowhere, hit_self p) in
          let B : ℕ → Type 0 = λ y. sum y K (queues ps) ≤ count y ps in
          subst B (sym d) u
      waits z (inr n) = omega (arith, sum_wait z, hit_other z p n, s.waits z)

      bit : (x : ℕ) → 1 ≤ count x ps → (x ≡ p) ⊎ (x ≢ p) → sum x K (queues ps) ≡ wait_in ((waiting W a p w).state x)
      bit x i (inl d) =
          let u : sum p K (queues ps) ≡ wait_in (wait_set (W.state p)) = omega (arith, wait_bits (W.state p), sum_wait p, hit_self p, nowhere) in
          let B : ℕ → Type 0 = λ y. sum y K (queues ps) ≡ wait_in (wait_set (W.state p)) in
          rw (put1_same W.state p (wait_set (W.state p)) x d) (subst B (sym d) u)
      bit x i (inr d) = rw (kept_state x d) (omega (arith, sum_wait x, hit_other x p d, f.seats.bit x i))

      zeros : (x : ℕ) → 1 ≤ count x ps → (x ≡ p) ⊎ (x ≢ p) → zeros_in ((waiting W a p w).state x) ≡ 0
      zeros x i (inl d) =
          rw (put1_same W.state p (wait_set (W.state p)) x d) ((wait_bits (W.state p)).1 ∙ f.seats.zeros p hp)
      zeros x i (inr d) = rw (kept_state x d) (f.seats.zeros x i)

      served : (k : ℕ) → k < interrupts → (x : ℕ) → ((1 ≤ count x (L (header_after k))) × (x ≢ p)) ⊎ ((x ≡ p) × (header_after k ≡ a + 1))
          → (1 ≤ (waiting W a p w).reason x) × ((waiting W a p w).reason x ≤ a_word)
      served k i x (inl t) = rw (kept_reason x t.1) (f.seats.served k i x t.0)
      served k i x (inr t) = rw (new_reason x t.0) (fit.line k i (omega (arith, t.1)))

      asking : (x : ℕ) → ((1 ≤ count x (L page_queue)) × (x ≢ p)) ⊎ ((x ≡ p) × (page_queue ≡ a + 1)) → (waiting W a p w).reason x ≡ 0
      asking x (inl t) = rw (kept_reason x t.1) (f.seats.asking x t.0)
      asking x (inr t) = rw (new_reason x t.0) (fit.page (omega (arith, t.1))).0

      quiet : (x : ℕ) → 1 ≤ count x ps → wait_in ((waiting W a p w).state x) ≡ 0 → (x ≡ p) ⊎ (x ≢ p) → (waiting W a p w).reason x ≡ 0
      quiet x i z (inl d) =
          let c = rw (put1_same W.state p (wait_set (W.state p)) x d) at z in
          absurd (omega (arith, wait_bits (W.state p)))
      quiet x i z (inr d) = kept_reason x d ∙ f.seats.quiet x i (rw (kept_state x d) at z)

      owns : (y : ℕ) → 1 ≤ count y ps → (x : ℕ) → ((1 ≤ count x (L (place y own_queue))) × (x ≢ p)) ⊎ ((x ≡ p) × (place y own_queue ≡ a + 1))
          → Waits ((waiting W a p w).reason y) W.note (L (place y q1)) y x
      owns y i x (inl t) =
          let c = f.own y i x t.0 in
          rw (kept_reason y (λ d. t.1 (c.owner ∙ d))) c
      owns y i x (inr t) =
          let c = fit.own y i (omega (arith, t.1)) in
          rw (new_reason y (sym c.owner), t.0) c

      bare : (x : ℕ) → ((1 ≤ count x (L page_queue)) × (x ≢ p)) ⊎ ((x ≡ p) × (page_queue ≡ a + 1))
          → (length (L free_list) ≡ 0) × (length (L (grant_for (lower (W.label x)))) ≡ 0)
      bare x (inl t) = f.granted.bare x t.0
      bare x (inr t) = let c = fit.page (omega (arith, t.1)) in rw t.0 (c.1, c.2)

      sems : (b : ℕ) → 1 ≤ count (b + 1) (queues ps) → (b ≡ a) ⊎ (b ≢ a) → (waiting W a p w).sem b ≡ less (stock K b) (length (K (b + 1)))
      sems b i (inl d) =
          rw (put1_same W.sem a (lowered (W.sem a)) b d, d, upd_same, stock_same L K (other_list free_list (not_free s a h)) a, f.sems a h)
          (omega (arith, length-append (L (a + 1)) (p ∷ []), list_short s (a + 1) (in_queues ps (a + 1) h), stock_le s a))
      sems b i (inr n) =
          rw (put1_other W.sem a (lowered (W.sem a)) b n, other_list (b + 1) (omega arith), stock_same L K (other_list free_list (not_free s a h)) b)
          (f.sems b i)

-- the model's step
pub wait_base : {m : List ℕ} {ps : List ℕ} {L : Lists} {W : View} {hs : List ℕ} {g : ℕ} (a p w : ℕ) → Base m ps L W hs g → 1 ≤ count (a + 1) (queues ps)
    → 1 ≤ count p ps → wait_in (W.state p) ≡ 0 → Fit ps L W a p w
    → Base (put_to_wait m a p w) ps (upd L (a + 1) (L (a + 1) ++ p ∷ [])) (waiting W a p w) hs g
unfolding Wait.put_to_wait Wait.enqueue
wait_base {m} {ps} {L} {W} a p w b h hp idle fit =
    let s = b.facts.sep in
    let pg = proc_page s p hp in
    let x1 = state_mem s b.mem p (wait_set (W.state p)) pg in
    let x2 = reason_mem s x1 p w hp in
    let x3 = sem_mem s x2 a (lowered (W.sem a)) h in
    let x4 = join_mem s x3 (a + 1) (seat_head s a h) (λ d. not_procs s a h (sym d)) p pg (waits_not s p hp (nowhere a p w b.facts h hp idle fit)) in
    rw (b.mem.reads.words.state p pg, x2.reads.sems a h) (record {
      mem = x4;
      facts = facts_wait a p w b.facts h hp idle fit;
      all = λ z. omega (arith, sum_skip z L (a + 1) (L (a + 1) ++ p ∷ []) (uses ps) (queue_once s a h).away, b.all z);
    })
