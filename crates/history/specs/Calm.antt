-- Which steps leave Q1 and Q2 of every processor alone: stores elsewhere, waking, waiting, taking a page, giving one back, who runs. Assumes nothing.
use Rattle.std.specs.Prelude.{◌≡◌, refl, ◌≢◌, ◌⊎◌, Bool, true, false, List, ◌∷◌, ◌++◌, ℕ, ◌+◌, ◌-◌, ◌*◌, ◌≤◌, ◌<◌, get_or, ltb}
use Rattle.std.proofs.Common.{sym, ap, inl, inr, arith, ltb-true, ltb-false}
use Rattle.std.proofs.Math.ListN.{set}
use Rattle.model.specs.Map as Map
use Rattle.model.specs.Map.{flags_kept, free_list, grant_for, guarded_last, high, high_lr, keeps, kept_count, label, link, list_link, low_lr}
use Rattle.model.specs.Map.{lowered, memory_size, own_queue, own_semaphore, page_queue, page_size, place, processor_list, q1, q2, reason, running_label}
use Rattle.model.specs.Map.{running_page, state, wait_set, word_a, zero_place}
use Rattle.model.specs.Bytes.{running, store, word, wake, put_to_wait, give_back, who_runs, set_lr}
use Rattle.model.specs.Wait as Wait
use Rattle.model.specs.Processor as Processor
use Rattle.model.specs.Lists.{count, Lists, uses, queues}
use Rattle.laws.specs.Count.{hit_or, count_ne}
use Rattle.laws.specs.Heads.{Seat, seat_of, sum_two, one_le}
use Rattle.laws.specs.Heads.Seat.{line, page, own}
use Rattle.laws.specs.Uses.{Head, Sep, proc_page}
use Rattle.laws.specs.Places.{in_q, q_free, q_once, free_once, wait_page}
use Rattle.laws.specs.Inv.{View, Mem, Base}
use Rattle.laws.specs.Frames.{other, Only}
use Rattle.laws.specs.Unmoved.{turn_frame, Unmoved}
use Rattle.laws.specs.Stores.{sem_mem, state_mem, reason_mem}
use Rattle.laws.specs.JoinLeave.{join_frame}
use Rattle.laws.specs.Wake.{seat_head, not_procs, wake_frame}
use Rattle.laws.specs.Hands.{in_hand}
use Rattle.laws.specs.Grants.{give_frame}
use Rattle.laws.specs.Aside.{Aside, aside_hand}
use Rattle.laws.specs.Who.{zero_low}
use Rattle.history.specs.Letter.{Mine, Ours, Same, same_on}
use Rattle.history.specs.Letter.Mine.{head, page}
use Rattle.history.specs.Letter.Ours.{mail, first, next, named}

-- ---- where these words do not stand
module _ {ps : List ℕ} {L : Lists} (s : Sep ps L) {c : ℕ} where
  pub mine_high : Mine ps L c → (guarded_last ≤ c) × (c < memory_size)
  mine_high (head p w h u v e) = let g = proc_page s p h in (omega arith, omega arith)
  mine_high (page p w x j h u v i l e) = let g = q_free s p w x u v h i in (omega arith, omega arith)

  -- a processor's words but 5 and 6
  pub mine_proc : Mine ps L c → (q j : ℕ) → 1 ≤ count q ps → j < page_size → j ≢ q1 → j ≢ q2 → c ≢ place q j
  mine_proc (head p w h u v e) q j i l n5 n6 = omega arith
  mine_proc (page p w x k h u v i l e) q j iq lj n5 n6 =
      let g = q_free s p w x u v h i in
      let d : x ≢ q = λ z. omega (arith, ap (λ (y : ℕ). count y ps) z, g.1) in
      omega arith

  pub ours_proc : Ours ps L c → (q j : ℕ) → 1 ≤ count q ps → j < page_size → j ≢ list_link → j ≢ q1 → j ≢ q2 → j ≢ label → c ≢ place q j
  ours_proc (mail h) q j i l n1 n5 n6 n7 = mine_proc h q j i l n5 n6
  ours_proc (first e) q j i l n1 n5 n6 n7 = let t = proc_page s q i in omega arith
  ours_proc (next z h e) q j i l n1 n5 n6 n7 = omega arith
  ours_proc (named z h e) q j i l n1 n5 n6 n7 = omega arith

  -- what is low, but the header of the processor list
  pub ours_low : Ours ps L c → (b : ℕ) → b < guarded_last → b ≢ processor_list → c ≢ b
  ours_low (mail h) b l n = let t = mine_high h in omega arith
  ours_low (first e) b l n = omega arith
  ours_low (next z h e) b l n = let t = proc_page s z h in omega arith
  ours_low (named z h e) b l n = let t = proc_page s z h in omega arith

  pub ours_fits : Ours ps L c → c < memory_size
  ours_fits (mail h) = (mine_high h).1
  ours_fits (first e) = omega arith
  ours_fits (next z h e) = let t = proc_page s z h in omega arith
  ours_fits (named z h e) = let t = proc_page s z h in omega arith

  -- a page in hand
  pub mine_hand : Mine ps L c → (q j : ℕ) → Aside ps L q → j < page_size → c ≢ place q j
  mine_hand (head p w h u v e) q j o l =
      let d : p ≢ q = λ z. omega (arith, ap (λ (y : ℕ). count y ps) z, o.out) in
      omega arith
  mine_hand (page p w x k h u v i lk e) q j o l =
      let d : x ≢ q = count_ne x q (L (place p w)) (o.free (place p w) (in_q ps p w u v h)) i in
      omega arith

  pub ours_hand : Ours ps L c → (q j : ℕ) → Aside ps L q → j < page_size → c ≢ place q j
  ours_hand (mail h) q j o l = mine_hand h q j o l
  ours_hand (first e) q j o l = let t = o.page in omega arith
  ours_hand (next z h e) q j o l =
      let d : z ≢ q = λ y. omega (arith, ap (λ (x : ℕ). count x ps) y, o.out) in
      omega arith
  ours_hand (named z h e) q j o l =
      let d : z ≢ q = λ y. omega (arith, ap (λ (x : ℕ). count x ps) y, o.out) in
      omega arith

  -- the semaphore and the header of a wait queue, and the links of its pages
  pub ours_seat : Ours ps L c → (a : ℕ) → 1 ≤ count (a + 1) (queues ps) → (c ≢ a) × (c ≢ a + 1)
  ours_seat m a h = go (seat_of ps a h)
    where
      go : Seat ps a → (c ≢ a) × (c ≢ a + 1)
      go (line k u e) = (ours_low m a (omega arith) (omega arith), ours_low m (a + 1) (omega arith) (omega arith))
      go (page e) = (ours_low m a (omega arith) (omega arith), ours_low m (a + 1) (omega arith) (omega arith))
      go (own p u e) =
          let d3 = ours_proc m p own_semaphore u (omega arith) (omega arith) (omega arith) (omega arith) (omega arith) in
          let d4 = ours_proc m p own_queue u (omega arith) (omega arith) (omega arith) (omega arith) (omega arith) in
          (omega arith, omega arith)

  pub ours_wait : Ours ps L c → (a z : ℕ) → 1 ≤ count (a + 1) (queues ps) → 1 ≤ count z (L (a + 1)) → c ≢ place z link
  ours_wait m a z h i = ours_proc m z link (wait_page s (a + 1) z h i) (omega arith) (omega arith) (omega arith) (omega arith) (omega arith)

  -- the links of the free pages
  mine_free : Mine ps L c → (z : ℕ) → 1 ≤ count z (L free_list) → c ≢ place z link
  mine_free (head p w h u v e) z i = omega arith
  mine_free (page p w x j h u v ix l e) z i =
      let pg = proc_page s p h in
      let d : x ≢ z = λ y. omega (
        arith,
        sum_two x L free_list (place p w) (uses ps) (omega arith) (omega (arith, (free_once s).here)) (omega (arith, (q_once s p w u v h).here)),
        s.most x,
        one_le x,
        ap (λ (k : ℕ). count k (L free_list)) y,
      ) in
      omega arith

  pub ours_free : Ours ps L c → (z : ℕ) → 1 ≤ count z (L free_list) → c ≢ place z link
  ours_free (mail h) z i = mine_free h z i
  ours_free (first e) z i = omega arith
  ours_free (next y h e) z i = omega arith
  ours_free (named y h e) z i = omega arith

-- ---- stores
pub calm_set : {ps : List ℕ} {L : Lists} (m : List ℕ) (b v : ℕ) → ((c : ℕ) → Ours ps L c → c ≢ b) → Same ps L m (set m b v)
calm_set m b v f = record { at = λ c h. other m b v c (f c h) }

pub calm_refl : {ps : List ℕ} {L : Lists} (m : List ℕ) → Same ps L m m
calm_refl m = record { at = λ c h. refl }

module _ {ps : List ℕ} {L : Lists} (s : Sep ps L) where
  pub calm_low : (m : List ℕ) (b v : ℕ) → b < guarded_last → b ≢ processor_list → Same ps L m (set m b v)
  calm_low m b v l n = calm_set m b v (λ c h. ours_low s h b l n)

  pub calm_proc : (m : List ℕ) (q j v : ℕ) → 1 ≤ count q ps → j < page_size → j ≢ list_link → j ≢ q1 → j ≢ q2 → j ≢ label → Same ps L m (store m q j v)
  calm_proc m q j v i l n1 n5 n6 n7 = calm_set m (place q j) v (λ c h. ours_proc s h q j i l n1 n5 n6 n7)

  pub calm_only : (m m' : List ℕ) (q : ℕ) → Aside ps L q → Only q m m' → Same ps L m m'
  calm_only m m' q o t = record { at = λ c h. go c h (ltb c (q * page_size)) refl (ltb c (q * page_size + page_size)) refl }
    where
      go : (c : ℕ) → Ours ps L c → (x : Bool) → ltb c (q * page_size) ≡ x → (y : Bool) → ltb c (q * page_size + page_size) ≡ y → get_or m' c 0 ≡ get_or m c 0
      go c h true e y f = t.below c (ltb-true c (q * page_size) e)
      go c h false e true f =
          let a = ltb-false c (q * page_size) e in
          let b = ltb-true c (q * page_size + page_size) f in
          absurd (ours_hand s h q (c - q * page_size) o (omega arith) (omega arith))
      go c h false e false f = t.above c (ltb-false c (q * page_size + page_size) f)

  -- words of the control page r or of page 0
  pub calm_run : (m : List ℕ) (r j v : ℕ) → (r ≢ 0 → 1 ≤ count r ps) → word_a ≤ j → j < page_size → Same ps L m (store m r j v)
  calm_run m r j v g l u = go (hit_or r 0)
    where
      go : (r ≡ 0) ⊎ (r ≢ 0) → Same ps L m (store m r j v)
      go (inl e) = calm_low m (place r j) v (omega arith) (omega arith)
      go (inr d) = calm_proc m r j v (g d) u (omega arith) (omega arith) (omega arith) (omega arith)

  pub calm_lr : (m : List ℕ) (r a : ℕ) → (r ≢ 0 → 1 ≤ count r ps) → Same ps L m (set_lr m r a)
  unfolding Processor.set_lr
  calm_lr m r a g =
      let v = flags_kept (word m r high_lr) (high a) in
      same_on (calm_run m r high_lr v g (omega arith) (omega arith)) (calm_run (store m r high_lr v) r low_lr (Map.low a) g (omega arith) (omega arith))

  -- who runs
  pub ours_unmoved : {c : ℕ} → Ours ps L c → (r : ℕ) → (r ≢ 0 → 1 ≤ count r ps) → Unmoved r c
  ours_unmoved {c} h r g = record {
    page = ours_low s h running_page (omega arith) (omega arith);
    label = ours_low s h running_label (omega arith) (omega arith);
    zero = λ i l. (let z = zero_low i l in ours_low s h (zero_place i) (omega arith) (omega arith));
    kept = λ i l. kept i l (hit_or r 0);
  }
    where
      kept : (i : ℕ) → i < kept_count → (r ≡ 0) ⊎ (r ≢ 0) → c ≢ place r (keeps i)
      kept i l (inl e) = ours_low s h (place r (keeps i)) (omega arith) (omega arith)
      kept i l (inr d) = ours_proc s h r (keeps i) (g d) (omega arith) (omega arith) (omega arith) (omega arith) (omega arith)

  pub calm_turn : (m : List ℕ) → (running m ≢ 0 → 1 ≤ count (running m) ps) → Same ps L m (who_runs m)
  calm_turn m g = record { at = λ c h. turn_frame m c (ours_unmoved h (running m) g) }

-- ---- wait queues
module _ {m : List ℕ} {ps : List ℕ} {L : Lists} {W : View} (s : Sep ps L) (x : Mem m ps L W) where
  pub calm_wake : (a p : ℕ) (xs ys : List ℕ) → 1 ≤ count (a + 1) (queues ps) → 1 ≤ count p ps → L (a + 1) ≡ xs ++ p ∷ ys → Same ps L m (wake m a p)
  calm_wake a p xs ys h hp e = record {
    at = λ c i.
        wake_frame s x a p xs ys h e c (ours_seat s i a h).0 (ours_seat s i a h).1 (λ z j. ours_wait s i a z h j)
        (ours_proc s i p reason hp (omega arith) (omega arith) (omega arith) (omega arith) (omega arith))
        (ours_proc s i p state hp (omega arith) (omega arith) (omega arith) (omega arith) (omega arith));
  }

  pub calm_wait : (a p w : ℕ) → 1 ≤ count (a + 1) (queues ps) → 1 ≤ count p ps → ((c : ℕ) → Head ps c → c ≢ processor_list → count p (L c) ≡ 0)
      → Same ps L m (put_to_wait m a p w)
  unfolding Wait.put_to_wait Wait.enqueue
  calm_wait a p w h hp new =
      let pg = proc_page s p hp in
      let v1 = wait_set (word m p state) in
      let x1 = state_mem s x p v1 pg in
      let m1 = store m p state v1 in
      let x2 = reason_mem s x1 p w hp in
      let m2 = store m1 p reason w in
      let v3 = lowered (get_or m2 a 0) in
      let x3 = sem_mem s x2 a v3 h in
      let m3 = set m2 a v3 in
      let c1 : Same ps L m m1 = calm_proc s m p state v1 hp (omega arith) (omega arith) (omega arith) (omega arith) (omega arith) in
      let c2 : Same ps L m1 m2 = calm_proc s m1 p reason w hp (omega arith) (omega arith) (omega arith) (omega arith) (omega arith) in
      let c3 : Same ps L m2 m3 = calm_set m2 a v3 (λ c i. (ours_seat s i a h).0) in
      same_on (same_on (same_on c1 c2) c3) (record {
        at = λ c i.
            join_frame s x3 (a + 1) (seat_head s a h) (λ d. not_procs s a h (sym d)) p pg new c (ours_seat s i a h).1 (λ z j. ours_wait s i a z h j)
            (ours_proc s i p link hp (omega arith) (omega arith) (omega arith) (omega arith) (omega arith));
      })

-- ---- a page given back
pub calm_give : {m : List ℕ} {ps : List ℕ} {L : Lists} {W : View} {hs : List ℕ} {g q : ℕ} → Base m ps L W (q ∷ hs) g → Same ps L m (give_back m q)
calm_give {q = q} b = let s = b.facts.sep in record {
  at = λ c i. give_frame b c (record {
    low = λ a u v. ours_low s i a (omega arith) (omega arith);
    grant = λ k u. ours_low s i (grant_for k) (omega arith) (omega arith);
    hand = ours_hand s i q link (aside_hand b q (in_hand b)) (omega arith);
    free = λ z j. ours_free s i z j;
    waiter = λ p j.
        let hp = wait_page s page_queue p (omega arith) j in (
          ours_proc s i p link hp (omega arith) (omega arith) (omega arith) (omega arith) (omega arith),
          ours_proc s i p reason hp (omega arith) (omega arith) (omega arith) (omega arith) (omega arith),
          ours_proc s i p state hp (omega arith) (omega arith) (omega arith) (omega arith) (omega arith),
        );
  });
}
