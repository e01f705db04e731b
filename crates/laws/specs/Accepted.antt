-- Well-formed: of a memory that the judge accepts, of 8,192 words, the invariant holds, of the lists that a walk finds. Assumes nothing.
use Rattle.std.specs.Prelude.{◌≡◌, refl, ◌≢◌, ◌⊎◌, true, false, List, [], ◌∷◌, ℕ, suc, ◌+◌, ◌≤◌, ◌<◌, length, get_or}
use Rattle.std.proofs.Math.Path.{sym}
use Rattle.std.proofs.Common.{ap, ◌∙◌, inl, inr, arith}
use Rattle.model.specs.Map as Map
use Rattle.model.specs.Map.{control_pages, first_control, free_list, free_semaphore, grant_for, header_after, interrupts, last_control, last_flag, last_name}
use Rattle.model.specs.Map.{length_in, less, longest, lower, memory_size, notice, own_queue, own_semaphore, page_queue, place, processor_list, q1, q2, semaphore_after}
use Rattle.model.specs.Map.{upper}
use Rattle.model.specs.Bytes.{word, lists, judged, walk}
use Rattle.model.specs.Store.{bytes}
use Rattle.model.specs.Lists as Model
use Rattle.model.specs.Lists.{count, Lists, sum, some, link_of, uses, queues, is_grant}
use Rattle.model.specs.Judge as Judge
use Rattle.laws.specs.Count.{hit_self, hit_or, zero_or}
use Rattle.laws.specs.Rules.{Meant, sound}
use Rattle.laws.specs.Sentences.{sentences}
use Rattle.laws.specs.Chain.{Page, Pages, chain_walk}
use Rattle.laws.specs.Heads.{one, page_or, page_one, sum_pos, range1_at, Seat, seat_of}
use Rattle.laws.specs.Heads.Seat.{line, page, own}
use Rattle.laws.specs.Uses.{Among, Sep, proc_page}
use Rattle.laws.specs.Places.{in_uses, in_queues, grant_is}
use Rattle.laws.specs.Inv.{view, Message, stock, stock_page, stock_else, Inv}

-- ---- lists
pub lists_walk : (m : List ℕ) (a : ℕ) → is_grant a ≡ false → lists m a ≡ walk (suc control_pages) m (link_of a) a
unfolding Model.lists
lists_walk m a e = rw (e, Model.lists)

pub lists_some : (m : List ℕ) (a : ℕ) → is_grant a ≡ true → lists m a ≡ some (get_or m a 0)
unfolding Model.lists
lists_some m a e = rw (e, Model.lists)

-- ---- its rules
pages_of : (xs : List ℕ) → ((z : ℕ) → 1 ≤ count z xs → (first_control ≤ z) × (z ≤ last_control)) → Pages xs
pages_of [] h = tt
pages_of (x ∷ xs) h = let r = h x (omega (arith, hit_self x)) in ((r.0, omega arith), pages_of xs (λ z i. h z (omega arith)))

module _ (m : List ℕ) (ps : List ℕ) (L : Lists) (h : Meant (Judge.listed bytes m ps L)) where
  none : (z a : ℕ) → one z ≡ 0 → Among ps a → count z (L a) ≡ 0
  unfolding Judge.listed Judge.list Judge.page
  none z a e i = go (zero_or (count z (L a)))
    where
      go : (count z (L a) ≡ 0) ⊎ (1 ≤ count z (L a)) → count z (L a) ≡ 0
      go (inl e) = e
      go (inr j) = let r = (h a i).1 z j in absurd (omega (arith, page_one z (r.0, omega arith)))

  once : Meant (Judge.used_once bytes m ps L) → (z : ℕ) → sum z L (uses ps) ≡ one z
  unfolding Judge.used_once Judge.once
  once u z = go (page_or z)
    where
      go : Page z ⊎ (one z ≡ 0) → sum z L (uses ps) ≡ one z
      go (inl p) = u z (omega (arith, range1_at control_pages first_control z p.0 (omega arith))) ∙ sym (page_one z p)
      go (inr e) = sum_pos z L (uses ps) (λ a i. none z a e (in_uses ps a i)) ∙ sym e

  only : Meant (Judge.waiting_bits bytes m ps L) → (z : ℕ) → sum z L (queues ps) ≤ count z ps
  unfolding Judge.waiting_bits Judge.waiter
  only u z = go (page_or z)
    where
      go : Page z ⊎ (one z ≡ 0) → sum z L (queues ps) ≤ count z ps
      go (inl p) = u.1 z (omega (arith, range1_at control_pages first_control z p.0 (omega arith)))
      go (inr e) = omega (arith, sum_pos z L (queues ps) (λ a i. none z a e (in_queues ps a i)))

-- the parts of two sentences that the invariant says in one
pub sems : (m : List ℕ) (L : Lists) {ps : List ℕ} → ((k : ℕ) → k < interrupts → get_or m (semaphore_after k) 0 ≡ less 0 (length (L (header_after k))))
    → ((p : ℕ) → 1 ≤ count p ps → Page p) → ((p : ℕ) → 1 ≤ count p ps → word m p own_semaphore ≡ less 0 (length (L (place p own_queue))))
    → get_or m free_semaphore 0 ≡ less (length (L free_list)) (length (L page_queue)) → (s : ℕ) → Seat ps s → get_or m s 0 ≡ less (stock L s) (length (L (s + 1)))
sems m L f pg g h s (line k i e) =
    let d : semaphore_after k + 1 ≡ header_after k = omega arith in
    rw (e, d, stock_else L (semaphore_after k) (omega arith)) (f k i)
sems m L f pg g h s (page e) = rw (e, stock_page L) h
sems m L f pg g h s (own p i e) =
    let d : place p own_semaphore + 1 ≡ place p own_queue = omega arith in
    let n = pg p i in
    rw (e, d, stock_else L (place p own_semaphore) (omega arith)) (g p i)

abbrev pub MessageRule : ℕ → ℕ → Type 0
MessageRule n w = ((1 ≤ upper n) × (upper n ≤ last_name)) × (((1 ≤ lower n) × (lower n ≤ last_flag)) × ((w ≤ notice) × (length_in w ≤ longest)))

pub of_rule : {n w : ℕ} → MessageRule n w → Message n w
of_rule t = record { sender = t.0.0; known = t.0.1; flag = t.1.0.0; small = t.1.0.1; most = t.1.1.0; long = t.1.1.1 }

pub as_rule : {n w : ℕ} → Message n w → MessageRule n w
as_rule t = ((t.sender, t.known), ((t.flag, t.small), (t.most, t.long)))

mail : (m : List ℕ) (ps : List ℕ) (L : Lists) → Meant (Judge.messages bytes m ps L) → (p w : ℕ) → 1 ≤ count p ps → q1 ≤ w → w ≤ q2
    → (q : ℕ) → 1 ≤ count q (L (place p w)) → MessageRule (word m q Map.note) (word m q Map.size)
unfolding Judge.messages Judge.mail Judge.message Judge.sized
mail m ps L t p w h i j q c = go (hit_or w q1)
  where
    go : (w ≡ q1) ⊎ (w ≢ q1) → MessageRule (word m q Map.note) (word m q Map.size)
    go (inl e) = (t p h).0 q (rw e at c)
    go (inr n) = let e : w ≡ q2 = omega arith in (t p h).1 q (rw e at c)

-- the judged words and lists of a memory that the judge accepts
pub judge_inv : (m : List ℕ) → length m ≡ memory_size → judged m ≡ true → Inv m (lists m processor_list) (lists m) (view m)
unfolding Judge.page Judge.list Judge.listed Judge.once Judge.used_once Judge.label Judge.names Judge.bit Judge.waiter Judge.waiting_bits Judge.reasoned
    Judge.reasonless Judge.served Judge.quiet Judge.reasons Judge.unasked Judge.owner Judge.message_wait Judge.message_waits Judge.interrupt_semaphore
    Judge.message_semaphore Judge.page_semaphore Judge.semaphores Judge.page_wait Judge.page_waits Judge.grant Judge.granted Judge.sized Judge.message
    Judge.mail Judge.messages Judge.runner Judge.not_higher Judge.running Judge.kind Judge.codes Judge.counters Judge.clock Judge.used Judge.entry
    Judge.faults Judge.zero_bits Judge.zeros Judge.well_formed Judge.judged
judge_inv m size e =
    let L = lists m in
    let ps = L processor_list in
    let both = sentences (Judge.clock bytes m ps L) m ps L (sound (Judge.well_formed bytes m ps L) e) in
    let t = both.0 in
    let o = once m ps L t.listed t.used_once in
    let sp : Sep ps L = record { procs = refl; most = λ z. omega (arith, o z); waits = only m ps L t.listed t.waiting_bits } in
    record {
      base = record {
        mem = record {
          size = size;
          holds = record {
            rep = λ a h.
                let q = t.listed a h.0 in
                let w = lists_walk m a h.1 in
                rw w (chain_walk (suc control_pages) m (link_of a) a (omega (arith, q.0, ap length w)) (rw w at (pages_of (L a) q.1)));
            grant = λ k h. lists_some m (grant_for k) (grant_is k h);
          };
          reads = record {
            words = record { note = λ p h n. refl; size = λ p h n. refl; reason = λ p h i. refl; label = λ p h. refl; state = λ p h. refl };
            fixed = record { clock = λ a h i. refl; turn = λ a h i. refl; code = λ c h. refl; next = refl; entry = λ i h. refl };
            sems = λ s h. refl;
          };
        };
        facts = record {
          sep = sp;
          names = record {
            differ = λ p h. (t.names p h).0;
            range = λ p h. let q = t.names p h in record { name = q.1.0.0; low = q.1.1.0; high = q.1.1.1 };
          };
          seats = record {
            bit = λ p h. t.waiting_bits.0 p h;
            zeros = t.zeros.0;
            served = λ k i p h. t.reasons.0 k i p h;
            asking = λ p h. t.reasons.1.0 p h;
            quiet = λ p h z. t.reasons.1.1 p h z;
          };
          own = λ p h x i. let q = t.message_waits p h x i in record { owner = q.0; flag = q.1.0; none = q.1.1 };
          sems = λ s h. sems m L t.semaphores.0 (proc_page sp) t.semaphores.1.0 t.semaphores.1.1 s (seat_of ps s h);
          granted = record { bare = λ p h. t.page_waits p h; known = λ k h d n. t.granted k h n };
          mail = λ p w h i j q c. of_rule (mail m ps L t.messages p w h i j q c);
          runs = record {
            idle = t.running.0;
            listed = λ n. (t.running.1.0 n).0;
            tag = λ n. (t.running.1.0 n).1.0;
          };
          codes = let r = t.codes in record { kinds = r.0; zero = r.1.0; one = r.1.1.0; last = r.1.1.1 };
          clock = let r = both.1 in record {
            c0 = r.0.0;
            c1 = r.0.1.0;
            c2 = r.0.1.1.0;
            c3 = r.0.1.1.1;
            divider = r.1.0;
            line = r.1.1;
            nought = t.zeros.1;
          };
          faults = let r = t.faults in record {
            range = r.0;
            used = λ i h l. let q = (r.1 i h).0 l in record { name = q.0; fault = q.1 };
            unused = λ i h l. (r.1 i h).1 l;
          };
        };
        all = λ z. omega (arith, o z);
      };
      best = record { ready = λ n. (t.running.1.0 n).1.1; top = t.running.1.1 };
    }
