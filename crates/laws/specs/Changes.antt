-- Which sentences of the invariant stay when lists of uses change, when a page in hand changes, when a counter, a code or page 9 changes.
-- Assumes nothing.
use Rattle.std.specs.Prelude.{◌≡◌, ◌≢◌, ◌⊎◌, false, List, ℕ, ◌+◌, ◌≤◌, ◌<◌, length}
use Rattle.std.proofs.Common.{sym, ap, ◌∙◌, inl, inr, arith}
use Rattle.model.specs.Map.{free_list, free_semaphore, grant_for, header_after, interrupts, less, lower, own_queue, own_semaphore, page_queue, page_size}
use Rattle.model.specs.Map.{place, processor_list, q1, q2, running_page, semaphore_after, upper, wait_in, zeros_in}
use Rattle.model.specs.Mail.{fits}
use Rattle.model.specs.Lists.{count, Lists, sum, uses, queues}
use Rattle.laws.specs.Count.{hit_or, count_append, zero_or}
use Rattle.laws.specs.Chain.{Page}
use Rattle.laws.specs.Queues.{upd, upd_same, upd_other}
use Rattle.laws.specs.Heads.{one, one_le, one_page, sum_one, sum_skip, sum_upd, sum_ext, Seat, seat_of}
use Rattle.laws.specs.Heads.Seat.{line, page, own}
use Rattle.laws.specs.Uses.{Among, Sep, proc_page}
use Rattle.laws.specs.Places.{InUses, InQueues, int_queue, int_once, own_once, q_once, asking_once, wait_page, queue_at}
use Rattle.laws.specs.Inv.{View, bearers, Message, Codes, Clock, Faults, stock, Runs, Facts, Base}
use Rattle.laws.specs.Judged.{each_ext}
use Rattle.laws.specs.Views.{with_sem, with_rest, with_low, with_code, with_entry, with_state}

-- a head of a wait queue stands once among them, and among no uses
pub queue_once : {ps : List ℕ} {L : Lists} → Sep ps L → (s : ℕ) → 1 ≤ count (s + 1) (queues ps) → InQueues ps (s + 1)
queue_once {ps} s a h = go (seat_of ps a h)
  where
    go : Seat ps a → InQueues ps (a + 1)
    go (line k u e) = let d : a + 1 ≡ header_after k = omega arith in rw d (int_once s k u)
    go (page e) = rw e (asking_once s)
    go (own p u e) = let d : a + 1 ≡ place p own_queue = omega arith in rw d (own_once s p u)

-- the semaphores of the three kinds
pub int_sem : (ps : List ℕ) (k : ℕ) → k < interrupts → 1 ≤ count (semaphore_after k + 1) (queues ps)
int_sem ps k h = let d : semaphore_after k + 1 ≡ header_after k = omega arith in queue_at ps _ _ d (int_queue ps k h)

pub own_sem : {ps : List ℕ} {L : Lists} → Sep ps L → (p : ℕ) → 1 ≤ count p ps → 1 ≤ count (place p own_semaphore + 1) (queues ps)
own_sem {ps = ps} s p h =
    let d : place p own_semaphore + 1 ≡ place p own_queue = omega arith in
    let i : 1 ≤ count (place p own_queue) (queues ps) = omega (arith, (own_once s p h).here) in
    queue_at ps _ _ d i

pub page_sem : (ps : List ℕ) → 1 ≤ count (free_semaphore + 1) (queues ps)
page_sem ps = omega arith

-- ---- lists of uses
module _ {ps : List ℕ} {L : Lists} (s : Sep ps L) (a : ℕ) (i : InUses ps a) (na : a ≢ processor_list) where
  pub uses_upd : (K : List ℕ) (z : ℕ) → sum z (upd L a K) (uses ps) + count z (L a) ≡ sum z L (uses ps) + count z K
  uses_upd K z = sum_upd z L a K (uses ps) i.here

  pub queue_same : (K : List ℕ) (b : ℕ) → 1 ≤ count b (queues ps) → upd L a K b ≡ L b
  queue_same K b h = upd_other L a b K (λ e. let f = ap (λ (y : ℕ). count y (queues ps)) e in omega (arith, i.away))

  pub uses_sep : (K : List ℕ) → ((z : ℕ) → sum z (upd L a K) (uses ps) ≤ one z) → Sep ps (upd L a K)
  uses_sep K h = record {
    procs = upd_other L a processor_list K (λ e. na (sym e)) ∙ s.procs;
    most = h;
    waits = λ z. omega (arith, sum_skip z L a K (queues ps) i.away, s.waits z);
  }

-- what must be shown when lists of uses change from L to K, and the semaphores to h
pub record News (ps : List ℕ) (L K : Lists) (W : View) (h : ℕ → ℕ) (g : ℕ) : Type 0 where
  pub sep : Sep ps K
  pub same : (b : ℕ) → 1 ≤ count b (queues ps) → K b ≡ L b
  pub sems : (s : ℕ) → 1 ≤ count (s + 1) (queues ps) → h s ≡ less (stock K s) (length (L (s + 1)))
  pub bare : (p : ℕ) → 1 ≤ count p (L page_queue) → (length (K free_list) ≡ 0) × (length (K (grant_for (lower (W.label p)))) ≡ 0)
  pub known : (k : ℕ) → k < page_size → k ≢ g → length (K (grant_for k)) ≢ 0 → bearers W.label ps k ≡ 1
  pub mail : (p w : ℕ) → 1 ≤ count p ps → q1 ≤ w → w ≤ q2 → (q : ℕ) → 1 ≤ count q (K (place p w)) → Message (W.note q) (W.size q)
  pub none : (p x : ℕ) → 1 ≤ count p ps → 1 ≤ count x (L (place p own_queue)) → (q : ℕ) → 1 ≤ count q (K (place p q1))
      → fits (upper (W.reason p)) (lower (W.reason p)) (W.note q) ≡ false

pub facts_uses : {ps : List ℕ} {L : Lists} {W : View} {g : ℕ} (K : Lists) (h : ℕ → ℕ) → News ps L K W h g → Facts ps L W g → Facts ps K (with_sem W h) g
facts_uses {ps} {L} {W} K h n f =
    let s = f.sep in
    let w4 : (p : ℕ) → 1 ≤ count p ps → K (place p own_queue) ≡ L (place p own_queue) = λ p i. n.same (place p own_queue) (omega (arith, (own_once s p i).here)) in
    let wk : (k : ℕ) → k < interrupts → K (header_after k) ≡ L (header_after k) = λ k i. n.same (header_after k) (omega (arith, (int_once s k i).here)) in
    let w6 = n.same page_queue (omega (arith, (asking_once s).here)) in
    record {
      sep = n.sep;
      names = f.names;
      seats = record {
        bit = λ p i. sum_ext p K L (queues ps) (λ b j. n.same b j) ∙ f.seats.bit p i;
        zeros = f.seats.zeros;
        served = λ k i p j. f.seats.served k i p (rw (wk k i) at j);
        asking = λ p j. f.seats.asking p (rw w6 at j);
        quiet = f.seats.quiet;
      };
      own = λ p i x j. let j2 = rw (w4 p i) at j in let t = f.own p i x j2 in record { owner = t.owner; flag = t.flag; none = n.none p x i j2 };
      sems = λ a i. rw (n.same (a + 1) i) (n.sems a i);
      granted = record { bare = λ p j. n.bare p (rw w6 at j); known = n.known };
      mail = n.mail;
      runs = f.runs;
      codes = f.codes;
      clock = f.clock;
      faults = f.faults;
    }

-- the semaphores stay, and so does the free list
pub stock_same : (L K : Lists) → K free_list ≡ L free_list → (s : ℕ) → stock K s ≡ stock L s
unfolding stock
stock_same L K e s = rw e

-- ---- a list of uses that only loses
upd_le : (L : Lists) (a : ℕ) (K : List ℕ) → ((z : ℕ) → count z K ≤ count z (L a)) → (c z : ℕ) → count z (upd L a K c) ≤ count z (L c)
upd_le L a K h c z = go (hit_or c a)
  where
    go : (c ≡ a) ⊎ (c ≢ a) → count z (upd L a K c) ≤ count z (L c)
    go (inl e) = rw (e, upd_same) (h z)
    go (inr n) = rw (upd_other L a c K n) (omega arith)

upd_len : (L : Lists) (a : ℕ) (K : List ℕ) → length K ≤ length (L a) → (c : ℕ) → length (upd L a K c) ≤ length (L c)
upd_len L a K h c = go (hit_or c a)
  where
    go : (c ≡ a) ⊎ (c ≢ a) → length (upd L a K c) ≤ length (L c)
    go (inl e) = rw (e, upd_same) h
    go (inr n) = rw (upd_other L a c K n) (omega arith)

pub facts_less : {ps : List ℕ} {L : Lists} {W : View} {g : ℕ} (a : ℕ) (K : List ℕ) → InUses ps a → a ≢ processor_list → a ≢ free_list
    → ((z : ℕ) → count z K ≤ count z (L a)) → length K ≤ length (L a) → Facts ps L W g → Facts ps (upd L a K) W g
facts_less {ps} {L} {W} a K i na nf c l f =
    let s = f.sep in
    let cs = upd_le L a K c in
    let ls = upd_len L a K l in
    facts_uses (upd L a K) W.sem (record {
      sep = uses_sep s a i na K (λ z. omega (arith, uses_upd s a i na K z, c z, s.most z));
      same = queue_same s a i na K;
      sems = λ b h. rw (stock_same L (upd L a K) (upd_other L a free_list K (λ e. nf (sym e))) b) (f.sems b h);
      bare = λ p h. let t = f.granted.bare p h in (omega (arith, t.0, ls free_list), omega (arith, t.1, ls (grant_for (lower (W.label p)))));
      known = λ k h d n. f.granted.known k h d (λ z. n (omega (arith, ls (grant_for k))));
      mail = λ p w h u v q j. f.mail p w h u v q (omega (arith, cs (place p w) q));
      none = λ p x h j q d. (f.own p h x j).none q (omega (arith, cs (place p q1) q));
    }) f

-- ---- pages in hand
module _ {m : List ℕ} {ps : List ℕ} {L : Lists} {W : View} {hs : List ℕ} {g : ℕ} (b : Base m ps L W hs g) (q : ℕ) (h : 1 ≤ count q hs) where
  pub hand_page : Page q
  hand_page = one_page q (omega (arith, b.all q))

  pub hand_out : count q ps ≡ 0
  hand_out = omega (arith, b.all q, one_le q, ap (count q) b.facts.sep.procs)

  pub hand_free : (a : ℕ) → Among ps a → count q (L a) ≡ 0
  hand_free a i = go (zero_or (count a (uses ps)))
    where
      go : (count a (uses ps) ≡ 0) ⊎ (1 ≤ count a (uses ps)) → count q (L a) ≡ 0
      go (inl z) =
          omega (arith, sum_one q L a (queues ps) (omega (arith, i, count_append a (uses ps) (queues ps))), b.facts.sep.waits q, hand_out)
      go (inr j) = omega (arith, sum_one q L a (uses ps) j, b.all q, one_le q)

-- two views that differ at page q only
pub record Off (q : ℕ) (W X : View) : Type 0 where
  pub note : (z : ℕ) → z ≢ q → X.note z ≡ W.note z
  pub size : (z : ℕ) → z ≢ q → X.size z ≡ W.size z
  pub reason : (z : ℕ) → z ≢ q → X.reason z ≡ W.reason z
  pub label : (z : ℕ) → z ≢ q → X.label z ≡ W.label z
  pub state : (z : ℕ) → z ≢ q → X.state z ≡ W.state z
  pub sem : X.sem ≡ W.sem
  pub low : X.low ≡ W.low
  pub code : X.code ≡ W.code
  pub next : X.next ≡ W.next
  pub entry : X.entry ≡ W.entry

pub facts_off : {ps : List ℕ} {L : Lists} {W X : View} {g : ℕ} (q : ℕ) → count q ps ≡ 0
    → ((a : ℕ) → 1 ≤ count a (uses ps) → a ≢ processor_list → count q (L a) ≡ 0)
    → Off q W X → Facts ps L W g → Facts ps L X g
facts_off {ps} {L} {W} {X} q out free o f =
    let s = f.sep in
    let ne : (p : ℕ) → 1 ≤ count p ps → p ≢ q = λ p h e. (let c = ap (λ (y : ℕ). count y ps) e in omega arith) in
    let nw : (a p : ℕ) → 1 ≤ count a (queues ps) → 1 ≤ count p (L a) → p ≢ q = λ a p h j. ne p (wait_page s a p h j) in
    let nm : (p w x : ℕ) → 1 ≤ count p ps → q1 ≤ w → w ≤ q2 → 1 ≤ count x (L (place p w)) → x ≢ q = λ p w x h u v j e.
    (let c = ap (λ (y : ℕ). count y (L (place p w))) e in
    let r = proc_page s p h in
    omega (arith, free (place p w) (omega (arith, (q_once s p w u v h).here)) (omega arith))) in
    let same : (k : ℕ) → bearers X.label ps k ≡ bearers W.label ps k = λ k.
    ap (count k) (each_ext (λ p. lower (X.label p)) (λ p. lower (W.label p)) ps (λ p h. ap (λ (x : ℕ). lower x) (o.label p (ne p h)))) in
    record {
      sep = f.sep;
      names = record {
        differ = λ p h. rw (same (lower (X.label p)), o.label p (ne p h)) (f.names.differ p h);
        range = λ p h. rw (o.label p (ne p h)) (f.names.range p h);
      };
      seats = record {
        bit = λ p h. rw (o.state p (ne p h)) (f.seats.bit p h);
        zeros = λ p h. rw (o.state p (ne p h)) (f.seats.zeros p h);
        served = λ k i p j. rw (o.reason p (nw (header_after k) p (int_queue ps k i) j)) (f.seats.served k i p j);
        asking = λ p j. rw (o.reason p (nw page_queue p (omega arith) j)) (f.seats.asking p j);
        quiet = λ p h z. rw (o.reason p (ne p h)) (f.seats.quiet p h (rw (o.state p (ne p h)) at z));
      };
      own = λ p h x j. let t = f.own p h x j in record {
        owner = t.owner;
        flag = rw (o.reason p (ne p h)) t.flag;
        none = λ y c. rw (o.reason p (ne p h), o.note y (nm p q1 y h (omega arith) (omega arith) c)) (t.none y c);
      };
      sems = λ a h. rw o.sem (f.sems a h);
      granted = record {
        bare = λ p j. rw (o.label p (nw page_queue p (omega arith) j)) (f.granted.bare p j);
        known = λ k h d n. same k ∙ f.granted.known k h d n;
      };
      mail = λ p w h u v y c. let d = nm p w y h u v c in rw (o.note y d, o.size y d) (f.mail p w h u v y c);
      runs = record {
        idle = rw o.low f.runs.idle;
        listed = rw o.low f.runs.listed;
        tag = rw o.low (λ n. f.runs.tag n ∙ sym (o.label (W.low running_page) (ne (W.low running_page) (omega (arith, f.runs.listed n)))));
      };
      codes = rw o.code f.codes;
      clock = rw o.low f.clock;
      faults = rw (o.next, o.entry) f.faults;
    }

-- ---- page 8, the counters, page 9
facts_rest : {ps : List ℕ} {L : Lists} {W : View} {g : ℕ} (l c : ℕ → ℕ) (n : ℕ) (e : ℕ → ℕ) → Runs ps l W.label → Codes c → Clock l → Faults n e
    → Facts ps L W g → Facts ps L (with_rest W W.sem l c n e) g
facts_rest l c n e r k t h f = record {
  sep = f.sep;
  names = f.names;
  seats = f.seats;
  own = f.own;
  sems = f.sems;
  granted = f.granted;
  mail = f.mail;
  runs = r;
  codes = k;
  clock = t;
  faults = h;
}

pub facts_code : {ps : List ℕ} {L : Lists} {W : View} {g : ℕ} (c : ℕ → ℕ) → Codes c → Facts ps L W g → Facts ps L (with_code W c) g
facts_code {W = W} c k f = facts_rest W.low c W.next W.entry f.runs k f.clock f.faults f

pub facts_low : {ps : List ℕ} {L : Lists} {W : View} {g : ℕ} (l : ℕ → ℕ) → Runs ps l W.label → Clock l → Facts ps L W g → Facts ps L (with_low W l) g
facts_low {W = W} l r t f = facts_rest l W.code W.next W.entry r f.codes t f.faults f

pub facts_entry : {ps : List ℕ} {L : Lists} {W : View} {g : ℕ} (n : ℕ) (e : ℕ → ℕ) → Faults n e → Facts ps L W g → Facts ps L (with_entry W n e) g
facts_entry {W = W} n e h f = facts_rest W.low W.code n e f.runs f.codes f.clock h f

-- word 12, where neither the waiting bit nor the zeros change
pub facts_state : {ps : List ℕ} {L : Lists} {W : View} {g : ℕ} (t : ℕ → ℕ)
    → ((p : ℕ) → 1 ≤ count p ps → (wait_in (t p) ≡ wait_in (W.state p)) × (zeros_in (t p) ≡ 0)) → Facts ps L W g → Facts ps L (with_state W t) g
facts_state t h f = record {
  sep = f.sep;
  names = f.names;
  seats = record {
    bit = λ p i. f.seats.bit p i ∙ sym (h p i).0;
    zeros = λ p i. (h p i).1;
    served = f.seats.served;
    asking = f.seats.asking;
    quiet = λ p i z. f.seats.quiet p i (sym (h p i).0 ∙ z);
  };
  own = f.own;
  sems = f.sems;
  granted = f.granted;
  mail = f.mail;
  runs = f.runs;
  codes = f.codes;
  clock = f.clock;
  faults = f.faults;
}
