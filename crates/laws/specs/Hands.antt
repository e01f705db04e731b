-- Pages: "SME and CRP use the page granted to them, else the first free one"; "A page given back goes to the first waiter as its grant and wakes it; with
-- no waiter, to the end of the free list." A page in hand is taken from a list or a grant and given to one; while it is in hand its words are free to
-- change. Assumes nothing.
use Rattle.std.specs.Prelude.{◌≡◌, refl, ◌≢◌, ◌⊎◌, false, ℕ, ◌+◌, ◌≤◌, ◌<◌, set, eqb}
use Rattle.std.proofs.Math.Path.{ap}
use Rattle.std.proofs.Common.{◌∙◌, inl, inr, arith}
use mathlib.Core.List.{List, [], ◌∷◌, ◌++◌}
use Rattle.std.proofs.Math.ListN.{length, length-append}
use Rattle.model.specs.Map as Map
use Rattle.model.specs.Map.{free_list, free_semaphore, grant_for, grants_end, less, link, lower, lowered, own_queue, page_queue, page_size, place}
use Rattle.model.specs.Map.{processor_list, q1, q2, raised, size, upper}
use Rattle.model.specs.Bytes.{word, join, leave, take_free, free_page}
use Rattle.model.specs.Mail.{fits}
use Rattle.model.specs.Page as Page
use Rattle.model.specs.Lists.{hit, count, Lists, sum, uses, queues}
use Rattle.laws.specs.Count.{hit_self, hit_other, hit_or, count_append}
use Rattle.laws.specs.Queues.{upd, upd_same, upd_other}
use Rattle.laws.specs.Heads.{one}
use Rattle.laws.specs.Uses.{Head, Sep, proc_page, list_short}
use Rattle.laws.specs.Places.{in_uses, in_free, in_q, free_once, grant_once, q_once, grant_low, grant_high}
use Rattle.laws.specs.Inv.{View, Message, stock, stock_page, stock_else, Facts, Mem, Base}
use Rattle.laws.specs.Frames.{Only}
use Rattle.laws.specs.Views.{put1, put1_same, put1_other, with_sem, retold}
use Rattle.laws.specs.Stores.{sem_mem, hand_mem}
use Rattle.laws.specs.JoinLeave.{join_mem, leave_mem, grant_mem}
use Rattle.laws.specs.Changes.{uses_upd, queue_same, uses_sep, facts_uses, facts_less, stock_same, hand_page, hand_out, hand_free, facts_off, page_sem}

-- ---- words of a page in hand
pub hand_base : {m m' : List ℕ} {ps : List ℕ} {L : Lists} {W : View} {hs : List ℕ} {g : ℕ} (q : ℕ) → 1 ≤ count q hs → Only q m m' → Base m ps L W hs g
    → Base m' ps L (retold m' W q) hs g
hand_base {m} {m'} {ps} {L} {W} q h o b = record {
  mem = hand_mem o (hand_page b q h) b.facts.sep (hand_out b q h) (hand_free b q h) b.mem;
  facts = facts_off q (hand_out b q h) (λ a i n. hand_free b q h a (in_uses ps a i)) (record {
    note = λ z n. put1_other W.note q (word m' q Map.note) z n;
    size = λ z n. put1_other W.size q (word m' q Map.size) z n;
    reason = λ z n. put1_other W.reason q (word m' q Map.reason) z n;
    label = λ z n. put1_other W.label q (word m' q Map.label) z n;
    state = λ z n. put1_other W.state q (word m' q Map.state) z n;
    sem = refl;
    low = refl;
    code = refl;
    next = refl;
    entry = refl;
  }) b.facts;
  all = b.all;
}

-- ---- the free list
module _ {m : List ℕ} {ps : List ℕ} {L : Lists} {W : View} {hs : List ℕ} {g : ℕ} (q : ℕ) (fs : List ℕ) (b : Base m ps L W hs g) (e : L free_list ≡ q ∷ fs) where
  s : Sep ps L
  s = b.facts.sep

  f : Facts ps L W g
  f = b.facts

  less_one : (z : ℕ) → sum z (upd L free_list fs) (uses ps) + hit (eqb z q) ≡ sum z L (uses ps)
  less_one z = omega (arith, uses_upd s free_list (free_once s) (omega arith) fs z, ap (count z) e)

  nobody : (p : ℕ) → 1 ≤ count p (L page_queue) → ⊥
  nobody p h = let t = f.granted.bare p h in omega (arith, ap length e)

  empty : (xs : List ℕ) → ((p : ℕ) → 1 ≤ count p xs → ⊥) → length xs ≡ 0
  empty [] h = refl
  empty (x ∷ xs) h = absurd (h x (omega (arith, hit_self x)))

  pub take_free_lem : Base (take_free m q) ps (upd L free_list fs) (with_sem W (put1 W.sem free_semaphore (lowered (W.sem free_semaphore)))) (q ∷ hs) g
  unfolding Page.take_free
  take_free_lem =
      let v = lowered (W.sem free_semaphore) in
      let o : (c : ℕ) → c ≢ free_list → upd L free_list fs c ≡ L c = λ c n. upd_other L free_list c fs n in
      let x = leave_mem s (sem_mem s b.mem free_semaphore v (page_sem ps)) free_list (in_free ps, grant_low free_list (omega arith)) (omega arith) q [] fs e in
      rw (b.mem.reads.sems free_semaphore (page_sem ps)) (record {
        mem = x;
        facts = facts_uses (upd L free_list fs) (put1 W.sem free_semaphore v) (record {
          sep = uses_sep s free_list (free_once s) (omega arith) fs (λ z. omega (arith, less_one z, s.most z));
          same = queue_same s free_list (free_once s) (omega arith) fs;
          sems = λ a h. sems a h (hit_or a free_semaphore);
          bare = λ p h. absurd (nobody p h);
          known = λ k h. rw (o (grant_for k) (omega arith)) (f.granted.known k h);
          mail = λ p w h u v. rw (o (place p w) (let t = proc_page s p h in omega arith)) (f.mail p w h u v);
          none = λ p y h i. rw (o (place p q1) (let t = proc_page s p h in omega arith)) (f.own p h y i).none;
        }) f;
        all = λ z. omega (arith, less_one z, b.all z);
      })
    where
      sems : (a : ℕ) → 1 ≤ count (a + 1) (queues ps) → (a ≡ free_semaphore) ⊎ (a ≢ free_semaphore)
          → put1 W.sem free_semaphore (lowered (W.sem free_semaphore)) a ≡ less (stock (upd L free_list fs) a) (length (L (a + 1)))
      sems a h (inl d) =
          rw (
            put1_same W.sem free_semaphore (lowered (W.sem free_semaphore)) a d,
            d,
            stock_page (upd L free_list fs),
            upd_same,
            f.sems free_semaphore (page_sem ps),
            stock_page L,
          )
          (omega (arith, ap length e, empty (L page_queue) nobody, list_short s free_list (in_free ps)))
      sems a h (inr n) =
          rw (put1_other W.sem free_semaphore (lowered (W.sem free_semaphore)) a n, stock_else (upd L free_list fs) a n) (f.sems a h
          ∙ ap (λ (x : ℕ). less x (length (L (a + 1)))) (stock_else L a n))

module _ {m : List ℕ} {ps : List ℕ} {L : Lists} {W : View} {hs : List ℕ} {g q : ℕ} (b : Base m ps L W (q ∷ hs) g) where
  pub in_hand : 1 ≤ count q (q ∷ hs)
  in_hand = omega (arith, hit_self q)

  pub hand_new : (c : ℕ) → Head ps c → c ≢ processor_list → count q (L c) ≡ 0
  hand_new c h n = hand_free b q in_hand c h.0

  pub give_free : L page_queue ≡ [] → Base (free_page m q) ps (upd L free_list (L free_list ++ q ∷ []))
      (with_sem W (put1 W.sem free_semaphore (raised (W.sem free_semaphore)))) hs g
  unfolding Page.free_page
  give_free none =
      let sp = b.facts.sep in
      let fc = b.facts in
      let v = raised (W.sem free_semaphore) in
      let K = L free_list ++ q ∷ [] in
      let o : (c : ℕ) → c ≢ free_list → upd L free_list (L free_list ++ q ∷ []) c ≡ L c = λ c n. upd_other L free_list c (L free_list ++ q ∷ []) n in
      let more : (z : ℕ) → sum z (upd L free_list (L free_list ++ q ∷ [])) (uses ps) ≡ sum z L (uses ps) + hit (eqb z q) = λ z.
      omega (arith, uses_upd sp free_list (free_once sp) (omega arith) (L free_list ++ q ∷ []) z, count_append z (L free_list) (q ∷ [])) in
      let x = join_mem sp (sem_mem sp b.mem free_semaphore v (page_sem ps)) free_list (in_free ps, grant_low free_list (omega arith)) (omega arith) q
      (hand_page b q in_hand) hand_new in
      rw (b.mem.reads.sems free_semaphore (page_sem ps)) (record {
        mem = x;
        facts = facts_uses (upd L free_list K) (put1 W.sem free_semaphore v) (record {
          sep = uses_sep sp free_list (free_once sp) (omega arith) K (λ z. omega (arith, more z, b.all z));
          same = queue_same sp free_list (free_once sp) (omega arith) K;
          sems = λ a h. sems a h (hit_or a free_semaphore);
          bare = λ p h. absurd (omega (arith, ap (count p) none));
          known = λ k h. rw (o (grant_for k) (omega arith)) (fc.granted.known k h);
          mail = λ p w h u v. rw (o (place p w) (let t = proc_page sp p h in omega arith)) (fc.mail p w h u v);
          none = λ p y h i. rw (o (place p q1) (let t = proc_page sp p h in omega arith)) (fc.own p h y i).none;
        }) fc;
        all = λ z. omega (arith, more z, b.all z);
      })
    where
      sems : (a : ℕ) → 1 ≤ count (a + 1) (queues ps) → (a ≡ free_semaphore) ⊎ (a ≢ free_semaphore)
          → put1 W.sem free_semaphore (raised (W.sem free_semaphore)) a ≡ less (stock (upd L free_list (L free_list ++ q ∷ [])) a) (length (L (a + 1)))
      sems a h (inl d) =
          rw (
            put1_same W.sem free_semaphore (raised (W.sem free_semaphore)) a d,
            d,
            stock_page (upd L free_list (L free_list ++ q ∷ [])),
            upd_same,
            b.facts.sems free_semaphore (page_sem ps),
            stock_page L,
          )
          (omega (arith, ap length none, length-append (L free_list) (q ∷ []), list_short b.facts.sep free_list (in_free ps)))
      sems a h (inr n) =
          rw (put1_other W.sem free_semaphore (raised (W.sem free_semaphore)) a n, stock_else (upd L free_list (L free_list ++ q ∷ [])) a n)
          (b.facts.sems a h ∙ ap (λ (x : ℕ). less x (length (L (a + 1)))) (stock_else L a n))

-- ---- to the end of Q1 or Q2: the sentences, and the model's step
module _ {ps : List ℕ} {L : Lists} {W : View} {g : ℕ} (q : ℕ) (fc : Facts ps L W g) (room : (z : ℕ) → sum z L (uses ps) + hit (eqb z q) ≤ one z)
    (p w : ℕ) (h : 1 ≤ count p ps) (u : q1 ≤ w) (v : w ≤ q2) (letter : Message (W.note q) (W.size q))
    (none : (x : ℕ) → 1 ≤ count x (L (place p own_queue)) → w ≡ q1 → fits (upper (W.reason p)) (lower (W.reason p)) (W.note q) ≡ false) where
  sp : Sep ps L
  sp = fc.sep

  abbrev a : ℕ
  a = place p w

  abbrev K : List ℕ
  K = L a ++ q ∷ []

  low : grants_end ≤ a
  low = let t = proc_page sp p h in omega arith

  pub more_mail : (z : ℕ) → sum z (upd L a K) (uses ps) ≡ sum z L (uses ps) + hit (eqb z q)
  more_mail z = omega (arith, uses_upd sp a (q_once sp p w u v h) (omega (arith, low)) K z, count_append z (L a) (q ∷ []))

  mails : (y n : ℕ) → 1 ≤ count y ps → q1 ≤ n → n ≤ q2 → (x : ℕ) → 1 ≤ count x (upd L a K (place y n))
      → (place y n ≡ a) ⊎ (place y n ≢ a) → (x ≡ q) ⊎ (x ≢ q) → Message (W.note x) (W.size x)
  mails y n j l r x c d (inl e) = rw e letter
  mails y n j l r x c (inl d) (inr e) =
      let k = rw (d, upd_same) at c in
      fc.mail p w h u v x (omega (arith, count_append x (L a) (q ∷ []), hit_other x q e))
  mails y n j l r x c (inr d) (inr e) = fc.mail y n j l r x (rw (upd_other L a (place y n) K d) at c)

  nones : (y x : ℕ) → 1 ≤ count y ps → 1 ≤ count x (L (place y own_queue)) → (z : ℕ) → 1 ≤ count z (upd L a K (place y q1))
      → (place y q1 ≡ a) ⊎ (place y q1 ≢ a) → (z ≡ q) ⊎ (z ≢ q) → fits (upper (W.reason y)) (lower (W.reason y)) (W.note z) ≡ false
  nones y x j k z c (inl d) (inl e) =
      let t : y ≡ p = omega arith in
      rw (e, t) (none x (rw t at k) (omega arith))
  nones y x j k z c (inl d) (inr e) =
      let l = rw (d, upd_same) at c in
      (fc.own y j x k).none z (rw d (omega (arith, count_append z (L a) (q ∷ []), hit_other z q e)))
  nones y x j k z c (inr d) e = (fc.own y j x k).none z (rw (upd_other L a (place y q1) K d) at c)

  pub facts_mail : Facts ps (upd L a K) W g
  facts_mail =
      let i = q_once sp p w u v h in
      let o : (c : ℕ) → c ≢ a → upd L a K c ≡ L c = λ c n. upd_other L a c K n in
      facts_uses (upd L a K) W.sem (record {
        sep = uses_sep sp a i (omega (arith, low)) K (λ z. omega (arith, more_mail z, room z));
        same = queue_same sp a i (omega (arith, low)) K;
        sems = λ c j. rw (stock_same L (upd L a K) (o free_list (omega (arith, low))) c) (fc.sems c j);
        bare = λ y j. rw (o free_list (omega (arith, low)), o (grant_for (lower (W.label y))) (omega (arith, low))) (fc.granted.bare y j);
        known = λ k j. rw (o (grant_for k) (omega (arith, low))) (fc.granted.known k j);
        mail = λ y n j l r x c. mails y n j l r x c (hit_or (place y n) a) (hit_or x q);
        none = λ y x j k z c. nones y x j k z c (hit_or (place y q1) a) (hit_or z q);
      }) fc

module _ {m : List ℕ} {ps : List ℕ} {L : Lists} {W : View} {hs : List ℕ} {g q : ℕ} (b : Base m ps L W (q ∷ hs) g) where
  pub room : (z : ℕ) → sum z L (uses ps) + hit (eqb z q) ≤ one z
  room z = omega (arith, b.all z)

  pub mail_sep : (p w : ℕ) → 1 ≤ count p ps → q1 ≤ w → w ≤ q2 → Sep ps (upd L (place p w) (L (place p w) ++ q ∷ []))
  mail_sep p w h u v =
      let sp = b.facts.sep in
      let t = proc_page sp p h in
      let i = q_once sp p w u v h in
      uses_sep sp (place p w) i (omega arith) (L (place p w) ++ q ∷ []) (λ z.
      omega (arith, uses_upd sp (place p w) i (omega arith) (L (place p w) ++ q ∷ []) z, count_append z (L (place p w)) (q ∷ []), room z))

  -- the memory with page q at the end of word w of page p
  pub mail_mem : (p w : ℕ) → 1 ≤ count p ps → q1 ≤ w → w ≤ q2 → Mem (join m (place p w) link q) ps (upd L (place p w) (L (place p w) ++ q ∷ [])) W
  mail_mem p w h u v =
      let sp = b.facts.sep in
      let t = proc_page sp p h in
      join_mem sp b.mem (place p w) (in_q ps p w u v h, grant_high (place p w) (omega arith)) (omega arith) q (hand_page b q (in_hand b)) (hand_new b)

  pub give_mail : (p w : ℕ) → 1 ≤ count p ps → q1 ≤ w → w ≤ q2 → Message (W.note q) (W.size q)
      → ((x : ℕ) → 1 ≤ count x (L (place p own_queue)) → w ≡ q1 → fits (upper (W.reason p)) (lower (W.reason p)) (W.note q) ≡ false)
      → Base (join m (place p w) link q) ps (upd L (place p w) (L (place p w) ++ q ∷ [])) W hs g
  give_mail p w h u v letter none = record {
    mem = mail_mem p w h u v;
    facts = facts_mail q b.facts room p w h u v letter none;
    all = λ z. omega (arith, more_mail q b.facts room p w h u v letter none z, b.all z);
  }

-- ---- messages and grants taken
module _ {m : List ℕ} {ps : List ℕ} {L : Lists} {W : View} {hs : List ℕ} {g : ℕ} (b : Base m ps L W hs g) where
  sb : Sep ps L
  sb = b.facts.sep

  pub take_mail : (p w q : ℕ) (xs ys : List ℕ) → 1 ≤ count p ps → q1 ≤ w → w ≤ q2 → L (place p w) ≡ xs ++ q ∷ ys
      → Base (leave m (place p w) link q) ps (upd L (place p w) (xs ++ ys)) W (q ∷ hs) g
  take_mail p w q xs ys h u v e =
      let t = proc_page sb p h in
      let a = place p w in
      let i = q_once sb p w u v h in
      record {
        mem = leave_mem sb b.mem a (in_q ps p w u v h, grant_high a (omega arith)) (omega arith) q xs ys e;
        facts = facts_less a (xs ++ ys) i (omega arith) (omega arith) (λ z. rw e (omega (arith, count_append z xs ys, count_append z xs (q ∷ ys))))
            (rw e (omega (arith, length-append xs ys, length-append xs (q ∷ ys)))) b.facts;
        all = λ z. omega (
          arith,
          uses_upd sb (place p w) i (omega arith) (xs ++ ys) z,
          ap (count z) e,
          count_append z xs ys,
          count_append z xs (q ∷ ys),
          b.all z,
        );
      }

  pub take_grant : (k q : ℕ) → k < page_size → L (grant_for k) ≡ q ∷ [] → Base (set m (grant_for k) 0) ps (upd L (grant_for k) []) W (q ∷ hs) g
  take_grant k q h e = record {
    mem = grant_mem k 0 h sb b.mem;
    facts = facts_less (grant_for k) [] (grant_once sb k h) (omega arith) (omega arith) (λ z. omega arith) (omega arith) b.facts;
    all = λ z. omega (arith, uses_upd sb (grant_for k) (grant_once sb k h) (omega arith) [] z, ap (count z) e, b.all z);
  }
