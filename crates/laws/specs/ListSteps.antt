-- What the steps do to the lists: joining appends, leaving takes just that page out, a page given back is free or the first waiter's grant, a message
-- delivered stands at the end of Q1; and no other list changes. The lists are those that a walk finds. Assumes nothing.
use Rattle.std.specs.Prelude.{◌≡◌, ◌≢◌, List, [], ◌∷◌, ◌++◌, ℕ, ◌+◌, ◌≤◌, length}
use Rattle.std.proofs.Common.{sym, ap, ◌∙◌, arith, length-append}
use Rattle.model.specs.Map.{free_list, grant_for, link, lower, own_queue, page_queue, place, processor_list, q1, wait_in}
use Rattle.model.specs.Bytes.{name, lists, join, leave, give_back, deliver, put_to_wait, wake}
use Rattle.model.specs.Lists.{count, Lists, some, queues}
use Rattle.laws.specs.Count.{count_append}
use Rattle.laws.specs.Queues.{upd, upd_same, upd_other}
use Rattle.laws.specs.Uses.{Among, Head, proc_page, list_short}
use Rattle.laws.specs.Places.{InUses, in_free, in_asking, in_q, in_grant, in_queues}
use Rattle.laws.specs.Inv.{View, Message, Base}
use Rattle.laws.specs.Wake.{wake_base}
use Rattle.laws.specs.Waits.{Fit, wait_base}
use Rattle.laws.specs.Judged.{walked, walked_short}
use Rattle.laws.specs.JoinLeave.{join_mem, leave_mem}
use Rattle.laws.specs.Changes.{uses_upd, uses_sep, hand_page}
use Rattle.laws.specs.Hands.{in_hand, hand_new, give_free}
use Rattle.laws.specs.Grants.{waiter_proc, give_grant, some_is, give_is_free, give_is_grant}
use Rattle.laws.specs.Post.{deliver_all}

-- from m to m' the list of a becomes xs, and no other list changes
pub record Becomes (ps : List ℕ) (m m' : List ℕ) (a : ℕ) (xs : List ℕ) : Type 0 where
  pub here : lists m' a ≡ xs
  pub others : (c : ℕ) → Among ps c → c ≢ a → lists m' c ≡ lists m c

-- "Joining is at the end": a page in hand joins a list of uses
pub join_appends : {m : List ℕ} {ps : List ℕ} {L : Lists} {W : View} {hs : List ℕ} {g q : ℕ} → Base m ps L W (q ∷ hs) g → (a : ℕ) → Head ps a → InUses ps a
    → a ≢ processor_list → Becomes ps m (join m a link q) a (lists m a ++ q ∷ [])
join_appends {m} {ps} {L} {W} {hs} {g} {q} b a ha i na =
    let s = b.facts.sep in
    let K = L a ++ q ∷ [] in
    let x = join_mem s b.mem a ha na q (hand_page b q (in_hand b)) (hand_new b) in
    let s2 = uses_sep s a i na (L a ++ q ∷ []) (λ z. omega (arith, uses_upd s a i na (L a ++ q ∷ []) z, count_append z (L a) (q ∷ []), b.all z)) in
    record {
      here = walked_short x a ha.0 (list_short s2 a ha.0) ∙ upd_same L a K ∙ ap (λ (l : List ℕ). l ++ q ∷ []) (sym (walked b a ha.0));
      others = λ c h d. walked_short x c h (list_short s2 c h) ∙ upd_other L a c K d ∙ sym (walked b c h);
    }

-- "a page that leaves": it stood between xs and ys
pub leave_takes : {m : List ℕ} {ps : List ℕ} {L : Lists} {W : View} {hs : List ℕ} {g : ℕ} → Base m ps L W hs g → (a q : ℕ) (xs ys : List ℕ) → Head ps a
    → a ≢ processor_list
    → lists m a ≡ xs ++ q ∷ ys → Becomes ps m (leave m a link q) a (xs ++ ys)
leave_takes {m} {ps} {L} b a q xs ys ha na e =
    let s = b.facts.sep in
    let e2 = sym (walked b a ha.0) ∙ e in
    let x = leave_mem s b.mem a ha na q xs ys e2 in
    let l = list_short s a ha.0 in
    record {
      here = walked_short x a ha.0 (rw (upd_same L a (xs ++ ys)) (omega (arith, l, ap length e2, length-append xs (q ∷ ys), length-append xs ys)))
          ∙ upd_same L a (xs ++ ys);
      others = λ c h d.
          let k = upd_other L a c (xs ++ ys) d in
          walked_short x c h (rw k (list_short s c h)) ∙ k ∙ sym (walked b c h);
    }

-- "A page given back": with no waiter, to the end of the free list
pub give_frees : {m : List ℕ} {ps : List ℕ} {L : Lists} {W : View} {hs : List ℕ} {g q : ℕ} → Base m ps L W (q ∷ hs) g → lists m page_queue ≡ []
    → Becomes ps m (give_back m q) free_list (lists m free_list ++ q ∷ [])
give_frees {m} {ps} {L} {q = q} b e =
    let e2 = sym (walked b page_queue (in_asking ps)) ∙ e in
    let r = give_free b e2 in
    rw (give_is_free b e2) (record {
      here =
          walked r free_list (in_free ps) ∙ upd_same L free_list (L free_list ++ q ∷ []) ∙ ap (λ (l : List ℕ). l ++ q ∷ []) (sym (walked b free_list (in_free ps)));
      others = λ c h d. walked r c h ∙ upd_other L free_list c (L free_list ++ q ∷ []) d ∙ sym (walked b c h);
    })

-- "to the first waiter as its grant and wakes it": p was the first, ws the others
pub record Grants (ps : List ℕ) (m m' : List ℕ) (n q : ℕ) (ws : List ℕ) : Type 0 where
  pub grant : lists m' (grant_for n) ≡ q ∷ []
  pub queue : lists m' page_queue ≡ ws
  pub others : (c : ℕ) → Among ps c → c ≢ grant_for n → c ≢ page_queue → lists m' c ≡ lists m c

pub give_grants : {m : List ℕ} {ps : List ℕ} {L : Lists} {W : View} {hs : List ℕ} {g q : ℕ} → Base m ps L W (q ∷ hs) g → (p : ℕ) (ws : List ℕ)
    → lists m page_queue ≡ p ∷ ws
    → Grants ps m (give_back m q) (name m p) q ws
give_grants {m} {ps} {L} {W} {q = q} b p ws e =
    let e2 = sym (walked b page_queue (in_asking ps)) ∙ e in
    let n = lower (W.label p) in
    let l = b.mem.reads.words.label p (proc_page b.facts.sep p (waiter_proc b p ws e2)) in
    let pq = hand_page b q (in_hand b) in
    let r = give_grant b p ws e2 in
    let A = upd L page_queue ws in
    rw (give_is_grant b p ws e2, l) (record {
      grant = walked r (grant_for n) (in_grant ps n (omega arith)) ∙ upd_same A (grant_for n) (some q) ∙ some_is q (omega (arith, pq));
      queue = walked r page_queue (in_asking ps) ∙ upd_other A (grant_for n) page_queue (some q) (omega arith) ∙ upd_same L page_queue ws;
      others = λ c h d1 d2. walked r c h ∙ upd_other A (grant_for n) c (some q) d1 ∙ upd_other L page_queue c ws d2 ∙ sym (walked b c h);
    })

-- "The page joins NI's Q1; if NI waits for it, NI wakes": p is NI's page; its own wait is the only other list that may change
pub deliver_appends : {m : List ℕ} {ps : List ℕ} {L : Lists} {W : View} {hs : List ℕ} {g q : ℕ} (b : Base m ps L W (q ∷ hs) g) (p : ℕ) (h : 1 ≤ count p ps)
    (letter : Message (W.note q) (W.size q)) → (lists (deliver m p q) (place p q1) ≡ lists m (place p q1) ++ q ∷ [])
    × ((c : ℕ) → Among ps c → c ≢ place p q1 → c ≢ place p own_queue → lists (deliver m p q) c ≡ lists m c)
deliver_appends {ps = ps} {q = q} b p h letter =
    let t = deliver_all b p h letter in
    let i5 = in_q ps p q1 (omega arith) (omega arith) h in (
      walked t.gave.base (place p q1) i5 ∙ t.here ∙ ap (λ (l : List ℕ). l ++ q ∷ []) (sym (walked b (place p q1) i5)),
      λ c i d e. walked t.gave.base c i ∙ t.others c d e ∙ sym (walked b c i),
    )

-- who is put to wait stands at the end of the queue whose semaphore is at a; who wakes leaves it
pub wait_appends : {m : List ℕ} {ps : List ℕ} {L : Lists} {W : View} {hs : List ℕ} {g : ℕ} → Base m ps L W hs g → (a p w : ℕ) → 1 ≤ count (a + 1) (queues ps)
    → 1 ≤ count p ps → wait_in (W.state p) ≡ 0 → Fit ps L W a p w → Becomes ps m (put_to_wait m a p w) (a + 1) (lists m (a + 1) ++ p ∷ [])
wait_appends {ps = ps} {L = L} b a p w h hp idle fit =
    let r = wait_base a p w b h hp idle fit in
    let i = in_queues ps (a + 1) h in
    record {
      here = walked r (a + 1) i ∙ upd_same L (a + 1) (L (a + 1) ++ p ∷ []) ∙ ap (λ (l : List ℕ). l ++ p ∷ []) (sym (walked b (a + 1) i));
      others = λ c k d. walked r c k ∙ upd_other L (a + 1) c (L (a + 1) ++ p ∷ []) d ∙ sym (walked b c k);
    }

pub wake_takes : {m : List ℕ} {ps : List ℕ} {L : Lists} {W : View} {hs : List ℕ} {g : ℕ} → Base m ps L W hs g → (a p : ℕ) (xs ys : List ℕ)
    → 1 ≤ count (a + 1) (queues ps) → lists m (a + 1) ≡ xs ++ p ∷ ys → Becomes ps m (wake m a p) (a + 1) (xs ++ ys)
wake_takes {ps = ps} {L = L} b a p xs ys h e =
    let i = in_queues ps (a + 1) h in
    let r = wake_base a p xs ys b h (sym (walked b (a + 1) i) ∙ e) in
    record {
      here = walked r (a + 1) i ∙ upd_same L (a + 1) (xs ++ ys);
      others = λ c k d. walked r c k ∙ upd_other L (a + 1) c (xs ++ ys) d ∙ sym (walked b c k);
    }
