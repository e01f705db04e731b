-- Pages: "A page given back goes to the first waiter as its grant and wakes it; with no waiter, to the end of the free list"; "SME and CRP use the page
-- granted to them, else the first free one". The model's steps, and which words giving back and taking leave. Assumes nothing.
use Rattle.std.specs.Prelude.{◌≡◌, ◌≢◌, ◌⊎◌, Bool, ℕ, zero, suc, ◌+◌, ◌≤◌, ◌<◌, length, set}
use Rattle.std.proofs.Math.Path.{refl}
use Rattle.std.proofs.Common.{sym, ap, ◌∙◌, inl, inr, arith}
use Rattle.std.proofs.Math.Bool.{true, false}
use mathlib.Core.List.{List, [], ◌∷◌, ◌++◌}
use Rattle.std.proofs.Math.ListN.{get_or}
use Rattle.std.proofs.Math.Dec.{eqb}
use borrow.Author.Tests.{ne_eqb}
use Rattle.model.specs.Map.{free_list, free_semaphore, grant_for, label, link, lower, lowered, page_queue, page_size, place, q1, raised, reason, state}
use Rattle.model.specs.Bytes.{name, word, take_free, take_page, free_page, grant_page, give_back}
use Rattle.model.specs.Page as Page
use Rattle.model.specs.Page.{Taken}
use Rattle.model.specs.Page.Taken.{took}
use Rattle.model.specs.Lists.{hit, count, Lists, sum, each_of, some, uses, queues}
use Rattle.laws.specs.Count.{hit_self, hit_other, hit_or, one_hit}
use Rattle.laws.specs.Chain.{Chain}
use Rattle.laws.specs.Queues.{upd, upd_same, upd_other, upd_swap}
use Rattle.laws.specs.Heads.{sum_one, sum_skip}
use Rattle.laws.specs.Uses.{Sep, proc_page, proc_once}
use Rattle.laws.specs.Places.{in_free, in_asking, asking_once, grant_once, grant_low, wait_page}
use Rattle.laws.specs.Inv.{View, Facts, Base}
use Rattle.laws.specs.Frames.{other}
use Rattle.laws.specs.Views.{put1, with_sem}
use Rattle.laws.specs.Stores.{sem_mem}
use Rattle.laws.specs.JoinLeave.{chain0, join_frame, leave_frame, grant_mem}
use Rattle.laws.specs.Changes.{uses_upd, queue_same, uses_sep, facts_uses, stock_same, hand_page, page_sem}
use Rattle.laws.specs.Wake.{woken, woken_proc, facts_wake, wake_mem, wake_frame}
use Rattle.laws.specs.Hands.{in_hand, hand_new, take_free_lem, give_free, take_grant}

-- two of one name
each_one : (f : ℕ → ℕ) (x : ℕ) (ps : List ℕ) → 1 ≤ count x ps → 1 ≤ count (f x) (each_of f ps)
each_one f x [] h = absurd (omega arith)
each_one f x (y ∷ ps) h = go (hit_or x y) (each_one f x ps)
  where
    go : (x ≡ y) ⊎ (x ≢ y) → (1 ≤ count x ps → 1 ≤ count (f x) (each_of f ps)) → 1 ≤ count (f x) (each_of f (y ∷ ps))
    go (inl e) ih = omega (arith, one_hit (f x) (f y) (ap f e))
    go (inr n) ih = omega (arith, ih (omega (arith, hit_other x y n)))

pub each_two : (f : ℕ → ℕ) (x p : ℕ) (ps : List ℕ) → x ≢ p → f x ≡ f p → 1 ≤ count x ps → 1 ≤ count p ps → 2 ≤ count (f p) (each_of f ps)
each_two f x p [] n e h i = absurd (omega arith)
each_two f x p (y ∷ ps) n e h i = go (hit_or x y) (hit_or p y) (each_two f x p ps n e)
  where
    go : (x ≡ y) ⊎ (x ≢ y) → (p ≡ y) ⊎ (p ≢ y) → (1 ≤ count x ps → 1 ≤ count p ps → 2 ≤ count (f p) (each_of f ps))
        → 2 ≤ count (f p) (each_of f (y ∷ ps))
    go (inl a) (inl b) ih = absurd (n (a ∙ sym b))
    go (inl a) (inr b) ih = omega (arith, one_hit (f p) (f y) (sym e ∙ ap f a), each_one f p ps (omega (arith, hit_other p y b)))
    go (inr a) (inl b) ih = let c = each_one f x ps (omega (arith, hit_other x y a)) in omega (arith, one_hit (f p) (f y) (ap f b), rw e at c)
    go (inr a) (inr b) ih = omega (arith, ih (omega (arith, hit_other x y a)) (omega (arith, hit_other p y b)))

pub some_is : (q : ℕ) → q ≢ 0 → some q ≡ q ∷ []
some_is zero n = absurd (n refl)
some_is (suc q) n = refl

nil_count : (xs : List ℕ) → length xs ≡ 0 → (z : ℕ) → count z xs ≡ 0
nil_count [] h z = refl
nil_count (x ∷ xs) h z = absurd (omega arith)

-- ---- "to the first waiter as its grant and wakes it"
module _ {m : List ℕ} {ps : List ℕ} {L : Lists} {W : View} {hs : List ℕ} {g q : ℕ} (b : Base m ps L W (q ∷ hs) g) (p : ℕ) (ws : List ℕ)
    (e : L page_queue ≡ p ∷ ws) where
  s : Sep ps L
  s = b.facts.sep

  abbrev n : ℕ
  n = lower (W.label p)

  abbrev A : Lists
  A = upd L page_queue ws

  abbrev K : Lists
  K = upd A (grant_for n) (some q)

  pub waiter_proc : 1 ≤ count p ps
  waiter_proc = woken_proc free_semaphore p [] ws b.facts (page_sem ps) e

  fw : Facts ps A (woken W free_semaphore p) g
  fw = facts_wake free_semaphore p [] ws b.facts (page_sem ps) e

  hand_is : some q ≡ q ∷ []
  hand_is = some_is q (λ z. let t = hand_page b q (omega (arith, hit_self q)) in omega arith)

  bare_p : length (L (grant_for n)) ≡ 0
  bare_p = (b.facts.granted.bare p (rw e (omega (arith, hit_self p)))).1

  more : (z : ℕ) → sum z K (uses ps) ≡ sum z L (uses ps) + hit (eqb z q)
  more z =
      omega (
        arith,
        uses_upd fw.sep (grant_for n) (grant_once s n (omega arith)) (omega arith) (some q) z,
        ap (count z) hand_is,
        sum_skip z L page_queue ws (uses ps) (asking_once s).away,
        nil_count (L (grant_for n)) bare_p z,
        ap (count z) (upd_other L page_queue (grant_for n) ws (omega arith)),
      )

  -- another that waits has another name
  twins : (x : ℕ) → 1 ≤ count x (A page_queue) → lower (W.label x) ≡ n → ⊥
  twins x h d =
      let i : 1 ≤ count x ws = rw (upd_same L page_queue ws) at h in
      let hx : 1 ≤ count x (L page_queue) = rw e (omega arith) in
      let no : x ≢ p = λ z.
      omega (arith, ap (λ (y : ℕ). count y ws) z, ap (count p) e, hit_self p, sum_one p L page_queue (queues ps) (omega arith), s.waits p, proc_once s p) in
      omega (
        arith,
        each_two (λ y. lower (W.label y)) x p ps no d (wait_page s page_queue x (omega arith) hx) waiter_proc,
        b.facts.names.differ p waiter_proc,
      )

  facts_grant : Facts ps K (woken W free_semaphore p) g
  facts_grant =
      let i = grant_once s n (omega arith) in
      let o : (c : ℕ) → c ≢ grant_for n → K c ≡ A c = λ c d. upd_other A (grant_for n) c (some q) d in
      facts_uses K (woken W free_semaphore p).sem (record {
        sep = uses_sep fw.sep (grant_for n) i (omega arith) (some q) (λ z. omega (arith, more z, b.all z));
        same = queue_same fw.sep (grant_for n) i (omega arith) (some q);
        sems = λ a h. rw (stock_same A K (o free_list (omega arith)) a) (fw.sems a h);
        bare = λ x h. rw (o free_list (omega arith), o (grant_for (lower (W.label x))) (λ d. twins x h (omega arith))) (fw.granted.bare x h);
        known = λ k h d c. known k h d c (hit_or k n);
        mail = λ y w h u v. rw (o (place y w) (let t = proc_page s y h in omega arith)) (fw.mail y w h u v);
        none = λ y x h j. rw (o (place y q1) (let t = proc_page s y h in omega arith)) (fw.own y h x j).none;
      }) fw
    where
      known : (k : ℕ) → k < page_size → k ≢ g → length (K (grant_for k)) ≢ 0 → (k ≡ n) ⊎ (k ≢ n) → count k (each_of (λ y. lower (W.label y)) ps) ≡ 1
      known k h d c (inl t) = rw t (b.facts.names.differ p waiter_proc)
      known k h d c (inr t) = fw.granted.known k h d (rw (upd_other A (grant_for n) (grant_for k) (some q) (omega arith)) at c)

  swap : upd (upd L (grant_for n) (some q)) page_queue ws ≡ K
  swap = upd_swap L (grant_for n) page_queue (some q) ws (omega arith)

  pub sep_G : Sep ps (upd L (grant_for n) (some q))
  sep_G = uses_sep s (grant_for n) (grant_once s n (omega arith)) (omega arith) (some q) (λ z.
      omega (
        arith,
        uses_upd s (grant_for n) (grant_once s n (omega arith)) (omega arith) (some q) z,
        ap (count z) hand_is,
        nil_count (L (grant_for n)) bare_p z,
        b.all z,
      ))

  pub give_grant : Base (grant_page m p q) ps K (woken W free_semaphore p) hs g
  unfolding Page.grant_page
  give_grant =
      let pg = proc_page s p waiter_proc in
      let x1 = grant_mem n q (omega arith) s b.mem in
      let e2 = upd_other L (grant_for n) page_queue (some q) (omega arith) ∙ e in
      rw (b.mem.reads.words.label p pg) (record {
        mem = rw swap at (wake_mem free_semaphore p [] ws sep_G (rw swap facts_grant.sep) x1 (page_sem ps) pg e2);
        facts = facts_grant;
        all = λ z. omega (arith, more z, b.all z);
      })

-- ---- give back
-- what is left after a step: some lists and some words, but the same running one
pub record Gave (m : List ℕ) (ps : List ℕ) (hs : List ℕ) (g : ℕ) (W : View) : Type 0 where
  pub lists : Lists
  pub view : View
  pub base : Base m ps lists view hs g
  pub low : view.low ≡ W.low

-- some invariant holds
pub record Any (m : List ℕ) (hs : List ℕ) (g : ℕ) : Type 0 where
  pub procs : List ℕ
  pub lists : Lists
  pub view : View
  pub base : Base m procs lists view hs g

pub any_of : {m : List ℕ} {ps : List ℕ} {L : Lists} {W : View} {hs : List ℕ} {g : ℕ} → Base m ps L W hs g → Any m hs g
any_of {ps = ps} {L = L} {W = W} b = record { procs = ps; lists = L; view = W; base = b }

module _ {m : List ℕ} {ps : List ℕ} {L : Lists} {W : View} {hs : List ℕ} {g q : ℕ} (b : Base m ps L W (q ∷ hs) g) where
  asking : Chain m link page_queue (L page_queue)
  asking = chain0 b.facts.sep b.mem page_queue (in_asking ps, grant_low page_queue (omega arith)) (omega arith)

  pub give_is_free : L page_queue ≡ [] → give_back m q ≡ free_page m q
  unfolding Page.give_back
  give_is_free e = let z : get_or m page_queue 0 ≡ 0 = rw e at asking in rw z

  pub give_is_grant : (p : ℕ) (ws : List ℕ) → L page_queue ≡ p ∷ ws → give_back m q ≡ grant_page m p q
  unfolding Page.give_back
  give_is_grant p ws e = let t = rw e at asking in rw (t.0, ne_eqb p 0 (omega arith))

  pub give_back_lem : Gave (give_back m q) ps hs g W
  give_back_lem = go (L page_queue) refl
    where
      go : (xs : List ℕ) → L page_queue ≡ xs → Gave (give_back m q) ps hs g W
      go [] e = rw (give_is_free e) (record {
        lists = upd L free_list (L free_list ++ q ∷ []);
        view = with_sem W (put1 W.sem free_semaphore (raised (W.sem free_semaphore)));
        base = give_free b e;
        low = refl;
      })
      go (p ∷ ws) e = rw (give_is_grant p ws e) (record {
        lists = upd (upd L page_queue ws) (grant_for (lower (W.label p))) (some q);
        view = woken W free_semaphore p;
        base = give_grant b p ws e;
        low = refl;
      })

-- a word that is neither a grant nor one of the free list or the page queue, and for no waiter the link or word 2 or 12
pub record Spared (L : Lists) (q c : ℕ) : Type 0 where
  pub low : (a : ℕ) → free_list ≤ a → a ≤ page_queue → c ≢ a
  pub grant : (k : ℕ) → k < 16 → c ≢ grant_for k
  pub hand : c ≢ place q link
  pub free : (z : ℕ) → 1 ≤ count z (L free_list) → c ≢ place z link
  pub waiter : (p : ℕ) → 1 ≤ count p (L page_queue) → (c ≢ place p link) × (c ≢ place p reason) × (c ≢ place p state)

-- it stays
module _ {m : List ℕ} {ps : List ℕ} {L : Lists} {W : View} {hs : List ℕ} {g q : ℕ} (b : Base m ps L W (q ∷ hs) g) (c : ℕ) (o : Spared L q c) where
  free_frame : get_or (free_page m q) c 0 ≡ get_or m c 0
  unfolding Page.free_page
  free_frame =
      let s = b.facts.sep in
      let v = raised (get_or m free_semaphore 0) in
      join_frame s (sem_mem s b.mem free_semaphore v (page_sem ps)) free_list (in_free ps, grant_low free_list (omega arith)) (omega arith) q
      (hand_page b q (in_hand b)) (hand_new b) c (o.low free_list (omega arith) (omega arith)) o.free o.hand
      ∙ other m free_semaphore v c (o.low free_semaphore (omega arith) (omega arith))

  grant_frame : (p : ℕ) (ws : List ℕ) → L page_queue ≡ p ∷ ws → get_or (grant_page m p q) c 0 ≡ get_or m c 0
  unfolding Page.grant_page
  grant_frame p ws e =
      let s = b.facts.sep in
      let n = lower (W.label p) in
      let same = upd_other L (grant_for n) page_queue (some q) (omega arith) in
      let t = o.waiter p (rw e (omega (arith, hit_self p))) in
      rw (b.mem.reads.words.label p (proc_page s p (waiter_proc b p ws e)))
      (wake_frame (sep_G b p ws e) (grant_mem n q (omega arith) s b.mem) free_semaphore p [] ws (page_sem ps) (same ∙ e) c
      (o.low free_semaphore (omega arith) (omega arith)) (o.low page_queue (omega arith) (omega arith)) (λ z i. (o.waiter z (rw same at i)).0) t.1 t.2
      ∙ other m (grant_for n) q c (o.grant n (omega arith)))

  pub give_frame : get_or (give_back m q) c 0 ≡ get_or m c 0
  give_frame = go (L page_queue) refl
    where
      go : (xs : List ℕ) → L page_queue ≡ xs → get_or (give_back m q) c 0 ≡ get_or m c 0
      go [] e = rw (give_is_free b e) free_frame
      go (p ∷ ws) e = rw (give_is_grant b p ws e) (grant_frame p ws e)

-- ---- take a page
pub data Takes (m : List ℕ) (p : ℕ) (ps : List ℕ) (L : Lists) (W : View) (hs : List ℕ) (g : ℕ) : Type 0 where
  gets : (q : ℕ) (m1 : List ℕ) → take_page m p ≡ took q m1 → q ≢ 0 → (t : Gave m1 ps (q ∷ hs) g W) → t.view.label ≡ W.label → Takes m p ps L W hs g
  lacks : take_page m p ≡ took 0 m → L free_list ≡ [] → length (L (grant_for (lower (W.label p)))) ≡ 0 → Takes m p ps L W hs g

pub take_page_lem : {m : List ℕ} {ps : List ℕ} {L : Lists} {W : View} {hs : List ℕ} {g : ℕ} (p : ℕ) → 1 ≤ count p ps → Base m ps L W hs g
    → Takes m p ps L W hs g
unfolding Page.take_page Page.first_free
take_page_lem {m} {ps} {L} {W} {hs} {g} p h b = go (get_or m (grant_for n) 0) refl (L free_list) refl
  where
    n : ℕ
    n = lower (W.label p)

    at_label : word m p label ≡ W.label p
    at_label = b.mem.reads.words.label p (proc_page b.facts.sep p h)

    free : Chain m link free_list (L free_list)
    free = chain0 b.facts.sep b.mem free_list (in_free ps, grant_low free_list (omega arith)) (omega arith)

    go : (x : ℕ) → get_or m (grant_for (lower (W.label p))) 0 ≡ x → (xs : List ℕ) → L free_list ≡ xs → Takes m p ps L W hs g
    go zero e [] f =
        let c : get_or m free_list 0 ≡ 0 = rw f at free in
        lacks (rw (at_label, e, c)) f (ap length (b.mem.holds.grant (lower (W.label p)) (omega arith)) ∙ ap (λ (x : ℕ). length (some x)) e)
    go zero e (q ∷ fs) f =
        let c = rw f at free in
        gets q (take_free m q) (rw (at_label, e, c.0, ne_eqb q 0 (omega arith))) (omega arith) (record {
          lists = upd L free_list fs;
          view = with_sem W (put1 W.sem free_semaphore (lowered (W.sem free_semaphore)));
          base = take_free_lem q fs b f;
          low = refl;
        }) refl
    go (suc x) e xs f =
        gets (suc x) (set m (grant_for (lower (W.label p))) 0) (rw (at_label, e, ne_eqb (suc x) 0 (omega arith))) (omega arith) (record {
          lists = upd L (grant_for (lower (W.label p))) [];
          view = W;
          base = take_grant b (lower (W.label p)) (suc x) (omega arith) (b.mem.holds.grant (lower (W.label p)) (omega arith) ∙ ap some e);
          low = refl;
        }) refl

-- a word that is neither the head nor the semaphore of the free list, nor a link of it, nor a grant: it stays
pub free_word : {m : List ℕ} {ps : List ℕ} {L : Lists} {W : View} {hs : List ℕ} {g : ℕ} → Base m ps L W hs g → (c : ℕ)
    → ((a : ℕ) → free_list ≤ a → a ≤ free_semaphore → c ≢ a) → ((z : ℕ) → 1 ≤ count z (L free_list) → c ≢ place z link) → (q : ℕ) (fs : List ℕ)
    → L free_list ≡ q ∷ fs → get_or (take_free m q) c 0 ≡ get_or m c 0
unfolding Page.take_free
free_word {m} {ps} b c low free q fs e =
    let s = b.facts.sep in
    let v = lowered (get_or m free_semaphore 0) in
    leave_frame s (sem_mem s b.mem free_semaphore v (page_sem ps)) free_list (in_free ps, grant_low free_list (omega arith)) (omega arith) q [] fs e c
    (low free_list (omega arith) (omega arith)) free ∙ other m free_semaphore v c (low free_semaphore (omega arith) (omega arith))

pub record Untaken (L : Lists) (c : ℕ) : Type 0 where
  pub low : (a : ℕ) → free_list ≤ a → a ≤ free_semaphore → c ≢ a
  pub free : (z : ℕ) → 1 ≤ count z (L free_list) → c ≢ place z link
  pub grant : (k : ℕ) → k < 16 → c ≢ grant_for k

unfoldable left : Taken (List ℕ) → List ℕ
left (took q m) = m

module _ {m : List ℕ} {ps : List ℕ} {L : Lists} {W : View} {hs : List ℕ} {g : ℕ} (b : Base m ps L W hs g) (c : ℕ) (o : Untaken L c) where
  left_word : (p : ℕ) → get_or (left (take_page m p)) c 0 ≡ get_or m c 0
  unfolding Page.take_page Page.first_free left
  left_word p =
      let s = b.facts.sep in
      go (eqb (get_or m (grant_for (name m p)) 0) 0) refl (L free_list) refl
      (chain0 s b.mem free_list (in_free ps, grant_low free_list (omega arith)) (omega arith))
    where
      go : (x : Bool) → eqb (get_or m (grant_for (name m p)) 0) 0 ≡ x → (xs : List ℕ) → L free_list ≡ xs → Chain m link free_list (L free_list)
          → get_or (left (take_page m p)) c 0 ≡ get_or m c 0
      go false e xs f k = rw e (other m (grant_for (name m p)) 0 c (o.grant (name m p) (omega arith)))
      go true e [] f k = let z : get_or m free_list 0 ≡ 0 = rw f at k in rw (e, z)
      go true e (q ∷ fs) f k =
          let z = rw f at k in
          rw (e, z.0, ne_eqb q 0 (omega arith)) (free_word b c o.low o.free q fs f)

  pub taken_word : (p q : ℕ) (m1 : List ℕ) → take_page m p ≡ took q m1 → get_or m1 c 0 ≡ get_or m c 0
  unfolding left
  taken_word p q m1 e = let k : left (take_page m p) ≡ m1 = rw e in rw k at (left_word p)
