-- Instructions: SME, WNM, RME and TME leave a well-formed memory. Assumes nothing.
use Rattle.std.specs.Prelude.{◌≡◌, ◌≢◌, ◌⊎◌, Bool, true, List, [], ◌∷◌, ◌++◌, ℕ, zero, suc, ◌+◌, ◌%◌, ◌≤◌, ◌<◌, length, get_or, set, eqb}
use Rattle.std.proofs.Math.Path.{refl}
use Rattle.std.proofs.Common.{sym, ◌∙◌, inl, inr, arith, length-set}
use Rattle.std.proofs.Math.Bool.{false}
use Rattle.std.proofs.lemmas.Bool.{eqb-false}
use Rattle.model.specs.Map as Map
use Rattle.model.specs.Map.{control_pages, free_list, free_semaphore, grant_for, head_words, label, last_flag, last_name, link, longest, lower, memory_size}
use Rattle.model.specs.Map.{note, own_semaphore, pair, place, processor_list, q1, q2, text, upper, wait_in}
use Rattle.model.specs.Address.{wrapped, guarded, clear}
use Rattle.model.specs.Bytes.{copy, copy_out, length_of, lists, matches, move, name, page_of, queue, running, test_q1, word}
use Rattle.model.specs.Address as Address
use Rattle.model.specs.Queue as Queue
use Rattle.model.specs.Queue.{first}
use Rattle.model.specs.Mail as Mail
use Rattle.model.specs.Mail.{fits}
use Rattle.model.specs.Operate as Operate
use Rattle.model.specs.Bytes as Model
use Rattle.model.specs.Lists.{count, Lists}
use Rattle.laws.specs.Count.{hit_self, hit_other, hit_or}
use Rattle.laws.specs.Chain.{Page, Chain, walk_chain, split_at_page}
use Rattle.laws.specs.Queues.{upd}
use Rattle.laws.specs.Uses.{proc_page, list_short}
use Rattle.laws.specs.Places.{in_q, grant_high, all_pages_lem}
use Rattle.laws.specs.Inv.{Base, Label, View, Waits, no_one, view}
use Rattle.laws.specs.Judged.{WellFormed}
use Rattle.laws.specs.Frames.{Kept, base_kept, other, copy_far}
use Rattle.laws.specs.JoinLeave.{chain0}
use Rattle.laws.specs.Changes.{own_sem, page_sem}
use Rattle.laws.specs.Hands.{take_mail, give_mail}
use Rattle.laws.specs.Grants.{Gave, give_back_lem, Takes, take_page_lem}
use Rattle.laws.specs.Grants.Takes.{gets, lacks}
use Rattle.laws.specs.Post.{notice_base, message_base}
use Rattle.laws.specs.Who.{busy, running_same, label_in}
use Rattle.laws.specs.Ends.{Fine, done_fine, jumps_fine, waits_fine}
use Rattle.laws.specs.Ways.{sme_each, sent_each, wnm_each, rme_each, tme_each}
use Rattle.laws.specs.Simple.{first_in, named_in, bad, Open, clear_open}
use Rattle.laws.specs.Waits.{Fit, page_fit}
use Rattle.laws.specs.Words.{Tried, test_kept}

-- ---- a search along a list
pub first_none : (f : ℕ → Bool) (xs : List ℕ) → ((x : ℕ) → 1 ≤ count x xs → x ≢ 0) → first f xs ≡ 0 → (x : ℕ) → 1 ≤ count x xs → f x ≡ false
unfolding Queue.first
first_none f [] nz e x h = absurd (omega arith)
first_none f (y ∷ ys) nz e x h = go (f y) refl (first_none f ys (λ z i. nz z (omega arith))) (hit_or x y)
  where
    go : (c : Bool) → f y ≡ c → (first f ys ≡ 0 → (x : ℕ) → 1 ≤ count x ys → f x ≡ false) → (x ≡ y) ⊎ (x ≢ y) → f x ≡ false
    go true d ih i = let k : first f (y ∷ ys) ≡ y = rw (d, Queue.first) in absurd (nz y (omega (arith, hit_self y)) (sym k ∙ e))
    go false d ih (inl i) = rw i d
    go false d ih (inr i) = let k : first f (y ∷ ys) ≡ first f ys = rw (d, Queue.first) in ih (sym k ∙ e) x (omega (arith, hit_other x y i))

pub none_first : (f : ℕ → Bool) (xs : List ℕ) → ((x : ℕ) → 1 ≤ count x xs → f x ≡ false) → first f xs ≡ 0
unfolding Queue.first
none_first f [] h = refl
none_first f (y ∷ ys) h = rw (h y (omega (arith, hit_self y)), Queue.first) (none_first f ys (λ x i. h x (omega arith)))

-- ---- Q1 and Q2 of a processor
module _ {m : List ℕ} {ps : List ℕ} {L : Lists} {W : View} {hs : List ℕ} {g : ℕ} (b : Base m ps L W hs g) (p w : ℕ) (h : 1 ≤ count p ps) (u : q1 ≤ w)
    (v : w ≤ q2) where
  pg : Page p
  pg = proc_page b.facts.sep p h

  pub mail_chain : Chain m link (place p w) (L (place p w))
  mail_chain = chain0 b.facts.sep b.mem (place p w) (in_q ps p w u v h, grant_high (place p w) (omega (arith, pg))) (omega (arith, pg))

  pub mail_queue : queue m (place p w) ≡ L (place p w)
  mail_queue = walk_chain control_pages m link (place p w) (L (place p w)) mail_chain (list_short b.facts.sep (place p w) (in_q ps p w u v h))

  pub mail_some : (x : ℕ) → 1 ≤ count x (L (place p w)) → x ≢ 0
  mail_some x i = let t = all_pages_lem b.facts.sep (place p w) x (in_q ps p w u v h) i in omega arith

-- "first match in Q1 to the end of Q2": message q
pub move_base : {m : List ℕ} {ps : List ℕ} {L : Lists} {W : View} {hs : List ℕ} {g : ℕ} (p q : ℕ) → 1 ≤ count p ps → 1 ≤ count q (L (place p q1))
    → Base m ps L W hs g → (K : Lists) × Base (move m p q) ps K W hs g
unfolding Mail.move
move_base {m} {ps} {L} {W} p q h i b =
    let t = split_at_page q (L (place p q1)) i in
    let b1 = take_mail b p q1 q t.0 t.1 h (omega arith) (omega arith) t.2 in
    let K = upd L (place p q1) (t.0 ++ t.1) in (
      upd K (place p q2) (K (place p q2) ++ q ∷ []),
      give_mail b1 p q2 h (omega arith) (omega arith) (b.facts.mail p q1 h (omega arith) (omega arith) q i) (λ x j e. absurd (omega arith)),
    )

-- the first of Q1
pub first_mail : {m : List ℕ} {ps : List ℕ} {L : Lists} {W : View} {hs : List ℕ} {g : ℕ} → Base m ps L W hs g → (p : ℕ) → 1 ≤ count p ps
    → word m p q1 ≢ 0 → (xs : List ℕ) × (L (place p q1) ≡ word m p q1 ∷ xs)
first_mail {m} {L = L} b p h d = go (L (place p q1)) refl (mail_chain b p q1 h (omega arith) (omega arith))
  where
    go : (xs : List ℕ) → L (place p q1) ≡ xs → Chain m link (place p q1) (L (place p q1)) → (ys : List ℕ) × (L (place p q1) ≡ word m p q1 ∷ ys)
    go [] e c = absurd (d (rw e at c))
    go (x ∷ xs) e c = let z = rw e at c in (xs, rw z.0 e)

-- "Q1 messages tested, the found one too, go to Q2 in order"
pub test_base : {m : List ℕ} {ps : List ℕ} {L : Lists} {W : View} {hs : List ℕ} {g : ℕ} (p n f : ℕ) → 1 ≤ count p ps → Base m ps L W hs g
    → Tried (λ x. (K : Lists) × Base x ps K W hs g) (test_q1 control_pages m p n f)
test_base {m} {ps} {L} {W} {hs} {g} p n f h b =
    test_kept (λ x. (K : Lists) × Base x ps K W hs g) p (λ x t d.
    let r = first_mail t.1 p h d in
    move_base p (word x p q1) h (rw r.1 (omega (arith, hit_self (word x p q1)))) t.1) control_pages m n f (L, b)

-- ---- RME writes to unprotected words
pub clear_at : (n a : ℕ) → clear n a ≡ true → (i : ℕ) → i < n → guarded (wrapped a i) ≡ false
unfolding Address.clear
clear_at zero a h i l = absurd (omega arith)
clear_at (suc n) a h i l = go (guarded (wrapped a n)) refl (hit_or i n) (clear_at n a)
  where
    go : (c : Bool) → guarded (wrapped a n) ≡ c → (i ≡ n) ⊎ (i ≢ n) → (clear n a ≡ true → (i : ℕ) → i < n → guarded (wrapped a i) ≡ false)
        → guarded (wrapped a i) ≡ false
    go true e d ih = let k : clear (suc n) a ≡ false = rw (e, Address.clear) in let z : ◌≡◌ {A = Bool} true false = sym h ∙ k in cc
    go false e (inl d) ih = rw d e
    go false e (inr d) ih = let k : clear (suc n) a ≡ clear n a = rw (e, Address.clear) in ih (sym k ∙ h) i (omega arith)

copy_size : (n : ℕ) (m : List ℕ) (a b : ℕ) → length (copy n m a b) ≡ length m
unfolding Address.copy
copy_size zero m a b = refl
copy_size (suc n) m a b = copy_size n (set m b (get_or m a 0)) (wrapped a 1) (wrapped b 1) ∙ simp length-set

-- three words and the text: every other word stays
pub out_far : (m : List ℕ) (q a c : ℕ) → c < memory_size → ((i : ℕ) → i < head_words + length_of m q → c ≢ wrapped a i)
    → get_or (copy_out m q a) c 0 ≡ get_or m c 0
unfolding Mail.copy_out
out_far m q a c u f =
    let n = length_of m q in
    let m1 = set m a (upper (word m q note)) in
    let m2 = set m1 (wrapped a 1) (lower (word m q note)) in
    let f0 = f 0 (omega arith) in
    copy_far n (set m2 (wrapped a 2) n) (place q text) (wrapped a head_words) c (omega arith)
    (λ i l. let d : (wrapped a head_words + i) % memory_size ≡ (a + (head_words + i)) % memory_size = omega arith in rw d (f (head_words + i) (omega arith)))
    ∙ other m2 (wrapped a 2) _ c (f 2 (omega arith)) ∙ other m1 (wrapped a 1) _ c (f 1 (omega arith)) ∙ other m a _ c (λ z. f0 (omega arith))

pub out_kept : (m : List ℕ) (q a : ℕ) → clear (head_words + length_of m q) a ≡ true → Kept m (copy_out m q a)
unfolding Mail.copy_out
out_kept m q a h = record {
  size = copy_size (length_of m q) _ (place q text) (wrapped a head_words) ∙ simp length-set;
  fixed = λ c l u. out_far m q a c (omega arith) (λ i k e. (at i k).between c l u (sym e));
  words = λ p j g l. out_far m q a (place p j) (omega (arith, g)) (λ i k. omega (arith, g, (at i k).below));
  state = λ p g. out_far m q a (place p Map.state) (omega (arith, g)) (λ i k. omega (arith, g, (at i k).below));
}
  where
    at : (i : ℕ) → i < head_words + length_of m q → Open (wrapped a i)
    at i l = clear_open (wrapped a i) (clear_at (head_words + length_of m q) a h i l)

-- ---- the instructions, of a well-formed memory where someone runs
module _ {m : List ℕ} (w : WellFormed m) (d : running m ≢ 0) where
  open busy w d use {base as b, runs as hr, ready}

  abbrev r : ℕ
  r = running m

  idle : wait_in (word m r Map.state) ≡ 0
  idle = omega (arith, ready)

  -- "with none, they wait in the page queue, LR staying"
  pub waits_for_page_lem : lists m free_list ≡ [] → length (lists m (grant_for (name m r))) ≡ 0 → Fine (Model.waits_for_page m)
  unfolding Operate.waits_for_page
  waits_for_page_lem f g = waits_fine b free_semaphore 0 d (page_sem (lists m processor_list)) idle (page_fit b.facts.sep f g)

  posted_fine : (n f a l len q : ℕ) (m1 : List ℕ) → 1 ≤ n → n ≤ last_name → 1 ≤ f → f ≤ last_flag → l ≤ longest
      → Gave m1 (lists m processor_list) (q ∷ []) no_one (view m)
      → Fine (Model.done (Model.posted m1 q n f a l) len)
  unfolding Operate.posted
  posted_fine n f a l len q m1 n1 n2 f1 f2 l2 t = go (eqb (page_of m1 n) 0) refl
    where
      run : running m1 ≡ running m
      run = running_same b t

      in1 : 1 ≤ count (running m1) (lists m processor_list)
      in1 = rw run hr

      named : Label (word m1 (running m1) label)
      named = label_in t.base (running m1) in1

      go : (c : Bool) → eqb (page_of m1 n) 0 ≡ c → Fine (Model.done (Model.posted m1 q n f a l) len)
      go true e = rw e (done_fine (notice_base t.base n f (running m1) n1 n2 f1 f2 in1).base len)
      go false e =
          rw e (done_fine (message_base t.base f (wrapped a 1) l (page_of m1 n) f1 f2 l2 named (named_in t.base n
          (eqb-false (page_of m1 n) 0 e))).base len)

  sent_fine : (n f a l len : ℕ) → 1 ≤ n → n ≤ last_name → 1 ≤ f → f ≤ last_flag → l ≤ longest → Fine (Model.sent m n f a l len)
  sent_fine n f a l len n1 n2 f1 f2 l2 = go (take_page_lem r hr b)
    where
      go : Takes m r (lists m processor_list) (lists m) (view m) [] no_one → Fine (Model.sent m n f a l len)
      go (gets q m1 e z t k) = sent_each m Fine e n f a l len (λ y. absurd (z y)) (λ y. posted_fine n f a l len q m1 n1 n2 f1 f2 l2 t)
      go (lacks e f2 g2) = sent_each m Fine e n f a l len (λ y. waits_for_page_lem f2 g2) (λ y. absurd (y refl))

  pub sme_fine : (n f a len : ℕ) → n < 16 → f < 8 → Fine (Model.sme m n f a len)
  sme_fine n f a len hn hf =
      sme_each (bad w d) n f a len (λ g. sent_fine n f a (get_or m a 0) len g.name (omega arith) g.flag (omega arith) g.length)

  -- what a search in Q1 or Q2 of the running one gives
  found_in : (k n f : ℕ) → q1 ≤ k → k ≤ q2 → first (matches m n f) (queue m (place r k)) ≢ 0
      → 1 ≤ count (first (matches m n f) (queue m (place r k))) (lists m (place r k))
  found_in k n f u v z =
      let q = mail_queue b r k hr u v in
      rw q (first_in (matches m n f) (lists m (place r k)) (rw q at z)).0

  -- who waits for a message waits as its own wait must be
  pub wnm_fit : (n f : ℕ) → f < 8 → Model.in_q1 m n f ≡ 0 → Fit (lists m processor_list) (lists m) (view m) (place r own_semaphore) r (pair n f)
  unfolding Mail.matches
  wnm_fit n f hf z = let pg = proc_page b.facts.sep r hr in record {
    line = λ k h c. absurd (omega arith);
    page = λ c. absurd (omega arith);
    own = λ y h c. own z y c;
  }
    where
      none : first (matches m n f) (queue m (place r q1)) ≡ 0 → (q : ℕ) → 1 ≤ count q (lists m (place r q1)) → fits n f (word m q note) ≡ false
      none e q h =
          first_none (matches m n f) (lists m (place r q1)) (mail_some b r q1 hr (omega arith) (omega arith))
          (rw (mail_queue b r q1 hr (omega arith) (omega arith)) at e) q h

      own : first (matches m n f) (queue m (place r q1)) ≡ 0 → (y : ℕ) → place r own_semaphore ≡ place y own_semaphore
          → Waits (pair n f) (λ q. word m q note) (lists m (place y q1)) y r
      own z y e =
          let t : y ≡ r = omega arith in
          let c1 : upper (pair n f) ≡ n = omega arith in
          let c2 : lower (pair n f) ≡ f = omega arith in
          rw t (record { owner = refl; flag = omega arith; none = λ q h. rw (c1, c2) (none z q h) })

  pub wnm_fine : (n f len : ℕ) → f < 8 → Fine (Model.wnm m n f len)
  wnm_fine n f len hf =
      wnm_each m Fine n f len (λ z. waits_fine b (place r own_semaphore) (pair n f) d (own_sem b.facts.sep r hr) idle (wnm_fit n f hf z))
      (λ z. done_fine (move_base r (Model.in_q1 m n f) hr (found_in q1 n f (omega arith) (omega arith) z) b).1 len)

  received_fine : (q a len : ℕ) → 1 ≤ count q (lists m (place r q2)) → clear (head_words + length_of m q) a ≡ true
      → Fine (Model.done (Model.received m q a) len)
  unfolding Operate.received
  received_fine q a len h c =
      let t = split_at_page q (lists m (place r q2)) h in
      let b1 = base_kept (out_kept m q a c) b in
      done_fine (give_back_lem (take_mail b1 r q2 q t.0 t.1 hr (omega arith) (omega arith) t.2)).base len

  pub rme_fine : (n f a len : ℕ) → Fine (Model.rme m n f a len)
  rme_fine n f a len =
      rme_each (bad w d) n f a len (λ g. received_fine (Model.in_q2 m n f) a len (found_in q2 n f (omega arith) (omega arith) g.found) g.target)

  pub tme_fine : (n f a len : ℕ) → Fine (Model.tme m n f a len)
  tme_fine n f a len =
      let t = test_base r n f hr b in
      tme_each m Fine n f a len t.is (jumps_fine t.kept.1 a) (done_fine t.kept.1 len) (jumps_fine b a)
