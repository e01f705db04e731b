-- Which words differ: pages renamed. Two memories that are the same but for which control page is used for what are told apart by their words only. Assumes
-- nothing.
use Rattle.std.specs.Prelude.{◌≡◌, ◌≢◌, ◌⊎◌, Bool, ℕ, zero, suc, ◌+◌, ◌≤◌, ◌<◌}
use Rattle.std.proofs.Math.Path.{refl, sym}
use Rattle.std.proofs.Common.{ap, ◌∙◌, inl, inr, eq-eqb, ne_eqb}
use Rattle.std.proofs.Math.Bool.{true, false}
use mathlib.Core.List.{List, [], ◌∷◌, map, append-nil}
use native.Mathlib.Omega.{arith}
use Rattle.std.proofs.Math.Dec.{eqb}
use Rattle.std.proofs.lemmas.Bool.{lt-leb}
use Rattle.model.specs.Told.Said.{Nothing}
use Rattle.model.specs.Map as Map
use Rattle.model.specs.Map.{memory_size, place, first_name, last_name, processor_list, running_page, page_queue, interrupts, header_after, semaphore_after}
use Rattle.model.specs.Map.{free_semaphore, control_pages, first_control, last_control, link, own_semaphore, own_queue, q1, q2, note}
use Rattle.model.specs.Map.{text, longest}
use Rattle.model.specs.Address.{wrapped}
use Rattle.model.specs.Queue as Queue
use Rattle.model.specs.Queue.{first}
use Rattle.model.specs.Processor as Processor
use Rattle.model.specs.Wait as Wait
use Rattle.model.specs.Lists.{count, queues, is_grant}
use Rattle.model.specs.Differ as Differ
use Rattle.model.specs.Differ.{or_same, queue_at, for_message}
use Rattle.model.specs.Bytes.{at, page_of, word_lines, state_of, messages, said}
use Rattle.model.specs.Bytes.{names_lines, lines}
use Rattle.model.specs.Bytes.{word, walk, processors, queue, running, is_named, queued, seat, length_of, queue_of, words_from, message_of, lists}
use Rattle.laws.specs.Count.{hit_self, hit_other, hit_or}
use Rattle.laws.specs.Chain.{Page, walk_chain, walk_end, walk_step}
use Rattle.laws.specs.Uses.{Sep, proc_page, list_short}
use Rattle.laws.specs.Places.{in_queues, int_queue, own_once, wait_page, q_free, grant_low, grant_high}
use Rattle.laws.specs.Inv.{Base, no_one, view}
use Rattle.laws.specs.JoinLeave.{chain0}
use Rattle.laws.specs.Judged.{WellFormed, invariant}
use Rattle.laws.specs.Exactly.{judged_nothing}
use Rattle.laws.specs.Who.{listed}
use Rattle.laws.specs.Simple.{first_in}
use Rattle.laws.specs.Mails.{mail_queue}
use Rattle.laws.specs.Leave.{seat_hit, seat_miss, seat_page, seat_own}
use Rattle.laws.specs.Differing.{Alike, said_nothing}
use Rattle.laws.specs.Swapped.{lines_good, no_names}

-- ---- "Renaming pages": r says which page of the second memory a page of the first is
pub record Renames (r : ℕ → ℕ) : Type 0 where
  -- 0, which is no page, stays
  pub none : r 0 ≡ 0
  -- two pages stay two
  pub apart : (x y : ℕ) → r x ≡ r y → x ≡ y

-- a processor's page: the words that point to a page are renamed, those that are compared are the same
pub record SameProcessor (r : ℕ → ℕ) (m k : List ℕ) (p : ℕ) : Type 0 where
  pub link : word k (r p) Map.link ≡ r (word m p Map.link)
  pub list_link : word k (r p) Map.list_link ≡ r (word m p Map.list_link)
  -- the headers of its own message wait, Q1 and Q2
  pub headers : (w : ℕ) → own_queue ≤ w → w ≤ q2 → word k (r p) w ≡ r (word m p w)
  pub reason : word k (r p) Map.reason ≡ word m p Map.reason
  pub label : word k (r p) Map.label ≡ word m p Map.label
  pub state : word k (r p) Map.state ≡ word m p Map.state

-- a message's page: its link is renamed; sender and flag, length and text are the same
pub record SameMessage (r : ℕ → ℕ) (m k : List ℕ) (x : ℕ) : Type 0 where
  pub link : word k (r x) Map.link ≡ r (word m x Map.link)
  pub words : (w : ℕ) → note ≤ w → w < text + length_of m x → word k (r x) w ≡ word m x w

-- "the same but for which control page is used for what"
pub record Renamed (r : ℕ → ℕ) (m k : List ℕ) : Type 0 where
  -- the cells outside the control pages that point to a page
  pub list : at k processor_list ≡ r (at m processor_list)
  pub runs : at k running_page ≡ r (at m running_page)
  pub asking : at k page_queue ≡ r (at m page_queue)
  pub waits : (i : ℕ) → i < interrupts → at k (header_after i) ≡ r (at m (header_after i))
  -- the processors, and the messages in their Q1 and Q2
  pub procs : (p : ℕ) → 1 ≤ count p (processors m) → SameProcessor r m k p
  pub mail : (p w x : ℕ) → 1 ≤ count p (processors m) → q1 ≤ w → w ≤ q2 → 1 ≤ count x (queue m (place p w)) → SameMessage r m k x

-- a memory is itself, no page renamed
pub renames_same : Renames (λ x. x)
renames_same = record { none = refl; apart = λ x y e. e }

pub renamed_same : (m : List ℕ) → Renamed (λ x. x) m m
renamed_same m = record {
  list = refl;
  runs = refl;
  asking = refl;
  waits = λ i h. refl;
  procs = λ p h. record { link = refl; list_link = refl; headers = λ w u v. refl; reason = refl; label = refl; state = refl };
  mail = λ p w x h u v i. record { link = refl; words = λ j a b. refl };
}

-- ---- what a walk meets
walk_zero : (m : List ℕ) (l a : ℕ) → walk 0 m l a ≡ []
unfolding Queue.walk
walk_zero m l a = refl

count_map : (f : ℕ → ℕ) (x : ℕ) (xs : List ℕ) → 1 ≤ count x xs → 1 ≤ count (f x) (map f xs)
count_map f x [] h = absurd (omega arith)
count_map f x (y ∷ ys) h = go (hit_or x y) (count_map f x ys)
  where
    go : (x ≡ y) ⊎ (x ≢ y) → (1 ≤ count x ys → 1 ≤ count (f x) (map f ys)) → 1 ≤ count (f x) (map f (y ∷ ys))
    go (inl e) ih = rw e (omega (arith, hit_self (f y)))
    go (inr d) ih = omega (arith, ih (omega (arith, hit_other x y d)))

map_both : {A : Type 0} (r : ℕ → ℕ) (f g : ℕ → A) (xs : List ℕ) → ((x : ℕ) → 1 ≤ count x xs → f x ≡ g (r x)) → map f xs ≡ map g (map r xs)
map_both r f g [] h = refl
map_both r f g (x ∷ xs) h = rw (h x (omega (arith, hit_self x)), map_both r f g xs (λ y i. h y (omega arith)))

module _ (r : ℕ → ℕ) (n : Renames r) where
  eqb_renamed : (x y : ℕ) → eqb (r x) (r y) ≡ eqb x y
  eqb_renamed x y = go (hit_or x y)
    where
      go : (x ≡ y) ⊎ (x ≢ y) → eqb (r x) (r y) ≡ eqb x y
      go (inl e) = rw (eq-eqb (r x) (r y) (ap r e), eq-eqb x y e)
      go (inr d) = rw (ne_eqb (r x) (r y) (λ e. d (n.apart x y e)), ne_eqb x y d)

  some_renamed : (x : ℕ) → x ≢ 0 → r x ≢ 0
  some_renamed x d e = d (n.apart x 0 (e ∙ sym n.none))

  first_renamed : (t u : ℕ → Bool) (xs : List ℕ) → ((x : ℕ) → 1 ≤ count x xs → u (r x) ≡ t x) → first u (map r xs) ≡ r (first t xs)
  unfolding Queue.first
  first_renamed t u [] h = sym n.none
  first_renamed t u (x ∷ xs) h = go (t x) refl (first_renamed t u xs (λ y i. h y (omega arith)))
    where
      go : (b : Bool) → t x ≡ b → first u (map r xs) ≡ r (first t xs) → first u (map r (x ∷ xs)) ≡ r (first t (x ∷ xs))
      go true e ih = let f : u (r x) ≡ true = h x (omega (arith, hit_self x)) ∙ e in rw (f, e, Queue.first)
      go false e ih = let f : u (r x) ≡ false = h x (omega (arith, hit_self x)) ∙ e in rw (f, e, Queue.first) ih

  module _ (m k : List ℕ) where
    walk_renamed : (j l a b : ℕ) → at k b ≡ r (at m a) → ((x : ℕ) → 1 ≤ count x (walk j m l a) → word k (r x) l ≡ r (word m x l))
        → walk j k l b ≡ map r (walk j m l a)
    walk_renamed zero l a b e f = rw (walk_zero m l a, walk_zero k l b)
    walk_renamed (suc j) l a b e f = go (hit_or (at m a) 0) (walk_renamed j l (place (at m a) l) (place (r (at m a)) l))
      where
        go : (at m a ≡ 0) ⊎ (at m a ≢ 0) → (word k (r (at m a)) l ≡ r (word m (at m a) l)
            → ((x : ℕ) → 1 ≤ count x (walk j m l (place (at m a) l)) → word k (r x) l ≡ r (word m x l))
            → walk j k l (place (r (at m a)) l) ≡ map r (walk j m l (place (at m a) l)))
            → walk (suc j) k l b ≡ map r (walk (suc j) m l a)
        go (inl z) ih = rw (walk_end (suc j) m l a z, walk_end (suc j) k l b (e ∙ ap r z ∙ n.none))
        go (inr d) ih =
            let f2 = rw (walk_step j m l a d) at f in
            let t = ih (f2 (at m a) (omega (arith, hit_self (at m a)))) (λ x i. f2 x (omega arith)) in
            rw (walk_step j m l a d, walk_step j k l b (λ z. some_renamed (at m a) d (sym e ∙ z)), e, t)

    queued_renamed : (s t p : ℕ) → queue k (t + 1) ≡ map r (queue m (s + 1)) → queued k t (r p) ≡ queued m s p
    unfolding Wait.queued
    queued_renamed s t p e =
        rw (e, first_renamed (eqb p) (eqb (r p)) (queue m (s + 1)) (λ x i. eqb_renamed p x)) (eqb_renamed (first (eqb p) (queue m (s + 1))) p)

-- n words from a on and n words from b on, none of them past the memory's end
words_same : (n : ℕ) (m k : List ℕ) (a b : ℕ) → a + n ≤ memory_size → b + n ≤ memory_size → ((i : ℕ) → i < n → at k (b + i) ≡ at m (a + i))
    → words_from n m a ≡ words_from n k b
unfolding Differ.words_from
words_same zero m k a b u v f = refl
words_same (suc n) m k a b u v f =
    let a0 : a + 0 ≡ a = omega arith in
    let b0 : b + 0 ≡ b = omega arith in
    rw (
      sym (rw (a0, b0) at (f 0 (omega arith))),
      words_same n m k (wrapped a 1) (wrapped b 1) (omega arith) (omega arith) (λ i h. next i h),
    )
  where
    next : (i : ℕ) → i < n → at k (wrapped b 1 + i) ≡ at m (wrapped a 1 + i)
    next i h =
        let ea : wrapped a 1 + i ≡ a + suc i = omega arith in
        let eb : wrapped b 1 + i ≡ b + suc i = omega arith in
        rw (ea, eb) (f (suc i) (omega arith))

-- ---- of a well-formed memory: who is listed or waits has a control page, and a message ends within its own
module _ {m : List ℕ} (w : WellFormed m) where
  base : Base m (lists m processor_list) (lists m) (view m) [] no_one
  base = (invariant w).base

  sep : Sep (lists m processor_list) (lists m)
  sep = base.facts.sep

  in_list : (p : ℕ) → 1 ≤ count p (processors m) → 1 ≤ count p (lists m processor_list)
  in_list p h = rw (listed base) at h

  pub proc_control : (p : ℕ) → 1 ≤ count p (processors m) → Page p
  proc_control p h = proc_page sep p (in_list p h)

  waiter : (a : ℕ) → 1 ≤ count a (queues (lists m processor_list)) → is_grant a ≡ false → a ≢ processor_list → (x : ℕ) → 1 ≤ count x (queue m a)
      → 1 ≤ count x (processors m)
  waiter a h g d x i =
      let e = walk_chain control_pages m link a (lists m a) (chain0 sep base.mem a (in_queues (lists m processor_list) a h, g) d)
      (list_short sep a (in_queues (lists m processor_list) a h)) in
      rw (listed base) (wait_page sep a x h (rw e at i))

  waits_line : (i : ℕ) → i < interrupts → (x : ℕ) → 1 ≤ count x (queue m (header_after i)) → 1 ≤ count x (processors m)
  waits_line i h = waiter (header_after i) (int_queue (lists m processor_list) i h) (grant_low (header_after i) (omega arith)) (omega arith)

  waits_page : (x : ℕ) → 1 ≤ count x (queue m page_queue) → 1 ≤ count x (processors m)
  waits_page = waiter page_queue (omega arith) (grant_low page_queue (omega arith)) (omega arith)

  waits_own : (p : ℕ) → 1 ≤ count p (processors m) → (x : ℕ) → 1 ≤ count x (queue m (place p own_queue)) → 1 ≤ count x (processors m)
  waits_own p h =
      let g = proc_control p h in
      waiter (place p own_queue) (omega (arith, (own_once sep p (in_list p h)).here)) (grant_high (place p own_queue) (omega arith)) (omega arith)

  pub mail_control : (p v x : ℕ) → 1 ≤ count p (processors m) → q1 ≤ v → v ≤ q2 → 1 ≤ count x (queue m (place p v)) → Page x
  mail_control p v x h a b i = (q_free sep p v x a b (in_list p h) (rw (mail_queue base p v (in_list p h) a b) at i)).0

  pub mail_none : (p v x : ℕ) → 1 ≤ count p (processors m) → q1 ≤ v → v ≤ q2 → 1 ≤ count x (queue m (place p v)) → count x (processors m) ≡ 0
  mail_none p v x h a b i = rw (listed base) (q_free sep p v x a b (in_list p h) (rw (mail_queue base p v (in_list p h) a b) at i)).1

  pub mail_ends : (p v x : ℕ) → 1 ≤ count p (processors m) → q1 ≤ v → v ≤ q2 → 1 ≤ count x (queue m (place p v)) → length_of m x ≤ longest
  mail_ends p v x h a b i = (base.facts.mail p v (in_list p h) a b x (rw (mail_queue base p v (in_list p h) a b) at i)).long

-- ---- where p waits: in the queue at s in m, at t in k
pub queue_own : (p : ℕ) → free_semaphore < place p own_semaphore → queue_at (place p own_semaphore) ≡ for_message
unfolding Differ.queue_at
queue_own p h = rw (lt-leb (place p own_semaphore) free_semaphore h)

-- the pages that r gives are control pages, of processors and of their messages
record Lands (r : ℕ → ℕ) (m : List ℕ) : Type 0 where
  procs : (p : ℕ) → 1 ≤ count p (processors m) → first_control ≤ r p
  mail : (p w x : ℕ) → 1 ≤ count p (processors m) → q1 ≤ w → w ≤ q2 → 1 ≤ count x (queue m (place p w)) → r x ≤ last_control

module _ (r : ℕ → ℕ) (n : Renames r) (m k : List ℕ) (w : WellFormed m) (h : Renamed r m k) where
  processors_renamed : processors k ≡ map r (processors m)
  processors_renamed = walk_renamed r n m k control_pages Map.list_link processor_list processor_list h.list (λ x i. (h.procs x i).list_link)

  page_renamed : (j : ℕ) → page_of k j ≡ r (page_of m j)
  unfolding Processor.is_named
  page_renamed j = rw processors_renamed (first_renamed r n (is_named m j) (is_named k j) (processors m) (λ x i. rw (h.procs x i).label))

  -- a wait queue: who is in it is a processor
  wait_renamed : (a b : ℕ) → at k b ≡ r (at m a) → ((x : ℕ) → 1 ≤ count x (queue m a) → 1 ≤ count x (processors m)) → queue k b ≡ map r (queue m a)
  wait_renamed a b e f = walk_renamed r n m k control_pages link a b e (λ x i. (h.procs x (f x i)).link)

  line_renamed : (i : ℕ) → i < interrupts → queue k (semaphore_after i + 1) ≡ map r (queue m (semaphore_after i + 1))
  line_renamed i l =
      let e : semaphore_after i + 1 ≡ header_after i = omega arith in
      rw e (wait_renamed (header_after i) (header_after i) (h.waits i l) (waits_line w i l))

  asking_renamed : queue k (free_semaphore + 1) ≡ map r (queue m (free_semaphore + 1))
  asking_renamed = wait_renamed page_queue page_queue h.asking (waits_page w)

  module _ (p : ℕ) (hp : 1 ≤ count p (processors m)) where
    own_renamed : queue k (place (r p) own_semaphore + 1) ≡ map r (queue m (place p own_semaphore + 1))
    own_renamed =
        let e : place p own_semaphore + 1 ≡ place p own_queue = omega arith in
        let f : place (r p) own_semaphore + 1 ≡ place (r p) own_queue = omega arith in
        rw (e, f) (wait_renamed (place p own_queue) (place (r p) own_queue) ((h.procs p hp).headers own_queue (omega arith) (omega arith)) (waits_own w p hp))

    mail_renamed : (v : ℕ) → q1 ≤ v → v ≤ q2 → queue k (place (r p) v) ≡ map r (queue m (place p v))
    mail_renamed v a b =
        walk_renamed r n m k control_pages link (place p v) (place (r p) v) ((h.procs p hp).headers v (omega arith) b) (λ x i. (h.mail p v x hp a b i).link)

    module _ (l : Lands r m) where
      record Seated (s t : ℕ) : Type 0 where
        held : queued k t (r p) ≡ queued m s p
        place : queue_at t ≡ queue_at s

      seated_own : Seated (place p own_semaphore) (place (r p) own_semaphore)
      seated_own =
          let g = proc_control w p hp in
          record {
            held = queued_renamed r n m k (place p own_semaphore) (place (r p) own_semaphore) p own_renamed;
            place = queue_own (r p) (omega (arith, l.procs p hp)) ∙ sym (queue_own p (omega arith));
          }

      seated : (j : ℕ) → j ≤ interrupts → Seated (seat j m p) (seat j k (r p))
      seated zero u = go (queued m free_semaphore p) refl
        where
          q : queued k free_semaphore (r p) ≡ queued m free_semaphore p
          q = queued_renamed r n m k free_semaphore free_semaphore p asking_renamed

          go : (b : Bool) → queued m free_semaphore p ≡ b → Seated (seat 0 m p) (seat 0 k (r p))
          go true e = rw (seat_page m p e, seat_page k (r p) (q ∙ e)) (record { held = q; place = refl })
          go false e = rw (seat_own m p e, seat_own k (r p) (q ∙ e)) seated_own
      seated (suc j) u = go (queued m (semaphore_after j) p) refl (seated j (omega arith))
        where
          q : queued k (semaphore_after j) (r p) ≡ queued m (semaphore_after j) p
          q = queued_renamed r n m k (semaphore_after j) (semaphore_after j) p (line_renamed j (omega arith))

          go : (b : Bool) → queued m (semaphore_after j) p ≡ b → Seated (seat j m p) (seat j k (r p)) → Seated (seat (suc j) m p) (seat (suc j) k (r p))
          go true e ih = rw (seat_hit m p j e, seat_hit k (r p) j (q ∙ e)) (record { held = q; place = refl })
          go false e ih = rw (seat_miss m p j e, seat_miss k (r p) j (q ∙ e)) ih

      queue_of_renamed : queue_of m p ≡ queue_of k (r p)
      unfolding Differ.queue_of
      queue_of_renamed = let s = seated interrupts (omega arith) in rw (s.held, s.place)

      state_of_renamed : state_of m p ≡ state_of k (r p)
      unfolding Differ.state_of
      state_of_renamed =
          let runs : eqb (running k) (r p) ≡ eqb (running m) p = rw h.runs (eqb_renamed r n (running m) p) in
          rw ((h.procs p hp).state, (h.procs p hp).reason, runs, queue_of_renamed)

      message_renamed : (v x : ℕ) → q1 ≤ v → v ≤ q2 → 1 ≤ count x (queue m (place p v)) → message_of m x ≡ message_of k (r x)
      unfolding Differ.message_of Differ.content_of
      message_renamed v x a b i =
          let s = h.mail p v x hp a b i in
          let c = mail_control w p v x hp a b i in
          let e = mail_ends w p v x hp a b i in
          let f = l.mail p v x hp a b i in
          let z = s.words Map.size (omega arith) (omega arith) in
          let t : words_from (length_of m x) m (place x text) ≡ words_from (length_of m x) k (place (r x) text) =
          words_same (length_of m x) m k (place x text) (place (r x) text) (omega arith) (omega arith) (λ j u.
          let ex : place x text + j ≡ place x (text + j) = omega arith in
          let ey : place (r x) text + j ≡ place (r x) (text + j) = omega arith in
          rw (ex, ey) (s.words (text + j) (omega arith) (omega arith))) in
          rw (s.words note (omega arith) (omega arith), z, t)

      messages_renamed : (v : ℕ) → q1 ≤ v → v ≤ q2 → messages m (place p v) ≡ messages k (place (r p) v)
      unfolding Differ.messages
      messages_renamed v a b =
          rw (mail_renamed v a b) (map_both r (message_of m) (message_of k) (queue m (place p v)) (λ x i. message_renamed v x a b i))

      alike_renamed : Alike m p k (r p)
      alike_renamed = record {
        state = state_of_renamed;
        priority = rw (h.procs p hp).label;
        q1 = messages_renamed q1 (omega arith) (omega arith);
        q2 = messages_renamed q2 (omega arith) (omega arith);
      }

  -- so nothing is said of any name
  lands_said : Lands r m → (j : ℕ) → said m k j ≡ Nothing
  lands_said l j = go (hit_or (page_of m j) 0)
    where
      go : (page_of m j ≡ 0) ⊎ (page_of m j ≢ 0) → said m k j ≡ Nothing
      go (inl e) = (said_nothing m k j).1 (inl (e, page_renamed j ∙ ap r e ∙ n.none))
      go (inr d) =
          let hp = (first_in (is_named m j) (processors m) d).0 in
          (said_nothing m k j).1 (inr (d, rw (page_renamed j) (some_renamed r n (page_of m j) d), rw (page_renamed j) (alike_renamed (page_of m j) hp l)))

  -- in a well-formed memory the pages that are used are control pages
  lands_well : WellFormed k → Lands r m
  lands_well v = record {
    procs = λ p i. (proc_control v (r p) (there p i)).0;
    mail = λ p z x i a b j.
        let c = mail_control v (r p) z (r x) (there p i) a b (rw (mail_renamed p i z a b) (count_map r x (queue m (place p z)) j)) in
        omega (arith, c);
  }
    where
      there : (p : ℕ) → 1 ≤ count p (processors m) → 1 ≤ count (r p) (processors k)
      there p i = rw processors_renamed (count_map r p (processors m) i)

  lands_within : ((x : ℕ) → Page x → Page (r x)) → Lands r m
  lands_within f = record {
    procs = λ p i. (f p (proc_control w p i)).0;
    mail = λ p z x i a b j. let c = f x (mail_control w p z x i a b j) in omega (arith, c);
  }

-- ---- "two well-formed memories that are the same but for which control page is used for what give no processor line"
module _ (r : ℕ → ℕ) (n : Renames r) (m k : List ℕ) (w : WellFormed m) (v : WellFormed k) (h : Renamed r m k) where
  pub renamed_said : (j : ℕ) → said m k j ≡ Nothing
  renamed_said = lands_said r n m k w h (lands_well r n m k w h v)

  pub renamed_names : (j a : ℕ) → names_lines j m k a ≡ []
  renamed_names = no_names m k renamed_said

  -- what is printed is the words, or `same`
  pub renamed_lines : lines m k ≡ or_same (word_lines memory_size m k 0)
  renamed_lines =
      lines_good m k w.size v.size (judged_nothing m w.size w.accepted) (judged_nothing k v.size v.accepted)
      ∙ rw (renamed_names last_name first_name, append-nil (word_lines memory_size m k 0))

-- and of the second memory nothing more is asked than this, where r gives control pages for control pages
pub renamed_within : (r : ℕ → ℕ) → Renames r → ((x : ℕ) → Page x → Page (r x)) → (m k : List ℕ) → WellFormed m → Renamed r m k
    → (j : ℕ) → said m k j ≡ Nothing
renamed_within r n f m k w h = lands_said r n m k w h (lands_within r n m k w h f)
