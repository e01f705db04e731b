-- The deleted one leaves its wait queue and the processor list: Q1 and Q2 of all stay, its own too, and each of its messages goes back to whom the memory
-- before says. Assumes nothing.
use Rattle.std.specs.Prelude.{◌≡◌, ◌≢◌, ◌⊎◌, Bool, List, [], ◌∷◌, ◌++◌, ℕ, ◌+◌, ◌≤◌, ◌<◌, get_or}
use Rattle.std.proofs.Math.Path.{refl, ap}
use Rattle.std.proofs.Common.{sym, ◌∙◌, inl, inr, arith, length-append}
use Rattle.std.proofs.Math.Bool.{true, false, cond}
use Rattle.std.proofs.Math.Dec.{eqb}
use borrow.Author.Tests.{eqb-true, eqb-false, ne_eqb}
use Rattle.model.specs.Map as Map
use Rattle.model.specs.Map.{control_pages, interrupts, link, list_link, lower, note, page_size, place, processor_list, q1, q2, raised, running_page, size}
use Rattle.model.specs.Map.{upper}
use Rattle.model.specs.Bytes as Memory
use Rattle.model.specs.Bytes.{name, is_named, processors, queued, seat, leave_wait, unlisted}
use Rattle.model.specs.Queue.{first}
use Rattle.model.specs.Processor as Processor
use Rattle.model.specs.Wait as Wait
use Rattle.model.specs.Delete as Delete
use Rattle.model.specs.Lists.{count, Lists}
use Rattle.laws.specs.Count.{hit_or, count_append}
use Rattle.laws.specs.Chain.{Page, walk_chain, split_at_page, Chain}
use Rattle.laws.specs.Queues.{upd, upd_same, link_procs}
use Rattle.laws.specs.Uses.{Sep, proc_page, list_short}
use Rattle.laws.specs.Places.{in_procs, grant_low}
use Rattle.laws.specs.Inv.{Base, Mem, View, no_one}
use Rattle.laws.specs.Views.{put1, with_words}
use Rattle.laws.specs.Stores.{sem_mem}
use Rattle.laws.specs.JoinLeave.{leave_mem}
use Rattle.laws.specs.Wake.{seat_head, not_procs, facts_wake, unqueue_frame}
use Rattle.laws.specs.Grants.{each_two}
use Rattle.laws.specs.Members.{count_more}
use Rattle.laws.specs.Shrink.{in_P, gone, shrink_mem, left_is}
use Rattle.laws.specs.Shrink as Shrink
use Rattle.laws.specs.Leave.{Bag, tot_short, seat_is, queued_in, unlisted_bag}
use Rattle.laws.specs.Simple.{first_in, first_yes, first_no, named_same}
use Rattle.laws.specs.Who.{label_at, listed}
use Rattle.history.specs.Letter.{Same, Posts, queue_same, texts_same}
use Rattle.history.specs.Letter.Ours.{mail}
use Rattle.history.specs.Put.{returns_to}
use Rattle.history.specs.Calm.{calm_refl, ours_seat, ours_wait, mine_high, mine_proc}
use Rattle.history.specs.Emptying.{back_to, Aims}

-- ---- out of its wait queue
record Out (m m1 : List ℕ) (ps : List ℕ) (L : Lists) (W : View) : Type 0 where
  lists : Lists
  view : View
  sep : Sep ps lists
  mem : Mem m1 ps lists view
  label : (y : ℕ) → view.label y ≡ W.label y
  same : Same ps L m m1

wait_out : {m : List ℕ} {ps : List ℕ} {L : Lists} {W : View} {hs : List ℕ} {g : ℕ} (b : Base m ps L W hs g) (p : ℕ) → 1 ≤ count p ps
    → Out m (leave_wait m p) ps L W
unfolding Wait.leave_wait Wait.unqueue
wait_out {m} {ps} {L} {W} b p hp = go (queued m (seat interrupts m p) p) refl
  where
    s : Sep ps L
    s = b.facts.sep

    go : (c : Bool) → queued m (seat interrupts m p) p ≡ c → Out m (leave_wait m p) ps L W
    go false e = rw e (record { lists = L; view = W; sep = s; mem = b.mem; label = λ y. refl; same = calm_refl m })
    go true e =
        let a = seat interrupts m p in
        let h = seat_is b p hp in
        let r = split_at_page p (L (a + 1)) (queued_in b p hp a h e) in
        let v = raised (get_or m a 0) in
        let x1 = sem_mem s b.mem a v h in
        rw e (record {
          lists = upd L (a + 1) (r.0 ++ r.1);
          view = _;
          sep = (facts_wake a p r.0 r.1 b.facts h r.2).sep;
          mem = leave_mem s x1 (a + 1) (seat_head s a h) (λ d. not_procs s a h (sym d)) p r.0 r.1 r.2;
          label = λ y. refl;
          same = record {
            at = λ c i.
                unqueue_frame s b.mem a p r.0 r.1 h r.2 c (ours_seat s i a h).0 (ours_seat s i a h).1 (λ z j. ours_wait s i a z h j);
          };
        })

-- ---- out of the list
module _ (xs : List ℕ) (p : ℕ) (ys : List ℕ) {m : List ℕ} {L : Lists} {W : View} (b : Base m (xs ++ p ∷ ys) L W [] no_one) where
  abbrev u : List ℕ
  u = unlisted m p

  s : Sep (xs ++ p ∷ ys) L
  s = b.facts.sep

  hp : 1 ≤ count p (xs ++ p ∷ ys)
  hp = in_P xs p ys

  o : Out m (leave_wait m p) (xs ++ p ∷ ys) L W
  o = wait_out b p hp

  pub stayed : (y : ℕ) → 1 ≤ count y (xs ++ ys) → 1 ≤ count y (xs ++ p ∷ ys)
  stayed y h = omega (arith, count_more xs p ys y)

  not_gone : (y : ℕ) → 1 ≤ count y (xs ++ ys) → y ≢ p
  not_gone y h e = omega (arith, ap (λ (z : ℕ). count z (xs ++ ys)) e, gone xs p ys s)

  pub left_posts : Posts (xs ++ p ∷ ys) L m (unlisted m p)
  unfolding Delete.unlisted
  left_posts = record {
    at = λ c i.
        let t = mine_high s i in
        rw (left_is xs p ys o.sep o.mem) (Shrink.same xs p ys o.sep o.mem c (omega arith)
        (λ z k. mine_proc s i z list_link k (omega arith) (omega arith) (omega arith)) ∙ o.same.at c (mail i));
  }

  left_mem : (X : View) × ((y : ℕ) → X.label y ≡ W.label y) × Mem (unlisted m p) (xs ++ ys) (upd o.lists processor_list (xs ++ ys)) X
  unfolding Delete.unlisted
  left_mem =
      let Z = o.view in
      (with_words Z (put1 Z.note p 0) (put1 Z.size p (Z.reason p)) Z.reason Z.label Z.state, o.label, shrink_mem xs p ys o.sep o.mem)

  pub left_names : (y : ℕ) → Page y → Memory.word u y Map.label ≡ Memory.word m y Map.label
  left_names y g = left_mem.2.reads.words.label y g ∙ left_mem.1 y ∙ sym (b.mem.reads.words.label y g)

  left_procs : processors (unlisted m p) ≡ xs ++ ys
  left_procs =
      let l = rw s.procs at (list_short s processor_list (in_procs (xs ++ p ∷ ys))) in
      let c = rw (link_procs, upd_same o.lists processor_list (xs ++ ys)) at
      (left_mem.2.holds.rep processor_list (in_procs (xs ++ ys), grant_low processor_list (omega arith))) in
      walk_chain control_pages u list_link processor_list (xs ++ ys) c (omega (arith, l, length-append xs (p ∷ ys), length-append xs ys))

  -- ---- who has a name
  own_name : (y : ℕ) → 1 ≤ count y (xs ++ ys) → name m y ≢ name m p
  own_name y h e =
      let d : lower (W.label y) ≡ lower (W.label p) = rw (label_at b y (stayed y h), label_at b p hp) at e in
      omega (
        arith,
        each_two (λ z. lower (W.label z)) y p (xs ++ p ∷ ys) (not_gone y h) d (stayed y h) hp,
        b.facts.names.differ p hp,
      )

  none : (n : ℕ) → n ≡ name m p → first (is_named m n) (xs ++ ys) ≡ 0
  unfolding Processor.is_named
  none n e = go (hit_or (first (is_named m n) (xs ++ ys)) 0)
    where
      go : (first (is_named m n) (xs ++ ys) ≡ 0) ⊎ (first (is_named m n) (xs ++ ys) ≢ 0) → first (is_named m n) (xs ++ ys) ≡ 0
      go (inl z) = z
      go (inr d) =
          let t = first_in (is_named m n) (xs ++ ys) d in
          let y = first (is_named m n) (xs ++ ys) in
          absurd (own_name y t.0 (eqb-true (name m y) n t.1 ∙ e))

  drop : (f : ℕ → Bool) (zs : List ℕ) → f p ≡ false → first f (zs ++ p ∷ ys) ≡ first f (zs ++ ys)
  drop f [] e = first_no f p ys e
  drop f (z ∷ zs) e = go (f z) refl (drop f zs e)
    where
      go : (c : Bool) → f z ≡ c → first f (zs ++ p ∷ ys) ≡ first f (zs ++ ys) → first f (z ∷ zs ++ p ∷ ys) ≡ first f (z ∷ zs ++ ys)
      go true d ih = first_yes f z (zs ++ p ∷ ys) d ∙ sym (first_yes f z (zs ++ ys) d)
      go false d ih = first_no f z (zs ++ p ∷ ys) d ∙ ih ∙ sym (first_no f z (zs ++ ys) d)

  who : (n : ℕ) → first (is_named m n) (xs ++ ys) ≡ cond (eqb n (name m p)) 0 (first (is_named m n) (xs ++ p ∷ ys))
  unfolding Processor.is_named
  who n = go (eqb n (name m p)) refl
    where
      go : (c : Bool) → eqb n (name m p) ≡ c
          → first (is_named m n) (xs ++ ys) ≡ cond (eqb n (name m p)) 0 (first (is_named m n) (xs ++ p ∷ ys))
      go true e = rw e (none n (eqb-true n (name m p) e))
      go false e =
          let d = eqb-false n (name m p) e in
          rw e (sym (drop (is_named m n) xs (ne_eqb (name m p) n (λ z. d (sym z)))))

  -- ---- its messages
  pub left_aims : (w : ℕ) → q1 ≤ w → w ≤ q2 → Aims m p (unlisted m p) (L (place p w))
  unfolding returns_to
  left_aims w l k = record { to = λ x h. to x h; flag = λ x h. ap (λ (v : ℕ). lower v) (word x note h (omega arith) (omega arith)) }
    where
      word : (x j : ℕ) → 1 ≤ count x (L (place p w)) → 1 ≤ j → j < page_size → Memory.word (unlisted m p) x j ≡ Memory.word m x j
      word x j h i v = (texts_same b left_posts p w x hp l k h).texts j i v

      to : (x : ℕ) → 1 ≤ count x (L (place p w)) → back_to (unlisted m p) x ≡ returns_to m p x
      to x h =
          let n = upper (Memory.word m x note) in
          rw (
            word x note h (omega arith) (omega arith),
            word x size h (omega arith) (omega arith),
            left_procs,
            listed b,
            named_same m (unlisted m p) n (xs ++ ys) (λ y i. left_names y (proc_page s y (stayed y i))),
            who n,
          )

  module _ (runs : W.low running_page ≢ p) where
    pub bag : Bag (unlisted m p) p (lower (W.label p))
    bag = unlisted_bag p hp runs b

    pub bag_procs : bag.procs ≡ xs ++ ys
    bag_procs = sym (listed bag.base) ∙ left_procs

    -- its mail hangs there still
    hangs : (w : ℕ) (zs : List ℕ) → q1 ≤ w → w ≤ q2 → Chain u link (place p w) zs → ((z : ℕ) → count z zs ≤ count z (bag.q2 ++ bag.q1)) → zs ≡ L (place p w)
    hangs w zs l k c f =
        sym (walk_chain control_pages u link (place p w) zs c (tot_short bag.base zs (λ z. omega (arith, f z, count_append z (bag.q2 ++ bag.q1) (p ∷ [])))))
        ∙ queue_same b left_posts p w hp l k

    pub bag_q1 : bag.q1 ≡ L (place p q1)
    bag_q1 = hangs q1 bag.q1 (omega arith) (omega arith) bag.chain1 (λ z. omega (arith, count_append z bag.q2 bag.q1))

    pub bag_q2 : bag.q2 ≡ L (place p q2)
    bag_q2 = hangs q2 bag.q2 (omega arith) (omega arith) bag.chain2 (λ z. omega (arith, count_append z bag.q2 bag.q1))
