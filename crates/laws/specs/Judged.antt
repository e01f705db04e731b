-- Well-formed: where the invariant holds, of whatever lists, the judge accepts. So the two say the same. Assumes nothing.
use Rattle.std.specs.Prelude.{◌≡◌, refl, Bool, true, false, List, [], ◌∷◌, ℕ, suc, ◌+◌, ◌-◌, ◌≤◌, ◌<◌, length, get_or}
use Rattle.std.proofs.Common.{sym, ap, ◌∙◌, arith}
use Rattle.model.specs.Map as Map
use Rattle.model.specs.Map.{built_in_codes, clock_line, control_pages, first_control, free_list, free_semaphore, grant_for, grants, header_after, interrupts}
use Rattle.model.specs.Map.{label, last_control, less, lower, memory_size, own_queue, own_semaphore, page_queue, page_size, place, processor_list, q1, q2}
use Rattle.model.specs.Map.{running_label, running_page, semaphore_after, zero_word}
use Rattle.model.specs.Bytes.{name, word, lists, judged}
use Rattle.model.specs.Store.{bytes}
use Rattle.model.specs.Lists.{count, Lists, sum, each_of, link_of, uses, queues, is_grant}
use Rattle.model.specs.Judge as Judge
use Rattle.laws.specs.Count.{hit_self}
use Rattle.laws.specs.Sentences.{together}
use Rattle.laws.specs.Rules.{Meant, complete}
use Rattle.laws.specs.Chain.{walk_chain}
use Rattle.laws.specs.Heads.{page_one, sum_ext, range1_of}
use Rattle.laws.specs.Uses.{Among, Sep, proc_page, list_short}
use Rattle.laws.specs.Places.{in_uses, in_queues, in_procs, in_free, in_asking, in_own, in_q, in_grant, int_queue, grant_of_lem, q_free, wait_page, queue_at}
use Rattle.laws.specs.Places.{all_pages_lem, own_once, asking_once}
use Rattle.laws.specs.Inv.{Base, Best, Facts, Inv, Mem, View, bearers, no_one, stock, stock_else, stock_page, view}
use Rattle.laws.specs.Accepted.{lists_walk, lists_some, as_rule, judge_inv}

pub each_ext : (f g : ℕ → ℕ) (ps : List ℕ) → ((p : ℕ) → 1 ≤ count p ps → f p ≡ g p) → each_of f ps ≡ each_of g ps
each_ext f g [] h = refl
each_ext f g (p ∷ ps) h = rw (h p (omega (arith, hit_self p)), each_ext f g ps (λ x i. h x (omega arith)))

-- the lists of the invariant are those that a walk finds
pub walked_short : {m : List ℕ} {ps : List ℕ} {L : Lists} {W : View} → Mem m ps L W → (a : ℕ) → Among ps a → length (L a) ≤ control_pages → lists m a ≡ L a
walked_short {m} {L = L} x a h l = go (is_grant a) refl
  where
    go : (b : Bool) → is_grant a ≡ b → lists m a ≡ L a
    go true e =
        let r = grant_of_lem a e in
        let q : grant_for (a - grants) ≡ a = omega arith in
        lists_some m a e ∙ sym (rw q at (x.holds.grant (a - grants) (omega arith)))
    go false e = lists_walk m a e ∙ walk_chain (suc control_pages) m (link_of a) a (L a) (x.holds.rep a (h, e)) (omega arith)

module _ {m : List ℕ} {ps : List ℕ} {L : Lists} {W : View} {hs : List ℕ} {g : ℕ} (i : Base m ps L W hs g) where
  s : Sep ps L
  s = i.facts.sep

  pub walked : (a : ℕ) → Among ps a → lists m a ≡ L a
  walked a h = walked_short i.mem a h (list_short s a h)

  bearers_is : (k : ℕ) → bearers (λ p. word m p label) ps k ≡ bearers W.label ps k
  bearers_is k =
      ap (count k) (each_ext (λ p. name m p) (λ p. lower (W.label p)) ps
      (λ p h. ap (λ (x : ℕ). lower x) (i.mem.reads.words.label p (proc_page s p h))))

  pub sums : (z : ℕ) → (sum z (lists m) (uses ps) ≡ sum z L (uses ps)) × (sum z (lists m) (queues ps) ≡ sum z L (queues ps))
  sums z = (sum_ext z (lists m) L (uses ps) (λ a h. walked a (in_uses ps a h)), sum_ext z (lists m) L (queues ps) (λ a h. walked a (in_queues ps a h)))

  at_queue : (a : ℕ) → 1 ≤ count a (queues ps) → lists m a ≡ L a
  at_queue a h = walked a (in_queues ps a h)

  at_own : (p : ℕ) → 1 ≤ count p ps → lists m (place p own_queue) ≡ L (place p own_queue)
  at_own p h = walked (place p own_queue) (in_own ps p h)

  at_mail : (p w : ℕ) → q1 ≤ w → w ≤ q2 → 1 ≤ count p ps → lists m (place p w) ≡ L (place p w)
  at_mail p w u v h = walked (place p w) (in_q ps p w u v h)

  at_grant : (k : ℕ) → k < page_size → lists m (grant_for k) ≡ L (grant_for k)
  at_grant k h = walked (grant_for k) (in_grant ps k h)

  stock_is : (a : ℕ) → stock (lists m) a ≡ stock L a
  unfolding stock
  stock_is a = rw (walked free_list (in_free ps))

  pub facts_here : Facts ps (lists m) (view m) g
  facts_here =
      let f = i.facts in
      let r = i.mem.reads in
      let pg = proc_page s in
      let wf = walked free_list (in_free ps) in
      let wa = walked page_queue (in_asking ps) in
      let l8 = r.fixed.turn running_page (omega arith) (omega arith) in
      let l9 = r.fixed.turn running_label (omega arith) (omega arith) in
      let d = r.fixed.turn Map.divider (omega arith) (omega arith) in
      record {
        sep = record {
          procs = walked processor_list (in_procs ps) ∙ s.procs;
          most = λ z. omega (arith, sums z, s.most z);
          waits = λ z. omega (arith, sums z, s.waits z);
        };
        names = record {
          differ = λ p h. rw (r.words.label p (pg p h)) (bearers_is (lower (W.label p)) ∙ f.names.differ p h);
          range = λ p h. rw (r.words.label p (pg p h)) (f.names.range p h);
        };
        seats = record {
          bit = λ p h. rw (r.words.state p (pg p h)) ((sums p).1 ∙ f.seats.bit p h);
          zeros = λ p h. rw (r.words.state p (pg p h)) (f.seats.zeros p h);
          served = λ k h p j.
              let q = int_queue ps k h in
              let g = rw (at_queue (header_after k) q) at j in
              let i = wait_page s (header_after k) p q g in
              rw (r.words.reason p (pg p i) i) (f.seats.served k h p g);
          asking = λ p j.
              let g = rw wa at j in
              let i = wait_page s page_queue p (omega arith) g in
              rw (r.words.reason p (pg p i) i) (f.seats.asking p g);
          quiet = λ p h z. rw (r.words.reason p (pg p h) h) (f.seats.quiet p h (rw (r.words.state p (pg p h)) at z));
        };
        own = λ p h x j. let t = f.own p h x (rw (at_own p h) at j) in record {
          owner = t.owner;
          flag = rw (r.words.reason p (pg p h) h) t.flag;
          none = λ q c.
              let c2 = rw (at_mail p q1 (omega arith) (omega arith) h) at c in
              let n = q_free s p q1 q (omega arith) (omega arith) h c2 in
              rw (r.words.reason p (pg p h) h, r.words.note q n.0 n.1) (t.none q c2);
        };
        sems = λ a h. rw (at_queue (a + 1) h, stock_is a) (r.sems a h ∙ f.sems a h);
        granted = record {
          bare = λ p j.
              let c = rw wa at j in
              let h = wait_page s page_queue p (omega arith) c in
              rw (r.words.label p (pg p h), wf, at_grant (lower (W.label p)) (omega arith)) (f.granted.bare p c);
          known = λ k h c n. bearers_is k ∙ f.granted.known k h c (rw (at_grant k h) at n);
        };
        mail = λ p w h u v q c.
            let c2 = rw (at_mail p w u v h) at c in
            let n = q_free s p w q u v h c2 in
            rw (r.words.note q n.0 n.1, r.words.size q n.0 n.1) (f.mail p w h u v q c2);
        runs = record {
          idle = rw (l8, l9) f.runs.idle;
          listed = rw l8 f.runs.listed;
          tag = rw l8 (λ n.
              let h = pg (W.low running_page) (omega (arith, f.runs.listed n)) in
              l9 ∙ f.runs.tag n ∙ sym (r.words.label (W.low running_page) h));
        };
        codes = let c = f.codes in record {
          kinds = λ k h. rw (r.fixed.code k h) (c.kinds k h);
          zero = rw (r.fixed.code 0 (omega arith)) c.zero;
          one = rw (r.fixed.code 1 (omega arith)) c.one;
          last = rw (r.fixed.code built_in_codes (omega arith)) c.last;
        };
        clock = let c = f.clock in record {
          c0 = rw (r.fixed.clock Map.c0 (omega arith) (omega arith), d) c.c0;
          c1 = rw (r.fixed.clock Map.c1 (omega arith) (omega arith)) c.c1;
          c2 = rw (r.fixed.clock Map.c2 (omega arith) (omega arith)) c.c2;
          c3 = rw (r.fixed.clock Map.c3 (omega arith) (omega arith)) c.c3;
          divider = rw d c.divider;
          line = rw (r.fixed.clock clock_line (omega arith) (omega arith)) c.line;
          nought = rw (r.fixed.turn zero_word (omega arith) (omega arith)) c.nought;
        };
        faults = let c = f.faults in record {
          range = rw r.fixed.next c.range;
          used = λ k h l. rw (r.fixed.entry k h) (c.used k h (rw r.fixed.next at l));
          unused = λ k h l. rw (r.fixed.entry k h) (c.unused k h (rw r.fixed.next at l));
        };
      }

module _ {m : List ℕ} {ps : List ℕ} {L : Lists} {W : View} (inv : Inv m ps L W) where
  i : Base m ps L W [] no_one
  i = inv.base

  best_here : Best ps (view m)
  best_here =
      let f = i.facts in
      let r = i.mem.reads in
      let pg = proc_page i.facts.sep in
      let l8 = r.fixed.turn running_page (omega arith) (omega arith) in
      let l9 = r.fixed.turn running_label (omega arith) (omega arith) in
      record {
        ready = rw l8 (λ n. rw (r.words.state (W.low running_page) (pg (W.low running_page) (omega (arith, f.runs.listed n)))) (inv.best.ready n));
        top = λ p h c. rw (r.words.label p (pg p h), l9) (inv.best.top p h (rw (r.words.state p (pg p h)) at c));
      }

  passes : Meant (Judge.well_formed bytes m ps (lists m))
  unfolding Judge.page Judge.list Judge.listed Judge.once Judge.used_once Judge.label Judge.names Judge.bit Judge.waiter Judge.waiting_bits Judge.reasoned
      Judge.reasonless Judge.served Judge.quiet Judge.reasons Judge.unasked Judge.owner Judge.message_wait Judge.message_waits Judge.interrupt_semaphore
      Judge.message_semaphore Judge.page_semaphore Judge.semaphores Judge.page_wait Judge.page_waits Judge.grant Judge.granted Judge.sized Judge.message
      Judge.mail Judge.messages Judge.runner Judge.not_higher Judge.running Judge.kind Judge.codes Judge.counters Judge.clock Judge.used Judge.entry
      Judge.faults Judge.zero_bits Judge.zeros Judge.well_formed
  passes =
      let f = facts_here i in
      let u = f.sep in
      together (Judge.clock bytes m ps (lists m)) m ps (lists m) (record {
        listed = λ a h. (list_short u a h, λ x j. listed a h x j);
        used_once = λ z h. let r = range1_of control_pages first_control z h in omega (arith, u.most z, sums i z, i.all z, page_one z (r.0, omega arith));
        names = λ p h. (f.names.differ p h, let l = f.names.range p h in ((l.name, omega arith), (l.low, l.high)));
        waiting_bits = (f.seats.bit, λ z h. u.waits z);
        reasons = (f.seats.served, (f.seats.asking, f.seats.quiet));
        message_waits = λ p h x j. let t = f.own p h x j in (t.owner, (t.flag, t.none));
        semaphores = (line_sem, (own_sem, f.sems free_semaphore (omega (arith, (asking_once u).here)) ∙ page_sem));
        page_waits = f.granted.bare;
        granted = λ k h n. f.granted.known k h (omega arith) n;
        messages = λ p h. (
          λ q j. as_rule (f.mail p q1 h (omega arith) (omega arith) q j),
          λ q j. as_rule (f.mail p q2 h (omega arith) (omega arith) q j),
        );
        running = (f.runs.idle, ((λ n. (f.runs.listed n, (f.runs.tag n, best_here.ready n))), best_here.top));
        codes = (f.codes.kinds, (f.codes.zero, (f.codes.one, f.codes.last)));
        faults = (f.faults.range, λ k h. ((λ l. let t = f.faults.used k h l in (t.name, t.fault)), f.faults.unused k h));
        zeros = (f.seats.zeros, f.clock.nought);
      }) ((f.clock.c0, (f.clock.c1, (f.clock.c2, f.clock.c3))), (f.clock.divider, f.clock.line))
    where
      listed : (a : ℕ) → Among ps a → (x : ℕ) → 1 ≤ count x (lists m a) → (first_control ≤ x) × (x ≤ last_control)
      listed a h x j = let r = all_pages_lem (facts_here i).sep a x h j in (r.0, omega arith)

      line_sem : (k : ℕ) → k < interrupts → get_or m (semaphore_after k) 0 ≡ less 0 (length (lists m (header_after k)))
      line_sem k h =
          let d : semaphore_after k + 1 ≡ header_after k = omega arith in
          let q = int_queue ps k h in
          rw (stock_else (lists m) (semaphore_after k) (omega arith), d) at ((facts_here i).sems (semaphore_after k) (queue_at ps _ _ d q))

      own_sem : (p : ℕ) → 1 ≤ count p ps → word m p own_semaphore ≡ less 0 (length (lists m (place p own_queue)))
      own_sem p h =
          let d : place p own_semaphore + 1 ≡ place p own_queue = omega arith in
          let g = proc_page (facts_here i).sep p h in
          let q = (own_once (facts_here i).sep p h).here in
          rw (stock_else (lists m) (place p own_semaphore) (omega arith), d) at ((facts_here i).sems (place p own_semaphore) (queue_at ps _ _ d (omega arith)))

      page_sem : less (stock (lists m) free_semaphore) (length (lists m page_queue)) ≡ less (length (lists m free_list)) (length (lists m page_queue))
      page_sem = rw (stock_page (lists m))

  pub inv_judge : judged m ≡ true
  unfolding Judge.judged
  inv_judge = rw (facts_here i).sep.procs (complete (Judge.well_formed bytes m ps (lists m)) passes)

-- ---- what every later law is about
pub record WellFormed (m : List ℕ) : Type 0 where
  pub size : length m ≡ memory_size
  pub accepted : judged m ≡ true

pub well_formed_lem : {m : List ℕ} {ps : List ℕ} {L : Lists} {W : View} → Inv m ps L W → WellFormed m
well_formed_lem v = record { size = v.base.mem.size; accepted = inv_judge v }

pub invariant : {m : List ℕ} → WellFormed m → Inv m (lists m processor_list) (lists m) (view m)
invariant {m} w = judge_inv m w.size w.accepted
