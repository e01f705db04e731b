-- Instructions: CRP, "created stopped, all else zero". A page in hand becomes a processor: the heads of lists grow by three, all empty. Assumes nothing.
use Rattle.std.specs.Prelude.{◌≡◌, ◌≢◌, ◌⊎◌, ℕ, ◌+◌, ◌≤◌, ◌<◌, length, get_or, set, eqb}
use Rattle.std.proofs.Common.{sym, ap, ◌∙◌, inl, inr, length-set, subst}
use mathlib.Core.List.{List, [], ◌∷◌, ◌++◌, append-nil}
use native.Mathlib.Omega.{arith}
use Rattle.model.specs.Map as Map
use Rattle.model.specs.Map.{free_list, grant_for, guarded_last, header_after, interrupts, less, list_link, lower, own_queue, own_semaphore, page_queue}
use Rattle.model.specs.Map.{page_size, place, processor_list, q1, q2, running_page, wait_in, zeros_in}
use Rattle.model.specs.Bytes.{store, word, join}
use Rattle.model.specs.Lists.{hit, count, Lists, sum, link_of, uses, queues}
use Rattle.laws.specs.Count.{hit_self, hit_other, hit_or, one_hit, count_append}
use Rattle.laws.specs.Chain.{Page, Chain, last, last_not, join_is, off_page}
use Rattle.laws.specs.Queues.{upd, upd_same, upd_other, link_procs, rep_join}
use Rattle.laws.specs.Heads.{sum_upd, sum_ext, sum_skip, sum_pos, seat_of}
use Rattle.laws.specs.Uses.{Among, Head, Sep, proc_page, list_short, good, apart, single}
use Rattle.laws.specs.Places.{in_uses, in_queues, in_procs, in_free, in_asking, in_own, in_q, in_grant, int_queue, grant_low}
use Rattle.laws.specs.Inv.{View, bearers, Label, Message, Waits, stock, stock_else, Facts, Mem, Base}
use Rattle.laws.specs.Frames.{other, fixed_same, seat_same}
use Rattle.laws.specs.Views.{put1, put1_same, put1_other, with_sem}
use Rattle.laws.specs.Changes.{stock_same}
use Rattle.laws.specs.Hands.{in_hand}
use Rattle.laws.specs.Members.{names_more, uses_more, queues_more, uses_sum, queues_sum, head_off, procs_once}
use Rattle.laws.specs.Aside.{aside_hand}

-- ---- the new page q: its words, and that nobody bears its name
pub record New (m : List ℕ) (ps : List ℕ) (W : View) (q : ℕ) : Type 0 where
  pub empty : (w : ℕ) → Map.reason ≤ w → w ≤ q2 → word m q w ≡ 0
  pub label : Label (W.label q)
  pub unnamed : bearers W.label ps (lower (W.label q)) ≡ 0
  pub bit : wait_in (W.state q) ≡ 0
  pub zeros : zeros_in (W.state q) ≡ 0
  pub reason : W.reason q ≡ 0

module _ {m : List ℕ} {ps : List ℕ} {L : Lists} {W : View} {hs : List ℕ} {g : ℕ} (q : ℕ) (b : Base m ps L W (q ∷ hs) g) (n : New m ps W q) where
  s : Sep ps L
  s = b.facts.sep

  open aside_hand b q (in_hand b) use {page as pg, out, free}

  abbrev P : List ℕ
  P = ps ++ q ∷ []

  abbrev A : Lists
  A = upd L processor_list P

  -- the lists then
  pub grown : Lists
  grown = upd (upd (upd A (place q own_queue) []) (place q q1) []) (place q q2) []

  new_list : (w : ℕ) → own_queue ≤ w → w ≤ q2 → grown (place q w) ≡ []
  unfolding grown
  new_list w l u = go (hit_or w q2) (hit_or w q1)
    where
      go : (w ≡ q2) ⊎ (w ≢ q2) → (w ≡ q1) ⊎ (w ≢ q1) → grown (place q w) ≡ []
      go (inl e) f = rw (e, upd_same)
      go (inr e) (inl f) = rw (f, upd_other (upd (upd A (place q own_queue) []) (place q q1) []) (place q q2) (place q q1) [] (omega arith), upd_same)
      go (inr e) (inr f) =
          let d : w ≡ own_queue = omega arith in
          rw (
            d,
            upd_other (upd (upd A (place q own_queue) []) (place q q1) []) (place q q2) (place q own_queue) [] (omega arith),
            upd_other (upd A (place q own_queue) []) (place q q1) (place q own_queue) [] (omega arith),
            upd_same,
          )

  old_list : (a : ℕ) → a ≢ place q own_queue → a ≢ place q q1 → a ≢ place q q2 → grown a ≡ A a
  unfolding grown
  old_list a n4 n5 n6 =
      rw (
        upd_other (upd (upd A (place q own_queue) []) (place q q1) []) (place q q2) a [] n6,
        upd_other (upd A (place q own_queue) []) (place q q1) a [] n5,
        upd_other A (place q own_queue) a [] n4,
      )

  -- at a head of before
  at_old : (a : ℕ) → Among ps a → grown a ≡ A a
  at_old a h =
      old_list a (head_off s q own_queue a pg (omega arith) out h) (head_off s q q1 a pg (omega arith) out h) (head_off s q q2 a pg (omega arith) out h)

  pub grown_same : (a : ℕ) → Among ps a → a ≢ processor_list → grown a ≡ L a
  grown_same a h d = at_old a h ∙ upd_other L processor_list a P d

  -- a head is one of before, or one of the three new ones
  data Which (a : ℕ) : Type 0 where
    old : Among ps a → Which a
    fresh : (w : ℕ) → own_queue ≤ w → w ≤ q2 → a ≡ place q w → Which a

  pn : ps ++ [] ≡ ps
  pn = append-nil ps

  more_uses : (a : ℕ) → count a (uses P) ≡ count a (uses ps) + (hit (eqb a (place q q1)) + hit (eqb a (place q q2)))
  more_uses a = rw pn at (uses_more ps q [] a)

  more_queues : (a : ℕ) → count a (queues P) ≡ count a (queues ps) + hit (eqb a (place q own_queue))
  more_queues a = rw pn at (queues_more ps q [] a)

  which : (a : ℕ) → Among P a → Which a
  which a h = go (hit_or a (place q own_queue)) (hit_or a (place q q1)) (hit_or a (place q q2))
    where
      go : (a ≡ place q own_queue) ⊎ (a ≢ place q own_queue) → (a ≡ place q q1) ⊎ (a ≢ place q q1) → (a ≡ place q q2) ⊎ (a ≢ place q q2) → Which a
      go (inl e) f i = fresh own_queue (omega arith) (omega arith) e
      go (inr d) (inl e) i = fresh q1 (omega arith) (omega arith) e
      go (inr d) (inr e) (inl f) = fresh q2 (omega arith) (omega arith) f
      go (inr d) (inr e) (inr f) =
          old (omega (
            arith,
            h,
            count_append a (uses P) (queues P),
            count_append a (uses ps) (queues ps),
            more_uses a,
            more_queues a,
            hit_other a (place q own_queue) d,
            hit_other a (place q q1) e,
            hit_other a (place q q2) f,
          ))

  -- a wait queue
  which_queue : (a : ℕ) → 1 ≤ count a (queues P) → (1 ≤ count a (queues ps)) ⊎ (a ≡ place q own_queue)
  which_queue a h = go (hit_or a (place q own_queue))
    where
      go : (a ≡ place q own_queue) ⊎ (a ≢ place q own_queue) → (1 ≤ count a (queues ps)) ⊎ (a ≡ place q own_queue)
      go (inl e) = inr e
      go (inr d) = inl (omega (arith, more_queues a, hit_other a (place q own_queue) d))

  which_proc : (y : ℕ) → 1 ≤ count y P → (1 ≤ count y ps) ⊎ (y ≡ q)
  which_proc y h = go (hit_or y q)
    where
      go : (y ≡ q) ⊎ (y ≢ q) → (1 ≤ count y ps) ⊎ (y ≡ q)
      go (inl e) = inr e
      go (inr d) = inl (omega (arith, count_append y ps (q ∷ []), hit_other y q d))

  not_q : (y : ℕ) → 1 ≤ count y ps → y ≢ q
  not_q y h e = omega (arith, ap (λ (z : ℕ). count z ps) e, out)

  -- ---- sums
  count_P : (z : ℕ) → count z P ≡ count z ps + hit (eqb z q)
  count_P z = omega (arith, count_append z ps (q ∷ []))

  sum_uses : (z : ℕ) → sum z grown (uses P) ≡ sum z L (uses ps) + hit (eqb z q)
  sum_uses z =
      omega (
        arith,
        rw pn at (uses_sum ps q [] z grown),
        ap (count z) (new_list q1 (omega arith) (omega arith)),
        ap (count z) (new_list q2 (omega arith) (omega arith)),
        sum_ext z grown A (uses ps) (λ a h. at_old a (in_uses ps a h)),
        sum_upd z L processor_list P (uses ps) (procs_once s).here,
        count_P z,
        ap (count z) s.procs,
      )

  sum_queues : (z : ℕ) → sum z grown (queues P) ≡ sum z L (queues ps)
  sum_queues z =
      omega (
        arith,
        rw pn at (queues_sum ps q [] z grown),
        ap (count z) (new_list own_queue (omega arith) (omega arith)),
        sum_ext z grown A (queues ps) (λ a h. at_old a (in_queues ps a h)),
        sum_skip z L processor_list P (queues ps) (procs_once s).away,
      )

  idle_q : sum q L (queues ps) ≡ 0
  idle_q = sum_pos q L (queues ps) (λ a h. free a (in_queues ps a h))

  pub grow_sep : Sep P grown
  grow_sep = record {
    procs = at_old processor_list (in_procs ps) ∙ upd_same L processor_list P;
    most = λ z. omega (arith, sum_uses z, b.all z);
    waits = λ z. omega (arith, sum_queues z, s.waits z, count_P z);
  }

  -- ---- the sentences
  named : (k : ℕ) → bearers W.label P k ≡ bearers W.label ps k + hit (eqb k (lower (W.label q)))
  named k = rw pn at (names_more ps q [] (λ p. lower (W.label p)) k)

  other_name : (k : ℕ) → 1 ≤ bearers W.label ps k → hit (eqb k (lower (W.label q))) ≡ 0
  other_name k h = hit_other k (lower (W.label q)) (λ e. omega (arith, ap (bearers W.label ps) e, n.unnamed))

  abbrev X : View
  X = with_sem W (put1 W.sem (place q own_semaphore) 0)

  pub grow_facts : Facts P grown X g
  grow_facts =
      let f = b.facts in
      let wk : (k : ℕ) → k < interrupts → grown (header_after k) ≡ L (header_after k) = λ k h. grown_same (header_after k)
      (in_queues ps (header_after k) (int_queue ps k h)) (omega arith) in
      let wa = grown_same page_queue (in_asking ps) (omega arith) in
      record {
        sep = grow_sep;
        names = record { differ = λ y h. differ y (which_proc y h); range = λ y h. range y (which_proc y h) };
        seats = record {
          bit = λ y h. bit y (which_proc y h);
          zeros = λ y h. zeros y (which_proc y h);
          served = λ k h y c. f.seats.served k h y (rw (wk k h) at c);
          asking = λ y c. f.seats.asking y (rw wa at c);
          quiet = λ y h z. quiet y z (which_proc y h);
        };
        own = λ y h x c. own y x c (which_proc y h);
        sems = λ a h. sems a (which_queue (a + 1) h);
        granted = record {
          bare = λ y c.
              rw (
                grown_same free_list (in_free ps) (omega arith),
                grown_same (grant_for (lower (W.label y))) (in_grant ps (lower (W.label y)) (omega arith)) (omega arith),
              )
              (f.granted.bare y (rw wa at c));
          known = λ k h d c.
              let t = f.granted.known k h d (rw (grown_same (grant_for k) (in_grant ps k h) (omega arith)) at c) in
              omega (arith, named k, other_name k (omega arith));
        };
        mail = λ y w h u v x c. mail y w u v x c (which_proc y h);
        runs = record {
          idle = f.runs.idle;
          listed = λ d.
              let t = f.runs.listed d in
              omega (arith, count_P (W.low running_page), hit_other (W.low running_page) q (not_q (W.low running_page) (omega arith)));
          tag = f.runs.tag;
        };
        codes = f.codes;
        clock = f.clock;
        faults = f.faults;
      }
    where
      differ : (y : ℕ) → (1 ≤ count y ps) ⊎ (y ≡ q) → bearers W.label P (lower (W.label y)) ≡ 1
      differ y (inl h) = let t = b.facts.names.differ y h in omega (arith, named (lower (W.label y)), other_name (lower (W.label y)) (omega arith))
      differ y (inr e) = rw e (omega (arith, named (lower (W.label q)), n.unnamed, hit_self (lower (W.label q))))

      range : (y : ℕ) → (1 ≤ count y ps) ⊎ (y ≡ q) → Label (W.label y)
      range y (inl h) = b.facts.names.range y h
      range y (inr e) = rw e n.label

      bit : (y : ℕ) → (1 ≤ count y ps) ⊎ (y ≡ q) → sum y grown (queues P) ≡ wait_in (W.state y)
      bit y (inl h) = sum_queues y ∙ b.facts.seats.bit y h
      bit y (inr e) =
          let B : ℕ → Type 0 = λ x. sum x grown (queues P) ≡ wait_in (W.state x) in
          subst B (sym e) (sum_queues q ∙ idle_q ∙ sym n.bit)

      zeros : (y : ℕ) → (1 ≤ count y ps) ⊎ (y ≡ q) → zeros_in (W.state y) ≡ 0
      zeros y (inl h) = b.facts.seats.zeros y h
      zeros y (inr e) = rw e n.zeros

      quiet : (y : ℕ) → wait_in (W.state y) ≡ 0 → (1 ≤ count y ps) ⊎ (y ≡ q) → W.reason y ≡ 0
      quiet y z (inl h) = b.facts.seats.quiet y h z
      quiet y z (inr e) = rw e n.reason

      own : (y x : ℕ) → 1 ≤ count x (grown (place y own_queue)) → (1 ≤ count y ps) ⊎ (y ≡ q) → Waits (W.reason y) W.note (grown (place y q1)) y x
      own y x c (inl h) =
          let t = proc_page s y h in
          rw (grown_same (place y q1) (in_q ps y q1 (omega arith) (omega arith) h) (omega arith))
          (b.facts.own y h x (rw (grown_same (place y own_queue) (in_own ps y h) (omega arith)) at c))
      own y x c (inr e) = let z = rw (e, new_list own_queue (omega arith) (omega arith)) at c in absurd (omega arith)

      sems : (a : ℕ) → (1 ≤ count (a + 1) (queues ps)) ⊎ (a + 1 ≡ place q own_queue)
          → put1 W.sem (place q own_semaphore) 0 a ≡ less (stock grown a) (length (grown (a + 1)))
      sems a (inl h) =
          let d : a ≢ place q own_semaphore = λ e. head_off s q own_queue (a + 1) pg (omega arith) out (in_queues ps (a + 1) h) (omega arith) in
          let d7 : a + 1 ≢ processor_list = λ e. omega (arith, ap (λ (y : ℕ). count y (queues ps)) e, (procs_once s).away) in
          rw (
            put1_other W.sem (place q own_semaphore) 0 a d,
            grown_same (a + 1) (in_queues ps (a + 1) h) d7,
            stock_same L grown (grown_same free_list (in_free ps)
                (omega arith)) a,
          )
          (b.facts.sems a h)
      sems a (inr e) =
          let d : a ≡ place q own_semaphore = omega arith in
          rw (put1_same W.sem (place q own_semaphore) 0 a d, e, new_list own_queue (omega arith) (omega arith), stock_else grown a (omega arith))

      mail : (y w : ℕ) → q1 ≤ w → w ≤ q2 → (x : ℕ) → 1 ≤ count x (grown (place y w)) → (1 ≤ count y ps) ⊎ (y ≡ q) → Message (W.note x) (W.size x)
      mail y w u v x c (inl h) =
          let t = proc_page s y h in
          b.facts.mail y w h u v x (rw (grown_same (place y w) (in_q ps y w u v h) (omega arith)) at c)
      mail y w u v x c (inr e) = let z = rw (e, new_list w (omega arith) v) at c in absurd (omega arith)

  -- ---- the memory
  abbrev c : ℕ
  c = last list_link processor_list ps

  abbrev m1 : List ℕ
  m1 = store m q list_link 0

  abbrev m2 : List ℕ
  m2 = set m1 c q

  joined : join m processor_list list_link q ≡ m2
  joined =
      let h : Head ps processor_list = (in_procs ps, grant_low processor_list (omega arith)) in
      let ch = rw (link_procs, s.procs) at (b.mem.holds.rep processor_list h) in
      join_is m list_link processor_list q ps ch (omega (arith, ap length s.procs, list_short s processor_list (in_procs ps))) (omega (arith, pg))
      (off_page q list_link list_link ps (omega arith) (omega arith) out)

  -- a word that is no list link, of q or of a processor, and not the head of the processor list
  same : (a : ℕ) → a ≢ place q list_link → a ≢ processor_list → ((z : ℕ) → 1 ≤ count z ps → a ≢ place z list_link) → get_or m2 a 0 ≡ get_or m a 0
  same a n1 n7 nz = other m1 c q a (last_not list_link processor_list ps a n7 nz) ∙ other m (place q list_link) 0 a n1

  pub grown_word : (a : ℕ) → a ≢ place q list_link → a ≢ processor_list → ((z : ℕ) → 1 ≤ count z ps → a ≢ place z list_link)
      → get_or (join m processor_list list_link q) a 0 ≡ get_or m a 0
  grown_word a n1 n7 nz = rw joined (same a n1 n7 nz)

  -- word j of a page, but 1
  same_word : (y j : ℕ) → Page y → j < page_size → j ≢ list_link → word m2 y j ≡ word m y j
  same_word y j h l d = same (place y j) (omega arith) (omega (arith, h)) (λ z i. omega arith)

  same_low : (a : ℕ) → a < guarded_last → a ≢ processor_list → get_or m2 a 0 ≡ get_or m a 0
  same_low a l d = same a (omega (arith, pg)) d (λ z i. let t = proc_page s z i in omega arith)

  pub grow_mem : Mem (join m processor_list list_link q) P grown X
  grow_mem = rw joined (record {
    size = simp length-set b.mem.size;
    holds = record {
      rep = λ a h. rep a h (which a h.0);
      grant = λ k h.
          rw (grown_same (grant_for k) (in_grant ps k h) (omega arith), same_low (grant_for k) (omega arith) (omega arith)) (b.mem.holds.grant k h);
    };
    reads = record {
      words = record {
        note = λ y h i.
            let d = hit_or y q in
            same (place y list_link) (note y i) (omega (arith, h)) (λ z j e. omega (arith, ap (λ (x : ℕ). count x ps) (row y z e), count_P y))
            ∙ b.mem.reads.words.note y h (omega (arith, count_P y));
        size = λ y h i. same_word y Map.size h (omega arith) (omega arith) ∙ b.mem.reads.words.size y h (omega (arith, count_P y));
        reason = λ y h i. same_word y Map.reason h (omega arith) (omega arith) ∙ reason y h (which_proc y i);
        label = λ y h. same_word y Map.label h (omega arith) (omega arith) ∙ b.mem.reads.words.label y h;
        state = λ y h. same_word y Map.state h (omega arith) (omega arith) ∙ b.mem.reads.words.state y h;
      };
      fixed = fixed_same (λ a h i. same_low a (omega arith) (omega arith)) (λ a h i. same_low a (omega arith) (omega arith))
          (λ a h i. same_low a (omega arith) (omega arith)) b.mem.reads.fixed;
      sems = λ a h. sem a (which_queue (a + 1) h);
    };
  })
    where
      row : (y z : ℕ) → place y list_link ≡ place z list_link → y ≡ z
      row y z e = omega arith

      note : (y : ℕ) → count y P ≡ 0 → place y list_link ≢ place q list_link
      note y i e = omega (arith, count_P y, one_hit y q (row y q e))

      reason : (y : ℕ) → Page y → (1 ≤ count y ps) ⊎ (y ≡ q) → word m y Map.reason ≡ W.reason y
      reason y h (inl i) = b.mem.reads.words.reason y h i
      reason y h (inr e) = rw e (n.empty Map.reason (omega arith) (omega arith) ∙ sym n.reason)

      rep : (a : ℕ) → Head P a → Which a → Chain m2 (link_of a) a (grown a)
      rep a h (old i) =
          let j = rep_join m (Head ps) L b.mem.size (good s) (apart s) (single s) b.mem.holds.rep processor_list q
          (in_procs ps, grant_low processor_list (omega arith)) pg (λ d hd e. free d hd.0) a (i, h.1) in
          rw (at_old a i) (rw (link_procs, s.procs) at j)
      rep a h (fresh w l u e) =
          rw (e, new_list w l u) (same_word q w pg (omega arith) (omega arith) ∙ n.empty w (omega arith) u)

      sem : (a : ℕ) → (1 ≤ count (a + 1) (queues ps)) ⊎ (a + 1 ≡ place q own_queue) → get_or m2 a 0 ≡ put1 W.sem (place q own_semaphore) 0 a
      sem a (inl h) =
          let d : a ≢ place q own_semaphore = λ e. head_off s q own_queue (a + 1) pg (omega arith) out (in_queues ps (a + 1) h) (omega arith) in
          rw (put1_other W.sem (place q own_semaphore) 0 a d) (seat_same m m2 (λ x i j. same_low x (omega arith) (omega arith))
          (λ y u. same_word y own_semaphore (proc_page s y u) (omega arith) (omega arith)) a (seat_of ps a h) ∙ b.mem.reads.sems a h)
      sem a (inr e) =
          let d : a ≡ place q own_semaphore = omega arith in
          rw (put1_same W.sem (place q own_semaphore) 0 a d, d)
          (same_word q own_semaphore pg (omega arith) (omega arith) ∙ n.empty own_semaphore (omega arith) (omega arith))

  pub grow_base : Base (join m processor_list list_link q) P grown X hs g
  grow_base = record { mem = grow_mem; facts = grow_facts; all = λ z. omega (arith, sum_uses z, b.all z) }
