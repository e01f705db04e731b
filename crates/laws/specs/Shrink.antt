-- Deleting: "leave the processor list". A processor that waits nowhere leaves the list: its page and its mail are in hand then, and its grant is the one
-- of the name that is being deleted. Assumes nothing.
use Rattle.std.specs.Prelude.{◌≡◌, ◌≢◌, ◌⊎◌, List, ◌∷◌, ◌++◌, ℕ, ◌+◌, ◌≤◌, ◌<◌, length, get_or, set, eqb}
use Rattle.std.proofs.Common.{ap, ◌∙◌, inl, inr, arith, length-set, length-append, get_or-set_same, subst, sym}
use Rattle.model.specs.Map as Map
use Rattle.model.specs.Map.{free_list, grant_for, guarded_last, header_after, link, list_link, lower, own_queue, own_semaphore, page_queue, page_size, place}
use Rattle.model.specs.Map.{processor_list, q1, q2, running_page}
use Rattle.model.specs.Bytes.{store, word, leave}
use Rattle.model.specs.Lists.{hit, count, Lists, sum, uses, queues}
use Rattle.laws.specs.Count.{hit_self, hit_other, hit_or, count_append, zero_or}
use Rattle.laws.specs.Chain.{Page, Chain, last, last_not, leave_is}
use Rattle.laws.specs.Queues.{upd, upd_same, upd_other, link_procs, link_other, Rep, rep_leave}
use Rattle.laws.specs.Heads.{sum_one, sum_upd, sum_skip, Seat, seat_of}
use Rattle.laws.specs.Uses.{Among, Head, Sep, proc_page, proc_once, list_short, good, apart, single}
use Rattle.laws.specs.Places.{in_procs, in_q, grant_low, grant_high, own_once}
use Rattle.laws.specs.Inv.{Facts, Mem, View, bearers, no_one}
use Rattle.laws.specs.Frames.{other, fixed_same, seat_same}
use Rattle.laws.specs.Views.{put1, put1_same, put1_other, with_words}
use Rattle.laws.specs.Changes.{stock_same}
use Rattle.laws.specs.Grants.{each_two}
use Rattle.laws.specs.Members.{count_more, names_more, uses_more, queues_more, uses_sum, queues_sum, procs_once}

-- ---- the lists and the sentences
module _ (xs : List ℕ) (p : ℕ) (ys : List ℕ) where
  abbrev P : List ℕ
  P = xs ++ p ∷ ys

  abbrev Q : List ℕ
  Q = xs ++ ys

  -- who is left was there
  left : (y : ℕ) → 1 ≤ count y Q → 1 ≤ count y P
  left y h = omega (arith, count_more xs p ys y)

  pub in_P : 1 ≤ count p P
  in_P = omega (arith, count_more xs p ys p, hit_self p)

  head_left : (a : ℕ) → Among Q a → Among P a
  head_left a h = omega (arith, h, count_append a (uses Q) (queues Q), count_append a (uses P) (queues P), uses_more xs p ys a, queues_more xs p ys a)

  queue_left : (a : ℕ) → 1 ≤ count a (queues Q) → 1 ≤ count a (queues P)
  queue_left a h = omega (arith, queues_more xs p ys a)

  module _ {L : Lists} (s : Sep P L) where
    abbrev A : Lists
    A = upd L processor_list Q

    pub gone : count p Q ≡ 0
    gone = omega (arith, count_more xs p ys p, hit_self p, proc_once s p)

    not_p : (y : ℕ) → 1 ≤ count y Q → y ≢ p
    not_p y h e = omega (arith, ap (λ (z : ℕ). count z Q) e, gone)

    at_other : (a : ℕ) → a ≢ processor_list → A a ≡ L a
    at_other a d = upd_other L processor_list a Q d

    at_queue : (a : ℕ) → 1 ≤ count a (queues P) → A a ≡ L a
    at_queue a h = at_other a (λ e. omega (arith, ap (λ (z : ℕ). count z (queues P)) e, (procs_once s).away))

    -- all but p, its Q1 and its Q2
    pub shrunk : (z : ℕ) → sum z A (uses Q) + (hit (eqb z p) + (count z (L (place p q1)) + count z (L (place p q2)))) ≡ sum z L (uses P)
    shrunk z =
        let pg = proc_page s p in_P in
        omega (
          arith,
          uses_sum xs p ys z A,
          ap (count z) (at_other (place p q1) (omega (arith, pg))),
          ap (count z) (at_other (place p q2) (omega (arith, pg))),
          sum_upd z L processor_list Q (uses P) (procs_once s).here,
          count_more xs p ys z,
          ap (count z) s.procs,
        )

    sum_left : (z : ℕ) → sum z A (queues P) ≡ sum z L (queues P)
    sum_left z = sum_skip z L processor_list Q (queues P) (procs_once s).away

    module _ {W : View} (f : Facts P L W no_one) (idle : sum p L (queues P) ≡ 0) (runs : W.low running_page ≢ p) where
      -- its own wait is empty
      own_empty : (x : ℕ) → 1 ≤ count x (L (place p own_queue)) → ⊥
      own_empty x h =
          let o = (f.own p in_P x h).owner in
          let c = rw o at h in
          omega (arith, sum_one p L (place p own_queue) (queues P) (omega (arith, (own_once s p in_P).here)), idle)

      none : (z : ℕ) → count z (L (place p own_queue)) ≡ 0
      none z = go (zero_or (count z (L (place p own_queue))))
        where
          go : (count z (L (place p own_queue)) ≡ 0) ⊎ (1 ≤ count z (L (place p own_queue))) → count z (L (place p own_queue)) ≡ 0
          go (inl e) = e
          go (inr h) = absurd (own_empty z h)

      sum_Q : (z : ℕ) → sum z A (queues Q) ≡ sum z L (queues P)
      sum_Q z =
          let pg = proc_page s p in_P in
          omega (arith, queues_sum xs p ys z A, sum_left z, ap (count z) (at_other (place p own_queue) (omega (arith, pg))), none z)

      waits : (z : ℕ) → (z ≡ p) ⊎ (z ≢ p) → sum z A (queues Q) ≤ count z Q
      waits z (inl e) =
          let B : ℕ → Type 0 = λ x. sum x A (queues Q) ≤ count x Q in
          subst B (sym e) (omega (arith, sum_Q p, idle))
      waits z (inr d) = omega (arith, sum_Q z, s.waits z, count_more xs p ys z, hit_other z p d)

      pub shrink_sep : Sep Q A
      shrink_sep = record { procs = upd_same L processor_list Q; most = λ z. omega (arith, shrunk z, s.most z); waits = λ z. waits z (hit_or z p) }

      named : (k : ℕ) → bearers W.label P k ≡ bearers W.label Q k + hit (eqb k (lower (W.label p)))
      named k = names_more xs p ys (λ y. lower (W.label y)) k

      other_name : (y : ℕ) → 1 ≤ count y Q → lower (W.label y) ≢ lower (W.label p)
      other_name y h e =
          omega (arith, each_two (λ z. lower (W.label z)) y p P (not_p y h) e (left y h) in_P, f.names.differ p in_P)

      pub shrink_facts : Facts Q A W (lower (W.label p))
      shrink_facts = record {
        sep = shrink_sep;
        names = record {
          differ = λ y h.
              omega (
                arith,
                f.names.differ y (left y h),
                named (lower (W.label y)),
                hit_other (lower (W.label y)) (lower (W.label p)) (other_name y h),
              );
          range = λ y h. f.names.range y (left y h);
        };
        seats = record {
          bit = λ y h. sum_Q y ∙ f.seats.bit y (left y h);
          zeros = λ y h. f.seats.zeros y (left y h);
          served = λ k h y c. f.seats.served k h y (rw (at_other (header_after k) (omega arith)) at c);
          asking = λ y c. f.seats.asking y (rw (at_other page_queue (omega arith)) at c);
          quiet = λ y h z. f.seats.quiet y (left y h) z;
        };
        own = λ y h x c.
            let t = proc_page s y (left y h) in
            rw (at_other (place y q1) (omega arith)) (f.own y (left y h) x (rw (at_other (place y own_queue) (omega arith)) at c));
        sems = λ a h. rw (at_queue (a + 1) (queue_left (a + 1) h), stock_same L A (at_other free_list (omega arith)) a) (f.sems a (queue_left (a + 1) h));
        granted = record {
          bare = λ y c.
              rw (at_other free_list (omega arith), at_other (grant_for (lower (W.label y))) (omega arith))
              (f.granted.bare y (rw (at_other page_queue (omega arith)) at c));
          known = λ k h d c.
              omega (arith, named k, hit_other k (lower (W.label p)) d, f.granted.known k h (omega arith) (rw (at_other (grant_for k) (omega arith)) at c));
        };
        mail = λ y w h u v x c. let t = proc_page s y (left y h) in f.mail y w (left y h) u v x (rw (at_other (place y w) (omega arith)) at c);
        runs = record {
          idle = f.runs.idle;
          listed = λ d. omega (arith, f.runs.listed d, count_more xs p ys (W.low running_page), hit_other (W.low running_page) p runs);
          tag = f.runs.tag;
        };
        codes = f.codes;
        clock = f.clock;
        faults = f.faults;
      }

    -- ---- the memory
    module _ {m : List ℕ} {W : View} (x : Mem m P L W) where
      pg : Page p
      pg = proc_page s p in_P

      h7 : Head P processor_list
      h7 = (in_procs P, grant_low processor_list (omega arith))

      abbrev c : ℕ
      c = last list_link processor_list xs

      abbrev v : ℕ
      v = word m p list_link

      abbrev m2 : List ℕ
      m2 = store (set m c v) p list_link 0

      chain7 : Chain m list_link processor_list (xs ++ p ∷ ys)
      chain7 = rw (link_procs, s.procs) at (x.holds.rep processor_list h7)

      pub left_is : leave m processor_list list_link p ≡ m2
      left_is =
          leave_is m 1 processor_list p xs ys chain7 (omega (arith, ap length s.procs, list_short s processor_list (in_procs P), length-append xs (p ∷ ys)))
          (omega (arith, proc_once s p, count_append p xs (p ∷ ys), hit_self p))

      -- the chains of all the heads of before
      rep_P : Rep m2 (Head P) A
      rep_P = rw link_procs at (rep_leave m (Head P) L x.size (good s) (apart s) (single s) x.holds.rep processor_list p xs ys h7 s.procs)

      pub same : (a : ℕ) → a ≢ processor_list → ((z : ℕ) → 1 ≤ count z P → a ≢ place z list_link) → get_or m2 a 0 ≡ get_or m a 0
      same a n7 nz =
          other (set m c v) (place p list_link) 0 a (nz p in_P)
          ∙ other m c v a (last_not list_link processor_list xs a n7 (λ z i. nz z (omega (arith, count_append z xs (p ∷ ys)))))

      same_word : (y j : ℕ) → Page y → j < page_size → j ≢ list_link → word m2 y j ≡ word m y j
      same_word y j h l d = same (place y j) (omega (arith, h)) (λ z i. omega arith)

      same_low : (a : ℕ) → a < guarded_last → a ≢ processor_list → get_or m2 a 0 ≡ get_or m a 0
      same_low a l d = same a d (λ z i. let t = proc_page s z i in omega arith)

      pub shrink_mem : Mem (leave m processor_list list_link p) Q A
          (with_words W (put1 W.note p 0) (put1 W.size p (W.reason p)) W.reason W.label W.state)
      shrink_mem = rw left_is (record {
        size = simp length-set x.size;
        holds = record {
          rep = λ a h. rep_P a (head_left a h.0, h.1);
          grant = λ k h. rw (at_other (grant_for k) (omega arith), same_low (grant_for k) (omega arith) (omega arith)) (x.holds.grant k h);
        };
        reads = record {
          words = record {
            note = λ y h i. note y h i (hit_or y p);
            size = λ y h i. same_word y Map.size h (omega arith) (omega arith) ∙ size y h i (hit_or y p);
            reason = λ y h i. same_word y Map.reason h (omega arith) (omega arith) ∙ x.reads.words.reason y h (left y i);
            label = λ y h. same_word y Map.label h (omega arith) (omega arith) ∙ x.reads.words.label y h;
            state = λ y h. same_word y Map.state h (omega arith) (omega arith) ∙ x.reads.words.state y h;
          };
          fixed = fixed_same (λ a h i. same_low a (omega arith) (omega arith)) (λ a h i. same_low a (omega arith) (omega arith))
              (λ a h i. same_low a (omega arith) (omega arith)) x.reads.fixed;
          sems = λ a h. let q = queue_left (a + 1) h in sem a (seat_of P a q) ∙ x.reads.sems a q;
        };
      })
        where
          note : (y : ℕ) → Page y → count y Q ≡ 0 → (y ≡ p) ⊎ (y ≢ p) → word m2 y Map.note ≡ put1 W.note p 0 y
          note y h i (inl e) =
              rw (put1_same W.note p 0 y e, e) (get_or-set_same (set m c v) (place p list_link) 0 0 (simp length-set (omega (arith, pg, x.size))))
          note y h i (inr d) =
              let out : count y P ≡ 0 = omega (arith, count_more xs p ys y, hit_other y p d) in
              rw (put1_other W.note p 0 y d)
              (same (place y Map.note) (omega (arith, h)) (λ z j e. let t : y ≡ z = omega arith in omega (arith, ap (λ (w : ℕ). count w P) t, out))
              ∙ x.reads.words.note y h out)

          -- what was its reason is then a size
          size : (y : ℕ) → Page y → count y Q ≡ 0 → (y ≡ p) ⊎ (y ≢ p) → word m y Map.size ≡ put1 W.size p (W.reason p) y
          size y h i (inl e) = rw (put1_same W.size p (W.reason p) y e, e) (x.reads.words.reason p pg in_P)
          size y h i (inr d) =
              rw (put1_other W.size p (W.reason p) y d) (x.reads.words.size y h (omega (arith, count_more xs p ys y, hit_other y p d)))

          sem : (a : ℕ) → Seat P a → get_or m2 a 0 ≡ get_or m a 0
          sem = seat_same m m2 (λ a i j. same_low a (omega arith) (omega arith)) (λ y u. same_word y own_semaphore (proc_page s y u) (omega arith) (omega arith))

      -- its mail hangs there still
      pub mail_left : (w : ℕ) → q1 ≤ w → w ≤ q2 → Chain (leave m processor_list list_link p) link (place p w) (L (place p w))
      mail_left w u k =
          let r = rep_P (place p w) (in_q P p w u k in_P, grant_high (place p w) (omega (arith, pg))) in
          rw left_is (rw (link_other (place p w) (omega (arith, pg)), at_other (place p w) (omega (arith, pg))) at r)
