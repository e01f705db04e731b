-- Say what is broken: where the invariant holds, no sentence of the table has an offending address. Assumes nothing.
use Rattle.std.specs.Prelude.{◌≡◌, refl, ◌≢◌, ◌⊎◌, Bool, true, false, List, [], ◌∷◌, length, get_or, eqb}
use Rattle.std.proofs.Common.{sym, ◌∙◌, inl, inr, ne_eqb}
use Rattle.std.proofs.Math.Path.{ap}
use Prim.Native.Nat.{ℕ, suc, ◌+◌, ◌-◌, ◌≤◌, ◌<◌}
use native.Mathlib.Omega.{arith}
use Rattle.model.specs.Map as Map
use Rattle.model.specs.Map.{last_flag, page_size, place, upper, lower, less, wait_bit, interrupts, semaphore_after, header_after, clock_line}
use Rattle.model.specs.Map.{free_list, free_semaphore, page_queue, processor_list, running_page, running_label, zero_word, code_word, all_codes}
use Rattle.model.specs.Map.{built_in_codes, first_unused, entries, grants, grants_end, grant_for, first_control, last_control, control_pages}
use Rattle.model.specs.Map.{own_semaphore, own_queue, q1, last_name}
use Rattle.model.specs.Mail.{fits}
use Rattle.model.specs.Bytes.{word}
use Rattle.model.specs.Lists.{count, Lists, sum, some, link_of, range, mails, owns, uses, queues, is_grant}
use Rattle.model.specs.Judge as Judge
use Rattle.model.specs.Classes as Classes
use Rattle.model.specs.Walks.{last_cell, gather}
use Rattle.model.specs.Classes.{chains, holders, used, controls, lines}
use Rattle.laws.specs.Count.{hit_self, hit_other, hit_or, count_append, zero_or, bearer_of}
use Rattle.laws.specs.Sentences.{◌and◌}
use Rattle.laws.specs.Heads.{page_one, sum_ext, range1_of, range2_of, mails_of, owns_of, Place, queues_place}
use Rattle.laws.specs.Heads.Place.{int, three, grant, slot}
use Rattle.laws.specs.Uses.{Among, Sep, proc_page, list_short}
use Rattle.laws.specs.Met.{met, Pointer, met_path, met_some, met_none, some_pos, path_chain, chain_last, gather_of, used_uses, spare}
use Rattle.laws.specs.Places.{in_uses, in_queues, in_procs, in_free, in_asking, in_own, in_q, in_grant, int_queue, own_once, asking_once, queue_at}
use Rattle.laws.specs.Places.{grant_is, grant_of_lem, grant_low, grant_high, all_pages_lem}
use Rattle.laws.specs.Inv.{no_one, view, bearers, stock_page, stock_else, Facts, Inv}
use Rattle.laws.specs.Accepted.{MessageRule, as_rule}
use Rattle.laws.specs.Cleared.{spare_grant, Clean, CleanPages, CleanWaits, CleanRecords, CleanTables, CleanCounters}

-- the one of a list of one
only_one : (a x : ℕ) → 1 ≤ count a (x ∷ []) → a ≡ x
only_one a x h = go (hit_or a x)
  where
    go : (a ≡ x) ⊎ (a ≢ x) → a ≡ x
    go (inl e) = e
    go (inr n) = absurd (omega (arith, hit_other a x n))

module _ (m : List ℕ) (ps : List ℕ) (L : Lists) (i : Inv m ps L (view m)) where
  f : Facts ps L (view m) no_one
  f = i.base.facts

  sep : Sep ps L
  sep = f.sep

  some_none : (x : ℕ) → length (some x) ≡ 0 → x ≡ 0
  some_none x e = go (zero_or x)
    where
      go : (x ≡ 0) ⊎ (1 ≤ x) → x ≡ 0
      go (inl z) = z
      go (inr p) = absurd (omega (arith, ap length (some_pos x p)))

  held : (k : ℕ) → k < page_size → L (grant_for k) ≡ some (get_or m (grant_for k) 0)
  held = i.base.mem.holds.grant

  grant_pointer : (k : ℕ) → k < page_size → Pointer m (grant_for k)
  grant_pointer k h n =
      let w = get_or m (grant_for k) 0 in
      let e = held k h ∙ some_pos (get_or m (grant_for k) 0) (omega arith) in
      let p = all_pages_lem sep (grant_for k) (get_or m (grant_for k) 0) (in_grant ps k h) (rw e (omega (arith, hit_self (get_or m (grant_for k) 0)))) in
      (p.0, omega (arith, p.1))

  -- the lists met are the lists
  agree : (a : ℕ) → Among ps a → met m a ≡ L a
  agree a h = go (is_grant a) refl
    where
      go : (b : Bool) → is_grant a ≡ b → met m a ≡ L a
      go true e = held_there (grant_of_lem a e)
        where
          held_there : (grants ≤ a) × (a < grants_end) → met m a ≡ L a
          held_there r =
              let q : grant_for (a - grants) ≡ a = omega arith in
              let k = a - grants in
              let x = met_some m (grant_for k) (grant_is k (omega arith)) (grant_pointer k (omega arith)) ∙ sym (held k (omega arith)) in
              rw q at x
      go false e = met_path m a e ∙ path_chain (suc control_pages) m (link_of a) a (L a) (i.base.mem.holds.rep a (h, e)) (omega (arith, list_short sep a h))

  known : (k : ℕ) → k < page_size → get_or m (grant_for k) 0 ≢ 0 → bearers (view m).label ps k ≡ 1
  known k h n = f.granted.known k h (omega arith) (λ e. n (some_none (get_or m (grant_for k) 0) (sym (ap length (held k h)) ∙ e)))

  spare_zero : (a : ℕ) → 1 ≤ count a spare → get_or m a 0 ≡ 0
  spare_zero a h = go (hit_or a grants) (hit_or (get_or m a 0) 0)
    where
      at : (k : ℕ) → k < page_size → (k ≡ 0) ⊎ (16 ≤ k) → get_or m (grant_for k) 0 ≢ 0 → ⊥
      at k l o n = fail o
        where
          t : (p : ℕ) × (1 ≤ count p ps) × (lower (word m p Map.label) ≡ k)
          t = let b = bearer_of (λ p. lower (word m p Map.label)) ps k (omega (arith, known k l n)) in (b.who, b.here, b.is)

          fail : (k ≡ 0) ⊎ (16 ≤ k) → ⊥
          fail (inl z) = omega (arith, (f.names.range t.0 t.1).name, t.2)
          fail (inr z) = omega (arith, t.2)

      go : (a ≡ grants) ⊎ (a ≢ grants) → (get_or m a 0 ≡ 0) ⊎ (get_or m a 0 ≢ 0) → get_or m a 0 ≡ 0
      go e (inl z) = z
      go (inl e) (inr n) = absurd (at 0 (omega arith) (inl refl) (rw e at n))
      go (inr e) (inr n) =
          let r = range1_of 16 (grant_for 16) a (omega (arith, hit_other a grants e)) in
          let q : a ≡ grant_for (a - grants) = omega arith in
          absurd (at (a - grants) (omega arith) (inr (omega arith)) (rw q at n))

  sums : (z : ℕ) → (sum z (met m) (uses ps) ≡ sum z L (uses ps)) × (sum z (met m) (queues ps) ≡ sum z L (queues ps))
  sums z = (sum_ext z (met m) L (uses ps) (λ a h. agree a (in_uses ps a h)), sum_ext z (met m) L (queues ps) (λ a h. agree a (in_queues ps a h)))

  -- a walk ended at 0
  ended : (a : ℕ) → Among ps a → is_grant a ≡ false → Pointer m (last_cell (link_of a) a (met m a))
  ended a h e = rw (agree a h) (λ n. absurd (n (chain_last m (link_of a) a (L a) (i.base.mem.holds.rep a (h, e)))))

  pub pages_clean : CleanPages m ps
  unfolding Classes.used_once Classes.uses_end Classes.once Classes.ends Classes.pointer
  pages_clean = record { used_once = (once, tt); uses_end = (λ a h. ended a (in_uses ps a (among a h)) (chain_not a h)) and held_page and tt }
    where
      once : (z : ℕ) → 1 ≤ count z controls → sum z (met m) (used ps) ≡ 1
      once z h =
          let r = range1_of control_pages first_control z h in
          omega (
            arith,
            used_uses z (met m) ps (λ a j. met_none m a (spare_grant a j) (spare_zero a j)),
            sums z,
            i.base.all z,
            page_one z (r.0, omega arith),
          )

      among : (a : ℕ) → 1 ≤ count a (chains ps) → 1 ≤ count a (uses ps)
      among a h = omega (arith, count_append a (mails ps) (range page_size 1 grants))

      chain_not : (a : ℕ) → 1 ≤ count a (chains ps) → is_grant a ≡ false
      chain_not a h = go (hit_or a processor_list) (hit_or a free_list)
        where
          go : (a ≡ processor_list) ⊎ (a ≢ processor_list) → (a ≡ free_list) ⊎ (a ≢ free_list) → is_grant a ≡ false
          go (inl e) g = grant_low a (omega arith)
          go (inr e) (inl g) = grant_low a (omega arith)
          go (inr e) (inr g) =
              let s = mails_of a ps (omega (arith, hit_other a processor_list e, hit_other a free_list g)) in
              let p = proc_page sep s.page s.proc in
              grant_high a (omega (arith, p.0, s.is))

      held_page : (a : ℕ) → 1 ≤ count a holders → Pointer m a
      held_page a h =
          let r = range1_of last_name (grant_for 1) a h in
          let q : grant_for (a - grants) ≡ a = omega arith in
          rw q at (grant_pointer (a - grants) (omega arith))

  pub waits_clean : CleanWaits m ps
  unfolding Classes.queues_end Classes.waiting_bits Classes.reasons Classes.message_waits Classes.semaphores Classes.page_waits Classes.page_semaphore Classes.ends
      Classes.pointer Classes.none_free Classes.no_grant Judge.bit Judge.waiter Judge.reasoned Judge.reasonless Judge.quiet
      Judge.unasked Judge.owner Judge.message_wait Judge.interrupt_semaphore Judge.message_semaphore Judge.page_semaphore
  waits_clean = record {
    queues_end = (λ a h. ended a (in_queues ps a h) (queue_not a h), tt);
    waiting_bits = (λ p h. (sums p).1 ∙ f.seats.bit p h, (λ z h. omega (arith, sums z, sep.waits z), tt));
    reasons = (served, (λ p h. f.seats.asking p (rw wa at h), (f.seats.quiet, tt)));
    message_waits = (own, tt);
    semaphores = (λ k h. line_sem k (range1_of interrupts 0 k h).1, (own_sem, (λ a h. page_sem, tt)));
    page_waits = (λ p h. rw wf (f.granted.bare p (rw wa at h)).0, (λ p h. bare p (rw wa at h), tt));
  }
    where
      wa : met m page_queue ≡ L page_queue
      wa = agree page_queue (in_asking ps)

      wf : met m free_list ≡ L free_list
      wf = agree free_list (in_free ps)

      queue_not : (a : ℕ) → 1 ≤ count a (queues ps) → is_grant a ≡ false
      queue_not a h = go (queues_place ps a h)
        where
          go : Place ps a → is_grant a ≡ false
          go (int k l e) = grant_low a (omega arith)
          go (three u v w) = grant_low a (omega arith)
          go (grant u v) = absurd (none (hit_or a page_queue))
            where
              none : (a ≡ page_queue) ⊎ (a ≢ page_queue) → ⊥
              none (inl e) = omega arith
              none (inr e) = pick (zero_or (count a (owns ps)))
                where
                  pick : (count a (owns ps) ≡ 0) ⊎ (1 ≤ count a (owns ps)) → ⊥
                  pick (inl z) =
                      let r = range2_of interrupts (header_after 0) a (omega (arith, hit_other a page_queue e, count_append a (owns ps) lines)) in
                      omega (arith, r.1, r.2)
                  pick (inr j) = let s = owns_of a ps j in let p = proc_page sep s.page s.proc in omega (arith, p.0, s.is)
          go (slot s) = let p = proc_page sep s.page s.proc in grant_high a (omega (arith, p.0, s.is))

      served : (p : ℕ) → 1 ≤ count p (gather (met m) lines) → (1 ≤ word m p Map.reason) × (word m p Map.reason ≤ last_control)
      served p h =
          let t = gather_of (met m) lines p h in
          let r = range2_of interrupts (header_after 0) t.head t.here in
          let a = header_after r.0 in
          let e : met m t.head ≡ L (header_after r.0) = ap (met m) r.2 ∙ agree a (in_queues ps a (int_queue ps r.0 r.1)) in
          f.seats.served r.0 r.1 p (rw e at t.there)

      own : (p : ℕ) → 1 ≤ count p ps → (x : ℕ) → 1 ≤ count x (met m (place p own_queue))
          → (x ≡ p) × ((lower (word m p Map.reason) ≤ last_flag) × ((q : ℕ) → 1 ≤ count q (met m (place p q1))
          → fits (upper (word m p Map.reason)) (lower (word m p Map.reason)) (word m q Map.note) ≡ false))
      own p h x j =
          let t = f.own p h x (rw (agree (place p own_queue) (in_own ps p h)) at j) in
          (t.owner, (t.flag, λ q c. t.none q (rw (agree (place p q1) (in_q ps p 5 (omega arith) (omega arith) h)) at c)))

      line_sem : (k : ℕ) → k < interrupts → get_or m (semaphore_after k) 0 ≡ less 0 (length (met m (header_after k)))
      line_sem k h =
          let d : semaphore_after k + 1 ≡ header_after k = omega arith in
          let q = int_queue ps k h in
          let s = semaphore_after k in
          rw (agree (header_after k) (in_queues ps (header_after k) q)) (rw (stock_else L s (omega arith), d) at (f.sems s (queue_at ps _ _ d q)))

      own_sem : (p : ℕ) → 1 ≤ count p ps → word m p own_semaphore ≡ less 0 (length (met m (place p own_queue)))
      own_sem p h =
          let d : place p own_semaphore + 1 ≡ place p own_queue = omega arith in
          let g = proc_page sep p h in
          let q = (own_once sep p h).here in
          let s = place p own_semaphore in
          rw (agree (place p own_queue) (in_own ps p h)) (rw (stock_else L s (omega arith), d) at (f.sems s (queue_at ps _ _ d (omega arith))))

      page_sem : get_or m free_semaphore 0 ≡ less (length (met m free_list)) (length (met m page_queue))
      page_sem = rw (wf, wa) (f.sems free_semaphore (omega (arith, (asking_once sep).here)) ∙ ap (λ (n : ℕ). less n (length (L page_queue))) (stock_page L))

      bare : (p : ℕ) → 1 ≤ count p (L page_queue) → get_or m (grant_for (lower (word m p Map.label))) 0 ≡ 0
      bare p h =
          let k = lower (word m p Map.label) in
          some_none (get_or m (grant_for k) 0) (sym (ap length (held k (omega arith))) ∙ (f.granted.bare p h).1)

  pub records_clean : CleanRecords m ps
  unfolding Classes.labels Classes.granted Classes.messages Classes.existing Classes.nought Judge.label Judge.zero_bits Judge.sized Judge.message
  records_clean = record {
    labels = (
      λ p h. (f.names.differ p h, let l = f.names.range p h in ((l.name, omega arith), (l.low, l.high))),
      (f.seats.zeros, tt),
    );
    granted = (λ k h n. let r = range1_of last_name 1 k h in omega (arith, known k (omega arith) n), (spare_zero, tt));
    messages = (message, tt);
  }
    where
      message : (q : ℕ) → 1 ≤ count q (gather (met m) (mails ps)) → MessageRule (word m q Map.note) (word m q Map.size)
      message q h =
          let t = gather_of (met m) (mails ps) q h in
          let s = mails_of t.head ps t.here in
          let e : met m t.head ≡ L (place s.page s.word) =
          ap (met m) s.is ∙ agree (place s.page s.word) (in_q ps s.page s.word s.low s.high s.proc) in
          as_rule (f.mail s.page s.word s.proc s.low s.high q (rw e at t.there))

  pub tables_clean : CleanTables m ps
  unfolding Classes.codes Classes.faults Classes.is_built_in Classes.is_foreign Classes.in_range Judge.kind Judge.used Judge.entry
  tables_clean = record {
    codes = (λ k h. f.codes.kinds k (range1_of all_codes 0 k h).1)
        and (λ k h. built k (hit_or k 0) (range1_of 2 0 k h).1)
        and (λ k h. let r = range1_of 1 built_in_codes k h in let e : k ≡ built_in_codes = omega arith in rw e f.codes.last)
        and tt;
    faults = (λ a h. rw (only_one a first_unused h) f.faults.range)
        and (λ k h.
        let l = (range1_of entries 0 k h).1 in
        ((λ u. let t = f.faults.used k l u in (t.name, t.fault)), f.faults.unused k l))
        and tt;
  }
    where
      built : (k : ℕ) → (k ≡ 0) ⊎ (k ≢ 0) → k < 2 → Map.top (get_or m (code_word k) 0) ≡ 1
      built k (inl e) l = rw e f.codes.zero
      built k (inr n) l = let e : k ≡ 1 = omega arith in rw e f.codes.one

  pub counts_clean : CleanCounters m ps
  unfolding Classes.clock Classes.running Classes.outer Classes.below Classes.positive Classes.nought Classes.runner Classes.not_higher Classes.shown
  counts_clean = record {
    clock = (λ a h. rw (only_one a clock_line h) f.clock.line)
        and (λ a h. rw (only_one a Map.c0 h) f.clock.c0)
        and (λ a h. rw (only_one a Map.c1 h) f.clock.c1)
        and (λ a h. rw (only_one a Map.c2 h) f.clock.c2)
        and (λ a h. rw (only_one a Map.c3 h) f.clock.c3)
        and (λ a h. rw (only_one a zero_word h) f.clock.nought)
        and (λ a h. rw (only_one a Map.divider h) f.clock.divider)
        and tt;
    running = (λ a h. rw (only_one a running_page h) (λ n. (f.runs.listed n, i.best.ready n)))
        and top
        and (λ a h. rw (only_one a running_label h) (f.runs.idle, f.runs.tag))
        and tt;
  }
    where
      top : (p : ℕ) → 1 ≤ count p ps → suc (word m p Map.state) ≤ wait_bit
          → (eqb (get_or m running_page 0) 0 ≡ false) × (upper (word m p Map.label) ≤ upper (word m (get_or m running_page 0) Map.label))
      top p h l = go (hit_or (get_or m running_page 0) 0)
        where
          go : (get_or m running_page 0 ≡ 0) ⊎ (get_or m running_page 0 ≢ 0)
              → (eqb (get_or m running_page 0) 0 ≡ false) × (upper (word m p Map.label) ≤ upper (word m (get_or m running_page 0) Map.label))
          go (inl e) = absurd (omega (arith, i.best.top p h l, f.runs.idle e, (f.names.range p h).low))
          go (inr n) = (ne_eqb (get_or m running_page 0) 0 n, rw (f.runs.tag n) at (i.best.top p h l))

  pub inv_clean : Clean m (met m processor_list)
  inv_clean =
      rw (agree processor_list (in_procs ps) ∙ sep.procs)
      (record { pages = pages_clean; waits = waits_clean; records = records_clean; tables = tables_clean; counters = counts_clean })
