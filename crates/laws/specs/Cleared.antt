-- Say what is broken: where no class has an offending address, the invariant holds, of the lists that are met. Assumes nothing.
use Rattle.std.proofs.Math.Path.{◌≡◌, refl, sym, ap}
use Rattle.std.proofs.Common.{◌∙◌, inl, inr}
use Rattle.std.specs.Prelude.{◌≢◌, ◌⊎◌, true, List, ℕ, suc, ◌-◌, ◌/◌, ◌≤◌, ◌<◌}
use native.Mathlib.Omega.{arith}
use Rattle.std.proofs.Math.ListN.{length, get_or}
use Rattle.std.proofs.lemmas.Bool.{eqb-false}
use Rattle.model.specs.Map as Map
use Rattle.model.specs.Map.{memory_size, page_size, place, upper, lower, wait_bit, interrupts, header_after, clock_line, free_semaphore}
use Rattle.model.specs.Map.{processor_list, running_page, running_label, zero_word, all_codes, built_in_codes, first_unused, entries, grants}
use Rattle.model.specs.Map.{grant_for, first_control, control_pages, last_name}
use Rattle.model.specs.Store.{bytes}
use Rattle.model.specs.Bytes.{word}
use Rattle.model.specs.Lists.{count, sum, some, link_of, range, mails, uses, queues, is_grant}
use Rattle.model.specs.Judge as Judge
use Rattle.model.specs.Classes as Classes
use Rattle.model.specs.Walks.{last_cell}
use Rattle.model.specs.Classes.{lines, used}
use Rattle.laws.specs.Count.{hit_self, hit_other, hit_or, count_append, zero_or, bearer_of}
use Rattle.laws.specs.Rules.{Meant}
use Rattle.laws.specs.Tells.{Means}
use Rattle.laws.specs.Chain.{Page, Chain}
use Rattle.laws.specs.Heads.{one, page_or, page_one, sum_pos, range1_at, range1_of, range2_at, mails_at, seat_of}
use Rattle.laws.specs.Uses.{Head, Sep, proc_page, list_short}
use Rattle.laws.specs.Met.{met, Pointer, met_path, met_pages, met_some, met_none, none_else, of_gather, chain_path, used_uses, spare}
use Rattle.laws.specs.Places.{grant_is}
use Rattle.laws.specs.Inv.{view, bearers, Inv}
use Rattle.laws.specs.Accepted.{sems, of_rule}

-- a word of page 10: of a name, or spare
pub spare_grant : (a : ℕ) → 1 ≤ count a spare → is_grant a ≡ true
spare_grant a h = go (hit_or a grants)
  where
    go : (a ≡ grants) ⊎ (a ≢ grants) → is_grant a ≡ true
    go (inl e) = rw e (grant_is 0 (omega arith))
    go (inr n) =
        let r = range1_of 16 (grant_for 16) a (omega (arith, hit_other a grants n)) in
        let e : grant_for (a - grants) ≡ a = omega arith in
        rw e at (grant_is (a - grants) (omega arith))

pub data Word10 (k : ℕ) : Type 0 where
  holder : 1 ≤ k → k < 16 → Word10 k
  spared : 1 ≤ count (grant_for k) spare → Word10 k

pub word10 : (k : ℕ) → k < page_size → Word10 k
word10 k h = go (hit_or k 0) (hit_or (k / 16) 0)
  where
    go : (k ≡ 0) ⊎ (k ≢ 0) → (k / 16 ≡ 0) ⊎ (k / 16 ≢ 0) → Word10 k
    go (inl e) f = let g : grant_for k ≡ grants = omega arith in spared (rw g (omega (arith, hit_self grants)))
    go (inr e) (inl f) = holder (omega arith) (omega arith)
    go (inr e) (inr f) = spared (omega (arith, range1_at 16 (grant_for 16) (grant_for k) (omega arith) (omega arith)))

-- what the five classes say, sentence by sentence
pub record CleanPages (m : List ℕ) (ps : List ℕ) : Type 0 where
  pub used_once : Means (Classes.used_once bytes m ps (met m))
  pub uses_end : Means (Classes.uses_end bytes m ps (met m))

pub record CleanWaits (m : List ℕ) (ps : List ℕ) : Type 0 where
  pub queues_end : Means (Classes.queues_end bytes m ps (met m))
  pub waiting_bits : Means (Classes.waiting_bits bytes m ps (met m))
  pub reasons : Means (Classes.reasons bytes m ps (met m))
  pub message_waits : Means (Classes.message_waits bytes m ps (met m))
  pub semaphores : Means (Classes.semaphores bytes m ps (met m))
  pub page_waits : Means (Classes.page_waits bytes m ps (met m))

pub record CleanRecords (m : List ℕ) (ps : List ℕ) : Type 0 where
  pub labels : Means (Classes.labels bytes m ps (met m))
  pub granted : Means (Classes.granted bytes m ps (met m))
  pub messages : Means (Classes.messages bytes m ps (met m))

pub record CleanTables (m : List ℕ) (ps : List ℕ) : Type 0 where
  pub codes : Means (Classes.codes bytes m ps (met m))
  pub faults : Means (Classes.faults bytes m ps (met m))

pub record CleanCounters (m : List ℕ) (ps : List ℕ) : Type 0 where
  pub clock : Means (Classes.clock bytes m ps (met m))
  pub running : Means (Classes.running bytes m ps (met m))

pub record Clean (m : List ℕ) (ps : List ℕ) : Type 0 where
  pub pages : CleanPages m ps
  pub waits : CleanWaits m ps
  pub records : CleanRecords m ps
  pub tables : CleanTables m ps
  pub counters : CleanCounters m ps

module _ (m : List ℕ) (c : Clean m (met m processor_list)) where
  spare_zero : (a : ℕ) → 1 ≤ count a spare → get_or m a 0 ≡ 0
  unfolding Classes.labels Classes.granted Classes.messages Classes.nought
  spare_zero a h = c.records.granted.1.0 a h

  once : (z : ℕ) → sum z (met m) (uses (met m processor_list)) ≡ one z
  unfolding Classes.used_once Classes.uses_end Classes.once
  once z = used_uses z (met m) (met m processor_list) (λ a h. met_none m a (spare_grant a h) (spare_zero a h)) ∙ go (page_or z)
    where
      go : Page z ⊎ (one z ≡ 0) → sum z (met m) (used (met m processor_list)) ≡ one z
      go (inl p) = c.pages.used_once.0 z (omega (arith, range1_at control_pages first_control z p.0 (omega arith))) ∙ sym (page_one z p)
      go (inr e) = sum_pos z (met m) (used (met m processor_list)) (λ a i. none_else (met m a) (met_pages m a) z e) ∙ sym e

  only : (z : ℕ) → sum z (met m) (queues (met m processor_list)) ≤ count z (met m processor_list)
  unfolding Classes.queues_end Classes.waiting_bits Classes.reasons Classes.message_waits Classes.semaphores Classes.page_waits Classes.page_semaphore Judge.waiter
  only z = go (page_or z)
    where
      go : Page z ⊎ (one z ≡ 0) → sum z (met m) (queues (met m processor_list)) ≤ count z (met m processor_list)
      go (inl p) = c.waits.waiting_bits.1.0 z (omega (arith, range1_at control_pages first_control z p.0 (omega arith)))
      go (inr e) = omega (arith, sum_pos z (met m) (queues (met m processor_list)) (λ a i. none_else (met m a) (met_pages m a) z e))

  sep : Sep (met m processor_list) (met m)
  sep = record { procs = refl; most = λ z. omega (arith, once z); waits = only }

  -- every list ends by 0
  pointed : (a : ℕ) → Head (met m processor_list) a → Pointer m (last_cell (link_of a) a (met m a))
  unfolding Classes.uses_end Classes.queues_end Classes.ends Classes.pointer
  pointed a h = go (zero_or (count a (uses (met m processor_list))))
    where
      go : (count a (uses (met m processor_list)) ≡ 0) ⊎ (1 ≤ count a (uses (met m processor_list))) → Pointer m (last_cell (link_of a) a (met m a))
      go (inl e) = c.waits.queues_end.0 a (omega (arith, h.0, count_append a (uses (met m processor_list)) (queues (met m processor_list))))
      go (inr i) = chain (zero_or (count a (range page_size 1 grants)))
        where
          chain : (count a (range page_size 1 grants) ≡ 0) ⊎ (1 ≤ count a (range page_size 1 grants)) → Pointer m (last_cell (link_of a) a (met m a))
          chain (inl e) = c.pages.uses_end.0 a (omega (arith, count_append a (mails (met m processor_list)) (range page_size 1 grants)))
          chain (inr j) =
              let r = range1_of page_size grants a j in
              let q : grant_for (a - grants) ≡ a = omega arith in
              let g = rw q at (grant_is (a - grants) (omega arith)) in
              let f = h.1 in
              let z : ◌≡◌ {A = ℕ} 0 1 = cc in absurd (omega arith)

  chained : (a : ℕ) → Head (met m processor_list) a → Chain m (link_of a) a (met m a)
  chained a h =
      let w = met_path m a h.1 in
      let l = list_short sep a h.0 in
      let p = pointed a h in
      rw w (chain_path (suc control_pages) m (link_of a) a (omega (arith, l, ap length w)) (rw w at p))

  -- a grant is 0 or a page, and 0 where no name is
  granted : (k : ℕ) → k < page_size → met m (grant_for k) ≡ some (get_or m (grant_for k) 0)
  unfolding Classes.used_once Classes.uses_end Classes.pointer
  granted k h = go (word10 k h)
    where
      go : Word10 k → met m (grant_for k) ≡ some (get_or m (grant_for k) 0)
      go (holder u v) =
          met_some m (grant_for k) (grant_is k h) (c.pages.uses_end.1.0 (grant_for k)
          (omega (arith, range1_at last_name (grant_for 1) (grant_for k) (omega arith) (omega arith))))
      go (spared s) = let e = spare_zero (grant_for k) s in met_none m (grant_for k) (grant_is k h) e ∙ sym (ap some e)

  names : (p : ℕ) → 1 ≤ count p (met m processor_list) → Meant (Judge.label bytes m (met m processor_list) (met m) p)
  unfolding Classes.labels Classes.granted Classes.messages
  names = c.records.labels.0

  known : (k : ℕ) → k < page_size → length (met m (grant_for k)) ≢ 0 → bearers (view m).label (met m processor_list) k ≡ 1
  unfolding Classes.labels Classes.granted Classes.messages Classes.existing Judge.label
  known k h n = go (hit_or (get_or m (grant_for k) 0) 0) (word10 k h)
    where
      none : get_or m (grant_for k) 0 ≡ 0 → length (met m (grant_for k)) ≡ 0
      none e = ap length (met_none m (grant_for k) (grant_is k h) e)

      go : (get_or m (grant_for k) 0 ≡ 0) ⊎ (get_or m (grant_for k) 0 ≢ 0) → Word10 k → bearers (view m).label (met m processor_list) k ≡ 1
      go (inl e) w = absurd (n (none e))
      go (inr e) (spared s) = absurd (e (spare_zero (grant_for k) s))
      go (inr e) (holder u v) =
          let i = c.records.granted.0 k (omega (arith, range1_at last_name 1 k (omega arith) (omega arith))) e in
          let t = bearer_of (λ p. lower (word m p Map.label)) (met m processor_list) k i in
          rw t.is at (names t.who t.here).0

  pub clean_inv : length m ≡ memory_size → Inv m (met m processor_list) (met m) (view m)
  unfolding Classes.used_once Classes.uses_end Classes.queues_end Classes.waiting_bits Classes.reasons Classes.message_waits Classes.semaphores
      Classes.page_waits Classes.page_semaphore Classes.labels Classes.granted Classes.messages Classes.codes Classes.faults Classes.in_range Classes.clock
      Classes.running Classes.outer Classes.below Classes.positive Classes.once Classes.pointer Classes.ends Classes.none_free Classes.no_grant
      Classes.existing Classes.nought Classes.is_built_in Classes.is_foreign Classes.runner Classes.not_higher Classes.shown Judge.label Judge.bit Judge.waiter
      Judge.reasoned Judge.reasonless Judge.quiet Judge.unasked Judge.owner Judge.message_wait Judge.interrupt_semaphore Judge.message_semaphore
      Judge.page_semaphore Judge.sized Judge.message Judge.kind Judge.used Judge.entry Judge.zero_bits
  clean_inv size =
      record {
        base = record {
          mem = record {
            size = size;
            holds = record { rep = chained; grant = granted };
            reads = record {
              words = record { note = λ p h n. refl; size = λ p h n. refl; reason = λ p h i. refl; label = λ p h. refl; state = λ p h. refl };
              fixed = record { clock = λ a h i. refl; turn = λ a h i. refl; code = λ c h. refl; next = refl; entry = λ i h. refl };
              sems = λ s h. refl;
            };
          };
          facts = record {
            sep = sep;
            names = record {
              differ = λ p h. (names p h).0;
              range = λ p h. let q = names p h in record { name = q.1.0.0; low = q.1.1.0; high = q.1.1.1 };
            };
            seats = record {
              bit = λ p h. c.waits.waiting_bits.0 p h;
              zeros = λ p h. c.records.labels.1.0 p h;
              served = λ k i p h. c.waits.reasons.0 p (of_gather (met m) lines (header_after k) p
                  (omega (arith, range2_at interrupts (header_after 0) k i)) h);
              asking = λ p h. c.waits.reasons.1.0 p h;
              quiet = λ p h. c.waits.reasons.1.1.0 p h;
            };
            own = λ p h x i. let q = c.waits.message_waits.0 p h x i in record { owner = q.0; flag = q.1.0; none = q.1.1 };
            sems = λ s h. sems m (met m)
                (λ k i. c.waits.semaphores.0 k (omega (arith, range1_at interrupts 0 k (omega arith) (omega arith))))
                (proc_page sep) c.waits.semaphores.1.0 (c.waits.semaphores.1.1.0 free_semaphore (omega (arith, hit_self free_semaphore))) s
                (seat_of (met m processor_list) s h);
            granted = record {
              bare = λ p h.
                  let g = c.waits.page_waits.1.0 p h in
                  let k : lower (word m p Map.label) < page_size = omega arith in (
                    c.waits.page_waits.0 p h,
                    ap length (met_none m (grant_for (lower (word m p Map.label))) (grant_is (lower (word m p Map.label)) k) g),
                  );
              known = λ k h d n. known k h n;
            };
            mail = λ p v h i j q d. of_rule (c.records.messages.0 q (of_gather (met m) (mails (met m processor_list)) (place p v) q
                (omega (arith, mails_of_at p v h i j)) d));
            runs = record {
              idle = (c.counters.running.1.1.0 running_label (omega (arith, hit_self running_label))).0;
              listed = λ z. (c.counters.running.0 running_page (omega (arith, hit_self running_page)) z).0;
              tag = (c.counters.running.1.1.0 running_label (omega (arith, hit_self running_label))).1;
            };
            codes = record {
              kinds = λ k h. c.tables.codes.0 k (omega (arith, range1_at all_codes 0 k (omega arith) (omega arith)));
              zero = c.tables.codes.1.0 0 (omega (arith, range1_at 2 0 0 (omega arith) (omega arith)));
              one = c.tables.codes.1.0 1 (omega (arith, range1_at 2 0 1 (omega arith) (omega arith)));
              last = c.tables.codes.1.1.0 built_in_codes (omega (arith, range1_at 1 built_in_codes built_in_codes (omega arith) (omega arith)));
            };
            clock = record {
              c0 = c.counters.clock.1.0 Map.c0 (omega (arith, hit_self Map.c0));
              c1 = c.counters.clock.1.1.0 Map.c1 (omega (arith, hit_self Map.c1));
              c2 = c.counters.clock.1.1.1.0 Map.c2 (omega (arith, hit_self Map.c2));
              c3 = c.counters.clock.1.1.1.1.0 Map.c3 (omega (arith, hit_self Map.c3));
              divider = c.counters.clock.1.1.1.1.1.1.0 Map.divider (omega (arith, hit_self Map.divider));
              line = c.counters.clock.0 clock_line (omega (arith, hit_self clock_line));
              nought = c.counters.clock.1.1.1.1.1.0 zero_word (omega (arith, hit_self zero_word));
            };
            faults = record {
              range = c.tables.faults.0 first_unused (omega (arith, hit_self first_unused));
              used = λ i h l. let q = (c.tables.faults.1.0 i (in_entries i h)).0 l in record { name = q.0; fault = q.1 };
              unused = λ i h l. (c.tables.faults.1.0 i (in_entries i h)).1 l;
            };
          };
          all = λ z. omega (arith, once z);
        };
        best = record { ready = λ z. (c.counters.running.0 running_page (omega (arith, hit_self running_page)) z).1; top = top };
      }
    where
      in_entries : (i : ℕ) → i < entries → 1 ≤ count i (range entries 1 0)
      in_entries i h = omega (arith, range1_at entries 0 i (omega arith) (omega arith))

      mails_of_at : (p v : ℕ) → 1 ≤ count p (met m processor_list) → 5 ≤ v → v ≤ 6 → 1 ≤ count (place p v) (mails (met m processor_list))
      mails_of_at p v h i j = omega (arith, mails_at p v (met m processor_list) i j)

      top : (p : ℕ) → 1 ≤ count p (met m processor_list) → suc (word m p Map.state) ≤ wait_bit → upper (word m p Map.label) ≤ upper (get_or m running_label 0)
      top p h l =
          let q = c.counters.running.1.0 p h l in
          let e = (c.counters.running.1.1.0 running_label (omega (arith, hit_self running_label))).1 (eqb-false (get_or m running_page 0) 0 q.0) in
          rw e q.1
