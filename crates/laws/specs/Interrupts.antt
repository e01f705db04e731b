-- Interrupts: "Each waiter front to back: reason 1 wakes and leaves, else reason falls by one"; the clock chain; GIN and WIN. Each leaves a well-formed
-- memory. Assumes nothing.
use Rattle.std.specs.Prelude.{◌≡◌, ◌≢◌, ◌⊎◌, Bool, cond, length, set, ltb}
use Rattle.std.proofs.Math.Path.{refl}
use Rattle.std.proofs.Common.{sym, ap, ◌∙◌, inl, inr, ne_eqb}
use Rattle.std.proofs.Math.Bool.{true, false}
use mathlib.Core.List.{List, [], ◌∷◌, ◌++◌, append_assoc}
use Prim.Native.Nat.{ℕ, zero, suc, ◌+◌, ◌-◌, ◌≤◌, ◌<◌}
use native.Mathlib.Omega.{arith}
use Rattle.std.proofs.Math.ListN.{get_or}
use Rattle.std.proofs.Math.Dec.{eqb}
use Rattle.std.proofs.lemmas.Bool.{eqb-false}
use Rattle.model.specs.Map as Map
use Rattle.model.specs.Map.{a_word, c0_interrupt, c1_end, c1_interrupt, c2_end, c2_interrupt, c3_end, c3_interrupt, clock_line, control_pages, first_classed}
use Rattle.model.specs.Map.{header_after, header_of, interrupts, last_outer, link, lowered, own_queue, page_queue, place, processor_list, raised}
use Rattle.model.specs.Map.{running_label, running_page, semaphore_of, wait_in, word_a}
use Rattle.model.specs.Bytes.{name, running, word, lists, ends, struck, classed, served_from, serve, counts, turns, delivered, who_runs}
use Rattle.model.specs.Interrupt as Interrupt
use Rattle.model.specs.Operate as Operate
use Rattle.model.specs.Bytes as Model
use Rattle.model.specs.Lists.{count, Lists, queues}
use Rattle.laws.specs.Count.{hit_or, count_mid}
use Rattle.laws.specs.Chain.{Page, Chain}
use Rattle.laws.specs.Queues.{upd, upd_same}
use Rattle.laws.specs.Heads.{sum_one, sum_two}
use Rattle.laws.specs.Uses.{Sep, proc_page, proc_once, list_short}
use Rattle.laws.specs.Places.{in_queues, int_queue, own_once, wait_page, queue_at}
use Rattle.laws.specs.Inv.{View, Clock, Facts, Base}
use Rattle.laws.specs.Judged.{WellFormed, well_formed_lem, invariant}
use Rattle.laws.specs.Frames.{Kept, kept_refl, kept_set, quiet_word, base_kept}
use Rattle.laws.specs.Views.{put1, put1_same, put1_other, with_reason, with_low}
use Rattle.laws.specs.Stores.{reason_mem, clock_mem}
use Rattle.laws.specs.JoinLeave.{chain0}
use Rattle.laws.specs.Changes.{facts_low}
use Rattle.laws.specs.Wake.{wake_base, woken, woken_proc, seat_head, not_procs}
use Rattle.laws.specs.Grants.{Gave}
use Rattle.laws.specs.Who.{who_inv, busy}
use Rattle.laws.specs.Ends.{Fine, done_fine, waits_fine, advance_base}
use Rattle.laws.specs.Ways.{win_each}
use Rattle.laws.specs.Simple.{bad}
use Rattle.laws.specs.Waits.{line_fit}

-- ---- a link along a chain
abbrev pub head : List ℕ → ℕ
head [] = 0
head (x ∷ xs) = x

pub chain_head : (m : List ℕ) (a : ℕ) (xs : List ℕ) → Chain m link a xs → get_or m a 0 ≡ head xs
chain_head m a [] c = c
chain_head m a (x ∷ xs) c = c.0

chain_next : (m : List ℕ) (a p : ℕ) (xs ys : List ℕ) → Chain m link a (xs ++ p ∷ ys) → word m p link ≡ head ys
chain_next m a p [] ys c = chain_head m (place p link) ys c.2
chain_next m a p (x ∷ xs) ys c = chain_next m (place x link) p xs ys c.2

-- ---- a reason in an interrupt queue falls by one
facts_reason : {ps : List ℕ} {L : Lists} {W : View} {g : ℕ} (k p v : ℕ) → k < interrupts → 1 ≤ count p (L (header_after k)) → 1 ≤ v → v ≤ a_word → Facts ps L W g
    → Facts ps L (with_reason W (put1 W.reason p v)) g
facts_reason {ps} {L} {W} k p v hk i u1 u2 f = record {
  sep = f.sep;
  names = f.names;
  seats = record {
    bit = f.seats.bit;
    zeros = f.seats.zeros;
    served = λ j h x c. served j h x c (hit_or x p);
    asking = λ x c. rw (kept x (other page_queue x (omega arith) (omega arith) c)) (f.seats.asking x c);
    quiet = λ x h z. quiet x h z (hit_or x p);
  };
  own = λ y h x c.
      let t = f.own y h x c in
      let pg = proc_page s y h in
      let d = other (place y own_queue) x (omega (arith, (own_once s y h).here)) (omega arith) c in
      rw (kept y (λ e. d (t.owner ∙ e))) t;
  sems = f.sems;
  granted = f.granted;
  mail = f.mail;
  runs = f.runs;
  codes = f.codes;
  clock = f.clock;
  faults = f.faults;
}
  where
    s : Sep ps L
    s = f.sep

    hp : 1 ≤ count p ps
    hp = wait_page s (header_after k) p (int_queue ps k hk) i

    kept : (x : ℕ) → x ≢ p → put1 W.reason p v x ≡ W.reason x
    kept x n = put1_other W.reason p v x n

    -- p is in no other wait queue
    other : (b x : ℕ) → 1 ≤ count b (queues ps) → b ≢ header_after k → 1 ≤ count x (L b) → x ≢ p
    other b x h n c e =
        let d : count p (L b) ≡ count x (L b) = ap (λ (y : ℕ). count y (L b)) (sym e) in
        omega (arith, sum_two p L (header_after k) b (queues ps) (λ y. n (sym y)) (int_queue ps k hk) h, s.waits p, proc_once s p)

    served : (j : ℕ) → j < interrupts → (x : ℕ) → 1 ≤ count x (L (header_after j)) → (x ≡ p) ⊎ (x ≢ p)
        → (1 ≤ put1 W.reason p v x) × (put1 W.reason p v x ≤ a_word)
    served j h x c (inl e) = rw (put1_same W.reason p v x e) (u1, u2)
    served j h x c (inr n) = rw (kept x n) (f.seats.served j h x c)

    quiet : (x : ℕ) → 1 ≤ count x ps → wait_in (W.state x) ≡ 0 → (x ≡ p) ⊎ (x ≢ p) → put1 W.reason p v x ≡ 0
    quiet x h z (inl e) =
        let c = f.seats.bit x h in
        let d : count p (L (header_after k)) ≡ count x (L (header_after k)) = ap (λ (y : ℕ). count y (L (header_after k))) (sym e) in
        absurd (omega (arith, sum_one x L (header_after k) (queues ps) (int_queue ps k hk)))
    quiet x h z (inr n) = rw (kept x n) (f.seats.quiet x h z)

-- ---- one waiter
-- "For 48-50 those removed get the class number 0-31 in A."
classed_kept : (m : List ℕ) (k c p : ℕ) → Page p → Kept m (classed m k c p)
unfolding Interrupt.classed
classed_kept m k c p g = go (ltb k first_classed) (ltb last_outer k) refl refl
  where
    go : (x y : Bool) → ltb k first_classed ≡ x → ltb last_outer k ≡ y → Kept m (classed m k c p)
    go true y e f = rw e (kept_refl m)
    go false true e f = rw (e, f) (kept_refl m)
    go false false e f =
        let a = place p word_a in
        rw (e, f) (kept_set a c (quiet_word p word_a a g (omega arith) (omega arith) (omega arith) refl) (kept_refl m))

gave_on : {m : List ℕ} {ps : List ℕ} {hs : List ℕ} {g : ℕ} {W X : View} → X.low ≡ W.low → Gave m ps hs g X → Gave m ps hs g W
gave_on e r = record { lists = r.lists; view = r.view; base = r.base; low = r.low ∙ e }

-- after the waiter p between xs and ys
pub record Struck (m : List ℕ) (ps : List ℕ) (a : ℕ) (ys : List ℕ) (hs : List ℕ) (g : ℕ) (W : View) : Type 0 where
  pub gave : Gave m ps hs g W
  pub before : List ℕ
  pub now : gave.lists (a + 1) ≡ before ++ ys

module _ (k c : ℕ) (k1 : 1 ≤ k) (k2 : k ≤ interrupts) where
  abbrev a : ℕ
  a = semaphore_of k

  at_head : header_after (k - 1) ≡ a + 1
  at_head = omega arith

  pub seat : (ps : List ℕ) → 1 ≤ count (a + 1) (queues ps)
  seat ps = queue_at ps _ _ (sym at_head) (int_queue ps (k - 1) (omega arith))

  pub struck_base : {m : List ℕ} {ps : List ℕ} {L : Lists} {W : View} {hs : List ℕ} {g : ℕ} (p : ℕ) (xs ys : List ℕ) → Base m ps L W hs g
      → L (a + 1) ≡ xs ++ p ∷ ys → Struck (struck m k c p) ps a ys hs g W
  unfolding Interrupt.struck
  struck_base {m} {ps} {L} {W} {hs} {g} p xs ys b e = go (eqb (W.reason p) 1) refl
    where
      s : Sep ps L
      s = b.facts.sep

      inside : 1 ≤ count p (L (a + 1))
      inside = rw e (count_mid p xs ys)

      hp : 1 ≤ count p ps
      hp = wait_page s (a + 1) p (seat ps) inside

      pg : Page p
      pg = proc_page s p hp

      reason : word m p Map.reason ≡ W.reason p
      reason = b.mem.reads.words.reason p pg hp

      range : (1 ≤ W.reason p) × (W.reason p ≤ a_word)
      range = b.facts.seats.served (k - 1) (omega arith) p (rw at_head inside)

      go : (x : Bool) → eqb (W.reason p) 1 ≡ x → Struck (struck m k c p) ps a ys hs g W
      go true f = rw (reason, f) (record {
        gave = record {
          lists = upd L (a + 1) (xs ++ ys);
          view = woken W a p;
          base = base_kept (classed_kept (Model.wake m a p) k c p pg) (wake_base a p xs ys b (seat ps) e);
          low = refl;
        };
        before = xs;
        now = upd_same L (a + 1) (xs ++ ys);
      })
      go false f =
          let n = eqb-false (W.reason p) 1 f in
          let v = lowered (W.reason p) in
          rw (reason, f) (record {
            gave = record {
              lists = L;
              view = with_reason W (put1 W.reason p v);
              base = record {
                mem = reason_mem s b.mem p v hp;
                facts = facts_reason (k - 1) p v (omega arith) (rw at_head inside) (omega (arith, range)) (omega (arith, range)) b.facts;
                all = b.all;
              };
              low = refl;
            };
            before = xs ++ p ∷ [];
            now = e ∙ sym (append_assoc xs (p ∷ []) ys);
          })

  -- ---- all of them, front to back
  pub from_end : (n : ℕ) (m : List ℕ) → served_from n m k c 0 ≡ m
  unfolding Interrupt.served_from
  from_end zero m = refl
  from_end (suc n) m = refl

  from_next : (n : ℕ) (m : List ℕ) (p : ℕ) → p ≢ 0 → served_from (suc n) m k c p ≡ served_from n (struck m k c p) k c (word m p link)
  unfolding Interrupt.served_from
  from_next n m p h = rw (ne_eqb p 0 h, Interrupt.served_from)

  pub next : {ps : List ℕ} {hs : List ℕ} {g : ℕ} (n : ℕ) (L : Lists) (W : View) (m : List ℕ) (xs : List ℕ) (p : ℕ) (ys : List ℕ) → Base m ps L W hs g
      → L (a + 1) ≡ xs ++ p ∷ ys → served_from (suc n) m k c p ≡ served_from n (struck m k c p) k c (head ys)
  next {ps} n L W m xs p ys b e =
      let s = b.facts.sep in
      let ch = rw e at (chain0 s b.mem (a + 1) (seat_head s a (seat ps)) (λ d. not_procs s a (seat ps) (sym d))) in
      let pg = proc_page s p (woken_proc a p xs ys b.facts (seat ps) e) in
      from_next n m p (omega (arith, pg)) ∙ ap (λ (x : ℕ). served_from n (struck m k c p) k c x) (chain_next m (a + 1) p xs ys ch)

  -- one waiter, then the others
  on : {m m2 : List ℕ} {ps : List ℕ} {ys : List ℕ} {hs : List ℕ} {g : ℕ} {W : View} → Struck m ps a ys hs g W
      → ((K : Lists) (X : View) (zs : List ℕ) → Base m ps K X hs g → K (a + 1) ≡ zs ++ ys → Gave m2 ps hs g X) → Gave m2 ps hs g W
  on t f = gave_on t.gave.low (f t.gave.lists t.gave.view t.before t.gave.base t.now)

  step : {ps : List ℕ} {hs : List ℕ} {g : ℕ} (n : ℕ) (L : Lists) (W : View) (m : List ℕ) (xs : List ℕ) (p : ℕ) (ys : List ℕ) → Base m ps L W hs g
      → L (a + 1) ≡ xs ++ p ∷ ys
      → ((K : Lists) (X : View) (zs : List ℕ) → Base (struck m k c p) ps K X hs g → K (a + 1) ≡ zs ++ ys
      → Gave (served_from n (struck m k c p) k c (head ys)) ps hs g X)
      → Gave (served_from (suc n) m k c p) ps hs g W
  step n L W m xs p ys b e f = rw (next n L W m xs p ys b e) (on (struck_base p xs ys b e) f)

  last : {ps : List ℕ} {hs : List ℕ} {g : ℕ} (n : ℕ) (L : Lists) (W : View) (m : List ℕ) → Base m ps L W hs g → Gave (served_from n m k c 0) ps hs g W
  last n L W m b = rw (from_end n m) (record { lists = L; view = W; base = b; low = refl })

  abbrev Goal : List ℕ → ℕ → List ℕ → List ℕ → ℕ → Type 0
  Goal ys n ps hs g = (L : Lists) (W : View) (m : List ℕ) (xs : List ℕ) → Base m ps L W hs g → L (a + 1) ≡ xs ++ ys
      → Gave (served_from n m k c (head ys)) ps hs g W

  from_base : (ys : List ℕ) (n : ℕ) (ps : List ℕ) (hs : List ℕ) (g : ℕ) → length ys ≤ n → Goal ys n ps hs g
  from_base [] n ps hs g l L W m xs b e = last n L W m b
  from_base (p ∷ ys) zero ps hs g l L W m xs b e = absurd (omega arith)
  from_base (p ∷ ys) (suc n) ps hs g l L W m xs b e =
      step n L W m xs p ys b e (λ K X zs b2 e2. from_base ys n ps hs g (omega arith) K X (struck m k c p) zs b2 e2)

  pub serve_base : {m : List ℕ} {ps : List ℕ} {L : Lists} {W : View} {hs : List ℕ} {g : ℕ} → Base m ps L W hs g → Gave (serve m k c) ps hs g W
  unfolding Interrupt.serve
  serve_base {m} {ps} {L} {W} {hs} {g} b =
      let s = b.facts.sep in
      let ch = chain0 s b.mem (a + 1) (seat_head s a (seat ps)) (λ d. not_procs s a (seat ps) (sym d)) in
      let at1 : semaphore_of k + 1 ≡ header_of k = omega arith in
      rw (← at1, chain_head m (a + 1) (L (a + 1)) ch) (from_base (L (a + 1)) control_pages ps hs g
      (list_short s (a + 1) (in_queues ps (a + 1) (seat ps))) L W m [] b refl)

-- ---- the clock
pub clock0 : (l : ℕ → ℕ) (v : ℕ) → suc v ≤ l Map.divider → Clock l → Clock (put1 l Map.c0 v)
unfolding put1
clock0 l v h c = record { c0 = h; c1 = c.c1; c2 = c.c2; c3 = c.c3; divider = c.divider; line = c.line; nought = c.nought }

pub clock1 : (l : ℕ → ℕ) (v : ℕ) → suc v ≤ c1_end → Clock l → Clock (put1 l Map.c1 v)
unfolding put1
clock1 l v h c = record { c0 = c.c0; c1 = h; c2 = c.c2; c3 = c.c3; divider = c.divider; line = c.line; nought = c.nought }

pub clock2 : (l : ℕ → ℕ) (v : ℕ) → suc v ≤ c2_end → Clock l → Clock (put1 l Map.c2 v)
unfolding put1
clock2 l v h c = record { c0 = c.c0; c1 = c.c1; c2 = h; c3 = c.c3; divider = c.divider; line = c.line; nought = c.nought }

pub clock3 : (l : ℕ → ℕ) (v : ℕ) → suc v ≤ c3_end → Clock l → Clock (put1 l Map.c3 v)
unfolding put1
clock3 l v h c = record { c0 = c.c0; c1 = c.c1; c2 = c.c2; c3 = h; divider = c.divider; line = c.line; nought = c.nought }

-- some invariant holds
pub record Some (m : List ℕ) (ps : List ℕ) (hs : List ℕ) (g : ℕ) : Type 0 where
  pub lists : Lists
  pub view : View
  pub base : Base m ps lists view hs g

abbrev pub some_of : {m : List ℕ} {ps : List ℕ} {hs : List ℕ} {g : ℕ} {W : View} → Gave m ps hs g W → Some m ps hs g
some_of t = record { lists = t.lists; view = t.view; base = t.base }

module _ {m : List ℕ} {ps : List ℕ} {L : Lists} {W : View} {hs : List ℕ} {g : ℕ} (b : Base m ps L W hs g) where
  pub counter_at : (c : ℕ) → clock_line ≤ c → c ≤ Map.c3 → get_or m c 0 ≡ W.low c
  counter_at c l u = b.mem.reads.fixed.clock c l u

  pub counter_base : (c v : ℕ) → Map.c0 ≤ c → c ≤ Map.c3 → Clock (put1 W.low c v) → Base (set m c v) ps L (with_low W (put1 W.low c v)) hs g
  counter_base c v l u k =
      let e8 = put1_other W.low c v running_page (omega arith) in
      let e9 = put1_other W.low c v running_label (omega arith) in
      record {
        mem = clock_mem b.facts.sep b.mem c v (omega arith) u;
        facts = facts_low (put1 W.low c v)
            (record { idle = rw (e8, e9) b.facts.runs.idle; listed = rw e8 b.facts.runs.listed; tag = rw (e8, e9) b.facts.runs.tag }) k
            b.facts;
        all = b.all;
      }

-- what is kept by a counter that is set and by an interrupt that is served, the clock keeps
module _ {ps hs : List ℕ} {g : ℕ} (G : List ℕ → Type 0) (now : (m : List ℕ) → G m → Some m ps hs g)
    (sets : (m : List ℕ) (t : G m) (c v : ℕ) → Map.c0 ≤ c → c ≤ Map.c3 → Clock (put1 (now m t).view.low c v) → G (set m c v))
    (serves : (m : List ℕ) → G m → (k : ℕ) → 1 ≤ k → k ≤ interrupts → G (serve m k 0)) where
  -- a counter c with end e: at its end interrupt k is served and what is behind it goes on, else it counts
  turned : {m : List ℕ} (t : G m) (c k e : ℕ) (m2 : List ℕ) → Map.c0 ≤ c → c ≤ Map.c3 → 1 ≤ k → k ≤ interrupts
      → Clock (put1 (now m t).view.low c 0) → (raised ((now m t).view.low c) ≢ e → Clock (put1 (now m t).view.low c (raised ((now m t).view.low c))))
      → (G (turns m c k) → G m2) → G (cond (ends m c e) m2 (counts m c))
  unfolding Interrupt.ends Interrupt.turns Interrupt.counts
  turned {m} t c k e m2 l u i j z0 more onward = go (eqb (raised ((now m t).view.low c)) e) refl
    where
      at : get_or m c 0 ≡ (now m t).view.low c
      at = counter_at (now m t).base c (omega arith) u

      go : (x : Bool) → eqb (raised ((now m t).view.low c)) e ≡ x → G (cond (ends m c e) m2 (counts m c))
      go true f = rw (at, f) (onward (serves (set m c 0) (sets m t c 0 l u z0) k i j))
      go false f = rw (at, f) (sets m t c (raised ((now m t).view.low c)) l u (more (eqb-false (raised ((now m t).view.low c)) e f)))

  -- "at 60, 54"; "at 60, 53 and C3"; "at 10, 52 and C2"; "at the divider it is 0 and 51 is served and C1 counts"
  c3_kept : {m : List ℕ} → G m → G (Model.c3_counts m)
  unfolding Interrupt.c3_counts
  c3_kept {m} t =
      let l = (now m t).view.low in
      let k = (now m t).base.facts.clock in
      turned t Map.c3 c3_interrupt c3_end (turns m Map.c3 c3_interrupt) (omega arith) (omega arith) (omega arith) (omega arith) (clock3 l 0 (omega arith) k)
      (λ n. clock3 (now m t).view.low (raised ((now m t).view.low Map.c3)) (omega (arith, k.c3)) k) (λ x. x)

  c2_kept : {m : List ℕ} → G m → G (Model.c2_counts m)
  unfolding Interrupt.c2_counts
  c2_kept {m} t =
      let l = (now m t).view.low in
      let k = (now m t).base.facts.clock in
      turned t Map.c2 c2_interrupt c2_end (Model.c3_counts (turns m Map.c2 c2_interrupt)) (omega arith) (omega arith) (omega arith) (omega arith)
      (clock2 l 0 (omega arith) k) (λ n. clock2 (now m t).view.low (raised ((now m t).view.low Map.c2)) (omega (arith, k.c2)) k) c3_kept

  c1_kept : {m : List ℕ} → G m → G (Model.c1_counts m)
  unfolding Interrupt.c1_counts
  c1_kept {m} t =
      let l = (now m t).view.low in
      let k = (now m t).base.facts.clock in
      turned t Map.c1 c1_interrupt c1_end (Model.c2_counts (turns m Map.c1 c1_interrupt)) (omega arith) (omega arith) (omega arith) (omega arith)
      (clock1 l 0 (omega arith) k) (λ n. clock1 (now m t).view.low (raised ((now m t).view.low Map.c1)) (omega (arith, k.c1)) k) c2_kept

  c0_kept : {m : List ℕ} → G m → G (Model.c0_counts m)
  unfolding Interrupt.c0_counts
  c0_kept {m} t =
      let l = (now m t).view.low in
      let k = (now m t).base.facts.clock in
      let end : get_or m Map.divider 0 ≡ (now m t).view.low Map.divider = (now m t).base.mem.reads.fixed.turn Map.divider (omega arith) (omega arith) in
      turned t Map.c0 c0_interrupt (get_or m Map.divider 0) (Model.c1_counts (turns m Map.c0 c0_interrupt)) (omega arith) (omega arith) (omega arith) (omega arith)
      (clock0 l 0 (omega (arith, k.divider)) k)
      (λ n. clock0 (now m t).view.low (raised ((now m t).view.low Map.c0)) (omega (arith, k.c0, k.divider, end)) k) c1_kept

  -- "An interrupt on the clock line is served, then C0 counts"
  pub delivered_kept : (m : List ℕ) (k c : ℕ) → G (serve m k c) → G (delivered m k c)
  unfolding Interrupt.delivered
  delivered_kept m k c t = go (eqb k (get_or m clock_line 0)) refl
    where
      go : (x : Bool) → eqb k (get_or m clock_line 0) ≡ x → G (delivered m k c)
      go true e = rw e (c0_kept t)
      go false e = rw e t

pub delivered_base : {m : List ℕ} {ps : List ℕ} {hs : List ℕ} {g : ℕ} {L : Lists} {W : View} (k c : ℕ) → 1 ≤ k → k ≤ interrupts → Base m ps L W hs g
    → Some (delivered m k c) ps hs g
delivered_base {m} {ps} {hs} {g} k c i j b =
    delivered_kept (λ x. Some x ps hs g) (λ x t. t)
    (λ x t c v l u h. record { lists = t.lists; view = with_low t.view (put1 t.view.low c v); base = counter_base t.base c v l u h })
    (λ x t k i j. some_of (serve_base k 0 i j t.base)) m k c (some_of (serve_base k c i j b))

pub delivered_well : {m : List ℕ} (k c : ℕ) → 1 ≤ k → k ≤ interrupts → WellFormed m → WellFormed (who_runs (delivered m k c))
delivered_well k c i j w = well_formed_lem (who_inv (delivered_base k c i j (invariant w).base).base).1

-- ---- the instructions
module _ {m : List ℕ} (w : WellFormed m) (d : running m ≢ 0) where
  open busy w d use {base as b, runs as hr, ready}

  pub gin_fine : (len : ℕ) → Fine (Model.gin m len)
  unfolding Operate.gin
  gin_fine len =
      let n = b.facts.names.range (running m) hr in
      done_fine (serve_base (name m (running m)) 0 n.name (omega arith) b).base len

  pub win_fine : (k c len : ℕ) → c ≤ a_word → Fine (Model.win m k c len)
  win_fine k c len u = win_each (bad w d) k c len (λ g.
      waits_fine (advance_base b len) (semaphore_of k) c d (seat k c g.low g.high (lists m processor_list)) (omega (arith, ready))
      (line_fit b.facts.sep k c g.low g.high g.count u))
