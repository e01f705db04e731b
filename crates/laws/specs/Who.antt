-- Who runs: "the running one stays if ready (neither bit set) and no ready one has higher priority; else the first on the processor list of the highest
-- ready priority; else nobody". After it the right one runs, whoever ran before. What a well-formed memory gives where someone runs.
-- Assumes nothing.
use Rattle.std.specs.Prelude.{◌≡◌, ◌≢◌, ◌⊎◌, Bool, List, [], ◌∷◌, ℕ, zero, suc, ◌≤◌, ◌<◌, length, get_or, set}
use Rattle.std.proofs.Math.Path.{refl}
use Rattle.std.proofs.Common.{sym, ap, ◌∙◌, length-set}
use Rattle.std.proofs.Math.Logic.{inl, inr}
use Rattle.std.proofs.Math.Bool.{true, false, cond}
use native.Mathlib.Omega.{arith}
use Rattle.std.proofs.Math.Dec.{eqb, ltb}
use borrow.Author.Tests.{eqb-true, eqb-false, eq-eqb, ne_eqb, ltb-true, ltb-false, lt-ltb, le-ltb}
use Rattle.model.specs.Map as Map
use Rattle.model.specs.Map.{control_pages, keeps, kept_count, label, list_link, page_size, place, processor_list, running_label, running_page, upper}
use Rattle.model.specs.Map.{wait_bit, zero_place}
use Rattle.model.specs.Bytes.{better, lists, load, priority, processors, running, save, stays, store, switch, who_runs, word}
use Rattle.model.specs.Turn as Turn
use Rattle.model.specs.Turn.{fold}
use Rattle.model.specs.Bytes as Model
use Rattle.model.specs.Lists.{count, Lists}
use Rattle.laws.specs.Count.{hit_self, hit_other, hit_or}
use Rattle.laws.specs.Chain.{Page, walk_chain}
use Rattle.laws.specs.Queues.{link_procs}
use Rattle.laws.specs.Uses.{Sep, proc_page, proc_once, list_short}
use Rattle.laws.specs.Places.{in_procs, grant_low}
use Rattle.laws.specs.Inv.{Base, Best, Clock, Inv, Label, Runs, View, no_one, view}
use Rattle.laws.specs.Judged.{WellFormed, invariant}
use Rattle.laws.specs.Frames.{Kept, kept_refl, base_kept, kept_on_lem, other}
use Rattle.laws.specs.Views.{put1, with_low}
use Rattle.laws.specs.Words.{either}
use Rattle.laws.specs.Stores.{turn_mem}
use Rattle.laws.specs.Changes.{facts_low}
use Rattle.laws.specs.Grants.{Gave}

-- ---- page 0's words, saved and loaded
pub zero_low : (n : ℕ) → n < kept_count → zero_place n < page_size
zero_low n h = go (ltb n 3) refl
  where
    go : (b : Bool) → ltb n 3 ≡ b → zero_place n < page_size
    go true e = rw e (let l = ltb-true n 3 e in omega arith)
    go false e = rw e (omega arith)

pub kept_size : (n : ℕ) (m : List ℕ) (p : ℕ) (w : List ℕ) → length (Model.kept n m p w) ≡ length m
unfolding Turn.kept
kept_size zero m p w = refl
kept_size (suc n) m p w = kept_size n (store m p (keeps n) (get_or w n 0)) p w ∙ simp length-set

pub restored_size : (n : ℕ) (m : List ℕ) (w : List ℕ) → length (Model.restored n m w) ≡ length m
unfolding Turn.restored
restored_size zero m w = refl
restored_size (suc n) m w = restored_size n (set m (zero_place n) (get_or w n 0)) w ∙ simp length-set

-- every other word stays
pub kept_frame : (n : ℕ) (m : List ℕ) (p : ℕ) (w : List ℕ) (a : ℕ) → ((i : ℕ) → i < n → a ≢ place p (keeps i)) → get_or (Model.kept n m p w) a 0 ≡ get_or m a 0
unfolding Turn.kept
kept_frame zero m p w a f = refl
kept_frame (suc n) m p w a f =
    kept_frame n (store m p (keeps n) (get_or w n 0)) p w a (λ i h. f i (omega arith)) ∙ other m (place p (keeps n)) (get_or w n 0) a (f n (omega arith))

pub restored_frame : (n : ℕ) (m : List ℕ) (w : List ℕ) (a : ℕ) → ((i : ℕ) → i < n → a ≢ zero_place i) → get_or (Model.restored n m w) a 0 ≡ get_or m a 0
unfolding Turn.restored
restored_frame zero m w a f = refl
restored_frame (suc n) m w a f =
    restored_frame n (set m (zero_place n) (get_or w n 0)) w a (λ i h. f i (omega arith)) ∙ other m (zero_place n) (get_or w n 0) a (f n (omega arith))

-- none of them is judged
save_kept : (m : List ℕ) (p : ℕ) → (p ≢ 0 → Page p) → Kept m (save m p)
unfolding Turn.save
save_kept m p g = go (eqb p 0) refl
  where
    go : (b : Bool) → eqb p 0 ≡ b → Kept m (save m p)
    go true e = rw e (kept_refl m)
    go false e = let pg = g (eqb-false p 0 e) in rw e (record {
      size = kept_size kept_count m p (Model.on_page0 m);
      fixed = λ a i j. kept_frame kept_count m p (Model.on_page0 m) a (λ k l. omega (arith, pg));
      words = λ q j h i. kept_frame kept_count m p (Model.on_page0 m) (place q j) (λ k l. omega arith);
      state = λ q h. kept_frame kept_count m p (Model.on_page0 m) (place q Map.state) (λ k l. omega arith);
    })

load_kept : (m : List ℕ) (p : ℕ) → Kept m (load m p)
unfolding Turn.load
load_kept m p =
    either (Kept m) (eqb p 0) (kept_refl m) (record {
      size = restored_size kept_count m (Model.kept_on m p);
      fixed = λ a i j. restored_frame kept_count m (Model.kept_on m p) a (λ k l. omega (arith, zero_low k l));
      words = λ q j h i. restored_frame kept_count m (Model.kept_on m p) (place q j) (λ k l. omega (arith, h, zero_low k l));
      state = λ q h. restored_frame kept_count m (Model.kept_on m p) (place q Map.state) (λ k l. omega (arith, h, zero_low k l));
    })

-- ---- the choice
module _ (m : List ℕ) where
  abbrev st : ℕ → ℕ
  st p = word m p Map.state

  abbrev pr : ℕ → ℕ
  pr p = priority m p

  -- 0 is below all
  pub rank : ℕ → ℕ
  rank t = cond (eqb t 0) 0 (pr t)

  pub rank_zero : (t : ℕ) → t ≡ 0 → rank t ≡ 0
  unfolding rank
  rank_zero t e = rw (eq-eqb t 0 e)

  pub rank_of : (t : ℕ) → t ≢ 0 → rank t ≡ pr t
  unfolding rank
  rank_of t n = rw (ne_eqb t 0 n)

  -- one step: either p is taken, or b stays and p is not ready or not above it
  pub record Taken (b p t : ℕ) : Type 0 where
    pub is : t ≡ p
    pub ready : suc (st p) ≤ wait_bit
    pub over : rank b ≤ pr p

  pub record Stays (b p t : ℕ) : Type 0 where
    pub is : t ≡ b
    pub over : suc (st p) ≤ wait_bit → pr p ≤ rank b

  better_cases : (b p : ℕ) → Taken b p (better m b p) ⊎ Stays b p (better m b p)
  unfolding Turn.better Turn.above
  better_cases b p = go (ltb (st p) wait_bit) (eqb b 0) (ltb (pr b) (pr p)) refl refl refl
    where
      go : (x y z : Bool) → ltb (st p) wait_bit ≡ x → eqb b 0 ≡ y → ltb (pr b) (pr p) ≡ z → Taken b p (better m b p) ⊎ Stays b p (better m b p)
      go false y z e f g = inr (record { is = rw e; over = λ h. let d = ltb-false (st p) wait_bit e in absurd (omega arith) })
      go true true z e f g = inl (record {
        is = rw (e, f);
        ready = let d = ltb-true (st p) wait_bit e in omega arith;
        over = omega (arith, rank_zero b (eqb-true b 0 f));
      })
      go true false true e f g = inl (record {
        is = rw (e, f, g);
        ready = let d = ltb-true (st p) wait_bit e in omega arith;
        over = let d = ltb-true (pr b)
            (pr p) g in omega (arith, rank_of b (eqb-false b 0 f));
      })
      go true false false e f g = inr (record {
        is = rw (e, f, g);
        over = λ h. let d = ltb-false (pr b) (pr p) g in omega (
          arith,
          rank_of b (eqb-false b 0 f),
        );
      })

  -- the whole list
  pub record Chosen (b : ℕ) (qs : List ℕ) (t : ℕ) : Type 0 where
    pub from : (t ≡ b) ⊎ ((1 ≤ count t qs) × (suc (st t) ≤ wait_bit))
    pub over : rank b ≤ rank t
    pub top : (p : ℕ) → 1 ≤ count p qs → suc (st p) ≤ wait_bit → pr p ≤ rank t

  fold_cons : (b q : ℕ) (qs : List ℕ) → fold (better m) b (q ∷ qs) ≡ fold (better m) (better m b q) qs
  unfolding Turn.fold
  fold_cons b q qs = refl

  fold_nil : (b : ℕ) → fold (better m) b [] ≡ b
  unfolding Turn.fold
  fold_nil b = refl

  pub chosen : (b : ℕ) (qs : List ℕ) → ((p : ℕ) → 1 ≤ count p qs → p ≢ 0) → Chosen b qs (fold (better m) b qs)
  chosen b [] nz = rw (fold_nil b) (record { from = inl refl; over = omega arith; top = λ p h c. absurd (omega arith) })
  chosen b (q ∷ qs) nz = rw (fold_cons b q qs) (go (better_cases b q) (chosen (better m b q) qs (λ p h. nz p (omega arith))))
    where
      go : let c = better m b q in let t = fold (better m) c qs in Taken b q c ⊎ Stays b q c → Chosen c qs t → Chosen b (q ∷ qs) t
      go (inl s) r = record {
        from = pick r.from;
        over = omega (arith, s.over, r.over, rank_of q (nz q (omega (arith, hit_self q))), ap rank s.is);
        top = λ p h c. at p h c (hit_or p q);
      }
        where
          pick : let c = better m b q in let t = fold (better m) c qs in (t ≡ c) ⊎ ((1 ≤ count t qs) × (suc (st t) ≤ wait_bit))
              → (t ≡ b) ⊎ ((1 ≤ count t (q ∷ qs)) × (suc (st t) ≤ wait_bit))
          pick (inl e) = inr (rw (e, s.is) (omega (arith, hit_self q), s.ready))
          pick (inr i) = inr (omega arith, i.1)

          at : (p : ℕ) → 1 ≤ count p (q ∷ qs) → suc (st p) ≤ wait_bit → (p ≡ q) ⊎ (p ≢ q) → pr p ≤ rank (fold (better m) (better m b q) qs)
          at p h c (inl e) = rw e (omega (arith, r.over, rank_of q (nz q (omega (arith, hit_self q))), ap rank s.is))
          at p h c (inr n) = r.top p (omega (arith, hit_other p q n)) c
      go (inr s) r = record {
        from = pick r.from;
        over = omega (arith, r.over, ap rank s.is);
        top = λ p h c. at p h c (hit_or p q);
      }
        where
          pick : let c = better m b q in let t = fold (better m) c qs in (t ≡ c) ⊎ ((1 ≤ count t qs) × (suc (st t) ≤ wait_bit))
              → (t ≡ b) ⊎ ((1 ≤ count t (q ∷ qs)) × (suc (st t) ≤ wait_bit))
          pick (inl e) = inl (e ∙ s.is)
          pick (inr i) = inr (omega arith, i.1)

          at : (p : ℕ) → 1 ≤ count p (q ∷ qs) → suc (st p) ≤ wait_bit → (p ≡ q) ⊎ (p ≢ q) → pr p ≤ rank (fold (better m) (better m b q) qs)
          at p h c (inl e) = rw e (let d = s.over (rw e at c) in omega (arith, r.over, ap rank s.is))
          at p h c (inr n) = r.top p (omega (arith, hit_other p q n)) c

-- ---- words 24 and 25 of page 7
clock_runs : (l : ℕ → ℕ) (t w : ℕ) → Clock l → Clock (put1 (put1 l running_page t) running_label w)
unfolding put1
clock_runs l t w c = record { c0 = c.c0; c1 = c.c1; c2 = c.c2; c3 = c.c3; divider = c.divider; line = c.line; nought = c.nought }

new_runs : {ps : List ℕ} (l b : ℕ → ℕ) (t w : ℕ) → (t ≡ 0 → w ≡ 0) → (t ≢ 0 → count t ps ≡ 1) → (t ≢ 0 → w ≡ b t)
    → Runs ps (put1 (put1 l running_page t) running_label w) b
unfolding put1
new_runs l b t w z n r = record { idle = z; listed = n; tag = r }

pub base_runs : {m : List ℕ} {ps : List ℕ} {L : Lists} {W : View} {hs : List ℕ} {g : ℕ} (t w : ℕ) → (t ≡ 0 → w ≡ 0) → (t ≢ 0 → count t ps ≡ 1)
    → (t ≢ 0 → w ≡ W.label t) → Base m ps L W hs g → Base (set (set m running_page t) running_label w) ps L
    (with_low W (put1 (put1 W.low running_page t) running_label w)) hs g
base_runs {W = W} t w z n r b =
    let s = b.facts.sep in
    record {
      mem = turn_mem s (turn_mem s b.mem running_page t (omega arith) (omega arith)) running_label w (omega arith) (omega arith);
      facts = facts_low (put1 (put1 W.low running_page t) running_label w) (new_runs W.low W.label t w z n r)
          (clock_runs W.low t w b.facts.clock) b.facts;
      all = b.all;
    }

-- ---- who runs
module _ {m : List ℕ} {ps : List ℕ} {L : Lists} {W : View} {hs : List ℕ} {g : ℕ} (b : Base m ps L W hs g) where
  s : Sep ps L
  s = b.facts.sep

  abbrev r : ℕ
  r = W.low running_page

  pub running_at : running m ≡ W.low running_page
  running_at = b.mem.reads.fixed.turn running_page (omega arith) (omega arith)

  pub running_in : r ≢ 0 → 1 ≤ count r ps
  running_in n = omega (arith, b.facts.runs.listed n)

  -- the processors are those on the list
  pub listed : processors m ≡ ps
  listed =
      let c = rw (link_procs, s.procs) at (b.mem.holds.rep processor_list (in_procs ps, grant_low processor_list (omega arith))) in
      walk_chain control_pages m list_link processor_list ps c (omega (arith, ap length s.procs, list_short s processor_list (in_procs ps)))

  pub record Fits (t : ℕ) : Type 0 where
    pub listed : t ≢ 0 → 1 ≤ count t ps
    pub ready : t ≢ 0 → suc (W.state t) ≤ wait_bit
    pub top : (p : ℕ) → 1 ≤ count p ps → suc (W.state p) ≤ wait_bit → upper (W.label p) ≤ rank m t

  pub state_at : (p : ℕ) → 1 ≤ count p ps → word m p Map.state ≡ W.state p
  state_at p h = b.mem.reads.words.state p (proc_page s p h)

  pub label_at : (p : ℕ) → 1 ≤ count p ps → word m p label ≡ W.label p
  label_at p h = b.mem.reads.words.label p (proc_page s p h)

  stays_cases : (stays m r ≡ 0) ⊎ ((stays m r ≡ r) × (r ≢ 0) × (suc (W.state r) ≤ wait_bit))
  unfolding Turn.stays
  stays_cases = go (eqb r 0) (ltb (word m r Map.state) wait_bit) refl refl
    where
      go : (x y : Bool) → eqb r 0 ≡ x → ltb (word m r Map.state) wait_bit ≡ y → (stays m r ≡ 0) ⊎ ((stays m r ≡ r) × (r ≢ 0) × (suc (W.state r) ≤ wait_bit))
      go true y e f = inl (rw e)
      go false false e f = inl (rw (e, f))
      go false true e f =
          let n = eqb-false r 0 e in
          let d = ltb-true (word m r Map.state) wait_bit f in
          inr (rw (e, f), n, omega (arith, state_at r (running_in n)))

  fits_best : Fits (fold (better m) (stays m r) ps)
  fits_best =
      let c = chosen m (stays m r) ps (λ p h. let t = proc_page s p h in omega arith) in
      go c.from stays_cases c
    where
      t : ℕ
      t = fold (better m) (stays m r) ps

      top : Chosen m (stays m r) ps t → (p : ℕ) → 1 ≤ count p ps → suc (W.state p) ≤ wait_bit → upper (W.label p) ≤ rank m t
      top c p h i = rw (← label_at p h) (c.top p h (omega (arith, state_at p h)))

      go : (t ≡ stays m r) ⊎ ((1 ≤ count t ps) × (suc (word m t Map.state) ≤ wait_bit))
          → (stays m r ≡ 0) ⊎ ((stays m r ≡ r) × (r ≢ 0) × (suc (W.state r) ≤ wait_bit)) → Chosen m (stays m r) ps t → Fits t
      go (inl e) (inl z) c = record { listed = λ n. absurd (n (e ∙ z)); ready = λ n. absurd (n (e ∙ z)); top = top c }
      go (inl e) (inr y) c =
          let q : t ≡ r = e ∙ y.0 in
          record { listed = λ n. rw q (running_in y.1); ready = λ n. rw q y.2; top = top c }
      go (inr y) z c = record { listed = λ n. y.0; ready = λ n. omega (arith, state_at t y.0, y.1); top = top c }

  best_stays : (t : ℕ) → t ≡ r → Fits t → Best ps W
  best_stays t e f = record { ready = λ n. rw (← e) (f.ready (λ z. n (sym e ∙ z))); top = λ p h c. go p (f.top p h c) (hit_or r 0) }
    where
      go : (p : ℕ) → upper (W.label p) ≤ rank m t → (r ≡ 0) ⊎ (r ≢ 0) → upper (W.label p) ≤ upper (W.low running_label)
      go p h (inl z) = omega (arith, rank_zero m t (e ∙ z))
      go p h (inr n) = rw (b.facts.runs.tag n, ← label_at r (running_in n)) (rw (rank_of m r n) at (rw e at h))

  best_new : (t w : ℕ) → (t ≡ 0 → w ≡ 0) → (t ≢ 0 → w ≡ W.label t) → Fits t → Best ps (with_low W (put1 (put1 W.low running_page t) running_label w))
  unfolding put1
  best_new t w z n f = record { ready = f.ready; top = λ p h c. go p (f.top p h c) (hit_or t 0) }
    where
      go : (p : ℕ) → upper (W.label p) ≤ rank m t → (t ≡ 0) ⊎ (t ≢ 0) → upper (W.label p) ≤ upper w
      go p h (inl e) = omega (arith, rank_zero m t e)
      go p h (inr d) = rw (n d, ← label_at t (f.listed d)) (rw (rank_of m t d) at h)

  tag : ℕ → ℕ
  tag t = cond (eqb t 0) 0 (W.label t)

  tag_zero : (t : ℕ) → t ≡ 0 → tag t ≡ 0
  unfolding tag
  tag_zero t e = rw (eq-eqb t 0 e)

  tag_of : (t : ℕ) → t ≢ 0 → tag t ≡ W.label t
  unfolding tag
  tag_of t n = rw (ne_eqb t 0 n)

  -- what is written is the tag
  tag_is : (m2 : List ℕ) (t : ℕ) → Base m2 ps L W hs g → Fits t → cond (eqb t 0) 0 (word m2 t label) ≡ tag t
  unfolding tag
  tag_is m2 t b2 f = go (eqb t 0) refl
    where
      go : (x : Bool) → eqb t 0 ≡ x → cond (eqb t 0) 0 (word m2 t label) ≡ tag t
      go true e = rw e
      go false e = rw e (b2.mem.reads.words.label t (proc_page s t (f.listed (eqb-false t 0 e))))

  pub record Turned (m2 : List ℕ) : Type 0 where
    pub low : ℕ → ℕ
    pub base : Base m2 ps L (with_low W low) hs g
    pub best : Best ps (with_low W low)

  switched : (t : ℕ) → Fits t → Turned (switch m r t)
  unfolding Turn.switch Turn.runs
  switched t f = go (eqb r t) refl
    where
      go : (x : Bool) → eqb r t ≡ x → Turned (switch m r t)
      go true e = rw e (record { low = W.low; base = b; best = best_stays t (sym (eqb-true r t e)) f })
      go false e =
          let m2 = load (save m r) t in
          let k : Kept m m2 = kept_on_lem (save_kept m r (λ n. proc_page s r (running_in n))) (load_kept (save m r) t) in
          let b2 : Base m2 ps L W hs g = base_kept k b in
          let w : cond (eqb t 0) 0 (word m2 t label) ≡ tag t = tag_is m2 t b2 f in
          rw (e, w) (record {
            low = put1 (put1 W.low running_page t) running_label (tag t);
            base = base_runs t (tag t) (tag_zero t) (λ n. let l = f.listed n in omega (arith, proc_once s t)) (tag_of t) b2;
            best = best_new t (tag t) (tag_zero t) (tag_of t) f;
          })

  -- who is chosen is on the list
  pub chosen_in : Model.chosen m ≢ 0 → 1 ≤ count (Model.chosen m) ps
  unfolding Turn.chosen
  chosen_in = rw (running_at, listed) fits_best.listed

  pub who_runs_lem : Turned (who_runs m)
  unfolding Turn.who_runs Turn.chosen
  who_runs_lem = rw (running_at, listed) (switched (fold (better m) (stays m r) ps) fits_best)

-- "Who runs, after each call": the invariant then holds whole
pub who_inv : {m : List ℕ} {ps : List ℕ} {L : Lists} {W : View} (b : Base m ps L W [] no_one) → (X : View) × Inv (who_runs m) ps L X
who_inv {W = W} b = let t = who_runs_lem b in (with_low W t.low, record { base = t.base; best = t.best })

-- a step that leaves words 24 and 25 of page 7 leaves who runs
pub running_same : {m m1 : List ℕ} {ps : List ℕ} {L : Lists} {W : View} {hs hs1 : List ℕ} {g g1 : ℕ} → Base m ps L W hs g → Gave m1 ps hs1 g1 W
    → running m1 ≡ running m
running_same b t = running_at t.base ∙ ap (λ (z : ℕ → ℕ). z running_page) t.low ∙ sym (running_at b)

pub label_in : {m : List ℕ} {ps : List ℕ} {L : Lists} {W : View} {hs : List ℕ} {g : ℕ} → Base m ps L W hs g → (p : ℕ) → 1 ≤ count p ps
    → Label (word m p label)
label_in b p h = rw (label_at b p h) (b.facts.names.range p h)

-- ---- a well-formed memory where someone runs, who is ready
pub record Busy (m : List ℕ) : Type 0 where
  pub base : Base m (lists m processor_list) (lists m) (view m) [] no_one
  pub runs : 1 ≤ count (running m) (lists m processor_list)
  pub ready : word m (running m) Map.state < wait_bit

pub busy : {m : List ℕ} → WellFormed m → running m ≢ 0 → Busy m
busy w d = let i = invariant w in record { base = i.base; runs = running_in i.base d; ready = omega (arith, i.best.ready d) }

-- ---- "the running one stays if ready .. and no ready one has higher priority": so where the right one runs, who runs changes nothing
better_not : (m : List ℕ) (b p : ℕ) → (suc (word m p Map.state) ≤ wait_bit → (b ≢ 0) × (priority m p ≤ priority m b)) → better m b p ≡ b
unfolding Turn.better Turn.above
better_not m b p f = go (ltb (word m p Map.state) wait_bit) refl
  where
    go : (x : Bool) → ltb (word m p Map.state) wait_bit ≡ x → better m b p ≡ b
    go false e = rw e
    go true e =
        let l = ltb-true (word m p Map.state) wait_bit e in
        let t = f (omega arith) in
        rw (e, ne_eqb b 0 t.0, le-ltb (priority m b) (priority m p) t.1)

fold_stays : (m : List ℕ) (b : ℕ) (qs : List ℕ)
    → ((p : ℕ) → 1 ≤ count p qs → suc (word m p Map.state) ≤ wait_bit → (b ≢ 0) × (priority m p ≤ priority m b)) → fold (better m) b qs ≡ b
fold_stays m b [] f = fold_nil m b
fold_stays m b (q ∷ qs) f =
    rw (fold_cons m b q qs, better_not m b q (f q (omega (arith, hit_self q)))) (fold_stays m b qs (λ p h. f p (omega arith)))

pub who_stays : {m : List ℕ} → WellFormed m → who_runs m ≡ m
unfolding Turn.who_runs Turn.chosen Turn.switch Turn.stays
who_stays {m} w = rw (eq-eqb (running m) (Model.chosen m) (sym (go (hit_or (running m) 0))))
  where
    i : Inv m (lists m processor_list) (lists m) (view m)
    i = invariant w

    go : (running m ≡ 0) ⊎ (running m ≢ 0) → Model.chosen m ≡ running m
    go (inl e) =
        rw (listed i.base, e) (fold_stays m 0 (lists m processor_list) (λ p h c.
        let l = i.base.facts.names.range p h in
        absurd (omega (arith, i.best.top p h c, i.base.facts.runs.idle e, l.low))))
    go (inr d) =
        let r = running m in
        let s = i.best.ready d in
        rw (listed i.base, ne_eqb r 0 d, lt-ltb (word m r Map.state) wait_bit (omega arith))
        (fold_stays m r (lists m processor_list) (λ p h c. (d, rw (i.base.facts.runs.tag d) at (i.best.top p h c))))
