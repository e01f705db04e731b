-- Interrupts leave Q1 and Q2 of every processor alone: each waiter front to back, the clock chain, then who runs. Assumes nothing.
use Rattle.std.specs.Prelude.{◌≡◌, refl, ℕ, zero, suc, ◌+◌, ◌≤◌, length, set, eqb, ltb}
use Rattle.std.proofs.Common.{sym, ◌∙◌}
use mathlib.Core.List.{List, [], ◌∷◌, ◌++◌}
use native.Mathlib.Omega.{arith}
use Rattle.model.specs.Map.{c0, c3, control_pages, first_classed, header_of, interrupts, last_outer, lowered, reason, semaphore_of, word_a}
use Rattle.model.specs.Bytes.{word, struck, served_from, serve, delivered, who_runs}
use Rattle.model.specs.Interrupt as Interrupt
use Rattle.model.specs.Bytes as Model
use Rattle.model.specs.Lists.{Lists}
use Rattle.laws.specs.Count.{count_mid}
use Rattle.laws.specs.Uses.{list_short}
use Rattle.laws.specs.Places.{in_queues, wait_page}
use Rattle.laws.specs.Inv.{View, Clock, Base}
use Rattle.laws.specs.Views.{put1}
use Rattle.laws.specs.JoinLeave.{chain0}
use Rattle.laws.specs.Wake.{seat_head, not_procs}
use Rattle.laws.specs.Words.{either}
use Rattle.laws.specs.Interrupts.{head, chain_head, struck_base, from_end, next, seat, counter_base, serve_base, Some, some_of, delivered_kept}
use Rattle.history.specs.Letter.{Agree, Same, same_then, same_on, posts, agrees}
use Rattle.history.specs.Calm.{calm_refl, calm_low, calm_proc, calm_turn, calm_wake}
use Rattle.history.specs.Told.{runs_in}

module _ (k c : ℕ) (k1 : 1 ≤ k) (k2 : k ≤ interrupts) where
  abbrev a : ℕ
  a = semaphore_of k

  calm_struck : {m : List ℕ} {ps : List ℕ} {L : Lists} {W : View} {hs : List ℕ} {g : ℕ} (p : ℕ) (xs ys : List ℕ) → Base m ps L W hs g → L (a + 1) ≡ xs ++ p ∷ ys
      → Same ps L m (struck m k c p)
  unfolding Interrupt.struck Interrupt.classed
  calm_struck {m} {ps} {L} p xs ys b e =
      let s = b.facts.sep in
      let hp = wait_page s (a + 1) p (seat k c k1 k2 ps) (rw e (count_mid p xs ys)) in
      let w : Same ps L m (Model.wake m a p) = calm_wake s b.mem a p xs ys (seat k c k1 k2 ps) hp e in
      let A = Model.wake m a p in
      either (Same ps L m) (eqb (word m p reason) 1)
      (either (Same ps L m) (ltb k first_classed) w (either (Same ps L m) (ltb last_outer k) w
      (same_on w (calm_proc s (Model.wake m a p) p word_a c hp (omega arith) (omega arith) (omega arith) (omega arith) (omega arith)))))
      (calm_proc s m p reason (lowered (word m p reason)) hp (omega arith) (omega arith) (omega arith) (omega arith) (omega arith))

  abbrev Goal : List ℕ → ℕ → List ℕ → List ℕ → ℕ → Type 0
  Goal ys n ps hs g = (L : Lists) (W : View) (m : List ℕ) (xs : List ℕ) → Base m ps L W hs g → L (a + 1) ≡ xs ++ ys
      → Same ps L m (served_from n m k c (head ys))

  calm_from : (ys : List ℕ) (n : ℕ) (ps : List ℕ) (hs : List ℕ) (g : ℕ) → length ys ≤ n → Goal ys n ps hs g
  calm_from [] n ps hs g l L W m xs b e = rw (from_end k c k1 k2 n m) (calm_refl m)
  calm_from (p ∷ ys) zero ps hs g l L W m xs b e = absurd (omega arith)
  calm_from (p ∷ ys) (suc n) ps hs g l L W m xs b e =
      let t = struck_base k c k1 k2 p xs ys b e in
      let f = calm_struck p xs ys b e in
      rw (next k c k1 k2 n L W m xs p ys b e)
      (same_then (agrees b (posts f) t.gave.base) f
      (calm_from ys n ps hs g (omega arith) t.gave.lists t.gave.view (struck m k c p) t.before t.gave.base t.now))

  pub calm_serve : {m : List ℕ} {ps : List ℕ} {L : Lists} {W : View} {hs : List ℕ} {g : ℕ} → Base m ps L W hs g → Same ps L m (serve m k c)
  unfolding Interrupt.serve
  calm_serve {m} {ps} {L} {W} {hs} {g} b =
      let s = b.facts.sep in
      let st = seat k c k1 k2 ps in
      let ch = chain0 s b.mem (a + 1) (seat_head s a st) (λ d. not_procs s a st (sym d)) in
      let at1 : semaphore_of k + 1 ≡ header_of k = omega arith in
      rw (← at1, chain_head m (a + 1) (L (a + 1)) ch) (calm_from (L (a + 1)) control_pages ps hs g
      (list_short s (a + 1) (in_queues ps (a + 1) st)) L W m [] b refl)

-- from m on, Q1 and Q2 are as they were
record Flows (m : List ℕ) (ps : List ℕ) (L : Lists) (m1 : List ℕ) (hs : List ℕ) (g : ℕ) : Type 0 where
  now : Some m1 ps hs g
  same : Same ps L m m1
  agree : Agree ps L now.lists

flows_on : {m m1 m2 : List ℕ} {ps : List ℕ} {L : Lists} {hs : List ℕ} {g : ℕ} (t : Flows m ps L m1 hs g) {K : Lists} {X : View} → Base m2 ps K X hs g
    → Same ps t.now.lists m1 m2 → Flows m ps L m2 hs g
flows_on t {K} {X} b2 f = record {
  now = record { lists = K; view = X; base = b2 };
  same = same_then t.agree t.same f;
  agree = λ p w h u v. agrees t.now.base (posts f) b2 p w h u v ∙ t.agree p w h u v;
}

-- an interrupt, then who runs
pub calm_interrupt : {m : List ℕ} {ps : List ℕ} {L : Lists} {W : View} {hs : List ℕ} {g : ℕ} (k c : ℕ) → 1 ≤ k → k ≤ interrupts → Base m ps L W hs g
    → Same ps L m (who_runs (delivered m k c))
calm_interrupt {m} {ps} {L} {W} {hs} {g} k c i j b =
    let t = delivered_kept (λ x. Flows m ps L x hs g) (λ x t. t.now) sets serves m k c served in
    same_then t.agree t.same (calm_turn t.now.base.facts.sep (delivered m k c) (runs_in t.now.base))
  where
    sets : (x : List ℕ) (t : Flows m ps L x hs g) (c v : ℕ) → c0 ≤ c → c ≤ c3 → Clock (put1 t.now.view.low c v) → Flows m ps L (set x c v) hs g
    sets x t c v l u h =
        flows_on t (counter_base t.now.base c v l u h) (calm_low t.now.base.facts.sep x c v (omega arith) (omega arith))

    serves : (x : List ℕ) → Flows m ps L x hs g → (k : ℕ) → 1 ≤ k → k ≤ interrupts → Flows m ps L (serve x k 0) hs g
    serves x t k i j = flows_on t (serve_base k 0 i j t.now.base).base (calm_serve k 0 i j t.now.base)

    served : Flows m ps L (serve m k c) hs g
    served = record {
      now = some_of (serve_base k c i j b);
      same = calm_serve k c i j b;
      agree = agrees b (posts (calm_serve k c i j b)) (serve_base k c i j b).base;
    }
