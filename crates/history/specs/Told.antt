-- The step law as a relation: what a processor reads and what then waits for it, of any sender and flag, is what waited for it and what is put to it; with it,
-- that what was put stands at the end of Q1. How a call that moves no message keeps both. Assumes nothing.
use Rattle.std.specs.Prelude.{◌≡◌, refl, ◌≢◌, Bool, true, false, List, [], ◌∷◌, ◌++◌, map, ℕ, ◌+◌, ◌≤◌, get_or, eqb}
use Rattle.std.proofs.Common.{sym, ap, ◌∙◌, append-nil, arith, eq-eqb, ne_eqb}
use Rattle.model.specs.Map.{entry_at, first_unused, flags_kept, high, low, state, wait_in}
use Rattle.model.specs.Address.{wrapped}
use Rattle.model.specs.Map.{high_lr, label, low_lr, running_page}
use Rattle.model.specs.Bytes.{running, store, word}
use Rattle.model.specs.Map.{place, q1}
use Rattle.model.specs.Answer as Answer
use Rattle.model.specs.Answer.{memory_of}
use Rattle.model.specs.Processor as Processor
use Rattle.model.specs.Bytes.{priority, processors, queue, fault, done, jumps, waits, set_lr, lr, put_to_wait, who_runs}
use Rattle.model.specs.Lists.{count, Lists, queues}
use Rattle.laws.specs.Uses.{Sep, proc_page}
use Rattle.laws.specs.Inv.{View, Base}
use Rattle.laws.specs.Frames.{other}
use Rattle.laws.specs.Who.{running_at, running_in, listed}
use Rattle.laws.specs.Waits.{Fit, wait_base, waits_not}
use Rattle.laws.specs.Unmoved.{fault_frame}
use Rattle.history.specs.Order.{only}
use Rattle.history.specs.Letter.{Letter, mail_of, key, waiting_for, Same, same_on, posts, label_same, waits_same, procs_same}
use Rattle.history.specs.Put.{of, Mailed, nothing}
use Rattle.history.specs.Calm.{calm_lr, calm_turn, calm_wait, ours_unmoved, ours_low, ours_proc}

-- ---- document 02, 6/13: "No creating above yourself". Someone ran who lives, and the one of page p, who is new, has no higher a priority than that one had
pub record Under (m m' : List ℕ) (p : ℕ) : Type 0 where
  pub creator : 1 ≤ count (running m) (processors m)
  pub most : priority m' p ≤ priority m (running m)

-- ---- from m to m' with the mail e, for every processor that lives before and after
pub record Told (m m' : List ℕ) (e : Mailed) : Type 0 where
  pub at : (p : ℕ) → 1 ≤ count p (processors m) → 1 ≤ count p (processors m') → (s f : ℕ)
      → only (key s f) (of p e.reads ++ waiting_for m' p) ≡ only (key s f) (waiting_for m p ++ of p e.puts)
  -- who lives on has the priority and the name it had
  pub keeps : (p : ℕ) → 1 ≤ count p (processors m) → 1 ≤ count p (processors m') → word m' p label ≡ word m p label
  -- who is new has nothing, and no higher a priority than the one that ran
  pub born : (p : ℕ) → count p (processors m) ≡ 0 → 1 ≤ count p (processors m') → (waiting_for m' p ≡ []) × Under m m' p

-- what was put stands at the end of Q1, word for word
pub record Stands (m' : List ℕ) (e : Mailed) : Type 0 where
  pub at : (p : ℕ) → 1 ≤ count p (processors m') → (zs : List Letter) × (map (mail_of m') (queue m' (place p q1)) ≡ zs ++ of p e.puts)

-- ---- what is put to one processor, one after the other
pub of_none : {A : Type 0} (p : ℕ) → of {A = A} p [] ≡ []
unfolding of
of_none p = refl

pub of_yes : {A : Type 0} (p : ℕ) (x : ℕ × A) (l : List (ℕ × A)) → eqb p x.0 ≡ true → of p (x ∷ l) ≡ x.1 ∷ of p l
unfolding of
of_yes p x l e = rw (e, of)

pub of_no : {A : Type 0} (p : ℕ) (x : ℕ × A) (l : List (ℕ × A)) → eqb p x.0 ≡ false → of p (x ∷ l) ≡ of p l
unfolding of
of_no p x l e = rw (e, of)

pub of_append : {A : Type 0} (p : ℕ) (l k : List (ℕ × A)) → of p (l ++ k) ≡ of p l ++ of p k
of_append p [] k = rw (of_none p)
of_append p (x ∷ l) k = go (eqb p x.0) refl (of_append p l k)
  where
    go : (b : Bool) → eqb p x.0 ≡ b → of p (l ++ k) ≡ of p l ++ of p k → of p (x ∷ l ++ k) ≡ of p (x ∷ l) ++ of p k
    go true e ih = rw (of_yes p x (l ++ k) e, of_yes p x l e, ih)
    go false e ih = rw (of_no p x (l ++ k) e, of_no p x l e, ih)

pub of_here : {A : Type 0} (p : ℕ) (x : A) → of p ((p, x) ∷ []) ≡ x ∷ []
of_here p x = rw (of_yes p (p, x) [] (eq-eqb p p refl), of_none p)

pub of_other : {A : Type 0} (p r : ℕ) (x : A) → p ≢ r → of p ((r, x) ∷ []) ≡ []
of_other p r x n = rw (of_no p (r, x) [] (ne_eqb p r n), of_none p)

-- nothing was put
pub stands_empty : (m' : List ℕ) (e : Mailed) → e.puts ≡ [] → Stands m' e
stands_empty m' e n = record {
  at = λ p h.
      (map (mail_of m') (queue m' (place p q1)), rw (n, of_none p) (sym (append-nil (map (mail_of m') (queue m' (place p q1))))));
}

pub stands_none : (m' : List ℕ) → Stands m' nothing
stands_none m' = stands_empty m' nothing refl

pub told_same : {m : List ℕ} {ps : List ℕ} {L : Lists} {W : View} {hs : List ℕ} {g : ℕ} → Base m ps L W hs g → (m' : List ℕ) → Same ps L m m'
    → Told m m' nothing
told_same {m} b m' s =
    let e = procs_same b s ∙ sym (listed b) in
    record {
      at = λ p h i k f. rw (of_none p, waits_same b (posts s) p (rw (listed b) at h), append-nil (waiting_for m p));
      keeps = λ p h i. label_same s p (rw (listed b) at h);
      born = λ p h i. absurd (omega (arith, ap (count p) e));
    }

-- it speaks of what is put and read only
pub told_as : {m m' : List ℕ} {e e' : Mailed} → Told m m' e → e.puts ≡ e'.puts → e.reads ≡ e'.reads → Told m m' e'
told_as t p r = record { at = λ y h i s f. rw (← p, ← r) (t.at y h i s f); keeps = t.keeps; born = t.born }

-- ---- how a call ends
module _ {ps : List ℕ} {L : Lists} (s : Sep ps L) (m : List ℕ) (g : running m ≢ 0 → 1 ≤ count (running m) ps) where
  lr_run : (a : ℕ) → running (set_lr m (get_or m running_page 0) a) ≡ running m
  unfolding Processor.set_lr
  lr_run a =
      let r = running m in
      let v = flags_kept (word m r high_lr) (high a) in
      other (store m r high_lr v) (place r low_lr) (low a) running_page (omega arith) ∙ other m (place r high_lr) v running_page (omega arith)

  calm_goes : (a : ℕ) → Same ps L m (who_runs (set_lr m (running m) a))
  calm_goes a = same_on (calm_lr s m (running m) a g) (calm_turn s (set_lr m (running m) a) (rw (lr_run a) g))

  pub calm_jumps : (a : ℕ) → Same ps L m (memory_of (jumps m a))
  unfolding Answer.jumps Answer.memory_of
  calm_jumps a = calm_goes a

  pub calm_done : (len : ℕ) → Same ps L m (memory_of (done m len))
  unfolding Answer.done Answer.memory_of Processor.advance
  calm_done len = calm_goes (wrapped (lr m) len)

module _ {m : List ℕ} {ps : List ℕ} {L : Lists} {W : View} {hs : List ℕ} {g : ℕ} (b : Base m ps L W hs g) where
  -- the one that runs is a processor
  pub runs_in : running m ≢ 0 → 1 ≤ count (running m) ps
  runs_in n = rw (running_at b) (running_in b (rw (running_at b) at n))

  pub calm_fault : running m ≢ 0 → (f : ℕ) → Same ps L m (memory_of (fault m f))
  calm_fault d f = record {
    at = λ c h.
        let s = b.facts.sep in
        let r = running m in
        let pg = proc_page s r (runs_in d) in
        let n = b.mem.reads.fixed.next in
        let l = b.facts.faults.range in
        fault_frame m f b.mem.size pg.0 (omega (arith, pg.1)) c (ours_unmoved s h r runs_in)
        (ours_proc s h r state (runs_in d) (omega arith) (omega arith) (omega arith) (omega arith) (omega arith))
        (ours_low s h first_unused (omega arith) (omega arith))
        (ours_low s h (entry_at (get_or m first_unused 0)) (omega arith) (omega arith));
  }

  pub calm_waits : (a w : ℕ) → W.low running_page ≢ 0 → 1 ≤ count (a + 1) (queues ps) → wait_in (W.state (W.low running_page)) ≡ 0
      → Fit ps L W a (W.low running_page) w
      → Same ps L m (memory_of (waits m a w))
  unfolding Answer.waits Answer.memory_of
  calm_waits a w n h idle fit =
      let r = W.low running_page in
      let hr = running_in b n in
      let s = b.facts.sep in
      let b2 = wait_base a r w b h hr idle fit in
      rw (running_at b) (same_on (calm_wait s b.mem a r w h hr (waits_not s r hr (b.facts.seats.bit r hr ∙ idle)))
      (calm_turn s (put_to_wait m a r w) (rw (running_at b2) (λ z. running_in b2 z))))
