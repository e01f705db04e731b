-- A law for each way through what is asked of a word or a page where neither the judge's laws nor the marks say it.
use Prim.Native.Nat.{ℕ, suc, ◌*◌, ◌/◌, ◌%◌, ◌≤◌, ◌<◌}
use mathlib.Core.Path.{◌≡◌, refl, ap, ◌∙◌}
use mathlib.Core.Bool.{Bool, true, false}
use native.Mathlib.Omega.{arith}
use lib.ListN.{length}
use lib.Dec.{eqb, leb, ltb}
use borrow.Author.Tests.{le-leb, lt-leb, eq-eqb, ne_eqb}
use Rattle.model.specs.Map.{place, first_control, last_control, semaphore_after, header_after, less, reason, q1, label, state, processor_list, running_page, last_name, last_priority}
use Rattle.model.specs.Store.{bytes}
use Rattle.model.specs.Rule.{same, never, each, among, holds}
use Rattle.model.specs.Lists.{count}
use Rattle.model.specs.Judge as Judge
use Rattle.model.specs.Classes as Classes
use Rattle.model.specs.Classes.{cell}
use Rattle.model.specs.Bytes.{Memory, at, word, met}
use Rattle.telling.specs.Rows.{here, silent, ranked}
use Rattle.telling.proofs.Parts.{both_is, both_yes, both_no, both_first, same_is, same_yes, same_no, most_is, most_yes, most_no, when_yes, when_no, unless_yes, unless_no, least_yes, least_no}

-- ---- a cell, a pointer, the end of a list
module _ (a : ℕ) where
  pub cell_low : a < 7552 → a ≡ cell a
  unfolding Classes.cell
  cell_low h = rw (lt-leb (place first_control 0) a h)

  pub cell_high : 7552 ≤ a → a / 32 * 32 ≡ cell a
  unfolding Classes.cell
  cell_high h = rw (le-leb (place first_control 0) a h) (omega arith)

module _ (m : Memory) (a w : ℕ) (ew : w ≡ at m a) where
  pub pointer_none : w ≡ 0 → true ≡ holds (here (Classes.pointer bytes) m a)
  unfolding Classes.pointer
  pointer_none h = rw (← ew) (unless_yes w 0 _ h)

  pub pointer_some : (b : Bool) → (w ≡ 0 → ⊥) → b ≡ holds (among w first_control last_control) → b ≡ holds (here (Classes.pointer bytes) m a)
  unfolding Classes.pointer
  pointer_some b h eb = rw (← ew) (unless_no w 0 _ b h eb)

  -- the running one
  pub runner_none : w ≡ 0 → true ≡ holds (here (Classes.runner bytes) m a)
  unfolding Classes.runner
  runner_none h = rw (← ew) (unless_yes w 0 _ h)

  module _ (b : Bool) (eb : b ≡ eqb (count w (met m processor_list)) 1) (n : w ≡ 0 → ⊥) where
    pub runner_once : (s : ℕ) → b ≡ true → s ≡ word m w state → ltb s 64 ≡ holds (here (Classes.runner bytes) m a)
    unfolding Classes.runner
    runner_once s h es = rw (← ew, ← es) (unless_no w 0 _ (ltb s 64) n (both_is _ _ b (ltb s 64) (ltb s 64) (rw h refl) (eb ∙ same_is _ 1) (most_is (suc s) 64)))

    pub runner_lost : b ≡ false → false ≡ holds (here (Classes.runner bytes) m a)
    unfolding Classes.runner
    runner_lost h = rw (← ew) (unless_no w 0 _ false n (both_is _ _ b _ false (rw h refl) (eb ∙ same_is _ 1) refl))

  module _ (p : ℕ) (ep : p ≡ at m running_page) where
    pub shown_none : p ≡ 0 → eqb w 0 ≡ holds (here (Classes.shown bytes) m a)
    unfolding Classes.shown
    shown_none h = rw (← ep, ← ew) (both_first _ _ (eqb w 0) (when_yes p 0 _ (eqb w 0) h (same_is w 0)) (unless_yes p 0 _ h))

    pub shown_some : (l : ℕ) → (p ≡ 0 → ⊥) → l ≡ word m p label → eqb w l ≡ holds (here (Classes.shown bytes) m a)
    unfolding Classes.shown
    shown_some l h el = rw (← ep, ← ew, ← el) (both_yes _ _ (eqb w l) (when_no p 0 _ h) (unless_no p 0 _ (eqb w l) h (same_is w l)))

pub ruleset runners = (runner_none, runner_once, runner_lost)

pub ruleset showns = (shown_none, shown_some)

module _ (m : Memory) (a e : ℕ) (ee : e ≡ here (Classes.end bytes) m a) where
  pub ends_is : (b : Bool) → b ≡ holds (here (Classes.pointer bytes) m e) → b ≡ holds (here (Classes.ends bytes) m a)
  unfolding Classes.ends
  ends_is b eb = rw ee at eb

  pub false_end_is : (r : ℕ) → r ≡ cell e → r ≡ here (Classes.false_end bytes) m a
  false_end_is r er = er ∙ ap cell ee

-- ---- who is ready
never_zero : (r : ℕ) → r ≡ 0 → false ≡ holds (never (eqb r 0))
unfolding holds
never_zero r e = rw (eq-eqb r 0 e)

never_some : (r : ℕ) → (r ≡ 0 → ⊥) → true ≡ holds (never (eqb r 0))
unfolding holds
never_some r n = rw (ne_eqb r 0 n)

module _ (m : Memory) (p s : ℕ) (es : s ≡ word m p state) where
  pub higher_waits : 64 ≤ s → true ≡ holds (here (Classes.not_higher bytes) m p)
  unfolding Classes.not_higher
  higher_waits h = rw (← es) (least_no (suc s) 64 _ (omega arith))

  module _ (r : ℕ) (l : s < 64) (er : r ≡ at m running_page) where
    pub higher_idle : r ≡ 0 → false ≡ holds (here (Classes.not_higher bytes) m p)
    unfolding Classes.not_higher
    higher_idle z = rw (← es, ← er) (least_yes (suc s) 64 _ false l (both_no _ _ (never_zero r z)))

    pub higher_is : (w v : ℕ) → (r ≡ 0 → ⊥) → w ≡ word m p label → v ≡ word m r label
        → leb (w / 16) (v / 16) ≡ holds (here (Classes.not_higher bytes) m p)
    unfolding Classes.not_higher
    higher_is w v n ew ev =
        rw (← es, ← er, ← ew, ← ev)
        (least_yes (suc s) 64 _ (leb (w / 16) (v / 16)) l (both_yes _ _ _ (never_some r n) (most_is (w / 16) (v / 16))))

pub ruleset highers = (higher_waits, higher_idle, higher_is)

-- ---- interrupt k + 1; the grant of who waits for a page
module _ (m : Memory) where
  pub semaphore_is : (k g h s n l : ℕ) → g ≡ semaphore_after k → s ≡ at m g → h ≡ header_after k → n ≡ length (met m h) → l ≡ less 0 n
      → eqb s l ≡ holds (here (Judge.interrupt_semaphore bytes) m k)
  unfolding Judge.interrupt_semaphore holds
  semaphore_is k g h s n l eg es eh en el = rw (← eg, ← es, ← eh, ← en, ← el)

  pub no_grant_is : (p g w : ℕ) → g ≡ here (Classes.grant_of bytes) m p → w ≡ at m g → eqb w 0 ≡ holds (here (Classes.no_grant bytes) m p)
  unfolding Classes.no_grant holds
  no_grant_is p g w eg ew = rw (← eg, ← ew)

-- ---- a message wait
module _ (m : Memory) (p w : ℕ) (ew : w ≡ word m p reason) where
  pub silent_flag : (b : Bool) → w % 16 ≤ 7 → b ≡ holds (each (met m (place p q1)) (Judge.unasked bytes m p)) → b ≡ holds (silent m p)
  silent_flag b h eb = rw (← ew) (both_yes _ _ b (most_yes (w % 16) 7 h) eb)

  pub silent_no : 7 < w % 16 → false ≡ holds (silent m p)
  silent_no h = rw (← ew) (both_no _ _ (most_no (w % 16) 7 h))

module _ (m : Memory) (p x : ℕ) where
  pub owner_same : (b : Bool) → x ≡ p → b ≡ holds (silent m p) → b ≡ holds (here (Judge.owner bytes) m p x)
  unfolding Judge.owner
  owner_same b e eb = both_yes (same x p) _ b (same_yes x p e) eb

  pub owner_other : (x ≡ p → ⊥) → false ≡ holds (here (Judge.owner bytes) m p x)
  unfolding Judge.owner
  owner_other n = both_no (same x p) _ (same_no x p n)

pub ruleset asks = (silent_flag, silent_no)

pub ruleset owners = (owner_same, owner_other)

-- ---- the name and the priority of a label
module _ (w : ℕ) (a : Bool) (ea : a ≡ holds (among (w % 16) 1 last_name)) where
  pub ranked_name : (b : Bool) → a ≡ true → b ≡ holds (among (w / 16) 1 last_priority) → b ≡ holds (ranked w)
  ranked_name b h eb = both_is _ _ a b b (rw h refl) ea eb

  pub ranked_no : a ≡ false → false ≡ holds (ranked w)
  ranked_no h = both_is _ _ a _ false (rw h refl) ea refl

pub ruleset ranks = (ranked_name, ranked_no)
