-- A law for each way through the rules that read a word or count before they test. Premises stand in the code's order.
use Prim.Native.Nat.{ℕ, suc, ◌+◌, ◌≤◌, ◌<◌}
use mathlib.Core.Path.{◌≡◌, refl, sym, ◌∙◌}
use mathlib.Core.Bool.{Bool, true, false, ◌&&◌}
use mathlib.Core.List.{List}
use native.Mathlib.Omega.{arith}
use lib.ListN.{length}
use lib.Dec.{eqb, leb}
use borrow.Author.Tests.{eq-eqb, ne_eqb, le-leb, lt-leb}
use Rattle.model.specs.Map.{place, upper, lower, less, wait_in, wait_bit, length_in, longest, notice, last_name, last_flag, last_fault}
use Rattle.model.specs.Map.{entry_after, first_unused, free_list, grant_for, header_after, semaphore_after, processor_list, running_label}
use Rattle.model.specs.Map.{label, list_link, note, own_queue, own_semaphore, q1, reason, size, state}
use Rattle.model.specs.Store.{bytes}
use Rattle.model.specs.Rule.{same, most, both, each, among, holds}
use Rattle.model.specs.Lists.{Lists, count, each_of}
use Rattle.model.specs.Judge as Judge
use Rattle.model.specs.Bytes.{Memory, at, word, walk, lists, name}
use Rattle.lists.specs.Heads.{rule}
use Rattle.lists.proofs.Folds.{both_yes, both_no, both_true, both_is, same_is, most_is, when_yes, when_no, unless_yes, unless_no, least_yes, least_no}
use Rattle.lists.proofs.Folds.{processors_walk}
use Rattle.judge.proofs.Heads.{empty_is, head_none, head_some}

-- ---- reasons
module _ (m : Memory) (p w : ℕ) (ew : w ≡ word m p state) where
  pub quiet_idle : (b : Bool) → wait_in w ≡ 0 → b ≡ holds (Judge.reasonless bytes m p) → b ≡ holds (Judge.quiet bytes m p)
  unfolding Judge.quiet
  quiet_idle b h eb = rw (← ew) (when_yes _ _ _ b h eb)

  pub quiet_waits : (wait_in w ≡ 0 → ⊥) → true ≡ holds (Judge.quiet bytes m p)
  unfolding Judge.quiet
  quiet_waits h = rw (← ew) (when_no _ _ _ h)

-- ---- message waits: x is in the own queue of p
module _ (m : Memory) (ps : List ℕ) (L : Lists) (p x w : ℕ) (ew : w ≡ word m p reason) where
  pub owner_yes : (b : Bool) → x ≡ p → lower w ≤ last_flag → b ≡ holds (each (L (place p q1)) (Judge.unasked bytes m p)) → b ≡ holds (Judge.owner bytes m ps L p x)
  unfolding Judge.owner
  owner_yes b ex el eb =
      rw (← ew)
      (both_yes _ _ true (sym (eq-eqb x p ex) ∙ same_is x p) b refl (both_yes _ _ true (sym (le-leb (lower w) last_flag el) ∙ most_is (lower w) last_flag) b refl eb))

  pub owner_other : (x ≡ p → ⊥) → false ≡ holds (Judge.owner bytes m ps L p x)
  unfolding Judge.owner
  owner_other n = both_no _ _ false (sym (ne_eqb x p n) ∙ same_is x p) refl

  pub owner_flag : last_flag < lower w → false ≡ holds (Judge.owner bytes m ps L p x)
  unfolding Judge.owner
  owner_flag l = go (eqb x p) refl
    where
      go : (d : Bool) → eqb x p ≡ d → false ≡ holds (both (same x p) (both (most (lower (word m p reason)) last_flag) (each (L (place p q1)) (Judge.unasked bytes m p))))
      go false h = both_no _ _ false (sym h ∙ same_is x p) refl
      go true h =
          both_yes _ _ true (sym h ∙ same_is x p) false refl (rw (← ew) (both_no _ _ false (sym (lt-leb (lower w) last_flag l) ∙ most_is (lower w) last_flag) refl))

-- ---- semaphores
module _ (m : Memory) (a s : ℕ) where
  pub waiters_some : (n d : ℕ) → n ≡ length (lists m a) → d ≡ less 0 n → eqb s d ≡ holds (same s (less 0 (length (lists m a))))
  waiters_some n d en ed = rw (← en, ← ed) (same_is s d)

module _ (m : Memory) (s : ℕ) (r : Bool) where
  pub interrupt_semaphore_is : (k j : ℕ) → j ≡ k → s ≡ at m (semaphore_after j) → r ≡ holds (same s (less 0 (length (lists m (header_after j)))))
      → r ≡ holds (rule (Judge.interrupt_semaphore bytes) m k)
  unfolding Judge.interrupt_semaphore
  interrupt_semaphore_is k j ej es e = rw (← ej, ← es) e

  pub message_semaphore_is : (p c : ℕ) → s ≡ word m p own_semaphore → c ≡ place p own_queue → r ≡ holds (same s (less 0 (length (lists m c))))
      → r ≡ holds (rule (Judge.message_semaphore bytes) m p)
  unfolding Judge.message_semaphore
  message_semaphore_is p c es ec e = rw (← ec, ← es) e

-- ---- pages
pub page_wait_is : (m : Memory) (p w i : ℕ) (b c r : Bool) → w ≡ word m p label → i ≡ lower w → b ≡ holds (same (at m free_list) 0)
    → c ≡ holds (same (at m (grant_for i)) 0) → r ≡ (b && c) → r ≡ holds (rule (Judge.page_wait bytes) m p)
unfolding Judge.page_wait
page_wait_is m p w i b c r ew ei eb ec er = rw (← ew, ← ei) (both_is _ _ b c r er (empty_is m free_list b eb) (empty_is m (grant_for i) c ec))

module _ (m : Memory) (k i w : ℕ) (ei : i ≡ k) (ew : w ≡ at m (grant_for i)) where
  pub grant_none : w ≡ 0 → true ≡ holds (rule (Judge.grant bytes) m k)
  unfolding Judge.grant
  grant_none z =
      let e : length (lists m (grant_for k)) ≡ 0 = rw (← ei, head_none m (grant_for i) w ew z) in
      unless_yes (length (lists m (grant_for k))) 0 _ e

  pub grant_some : (n : ℕ) → (w ≡ 0 → ⊥) → n ≡ count k (each_of (name m) (walk 21 m list_link processor_list))
      → eqb n 1 ≡ holds (rule (Judge.grant bytes) m k)
  unfolding Judge.grant
  grant_some n h en =
      let e : w ≡ at m (grant_for k) = rw ei at ew in
      rw (processors_walk m, ← en) (unless_no (length (lists m (grant_for k))) 0 _ (eqb n 1) (head_some m (grant_for k) w e h) (same_is n 1))

-- ---- messages
pub sized_is : (m : Memory) (q w : ℕ) (r : Bool) → w ≡ word m q size → r ≡ (leb w notice && leb (length_in w) longest) → r ≡ holds (Judge.sized bytes m q)
unfolding Judge.sized
sized_is m q w r ew er =
    rw (← ew) (both_is _ _ (leb w notice) (leb (length_in w) longest) r er (most_is w notice) (most_is (length_in w) longest))

pub message_is : (m : Memory) (q w : ℕ) (b c d e r : Bool) → w ≡ word m q note → b ≡ holds (among (upper w) 1 last_name) → c ≡ holds (among (lower w) 1 last_flag)
    → d ≡ holds (Judge.sized bytes m q) → e ≡ (c && d) → r ≡ (b && e) → r ≡ holds (Judge.message bytes m q)
unfolding Judge.message
message_is m q w b c d e r ew eb ec ed ee er = rw (← ew) (both_is _ _ b e r er eb (both_is _ _ c d e ee ec ed))

-- ---- who runs
module _ (m : Memory) (p s : ℕ) (es : s ≡ word m p state) where
  pub higher_ready : (w l : ℕ) → s < wait_bit → w ≡ word m p label → l ≡ at m running_label → leb (upper w) (upper l) ≡ holds (rule (Judge.not_higher bytes) m p)
  unfolding Judge.not_higher
  higher_ready w l h ew el = rw (← es, ← ew, ← el) (least_yes (suc s) wait_bit _ (leb (upper w) (upper l)) h (most_is (upper w) (upper l)))

  pub higher_not : wait_bit ≤ s → true ≡ holds (rule (Judge.not_higher bytes) m p)
  unfolding Judge.not_higher
  higher_not h = rw (← es) (least_no (suc s) wait_bit _ (omega arith))

-- ---- page 9
pub used_is : (m : Memory) (i j w : ℕ) (b c r : Bool) → j ≡ i → w ≡ at m (entry_after j) → b ≡ holds (among (upper w) 1 last_name)
    → c ≡ holds (among (lower w) 1 last_fault) → r ≡ (b && c) → r ≡ holds (Judge.used bytes m i)
unfolding Judge.used
used_is m i j w b c r ej ew eb ec er = rw (← ej, ← ew) (both_is _ _ b c r er eb ec)

module _ (m : Memory) (i f j k : ℕ) (ef : f ≡ at m first_unused) (ej : j ≡ i) (ek : k ≡ f) where
  pub entry_used : (b : Bool) → j + 2 ≤ k → b ≡ holds (Judge.used bytes m i) → b ≡ holds (Judge.entry bytes m i)
  unfolding Judge.entry
  entry_used b h eb =
      rw (← ef) (both_true _ _ b (least_yes (i + 2) f _ b (omega arith) eb) (least_no f (i + 1) _ (omega arith)))

  pub entry_unused : (l w : ℕ) → k < j + 2 → l ≡ i → w ≡ at m (entry_after l) → eqb w 0 ≡ holds (Judge.entry bytes m i)
  unfolding Judge.entry
  entry_unused l w h el ew =
      let e : w ≡ at m (entry_after i) = rw el at ew in
      rw (← ef, ← e) (both_yes _ _ true (least_no (i + 2) f _ (omega arith)) (eqb w 0) refl (least_yes f (i + 1) _ (eqb w 0) (omega arith) (same_is w 0)))

pub ruleset sentences = (
  quiet_idle,
  quiet_waits,
  owner_yes,
  owner_other,
  owner_flag,
  waiters_some,
  interrupt_semaphore_is,
  message_semaphore_is,
  page_wait_is,
  grant_none,
  grant_some,
  sized_is,
  message_is,
  higher_ready,
  higher_not,
  used_is,
  entry_used,
  entry_unused,
)
