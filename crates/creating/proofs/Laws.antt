-- What ST1, STP, ST2, CRP and DEP come to behind their faults.
use Prim.Native.Nat.{ℕ, ◌<◌, ◌≤◌}
use mathlib.Core.Bool.{true, false}
use mathlib.Core.Path.{◌≡◌}
use borrow.Author.Tests.{le-leb, lt-leb, lt-ltb, le-ltb, eq-eqb, ne_eqb}
use Rattle.std.specs.Prelude.{Option, Some, None, is_some}
use Rattle.model.specs.declared.ControlPage.{ControlPage}
use Rattle.model.specs.Coded.{found}
use Rattle.queues.proofs.Laws.{none_is, some_is, some_not}
use Rattle.model.specs.Map.{place, page_size, link, list_link, processor_list, wait_in, state}
use Rattle.model.specs.Answer.{not_startable, no_name, bad_argument, above_itself, name_exists}
use Rattle.model.specs.Operate as Operate
use Rattle.model.specs.Bytes.{Memory, Step, word, start, set_lr, done, fault, on_page, page_of, named, st2, crp_page, crp}
use Rattle.model.specs.Bytes.{st2_found, zeroed, headed, join, created, running, priority}

module _ (m : Memory) (o : Step) (p len : ℕ) where
  module _ (a x : ℕ) (ex : x ≡ word m p state) (h : 128 ≤ x) where
    pub st2_starts : (m₁ m₂ : Memory) → wait_in x ≡ 0 → m₁ ≡ set_lr m p a → m₂ ≡ start m₁ p → o ≡ done m₂ len → o ≡ st2_found m p a len
    unfolding Operate.st2_found
    st2_starts m₁ m₂ z e₁ e₂ e = rw (← ex, le-leb 128 x h, eq-eqb (wait_in x) 0 z, ← e₁, ← e₂) e

    pub st2_waits : (wait_in x ≡ 0 → ⊥) → o ≡ fault m not_startable → o ≡ st2_found m p a len
    unfolding Operate.st2_found
    st2_waits z e = rw (← ex, le-leb 128 x h, ne_eqb (wait_in x) 0 z) e

pub st2_running : (m : Memory) (o : Step) (p len a x : ℕ) → x ≡ word m p state → x < 128 → o ≡ fault m not_startable → o ≡ st2_found m p a len
unfolding Operate.st2_found
st2_running m o p len a x ex h e = rw (← ex, lt-leb 128 x h) e

pub ruleset second_starts = (st2_running, st2_starts, st2_waits)

-- ---- by a name: the processor of a page, or none
module _ (m : Memory) (o : Step) (n len : ℕ) (z : n ≡ 0 → ⊥) where
  pub named_none : (c : ℕ) → None ≡ found (page_of m n) → o ≡ fault m no_name → o ≡ named m c n len
  unfolding Operate.named
  named_none c e h = rw (ne_eqb n 0 z, eq-eqb (page_of m n) 0 (none_is _ e)) h

  pub named_some : (c : ℕ) (p : ControlPage) → Some p ≡ found (page_of m n) → o ≡ on_page m c p.0 len → o ≡ named m c n len
  unfolding Operate.named
  named_some c p e h = rw (ne_eqb n 0 z, ne_eqb (page_of m n) 0 (some_not _ p e), ← (some_is _ p e)) h

  pub st2_none : (a : ℕ) → None ≡ found (page_of m n) → o ≡ fault m no_name → o ≡ st2 m n a len
  unfolding Operate.st2
  st2_none a e h = rw (ne_eqb n 0 z, eq-eqb (page_of m n) 0 (none_is _ e)) h

  pub st2_some : (a : ℕ) (p : ControlPage) → Some p ≡ found (page_of m n) → o ≡ st2_found m p.0 a len → o ≡ st2 m n a len
  unfolding Operate.st2
  st2_some a p e h = rw (ne_eqb n 0 z, ne_eqb (page_of m n) 0 (some_not _ p e), ← (some_is _ p e)) h

module _ (m : Memory) (o : Step) (n len : ℕ) (e : n ≡ 0) (h : o ≡ fault m bad_argument) where
  pub named_nobody : (c : ℕ) → o ≡ named m c n len
  unfolding Operate.named
  named_nobody c = rw (eq-eqb n 0 e) h

  pub st2_nobody : (a : ℕ) → o ≡ st2 m n a len
  unfolding Operate.st2
  st2_nobody a = rw (eq-eqb n 0 e) h

pub ruleset by_name = (named_nobody, named_none, named_some, st2_nobody, st2_none, st2_some)

-- ---- CRP, in the order of its faults
module _ (m : Memory) (o : Step) (n b w a len : ℕ) where
  pub crp_nobody : n ≡ 0 → o ≡ fault m bad_argument → o ≡ crp m n b w a len
  unfolding Operate.crp
  crp_nobody e h = rw (eq-eqb n 0 e) h

  module _ (zn : n ≡ 0 → ⊥) where
    pub crp_last : b ≡ 0 → o ≡ fault m bad_argument → o ≡ crp m n b w a len
    unfolding Operate.crp
    crp_last e h = rw (ne_eqb n 0 zn, eq-eqb b 0 e) h

    module _ (zb : b ≡ 0 → ⊥) (v : ℕ) (ev : v ≡ priority m (running m)) where
      pub crp_above : v < b → o ≡ fault m above_itself → o ≡ crp m n b w a len
      unfolding Operate.crp
      crp_above l h = rw (ne_eqb n 0 zn, ne_eqb b 0 zb, ← ev, lt-ltb v b l) h

      pub crp_exists : (r : Option ControlPage) → b ≤ v → r ≡ found (page_of m n) → true ≡ is_some r → o ≡ fault m name_exists → o ≡ crp m n b w a len
      unfolding Operate.crp
      crp_exists None l er t h = cc
      crp_exists (Some p) l er t h = rw (ne_eqb n 0 zn, ne_eqb b 0 zb, ← ev, le-ltb v b l, ne_eqb (page_of m n) 0 (some_not _ p er)) h

      pub crp_goes : (r : Option ControlPage) → b ≤ v → r ≡ found (page_of m n) → false ≡ is_some r → o ≡ crp_page m n b w a len → o ≡ crp m n b w a len
      unfolding Operate.crp
      crp_goes None l er t h = rw (ne_eqb n 0 zn, ne_eqb b 0 zb, ← ev, le-ltb v b l, eq-eqb (page_of m n) 0 (none_is _ er)) h
      crp_goes (Some p) l er t h = cc

pub ruleset crps = (crp_nobody, crp_last, crp_above, crp_exists, crp_goes)

pub created_is : (m m₁ m₂ m₃ : Memory) (q n b w a s : ℕ) → s ≡ place q link → m₁ ≡ zeroed page_size m s → m₂ ≡ headed m₁ q n b w a
    → m₃ ≡ join m₂ processor_list list_link q → m₃ ≡ created m q n b w a
unfolding Operate.created
created_is m m₁ m₂ m₃ q n b w a s es e₁ e₂ e₃ = rw (← es, ← e₁, ← e₂) e₃

pub own_is : (m : Memory) (r v : ℕ) → r ≡ running m → v ≡ priority m r → v ≡ priority m (running m)
own_is m r v er ev = rw (← er) ev
