-- A law for each way through matching, sending and testing.
use Prim.Native.Nat.{ℕ, zero, suc, ◌+◌}
use mathlib.Core.Path.{◌≡◌, refl}
use mathlib.Core.Bool.{Bool, true, false}
use borrow.Author.Tests.{eq-eqb, ne_eqb}
use native.Mathlib.Omega.{arith}
use Rattle.std.specs.Prelude.{Some, None}
use Rattle.model.specs.declared.ControlPage.{ControlPage}
use Rattle.model.specs.Coded.{found}
use Rattle.queues.proofs.Laws.{none_is, some_is, some_not}
use Rattle.model.specs.Map.{place, pair, upper, lower, length_in, text, reason, own_semaphore, own_queue, q1, note, size}
use Rattle.model.specs.Address.{wrapped}
use Rattle.model.specs.Mail as Mail
use Rattle.model.specs.Mail.{Tested, asks, fits}
use Rattle.model.specs.Mail.Tested.{tested}
use Rattle.model.specs.Bytes.{Memory, word, store, write, copy, running, name, wake}
use Rattle.model.specs.Bytes.{matches, awaits, heard, move, test_q1, write_message}
use Rattle.mail.specs.Head.{head_out}

pub fits_asks : (n f w : ℕ) (b c : Bool) → b ≡ asks n (upper w) → b ≡ true → c ≡ asks f (lower w) → c ≡ fits n f w
unfolding Mail.fits
fits_asks n f w b c eb h ec = rw (← eb, h) ec

pub fits_not : (n f w : ℕ) (b : Bool) → b ≡ asks n (upper w) → b ≡ false → false ≡ fits n f w
unfolding Mail.fits
fits_not n f w b eb h = rw (← eb, h)

module _ (m : Memory) (p q o : ℕ) (eo : o ≡ word m p own_queue) where
  pub awaits_none : o ≡ 0 → false ≡ awaits m p q
  unfolding Mail.awaits
  awaits_none z = rw (← eo, eq-eqb o 0 z)

  pub awaits_is : (w : ℕ) (b : Bool) → (o ≡ 0 → ⊥) → w ≡ word m p reason → b ≡ matches m (upper w) (lower w) q → b ≡ awaits m p q
  unfolding Mail.awaits
  awaits_is w b z ew eb = rw (← eo, ne_eqb o 0 z, ← ew) eb

module _ (m : Memory) (p q : ℕ) (b : Bool) (eb : b ≡ awaits m p q) where
  pub heard_wakes : (m₁ : Memory) (s : ℕ) → b ≡ true → s ≡ place p own_semaphore → m₁ ≡ wake m s p → m₁ ≡ heard m p q
  unfolding Mail.heard
  heard_wakes m₁ s z es e₁ = rw (← eb, z, ← es) e₁

  pub heard_not : b ≡ false → m ≡ heard m p q
  unfolding Mail.heard
  heard_not z = rw (← eb, z)

-- ---- the loop over Q1
module _ (p n f : ℕ) where
  pub tests_none : (i : ℕ) (m : Memory) → i ≡ 0 → tested false m ≡ test_q1 i m p n f
  unfolding Mail.test_q1
  tests_none zero m e = refl
  tests_none (suc i) m e = absurd (omega arith)

  pub tests_end : (i : ℕ) (m : Memory) → None ≡ found (word m p q1) → tested false m ≡ test_q1 i m p n f
  unfolding Mail.test_q1
  tests_end zero m e = refl
  tests_end (suc i) m e = rw (eq-eqb (word m p q1) 0 (none_is _ e), Mail.test_q1)

  pub tests_here : (i : ℕ) (m m₁ : Memory) (q : ControlPage) (b : Bool) → (i ≡ 0 → ⊥) → Some q ≡ found (word m p q1) → b ≡ matches m n f q.0 → b ≡ true
      → m₁ ≡ move m p q.0
      → tested true m₁ ≡ test_q1 i m p n f
  unfolding Mail.test_q1
  tests_here zero m m₁ q b y eq eb h e₁ = absurd (y refl)
  tests_here (suc i) m m₁ q b y eq eb h e₁ =
      rw (ne_eqb (word m p q1) 0 (some_not _ q eq), Mail.test_q1, ← (some_is _ q eq), ← eb, h, Mail.test_q1, ← (some_is _ q eq), ← e₁)

  pub tests_on : (i j : ℕ) (m m₁ : Memory) (q : ControlPage) (b : Bool) → i ≡ j + 1 → Some q ≡ found (word m p q1) → b ≡ matches m n f q.0 → b ≡ false
      → m₁ ≡ move m p q.0
      → test_q1 i m p n f ≡ test_q1 j m₁ p n f
  unfolding Mail.test_q1
  tests_on zero j m m₁ q b y eq eb h e₁ = absurd (omega arith)
  tests_on (suc i) j m m₁ q b y eq eb h e₁ =
      let k : i ≡ j = omega arith in
      rw (ne_eqb (word m p q1) 0 (some_not _ q eq), Mail.test_q1, ← (some_is _ q eq), ← eb, h, Mail.test_q1, ← (some_is _ q eq), ← e₁, k)

pub write_is : (m m₁ m₂ m₃ : Memory) (q f a l p n b : ℕ) → p ≡ running m → n ≡ name m p → m₁ ≡ store m q note (pair n f) → m₂ ≡ store m₁ q size l
    → b ≡ place q text
    → m₃ ≡ copy l m₂ a b → m₃ ≡ write_message m q f a l
unfolding Mail.write_message
write_is m m₁ m₂ m₃ q f a l p n b ep en e₁ e₂ eb e₃ = rw (← ep, ← en, ← e₁, ← e₂, ← eb) e₃

pub head_is : (m m₁ m₂ m₃ : Memory) (q a w l b c : ℕ) → w ≡ word m q note → l ≡ word m q size → m₁ ≡ write m a (upper w) → b ≡ wrapped a 1
    → m₂ ≡ write m₁ b (lower w) → c ≡ wrapped a 2 → m₃ ≡ write m₂ c (length_in l) → m₃ ≡ head_out m q a
head_is m m₁ m₂ m₃ q a w l b c ew el e₁ eb e₂ ec e₃ = rw (← ew, ← el, ← e₁, ← eb, ← e₂, ← ec) e₃

pub ruleset mails = (
  fits_asks,
  fits_not,
  awaits_none,
  awaits_is,
  heard_wakes,
  heard_not,
  write_is,
  head_is,
)
