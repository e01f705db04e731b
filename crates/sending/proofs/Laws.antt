-- A law for each way through SME, WNM, RME and TME.
use Prim.Native.Nat.{ℕ, ◌+◌, ◌≤◌, ◌<◌}
use mathlib.Core.Path.{◌≡◌}
use mathlib.Core.Bool.{Bool, true, false}
use borrow.Author.Tests.{lt-ltb, le-ltb, eq-eqb, ne_eqb}
use Rattle.std.specs.Prelude.{Some, None}
use Rattle.model.specs.declared.ControlPage.{ControlPage}
use Rattle.model.specs.Coded.{found}
use Rattle.queues.proofs.Laws.{none_is, some_is, some_not}
use Rattle.model.specs.Map.{place, pair, length_in, own_semaphore, link, q2, size, longest, head_words, control_pages}
use Rattle.model.specs.Address.{wrapped, clear}
use Rattle.model.specs.Mail.Tested.{tested}
use Rattle.model.specs.Answer.{bad_argument, protected, no_match}
use Rattle.model.specs.Operate as Operate
use Rattle.model.specs.Bytes.{Memory, Step, at, word, running, page_of, done, jumps, waits, fault, deliver, make_notice, write_message}
use Rattle.model.specs.Bytes.{posted, leave, give_back, copy_out, sent, sme_text, in_q1, in_q2, move, wnm, received, rme, test_q1, tme_q1, tme}

module _ (m m₁ m₂ : Memory) (q n f a l : ℕ) where
  pub posted_notice : (r : ℕ) → None ≡ found (page_of m n) → r ≡ running m → m₁ ≡ make_notice m q n f → m₂ ≡ deliver m₁ r q → m₂ ≡ posted m q n f a l
  unfolding Operate.posted
  posted_notice r z er e₁ e₂ = rw (eq-eqb (page_of m n) 0 (none_is _ z), ← er, ← e₁) e₂

  pub posted_message : (p : ControlPage) (b : ℕ) → Some p ≡ found (page_of m n) → b ≡ wrapped a 1 → m₁ ≡ write_message m q f b l → m₂ ≡ deliver m₁ p.0 q
      → m₂ ≡ posted m q n f a l
  unfolding Operate.posted
  posted_message p b z eb e₁ e₂ = rw (ne_eqb (page_of m n) 0 (some_not _ p z), ← eb, ← e₁, ← (some_is _ p z)) e₂

pub received_is : (m m₁ m₂ m₃ : Memory) (q a r h : ℕ) → r ≡ running m → m₁ ≡ copy_out m q a → h ≡ place r q2 → m₂ ≡ leave m₁ h link q → m₃ ≡ give_back m₂ q
    → m₃ ≡ received m q a
unfolding Operate.received
received_is m m₁ m₂ m₃ q a r h er e₁ eh e₂ e₃ = rw (← er, ← e₁, ← eh, ← e₂) e₃

module _ (m : Memory) (o : Step) (n f a len : ℕ) where
  module _ (l : ℕ) (el : l ≡ at m a) where
    pub text_long : longest < l → o ≡ fault m bad_argument → o ≡ sme_text m n f a len
    unfolding Operate.sme_text
    text_long h e = rw (← el, lt-ltb longest l h) e

    module _ (b : ℕ) (c : Bool) (h : l ≤ longest) (eb : b ≡ wrapped a 1) (ec : c ≡ clear l b) where
      pub text_sent : c ≡ true → o ≡ sent m n f a l len → o ≡ sme_text m n f a len
      unfolding Operate.sme_text
      text_sent z e = rw (← el, le-ltb longest l h, ← eb, ← ec, z) e

      pub text_guarded : c ≡ false → o ≡ fault m protected → o ≡ sme_text m n f a len
      unfolding Operate.sme_text
      text_guarded z e = rw (← el, le-ltb longest l h, ← eb, ← ec, z) e

  module _ (r : ℕ) (er : r ≡ running m) where
    pub wnm_waits : (s w : ℕ) → None ≡ found (in_q1 m n f) → s ≡ place r own_semaphore → w ≡ pair n f → o ≡ waits m s w → o ≡ wnm m n f len
    unfolding Operate.wnm
    wnm_waits s w z es ew e = rw (eq-eqb (in_q1 m n f) 0 (none_is _ z), ← er, ← es, ← ew) e

    pub wnm_moves : (p : ControlPage) (m₁ : Memory) → Some p ≡ found (in_q1 m n f) → m₁ ≡ move m r p.0 → o ≡ done m₁ len → o ≡ wnm m n f len
    unfolding Operate.wnm
    wnm_moves p m₁ z e₁ e = rw (ne_eqb (in_q1 m n f) 0 (some_not _ p z), ← (some_is _ p z), ← er, ← e₁) e

  pub rme_none : None ≡ found (in_q2 m n f) → o ≡ fault m no_match → o ≡ rme m n f a len
  unfolding Operate.rme
  rme_none z e = rw (eq-eqb (in_q2 m n f) 0 (none_is _ z)) e

  module _ (p : ControlPage) (l : ℕ) (c : Bool) (z : Some p ≡ found (in_q2 m n f)) (el : l ≡ word m p.0 size) (ec : c ≡ clear (head_words + length_in l) a)
    where
      pub rme_done : (m₁ : Memory) → c ≡ true → m₁ ≡ received m p.0 a → o ≡ done m₁ len → o ≡ rme m n f a len
      unfolding Operate.rme
      rme_done m₁ h e₁ e = rw (ne_eqb (in_q2 m n f) 0 (some_not _ p z), ← (some_is _ p z), ← el, ← ec, h, ← e₁) e

      pub rme_guarded : c ≡ false → o ≡ fault m protected → o ≡ rme m n f a len
      unfolding Operate.rme
      rme_guarded h e = rw (ne_eqb (in_q2 m n f) 0 (some_not _ p z), ← (some_is _ p z), ← el, ← ec, h) e

  pub tme_none : None ≡ found (in_q2 m n f) → o ≡ tme_q1 m n f a len → o ≡ tme m n f a len
  unfolding Operate.tme
  tme_none z e = rw (eq-eqb (in_q2 m n f) 0 (none_is _ z)) e

  pub tme_some : (p : ControlPage) → Some p ≡ found (in_q2 m n f) → o ≡ jumps m a → o ≡ tme m n f a len
  unfolding Operate.tme
  tme_some p z e = rw (ne_eqb (in_q2 m n f) 0 (some_not _ p z)) e

  module _ (m₁ : Memory) (r : ℕ) (b : Bool) (er : r ≡ running m) (eb : tested b m₁ ≡ test_q1 control_pages m r n f) where
    pub q1_found : b ≡ true → o ≡ jumps m₁ a → o ≡ tme_q1 m n f a len
    unfolding Operate.tme_q1
    q1_found h e = rw (← er, ← eb, Operate.tme_q1, h) e

    pub q1_none : b ≡ false → o ≡ done m₁ len → o ≡ tme_q1 m n f a len
    unfolding Operate.tme_q1
    q1_none h e = rw (← er, ← eb, Operate.tme_q1, h) e

pub ruleset posts = (posted_notice, posted_message)

pub ruleset waits_or_moves = (wnm_waits, wnm_moves)

pub ruleset reads = (rme_none, rme_done, rme_guarded)

pub ruleset looks = (tme_none, tme_some)

pub ruleset texts = (text_long, text_sent, text_guarded)

pub ruleset tests = (q1_found, q1_none)
