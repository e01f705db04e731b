-- A law for each way through deleting.
use Prim.Native.Nat.{ℕ, zero, suc, ◌+◌, ◌≤◌, ◌<◌}
use mathlib.Core.Path.{◌≡◌, refl}
use mathlib.Core.Bool.{Bool, true, false}
use lib.Dec.{eqb}
use borrow.Author.Tests.{lt-ltb, le-ltb, eq-eqb, ne_eqb}
use native.Mathlib.Omega.{arith}
use Rattle.std.specs.Prelude.{Some, None}
use Rattle.model.specs.declared.ControlPage.{ControlPage}
use Rattle.model.specs.Coded.{found}
use Rattle.queues.proofs.Laws.{none_is, some_is, some_not}
use Rattle.model.specs.Map.{place, upper, link, list_link, processor_list, control_pages, q1, q2, note, size, mark, grant_for}
use Rattle.model.specs.Delete as Delete
use Rattle.model.specs.Bytes.{Memory, word, store, at, write, name, leave_wait, unlisted, leave, page_of, give_back, sender}
use Rattle.model.specs.Bytes.{marked, marked_from, mail_marked, all_marked, sent_marked, noticed, returned, emptied, mail_returned, mail_settled}
use Rattle.model.specs.Bytes.{grant_returned, delete}

pub unlisted_is : (m m₁ m₂ : Memory) (p : ℕ) → m₁ ≡ leave_wait m p → m₂ ≡ leave m₁ processor_list list_link p → m₂ ≡ unlisted m p
unfolding Delete.unlisted
unlisted_is m m₁ m₂ p e₁ e₂ = rw (← e₁) e₂

pub delete_is : (m m₁ m₂ m₃ m₄ : Memory) (p n : ℕ) → n ≡ name m p → m₁ ≡ unlisted m p → m₂ ≡ mail_settled m₁ n p → m₃ ≡ grant_returned m₂ n
    → m₄ ≡ give_back m₃ p
    → m₄ ≡ delete m p
unfolding Delete.delete
delete_is m m₁ m₂ m₃ m₄ p n en e₁ e₂ e₃ e₄ = rw (← en, ← e₁, ← e₂, ← e₃) e₄

pub from_is : (m : Memory) (n q w : ℕ) → w ≡ word m q note → eqb (upper w) n ≡ eqb (sender m q) n
from_is m n q w ew = rw (← ew)

module _ (m : Memory) (n q l : ℕ) (el : l ≡ word m q size) where
  pub marked_not : mark ≤ l → m ≡ marked m n q
  unfolding Delete.marked Delete.sent_by
  marked_not h = rw (← el, le-ltb l mark h)

  module _ (b : Bool) (h : l < mark) (eb : b ≡ eqb (sender m q) n) where
    pub marked_other : b ≡ false → m ≡ marked m n q
    unfolding Delete.marked Delete.sent_by
    marked_other z = rw (← el, lt-ltb l mark h, ← eb, z)

    pub marked_is : (m₁ : Memory) → b ≡ true → m₁ ≡ store m q size (l + mark) → m₁ ≡ marked m n q
    unfolding Delete.marked Delete.sent_by
    marked_is m₁ z e₁ = rw (← el, lt-ltb l mark h, ← eb, z) e₁

module _ (m m₁ m₂ : Memory) (n p : ℕ) where
  pub mail_marked_lem : (a b : ℕ) → a ≡ place p q1 → m₁ ≡ marked_from control_pages m n a → b ≡ place p q2 → m₂ ≡ marked_from control_pages m₁ n b
      → m₂ ≡ mail_marked m n p
  unfolding Delete.mail_marked
  mail_marked_lem a b ea e₁ eb e₂ = rw (← ea, ← e₁, ← eb) e₂

  pub sent_marked_lem : m₁ ≡ all_marked control_pages m n processor_list → m₂ ≡ mail_marked m₁ n p → m₂ ≡ sent_marked m n p
  unfolding Delete.sent_marked
  sent_marked_lem e₁ e₂ = rw (← e₁) e₂

  pub mail_settled_lem : m₁ ≡ sent_marked m n p → m₂ ≡ mail_returned m₁ n p → m₂ ≡ mail_settled m n p
  unfolding Delete.mail_settled
  mail_settled_lem e₁ e₂ = rw (← e₁) e₂

module _ (m m₁ : Memory) (n q l : ℕ) (el : l ≡ word m q size) where
  pub returned_marked : mark ≤ l → m₁ ≡ give_back m q → m₁ ≡ returned m n q
  unfolding Delete.returned
  returned_marked h e₁ = rw (← el, le-ltb l mark h) e₁

  module _ (w x : ℕ) (h : l < mark) (ew : w ≡ word m q note) (ex : x ≡ upper w) where
    pub returned_none : None ≡ found (page_of m x) → m₁ ≡ give_back m q → m₁ ≡ returned m n q
    unfolding Delete.returned
    returned_none z e₁ = rw (← el, lt-ltb l mark h, ← ew, ← ex, eq-eqb (page_of m x) 0 (none_is _ z)) e₁

    pub returned_sender : (p : ControlPage) → m₁ ≡ noticed m n q p.0 → Some p ≡ found (page_of m x) → m₁ ≡ returned m n q
    unfolding Delete.returned
    returned_sender p e₁ z = rw (← el, lt-ltb l mark h, ← ew, ← ex, ne_eqb (page_of m x) 0 (some_not _ p z), ← (some_is _ p z)) e₁

-- A walk from the cell at a: with the page q that hangs there it does g, and goes on from the cell next.
pub record Walk (f : ℕ → Memory → ℕ → ℕ → Memory) (g : Memory → ℕ → ℕ → ℕ → Memory) (next : ℕ → ℕ → ℕ) : Type 0 where
  pub ends : (m : Memory) (n a : ℕ) → f zero m n a ≡ m
  pub goes : (i : ℕ) (m : Memory) (n a : ℕ)
      → f (suc i) m n a ≡ elim (eqb (at m a) 0) [ true ↦ m | false ↦ f i (g m n a (at m a)) n (next a (at m a)) ]

module _ {f : ℕ → Memory → ℕ → ℕ → Memory} {g : Memory → ℕ → ℕ → ℕ → Memory} {next : ℕ → ℕ → ℕ} (w : Walk f g next) where
  pub walk_none : (i : ℕ) (m : Memory) (n a : ℕ) → i ≡ 0 → m ≡ f i m n a
  walk_none zero m n a e = rw (w.ends m n a)
  walk_none (suc i) m n a e = absurd (omega arith)

  pub walk_end : (i : ℕ) (m : Memory) (n a : ℕ) → None ≡ found (at m a) → m ≡ f i m n a
  walk_end zero m n a e = rw (w.ends m n a)
  walk_end (suc i) m n a e = rw (w.goes i m n a, eq-eqb (at m a) 0 (none_is _ e))

  pub walk_on : (i j : ℕ) (m m₁ : Memory) (n a b : ℕ) (p : ControlPage) → i ≡ j + 1 → Some p ≡ found (at m a) → m₁ ≡ g m n a p.0 → b ≡ next a p.0
      → f i m n a ≡ f j m₁ n b
  walk_on zero j m m₁ n a b p o e e₁ eb = absurd (omega arith)
  walk_on (suc i) j m m₁ n a b p o e e₁ eb =
      let k : i ≡ j = omega arith in rw (w.goes i m n a, ne_eqb (at m a) 0 (some_not _ p e), ← (some_is _ p e), ← e₁, ← eb, k)

pub marks_messages : Walk marked_from (λ m n a q. marked m n q) (λ a q. place q link)
unfolding Delete.marked_from
marks_messages = record { ends = λ m n a. refl; goes = λ i m n a. refl }

pub marks_processors : Walk all_marked (λ m n a p. mail_marked m n p) (λ a p. place p list_link)
unfolding Delete.all_marked
marks_processors = record { ends = λ m n a. refl; goes = λ i m n a. refl }

pub empties : Walk emptied (λ m n h q. returned (leave m h link q) n q) (λ h q. h)
unfolding Delete.emptied
empties = record { ends = λ m n h. refl; goes = λ i m n h. refl }

-- a is where the grant of the name n stands
module _ (m : Memory) (n a : ℕ) (ea : a ≡ grant_for n) where
  pub grant_none : None ≡ found (at m a) → m ≡ grant_returned m n
  unfolding Delete.grant_returned
  grant_none e = rw (← ea, eq-eqb (at m a) 0 (none_is _ e))

  pub grant_back : (p : ControlPage) (m₁ m₂ : Memory) → m₂ ≡ give_back m₁ p.0 → m₁ ≡ write m a 0 → Some p ≡ found (at m a) → m₂ ≡ grant_returned m n
  unfolding Delete.grant_returned
  grant_back p m₁ m₂ e₂ e₁ e = rw (← ea, ne_eqb (at m a) 0 (some_not _ p e), ← (some_is _ p e), ← e₁) e₂

pub ruleset deletions = (
  unlisted_is,
  delete_is,
  from_is,
  marked_not,
  marked_other,
  marked_is,
  mail_marked_lem,
  sent_marked_lem,
  mail_settled_lem,
  returned_marked,
  returned_none,
  returned_sender,
  grant_none,
  grant_back,
)
