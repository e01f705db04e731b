-- A law for each way through an interrupt and the clock.
use Prim.Native.Nat.{ℕ, zero, suc, ◌+◌}
use mathlib.Core.Path.{◌≡◌, refl, sym, ◌∙◌}
use mathlib.Core.Bool.{Bool, true, false, cond}
use borrow.Author.Tests.{eq-eqb, ne_eqb}
use native.Mathlib.Omega.{arith}
use Rattle.std.specs.Prelude.{Option, Some, None}
use Rattle.model.specs.declared.ControlPage.{ControlPage}
use Rattle.model.specs.Coded.{found}
use Rattle.queues.proofs.Laws.{none_is, some_is, some_not}
use Rattle.model.specs.Map.{place, raised, lowered, link, reason, semaphore_of, header_of, clock_line, control_pages}
use Rattle.model.specs.Interrupt as Interrupt
use Rattle.model.specs.Bytes.{Memory, word, store, at, write, wake, classed, struck, served_from, serve, counts, ends, turns, c0_counts, delivered}

-- i is k made wide
module _ (m : Memory) (k c p w : ℕ) (ew : w ≡ word m p reason) where
  pub struck_wakes : (m₁ m₂ : Memory) (i : ℕ) → w ≡ 1 → i ≡ k → m₁ ≡ wake m (semaphore_of i) p → m₂ ≡ classed m₁ k c p → m₂ ≡ struck m k c p
  unfolding Interrupt.struck
  struck_wakes m₁ m₂ i z ei e₁ e₂ = rw (← ew, eq-eqb w 1 z, ← ei, ← e₁, ei) e₂

  pub struck_falls : (m₁ : Memory) (v : ℕ) → (w ≡ 1 → ⊥) → v ≡ lowered w → m₁ ≡ store m p reason v → m₁ ≡ struck m k c p
  unfolding Interrupt.struck
  struck_falls m₁ v z ev e₁ = rw (← ew, ne_eqb w 1 z, ← ev) e₁

-- ---- the loop over the waiters: p is the one that is next, or 0
served_none : (n : ℕ) (m : Memory) (k c p : ℕ) → n ≡ 0 → m ≡ served_from n m k c p
unfolding Interrupt.served_from
served_none zero m k c p e = refl
served_none (suc n) m k c p e = absurd (omega arith)

served_end : (n : ℕ) (m : Memory) (k c p : ℕ) → p ≡ 0 → m ≡ served_from n m k c p
unfolding Interrupt.served_from
served_end zero m k c p z = refl
served_end (suc n) m k c p z = rw (eq-eqb p 0 z, Interrupt.served_from)

served_more : (n j : ℕ) (m : Memory) (k c p : ℕ) → n ≡ j + 1 → (p ≡ 0 → ⊥) → served_from n m k c p ≡ served_from j (struck m k c p) k c (word m p link)
unfolding Interrupt.served_from
served_more zero j m k c p e z = absurd (omega arith)
served_more (suc n) j m k c p e z = let h : n ≡ j = omega arith in rw (ne_eqb p 0 z, Interrupt.served_from, h)

-- so many are left of those to serve, and r comes of it
pub record Serves (left : ℕ) (m : Memory) (k c : ℕ) (next : Option ControlPage) (r : Memory) : Type 0 where
  pub number : ℕ
  pub is : next ≡ found number
  pub comes : served_from left m k c number ≡ r

pub serves_first : (m : Memory) (k c a : ℕ) (next : Option ControlPage) → a ≡ header_of k → next ≡ found (at m a)
    → Serves control_pages m k c next (serve m k c)
unfolding Interrupt.serve
serves_first m k c a next ea e = record { number = at m a; is = e; comes = rw ea }

module _ (left : ℕ) (m : Memory) (k c : ℕ) (next : Option ControlPage) (r : Memory) (d : Serves left m k c next r) where
  pub serves_end : next ≡ None → m ≡ r
  serves_end e = served_end left m k c d.number (none_is d.number (sym e ∙ d.is)) ∙ d.comes

  pub serves_none : left ≡ 0 → m ≡ r
  serves_none z = served_none left m k c d.number z ∙ d.comes

  pub serves_on : (j : ℕ) (m₁ : Memory) (p : ControlPage) (a : ℕ) (then : Option ControlPage) → left ≡ j + 1 → next ≡ Some p → a ≡ place p.0 link
      → then ≡ found (at m a)
      → m₁ ≡ struck m k c p.0
      → Serves j m₁ k c then r
  serves_on j m₁ p a then ej e ea et e₁ =
      let h : p.0 ≡ d.number = some_is d.number p (sym e ∙ d.is) in
      let z : p.0 ≡ 0 → ⊥ = λ x. some_not d.number p (sym e ∙ d.is) (sym h ∙ x) in
      let t : served_from left m k c p.0 ≡ r = rw h d.comes in
      record { number = at m a; is = et; comes = rw (e₁, ea) (sym (served_more left j m k c p.0 ej z) ∙ t) }

-- ---- the clock: whether counter c comes to its end e, v being what it counts to
module _ (m : Memory) (c e w v : ℕ) (ew : w ≡ at m c) (ev : v ≡ raised w) where
  pub ends_yes : v ≡ e → true ≡ ends m c e
  unfolding Interrupt.ends
  ends_yes z = rw (← ew, ← ev, eq-eqb v e z)

  pub ends_no : (v ≡ e → ⊥) → false ≡ ends m c e
  unfolding Interrupt.ends
  ends_no z = rw (← ew, ← ev, ne_eqb v e z)

pub turns_is : (m m₁ m₂ : Memory) (c k : ℕ) → m₁ ≡ write m c 0 → m₂ ≡ serve m₁ k 0 → m₂ ≡ turns m c k
unfolding Interrupt.turns
turns_is m m₁ m₂ c k e₁ e₂ = rw (← e₁) e₂

pub counts_is : (m m₁ : Memory) (c w v : ℕ) → w ≡ at m c → v ≡ raised w → m₁ ≡ write m c v → m₁ ≡ counts m c
unfolding Interrupt.counts
counts_is m m₁ c w v ew ev e₁ = rw (← ew, ← ev) e₁

-- b is whether counter c came to its end e, which was found as d, and m₁ the memory after that; at the end the next counter counts, and C3 has none
module _ (next : Memory → Memory) (m m₁ : Memory) (c d e k : ℕ) (b : Bool) where
  module _ (eb : b ≡ ends m c d) (ed : d ≡ e) (e₁ : m₁ ≡ cond b (turns m c k) (counts m c)) where
    pub counter_ends : (m₂ : Memory) → b ≡ true → m₂ ≡ next m₁ → m₂ ≡ cond (ends m c e) (next (turns m c k)) (counts m c)
    counter_ends m₂ h e₂ = rw (← ed, ← eb, h) (rw (e₁, h) at e₂)

    pub counter_counts : b ≡ false → m₁ ≡ cond (ends m c e) (next (turns m c k)) (counts m c)
    counter_counts h = rw (← ed, ← eb, h) (rw h at e₁)

pub counter_last : (m m₁ : Memory) (c e k : ℕ) (b : Bool) → b ≡ ends m c e → m₁ ≡ cond b (turns m c k) (counts m c)
    → m₁ ≡ cond (ends m c e) (turns m c k) (counts m c)
counter_last m m₁ c e k b eb e₁ = rw (← eb) e₁

module _ (m m₁ : Memory) (k c l : ℕ) (el : l ≡ at m clock_line) where
  pub delivered_clock : (m₂ : Memory) → k ≡ l → m₁ ≡ serve m k c → m₂ ≡ c0_counts m₁ → m₂ ≡ delivered m k c
  unfolding Interrupt.delivered
  delivered_clock m₂ z e₁ e₂ = rw (← el, eq-eqb k l z, ← e₁) e₂

  pub delivered_plain : (k ≡ l → ⊥) → m₁ ≡ serve m k c → m₁ ≡ delivered m k c
  unfolding Interrupt.delivered
  delivered_plain z e₁ = rw (← el, ne_eqb k l z) e₁
