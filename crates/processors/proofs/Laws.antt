-- A law for each way through waiting.
use Prim.Native.Nat.{ℕ, zero, suc, ◌+◌, ◌-◌, ◌<◌, ◌≤◌}
use mathlib.Core.Path.{◌≡◌, refl, sym, ap, ◌∙◌}
use mathlib.Core.Bool.{Bool, true, false}
use mathlib.Core.List.{List, [], ◌∷◌}
use lib.Dec.{eqb}
use borrow.Author.Tests.{eq-eqb, ne_eqb}
use Rattle.std.proofs.Common.{subst, ⊎_elim}
use Rattle.std.proofs.lemmas.Bool.{cases_eq}
use Rattle.std.specs.Prelude.{Option, is_some}
use Rattle.std.specs.List.{list_any}
use Rattle.model.specs.declared.ControlPage.{ControlPage}
use Rattle.model.specs.Coded as Coded
use Rattle.model.specs.Coded.{found}
use Rattle.model.specs.Queue as Queue
use Rattle.model.specs.Queue.{first}
use native.Mathlib.Omega.{arith}
use Rattle.model.specs.Map.{place, semaphore_of, lowered, link, wait_cleared, reason, state, own_semaphore, free_semaphore, semaphore_after, interrupts}
use Rattle.model.specs.Wait as Wait
use Rattle.model.specs.Bytes.{Memory, at, write, word, store, join, queue, enqueue, wake, queued, seat, unqueue, leave_wait}

-- ---- straight lines
-- v is the semaphore that was read, w what is stored
pub enqueue_is : (m m₁ m₂ : Memory) (s p v w : ℕ) → v ≡ at m s → w ≡ lowered v → m₁ ≡ write m s w → m₂ ≡ join m₁ (s + 1) link p → m₂ ≡ enqueue m s p
unfolding Wait.enqueue
enqueue_is m m₁ m₂ s p v w ev ew e₁ e₂ = rw (← ev, ← ew, ← e₁) e₂

pub clear_is : (m m₁ : Memory) (p x : ℕ) → x ≡ word m p state → m₁ ≡ store m p state (wait_cleared x) → m₁ ≡ store m p state (wait_cleared (word m p state))
clear_is m m₁ p x ex e₁ = rw (← ex) e₁

pub wake_is : (m m₁ m₂ m₃ : Memory) (s p : ℕ) → m₁ ≡ unqueue m s p → m₂ ≡ store m₁ p state (wait_cleared (word m₁ p state)) → m₃ ≡ store m₂ p reason 0
    → m₃ ≡ wake m s p
unfolding Wait.wake
wake_is m m₁ m₂ m₃ s p e₁ e₂ e₃ = rw (← e₁, ← e₂) e₃

-- ---- waiting
-- page 0 is first where nothing is found, and another page is first where one of the list is it
first_zero : (xs : List ℕ) → first (eqb 0) xs ≡ 0
unfolding Queue.first
first_zero [] = refl
first_zero (x ∷ xs) =
    ⊎_elim (λ (h : 0 ≡ x). rw (eq-eqb 0 x h, Queue.first) (sym h)) (λ (z : 0 ≡ x → ⊥). rw (ne_eqb 0 x z, Queue.first) (first_zero xs)) (cases_eq 0 x)

first_other : (p : ℕ) → (p ≡ 0 → ⊥) → (xs : List ℕ) → list_any (λ x. eqb x p) xs ≡ eqb (first (eqb p) xs) p
unfolding Queue.first
first_other p o [] = sym (ne_eqb 0 p (λ e. o (sym e)))
first_other p o (x ∷ xs) =
    ⊎_elim (λ (h : p ≡ x). rw (eq-eqb p x h, Queue.first, eq-eqb x p (sym h)))
    (λ (z : p ≡ x → ⊥). rw (ne_eqb p x z, Queue.first, ne_eqb x p (λ e. z (sym e))) (first_other p o xs)) (cases_eq p x)

pub queued_zero : (m : Memory) (s p : ℕ) → p ≡ 0 → true ≡ queued m s p
unfolding Wait.queued
queued_zero m s p e = rw e (rw (first_zero (queue m (s + 1))))

pub queued_other : (m : Memory) (s p : ℕ) (b : Bool) → (p ≡ 0 → ⊥) → b ≡ list_any (λ x. eqb x p) (queue m (s + 1)) → b ≡ queued m s p
unfolding Wait.queued
queued_other m s p b o e = e ∙ first_other p o (queue m (s + 1))

-- a page that is found is one of the list
found_any : (p : ℕ) → (p ≡ 0 → ⊥) → (xs : List ℕ) → is_some (found (first (eqb p) xs)) ≡ list_any (λ x. eqb x p) xs
unfolding Queue.first Coded.found
found_any p o [] = refl
found_any p o (x ∷ xs) =
    ⊎_elim (λ (h : p ≡ x). let z : x ≡ 0 → ⊥ = λ e. o (h ∙ e) in rw (eq-eqb p x h, Queue.first, ne_eqb x 0 z, eq-eqb x p (sym h)))
    (λ (z : p ≡ x → ⊥). rw (ne_eqb p x z, Queue.first, ne_eqb x p (λ e. z (sym e))) (found_any p o xs)) (cases_eq p x)

pub queued_found : (m : Memory) (s p : ℕ) (r : Option ControlPage) (b : Bool) → (p ≡ 0 → ⊥) → r ≡ found (first (eqb p) (queue m (s + 1))) → b ≡ is_some r
    → b ≡ queued m s p
queued_found m s p r b o er e = queued_other m s p b o (e ∙ ap is_some er ∙ found_any p o (queue m (s + 1)))

-- ---- the loop over the interrupts, from behind: n are left, and what comes of all is r
pub seat_here : (n : ℕ) (m : Memory) (p s r : ℕ) (b : Bool) → seat n m p ≡ r → 0 < n → s ≡ semaphore_of (n - 1 + 1) → b ≡ queued m s p → b ≡ true → s ≡ r
unfolding Wait.seat
seat_here zero m p s r b er l es eb h = absurd (omega arith)
seat_here (suc n) m p s r b er l es eb h =
    let t : s ≡ semaphore_after n = omega arith in
    let q : queued m (semaphore_after n) p ≡ true = rw (← t) (sym eb ∙ h) in
    let z : seat (suc n) m p ≡ semaphore_after n = rw (q, Wait.seat) in
    t ∙ sym z ∙ er

pub seat_on : (n : ℕ) (m : Memory) (p s r : ℕ) (b : Bool) → seat n m p ≡ r → 0 < n → s ≡ semaphore_of (n - 1 + 1) → b ≡ queued m s p → b ≡ false
    → seat (n - 1) m p ≡ r
unfolding Wait.seat
seat_on zero m p s r b er l es eb h = absurd (omega arith)
seat_on (suc n) m p s r b er l es eb h =
    let t : s ≡ semaphore_after n = omega arith in
    let q : queued m (semaphore_after n) p ≡ false = rw (← t) (sym eb ∙ h) in
    let z : seat (suc n) m p ≡ seat n m p = rw (q, Wait.seat) in
    let k : suc n - 1 ≡ n = omega arith in
    subst (λ i. seat i m p ≡ r) (sym k) (sym z ∙ er)

pub seat_page : (n : ℕ) (m : Memory) (p s r : ℕ) (b : Bool) → seat n m p ≡ r → n ≤ 0 → s ≡ free_semaphore → b ≡ queued m s p → b ≡ true → s ≡ r
unfolding Wait.seat
seat_page zero m p s r b er l es eb h =
    let q : queued m free_semaphore p ≡ true = rw (← es) (sym eb ∙ h) in
    let z : seat 0 m p ≡ free_semaphore = rw (q, Wait.seat) in
    es ∙ sym z ∙ er
seat_page (suc n) m p s r b er l es eb h = absurd (omega arith)

pub seat_own : (n : ℕ) (m : Memory) (p s o r : ℕ) (b : Bool) → seat n m p ≡ r → n ≤ 0 → s ≡ free_semaphore → b ≡ queued m s p → b ≡ false
    → o ≡ place p own_semaphore → o ≡ r
unfolding Wait.seat
seat_own zero m p s o r b er l es eb h eo =
    let q : queued m free_semaphore p ≡ false = rw (← es) (sym eb ∙ h) in
    let z : seat 0 m p ≡ place p own_semaphore = rw (q, Wait.seat) in
    eo ∙ sym z ∙ er
seat_own (suc n) m p s o r b er l es eb h eo = absurd (omega arith)

pub ruleset seats = (seat_here, seat_on, seat_page, seat_own)

module _ (m : Memory) (p s : ℕ) (b : Bool) (es : s ≡ seat interrupts m p) (eb : b ≡ queued m s p) where
  pub wait_left : (m₁ : Memory) → b ≡ true → m₁ ≡ unqueue m s p → m₁ ≡ leave_wait m p
  unfolding Wait.leave_wait
  wait_left m₁ h e₁ = rw (← es, ← eb, h) e₁

  pub wait_none : b ≡ false → m ≡ leave_wait m p
  unfolding Wait.leave_wait
  wait_none h = rw (← es, ← eb, h)
