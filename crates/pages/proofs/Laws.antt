-- How a page is taken and given back.
use Prim.Native.Nat.{ℕ}
use mathlib.Core.Path.{◌≡◌, refl, sym, ◌∙◌}
use borrow.Author.Tests.{eq-eqb, ne_eqb}
use Rattle.std.specs.Prelude.{Option, Some, None}
use Rattle.std.proofs.Common.{subst}
use Rattle.model.specs.declared.ControlPage.{ControlPage}
use Rattle.model.specs.Coded.{found}
use Rattle.model.specs.Map.{free_list, page_queue, grant_for}
use Rattle.model.specs.Page as Page
use Rattle.model.specs.Page.{Taken}
use Rattle.model.specs.Operate as Operate
use Rattle.model.specs.Page.Taken.{took}
use Rattle.model.specs.Bytes.{Memory, at, write, name, take_free, first_free, take_page}
use Rattle.model.specs.Bytes.{free_page, grant_page, give_back, Step, running, done, waits_for_page, with_page}
use Rattle.queues.proofs.Laws.{found_none, none_is, some_is, some_not}
use Rattle.pages.specs.Taken.{Gives}

-- ---- the first free page
pub free_none : (m : Memory) (r : Option ControlPage) → None ≡ found (at m free_list) → r ≡ None → Gives (first_free m) r m
unfolding Page.first_free
free_none m r e er = rw (eq-eqb (at m free_list) 0 (none_is _ e)) (er ∙ sym (found_none 0 refl), refl)

pub free_some : (m m₁ : Memory) (p : ControlPage) → Some p ≡ found (at m free_list) → m₁ ≡ take_free m p.0 → Gives (first_free m) (Some p) m₁
unfolding Page.first_free
free_some m m₁ p e e₁ = rw (ne_eqb (at m free_list) 0 (some_not _ p e)) (e, rw (← (some_is _ p e)) e₁)

-- ---- the page of a processor: a is where its grant stands
module _ (m : Memory) (p i a : ℕ) (ei : i ≡ name m p) (ea : a ≡ grant_for i) where
  pub page_free : (r : Option ControlPage) (m₁ : Memory) → None ≡ found (at m a) → Gives (first_free m) r m₁ → Gives (take_page m p) r m₁
  unfolding Page.take_page
  page_free r m₁ e h =
      let z : take_page m p ≡ first_free m = rw (← ei, ← ea, eq-eqb (at m a) 0 (none_is _ e)) in
      subst (λ t. Gives t r m₁) (sym z) h

  pub page_granted : (q : ControlPage) (m₁ : Memory) → Some q ≡ found (at m a) → m₁ ≡ write m a 0 → Gives (take_page m p) (Some q) m₁
  unfolding Page.take_page
  page_granted q m₁ e e₁ =
      let z : take_page m p ≡ took (at m a) (write m a 0) = rw (← ei, ← ea, ne_eqb (at m a) 0 (some_not _ q e)) in
      subst (λ t. Gives t (Some q) m₁) (sym z) (e, e₁)

-- ---- a page given back
pub back_free : (m m₁ : Memory) (q : ℕ) → None ≡ found (at m page_queue) → m₁ ≡ free_page m q → m₁ ≡ give_back m q
unfolding Page.give_back
back_free m m₁ q e e₁ = rw (eq-eqb (at m page_queue) 0 (none_is _ e)) e₁

pub back_granted : (m m₁ : Memory) (q : ℕ) (p : ControlPage) → m₁ ≡ grant_page m p.0 q → Some p ≡ found (at m page_queue) → m₁ ≡ give_back m q
unfolding Page.give_back
back_granted m m₁ q p e₁ e = rw (ne_eqb (at m page_queue) 0 (some_not _ p e), ← (some_is _ p e)) e₁

-- ---- SME and CRP, with a page in hand or with none
with_none : (m m₁ : Memory) (o : Step) (goes : ℕ → Memory → Memory) (len : ℕ) (t : Taken Memory) → take_page m (running m) ≡ t → Gives t None m₁
    → o ≡ waits_for_page m₁
    → o ≡ with_page m goes len
unfolding Operate.with_page
with_none m m₁ o goes len (took q n) e g h = rw (e, Operate.with_page, eq-eqb q 0 (none_is q g.0), ← g.1) h

with_some : (m m₁ m₂ : Memory) (o : Step) (goes : ℕ → Memory → Memory) (len : ℕ) (p : ControlPage) (t : Taken Memory) → take_page m (running m) ≡ t
    → Gives t (Some p) m₁
    → m₂ ≡ goes p.0 m₁ → o ≡ done m₂ len → o ≡ with_page m goes len
unfolding Operate.with_page
with_some m m₁ m₂ o goes len p (took q n) e g e₂ h =
    rw (e, Operate.with_page, ne_eqb q 0 (some_not q p g.0), ← (some_is q p g.0), ← g.1, ← e₂) h

module _ (m m₁ : Memory) (o : Step) (goes : ℕ → Memory → Memory) (len r : ℕ) (er : r ≡ running m) where
  pub page_none : Gives (take_page m r) None m₁ → o ≡ waits_for_page m₁ → o ≡ with_page m goes len
  page_none g h = with_none m m₁ o goes len (take_page m r) (rw (← er)) g h

  pub page_taken : (p : ControlPage) (m₂ : Memory) → Gives (take_page m r) (Some p) m₁ → m₂ ≡ goes p.0 m₁ → o ≡ done m₂ len → o ≡ with_page m goes len
  page_taken p m₂ g e₂ h = with_some m m₁ m₂ o goes len p (take_page m r) (rw (← er)) g e₂ h
