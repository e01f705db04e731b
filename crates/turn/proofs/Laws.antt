-- What who runs is found by, step by step.
use Prim.Native.Nat.{ℕ, zero, suc, ◌+◌, ◌-◌, ◌≤◌, ◌<◌}
use mathlib.Core.Path.{◌≡◌, refl, sym, ◌∙◌}
use mathlib.Core.List.{List, [], ◌∷◌}
use mathlib.Core.Bool.{Bool, true, false}
use denote.Param.Members.{Mut, Called}
use Rattle.std.proofs.Common.{subst, ap, ⊎_elim, add-zero}
use Rattle.std.specs.Bool.{then_some}
use Rattle.std.specs.Option.{option_eq}
use Rattle.std.specs.Array.{IsFromFnResult, IsFromFnResultFrom}
use Rattle.std.proofs.lemmas.List.FromFn.{fill_by_all}
use Rattle.std.proofs.lemmas.Bool.{cases_eq}
use lib.Dec.{eqb}
use lib.ListN.{get_or}
use borrow.Author.Tests.{lt-ltb, le-ltb, eq-eqb, ne_eqb}
use native.Mathlib.Omega.{arith}
use Rattle.std.specs.Prelude.{Option, Some, None, cond}
use Rattle.model.specs.declared.ControlPage.{ControlPage}
use Rattle.model.specs.Coded.{found}
use Rattle.model.specs.declared.Context.{Context}
use Rattle.model.specs.Map.{control_pages, list_link, processor_list, zero_place, keeps, kept_count}
use Rattle.model.specs.Turn as Turn
use Rattle.model.specs.Turn.{fold, nineteen}
use Rattle.model.specs.Bytes.{Memory, running, processors, chosen, store, write, ready, stays, above, better, context_of}
use Rattle.model.specs.Bytes.{saved_of, on_page0, kept_on, kept, restored, save, load, runs, who_runs, hand_back}
use Rattle.turn.specs.Leading.{above_leader}
use Rattle.queues.proofs.Laws.{found_none, found_is, none_is, some_is, some_not, NoZero, no_zero}
use Rattle.processors.proofs.Records.{Bytes, back_same}

-- ---- the one that runs
pub stays_none : (m : Memory) (r : Option ControlPage) → None ≡ found (running m) → r ≡ None → r ≡ found (stays m (running m))
unfolding Turn.stays
stays_none m r e er = rw (eq-eqb (running m) 0 (none_is _ e)) (er ∙ sym (found_none 0 refl))

page_or_none : (p : ControlPage) (b : Bool) → (p.0 ≡ 0 → ⊥) → then_some b p ≡ found (cond b p.0 0)
page_or_none p true z = sym (found_is p.0 z)
page_or_none p false z = sym (found_none 0 refl)

pub stays_some : (m : Memory) (r : Option ControlPage) (p : ControlPage) (b : Bool) → Some p ≡ found (running m) → b ≡ ready m p.0 → r ≡ then_some b p
    → r ≡ found (stays m (running m))
unfolding Turn.stays
stays_some m r p b e eb er =
    let z : running m ≡ 0 → ⊥ = some_not _ p e in
    let k : p.0 ≡ running m = some_is _ p e in
    rw (ne_eqb (running m) 0 z, ← k, ← eb) (er ∙ page_or_none p b (λ h. z (sym k ∙ h)))

-- ---- the best of a list
-- what leads as the code has it, which is n in the model
above_found : (m : Memory) (n p : ℕ) → above_leader m (found n) p ≡ above m n p
unfolding Turn.above
above_found m n p =
    ⊎_elim (λ (z : n ≡ 0). rw (found_none n z, eq-eqb n 0 z)) (λ (z : n ≡ 0 → ⊥). rw (found_is n z, ne_eqb n 0 z)) (cases_eq n 0)

-- what leads so far, and what comes of the pages that are left
pub record Leads (m : Memory) (l : Option ControlPage) (xs : List ℕ) : Type 0 where
  pub number : ℕ
  pub is : l ≡ found number
  pub comes : fold (better m) number xs ≡ chosen m
  pub pages : NoZero xs

pub leads_first : (m : Memory) (l : Option ControlPage) (xs : List ℕ) → l ≡ found (stays m (running m)) → xs ≡ processors m → Leads m l xs
unfolding Turn.chosen
leads_first m l xs e ex = record {
  number = stays m (running m);
  is = e;
  comes = rw ex;
  pages = subst NoZero (sym ex) (no_zero control_pages m list_link processor_list);
}

pub leads_end : (m : Memory) (l : Option ControlPage) (xs : List ℕ) → Leads m l xs → xs ≡ [] → l ≡ found (chosen m)
unfolding Turn.fold
leads_end m l xs d e = d.is ∙ ap found (subst (λ ys. fold (better m) d.number ys ≡ chosen m) e d.comes)

module _ (m : Memory) (l : Option ControlPage) (xs t : List ℕ) (p : ControlPage) (d : Leads m l xs) (e : xs ≡ p.0 ∷ t) where
  -- the next page leads, as the number k in the model
  leads_on : (r : Option ControlPage) (k : ℕ) → r ≡ found k → better m d.number p.0 ≡ k → Leads m r t
  unfolding Turn.fold
  leads_on r k er eb = record {
    number = k;
    is = er;
    comes = subst (λ n. fold (better m) n t ≡ chosen m) eb (subst (λ ys. fold (better m) d.number ys ≡ chosen m) e d.comes);
    pages = (subst NoZero e d.pages).1;
  }

  above_number : above_leader m l p.0 ≡ above m d.number p.0
  above_number = subst (λ o. above_leader m o p.0 ≡ above m d.number p.0) (sym d.is) (above_found m d.number p.0)

  pub leads_taken : true ≡ ready m p.0 → true ≡ above_leader m l p.0 → Leads m (Some p) t
  unfolding Turn.better
  leads_taken er ea =
      leads_on (Some p) p.0 (sym (found_is p.0 (subst NoZero e d.pages).0)) (rw (← er, ← above_number, ← ea))

  pub leads_unready : false ≡ ready m p.0 → Leads m l t
  unfolding Turn.better
  leads_unready er = leads_on l d.number d.is (rw (← er))

  pub leads_below : true ≡ ready m p.0 → false ≡ above_leader m l p.0 → Leads m l t
  unfolding Turn.better
  leads_below er ea = leads_on l d.number d.is (rw (← er, ← above_number, ← ea))

-- ---- contexts
pub zero_first : (i : ℕ) → i < 3 → 4 + i ≡ zero_place i
zero_first i h = rw (lt-ltb i 3 h)

pub zero_later : (i : ℕ) → 3 ≤ i → 13 + i ≡ zero_place i
zero_later i h = rw (le-ltb i 3 h)

-- what is made by a function of the index, which calls to the closure compute
from_fn_at : {F : Type 0} (g : Mut F (ℕ × Unit {0}) ℕ) (h : ℕ → ℕ) (f : F) (ys : List ℕ) (i n : ℕ) → ((x y : ℕ) (q : F) → Called g f (x, tt) y q
    → (q ≡ f) × (y ≡ h x))
    → IsFromFnResultFrom g f ys i n → (k : ℕ) → k < n → get_or ys (i + k) 0 ≡ h (i + k)
from_fn_at g h f ys i zero calls e k l = absurd (omega arith)
from_fn_at g h f ys i (suc n) calls e zero l = rw add-zero ((e.2).1 0 ∙ (calls i e.1 e.0 e.3).1)
from_fn_at g h f ys i (suc n) calls e (suc k) l =
    let s : i + suc k ≡ i + 1 + k = omega arith in
    let more : IsFromFnResultFrom g f ys (i + 1) n = subst (λ q. IsFromFnResultFrom g q ys (i + 1) n) (calls i e.1 e.0 e.3).0 e.4 in
    rw s (from_fn_at g h f ys (i + 1) n calls more k (omega arith))

pub words_made : {F : Type 0} {g : Mut F (ℕ × Unit {0}) ℕ} {f : F} (h : ℕ → ℕ) (ys : List ℕ) → IsFromFnResult g f ys 19
    → ((x y : ℕ) (q : F) → Called g f (x, tt) y q → (q ≡ f) × (y ≡ h x)) → ys ≡ nineteen h
words_made {F} {g} {f} h ys e calls =
    fill_by_all h ys 19 0 e.long (λ k l. let z : 0 + k ≡ k = omega arith in rw z at (from_fn_at g h f ys 0 19 calls e.each k l))

-- a turn of the loop that keeps, of the one that restores, and their ends: n words are left
kept_more : (n j : ℕ) (m : Memory) (p : ℕ) (w : List ℕ) → n ≡ j + 1 → kept n m p w ≡ kept j (store m p (keeps j) (get_or w j 0)) p w
unfolding Turn.kept
kept_more zero j m p w e = absurd (omega arith)
kept_more (suc n) j m p w e = let k : n ≡ j = omega arith in rw k

pub kept_on_lem : (n : ℕ) (m m₁ r : Memory) (p : ℕ) (w : List ℕ) → kept n m p w ≡ r → 0 < n → m₁ ≡ store m p (keeps (n - 1)) (get_or w (n - 1) 0)
    → kept (n - 1) m₁ p w ≡ r
kept_on_lem n m m₁ r p w e l e₁ = rw e₁ (sym (kept_more n (n - 1) m p w (omega arith)) ∙ e)

pub kept_end : (n : ℕ) (m r : Memory) (p : ℕ) (w : List ℕ) → kept n m p w ≡ r → n ≤ 0 → m ≡ r
unfolding Turn.kept
kept_end zero m r p w e l = e
kept_end (suc n) m r p w e l = absurd (omega arith)

pub ruleset keeping = (kept_on_lem, kept_end)

restored_more : (n j : ℕ) (m : Memory) (w : List ℕ) → n ≡ j + 1 → restored n m w ≡ restored j (write m (zero_place j) (get_or w j 0)) w
unfolding Turn.restored
restored_more zero j m w e = absurd (omega arith)
restored_more (suc n) j m w e = let k : n ≡ j = omega arith in rw k

pub restored_on : (n a : ℕ) (m m₁ r : Memory) (w : List ℕ) → restored n m w ≡ r → 0 < n → a ≡ zero_place (n - 1) → m₁ ≡ write m a (get_or w (n - 1) 0)
    → restored (n - 1) m₁ w ≡ r
restored_on n a m m₁ r w e l ea e₁ = rw (e₁, ea) (sym (restored_more n (n - 1) m w (omega arith)) ∙ e)

pub restored_end : (n : ℕ) (m r : Memory) (w : List ℕ) → restored n m w ≡ r → n ≤ 0 → m ≡ r
unfolding Turn.restored
restored_end zero m r w e l = e
restored_end (suc n) m r w e l = absurd (omega arith)

pub ruleset restoring = (restored_on, restored_end)

-- ---- the change
-- the registers of a context come back to where they were taken from, so they change nothing
module _ (m m₁ m₂ : Memory) (p : ℕ) (c : Context) (b : Bytes m) where
  pub save_is : c ≡ context_of m p → m₁ ≡ hand_back m p c.registers → m₂ ≡ kept kept_count m₁ p c.words → m₂ ≡ kept kept_count m p (on_page0 m)
  unfolding Turn.context_of
  save_is ec e₁ e₂ = let e : m₁ ≡ m = rw ec at e₁ ∙ back_same m p b in rw (e, ec) at e₂

  pub load_is : c ≡ saved_of m p → m₁ ≡ hand_back m p c.registers → m₂ ≡ restored kept_count m₁ c.words → m₂ ≡ restored kept_count m (kept_on m p)
  unfolding Turn.saved_of
  load_is ec e₁ e₂ = let e : m₁ ≡ m = rw ec at e₁ ∙ back_same m p b in rw (e, ec) at e₂

-- ---- who runs is changed: from a page or none to a page or none
found_one : (a b : ℕ) → found a ≡ found b → a ≡ b
found_one a b e =
    ⊎_elim (λ (z : b ≡ 0). let h : found a ≡ None = e ∙ found_none b z in none_is a (sym h) ∙ sym z)
    (λ (z : b ≡ 0 → ⊥). let h : found a ≡ Some (record { 0 = b }) = e ∙ found_is b z in sym (some_is a (record { 0 = b }) (sym h))) (cases_eq b 0)

-- whether two are the same page, or both none
abbrev pub same : Option ControlPage → Option ControlPage → Bool
same o n = option_eq (λ (p q : ControlPage). eqb p.0 q.0) o n

same_is : (o n : Option ControlPage) → true ≡ same o n → o ≡ n
same_is None None e = refl
same_is None (Some q) e = cc
same_is (Some p) None e = cc
same_is (Some p) (Some q) e =
    ⊎_elim (λ (h : p.0 ≡ q.0). ap (λ (k : ℕ). Some (record { 0 = k })) h) (λ (z : p.0 ≡ q.0 → ⊥). let h : eqb p.0 q.0 ≡ false = ne_eqb p.0 q.0 z in cc)
    (cases_eq p.0 q.0)

same_self : (o : Option ControlPage) → same o o ≡ true
same_self None = refl
same_self (Some p) = eq-eqb p.0 p.0 refl

module _ (m : Memory) (o n : Option ControlPage) (eo : o ≡ found (running m)) (en : n ≡ found (chosen m)) where
  pub turn_stays : true ≡ same o n → m ≡ who_runs m
  unfolding Turn.who_runs Turn.switch
  turn_stays e =
      let h : running m ≡ chosen m = found_one (running m) (chosen m) (sym eo ∙ same_is o n e ∙ en) in rw (eq-eqb (running m) (chosen m) h)

  pub turn_changes : (m₁ m₂ m₃ : Memory) → false ≡ same o n → m₁ ≡ save m (running m) → m₂ ≡ load m₁ (chosen m) → m₃ ≡ runs m₂ (chosen m) → m₃ ≡ who_runs m
  unfolding Turn.who_runs Turn.switch
  turn_changes m₁ m₂ m₃ e e₁ e₂ e₃ =
      let z : running m ≡ chosen m → ⊥ =
      λ h. let k : o ≡ n = eo ∙ ap found h ∙ sym en in let t : same o n ≡ true = subst (λ r. same o r ≡ true) k (same_self o) in cc in
      rw (ne_eqb (running m) (chosen m) z, ← e₁, ← e₂) e₃

-- k is the number of the page, or 0
module _ (m m₁ : Memory) (o : Option ControlPage) (k : ℕ) (eo : o ≡ found k) where
  pub saved_none : o ≡ None → m ≡ save m k
  unfolding Turn.save
  saved_none e = rw (eq-eqb k 0 (none_is k (sym e ∙ eo)))

  pub saved_some : (p : ControlPage) → o ≡ Some p → m₁ ≡ kept kept_count m p.0 (on_page0 m) → m₁ ≡ save m k
  unfolding Turn.save
  saved_some p e e₁ = rw (ne_eqb k 0 (some_not k p (sym e ∙ eo)), ← (some_is k p (sym e ∙ eo))) e₁

  pub loaded_none : o ≡ None → m ≡ load m k
  unfolding Turn.load
  loaded_none e = rw (eq-eqb k 0 (none_is k (sym e ∙ eo)))

  pub loaded_some : (p : ControlPage) → o ≡ Some p → m₁ ≡ restored kept_count m (kept_on m p.0) → m₁ ≡ load m k
  unfolding Turn.load
  loaded_some p e e₁ = rw (ne_eqb k 0 (some_not k p (sym e ∙ eo)), ← (some_is k p (sym e ∙ eo))) e₁

  pub runs_none : o ≡ None → m₁ ≡ runs m 0 → m₁ ≡ runs m k
  runs_none e e₁ = rw (none_is k (sym e ∙ eo)) e₁

  pub runs_some : (p : ControlPage) → o ≡ Some p → m₁ ≡ runs m p.0 → m₁ ≡ runs m k
  runs_some p e e₁ = rw (← (some_is k p (sym e ∙ eo))) e₁
