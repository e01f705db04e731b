-- Say what is broken: walks that end at the first word that is no control page. What they meet, that it is the list where a list ends by 0, and which
-- heads the ruling counts. Assumes nothing.
use Rattle.std.specs.Prelude.{◌≡◌, refl, ◌≢◌, ◌⊎◌, Bool, true, false, ◌&&◌, List, [], ◌∷◌, ◌++◌, ℕ, zero, suc, ◌≤◌, ◌<◌, length, get_or, leb}
use Rattle.std.proofs.Common.{sym, ap, ◌∙◌, inl, inr, arith, leb-true, le-leb}
use Rattle.model.specs.Map.{page_size, place, grants, grant_for, first_control, last_control, control_pages, last_name}
use Rattle.model.specs.Store.{bytes}
use Rattle.model.specs.Lists as Lists
use Rattle.model.specs.Lists.{count, Lists, sum, some, link_of, is_grant, range, mails, uses}
use Rattle.model.specs.Walks as Walks
use Rattle.model.specs.Walks.{is_control, last_cell, gather}
use Rattle.model.specs.Classes.{used}
use Rattle.laws.specs.Count.{hit_self, hit_other, hit_or, count_append, zero_or}
use Rattle.laws.specs.Chain.{Page, Pages, Chain}
use Rattle.laws.specs.Heads.{one, page_one, sum_append, sum_pos}

abbrev pub path : ℕ → List ℕ → ℕ → ℕ → List ℕ
path = Walks.path bytes

abbrev pub met : List ℕ → Lists
met = Walks.met bytes

-- ---- control pages
pub control_page : (x : ℕ) → is_control x ≡ true → Page x
unfolding Walks.is_control
control_page x e = go (leb first_control x) (leb x last_control) refl refl e
  where
    go : (s t : Bool) → leb first_control x ≡ s → leb x last_control ≡ t → s && t ≡ true → Page x
    go true true f g e = (leb-true first_control x f, let l = leb-true x last_control g in omega arith)
    go true false f g e = let z : ◌≡◌ {A = ℕ} 0 1 = cc in absurd (omega arith)
    go false t f g e = let z : ◌≡◌ {A = ℕ} 0 1 = cc in absurd (omega arith)

pub page_control : (x : ℕ) → Page x → is_control x ≡ true
unfolding Walks.is_control
page_control x p = rw (le-leb first_control x p.0, le-leb x last_control (omega (arith, p.1)))

pub zero_control : (x : ℕ) → x ≡ 0 → is_control x ≡ false
unfolding Walks.is_control
zero_control x e = rw e

-- ---- one step
path_off : (n : ℕ) (m : List ℕ) (k a : ℕ) → is_control (get_or m a 0) ≡ false → path n m k a ≡ []
unfolding Walks.path
path_off zero m k a e = refl
path_off (suc n) m k a e = rw (e, Walks.path)

path_on : (n : ℕ) (m : List ℕ) (k a : ℕ) → is_control (get_or m a 0) ≡ true → path (suc n) m k a ≡ get_or m a 0 ∷ path n m k (place (get_or m a 0) k)
unfolding Walks.path
path_on n m k a e = rw (e, Walks.path)

path_none : (m : List ℕ) (k a : ℕ) → path 0 m k a ≡ []
unfolding Walks.path
path_none m k a = refl

pub path_pages : (n : ℕ) (m : List ℕ) (k a : ℕ) → Pages (path n m k a)
path_pages zero m k a = rw (path_none m k a) tt
path_pages (suc n) m k a = go (is_control (get_or m a 0)) refl (path_pages n m k (place (get_or m a 0) k))
  where
    go : (b : Bool) → is_control (get_or m a 0) ≡ b → Pages (path n m k (place (get_or m a 0) k)) → Pages (path (suc n) m k a)
    go true e ih = rw (path_on n m k a e) (control_page (get_or m a 0) e, ih)
    go false e ih = rw (path_off (suc n) m k a e) tt

-- a list that ends by 0 is what a walk meets
pub path_chain : (n : ℕ) (m : List ℕ) (k a : ℕ) (xs : List ℕ) → Chain m k a xs → length xs ≤ n → path n m k a ≡ xs
path_chain n m k a [] c h = path_off n m k a (zero_control (get_or m a 0) c)
path_chain zero m k a (x ∷ xs) c h = absurd (omega arith)
path_chain (suc n) m k a (x ∷ xs) c h =
    rw (path_on n m k a (page_control (get_or m a 0) (rw c.0 c.1)), c.0, path_chain n m k (place x k) xs c.2 (omega arith))

pub chain_last : (m : List ℕ) (k a : ℕ) (xs : List ℕ) → Chain m k a xs → get_or m (last_cell k a xs) 0 ≡ 0
chain_last m k a [] c = c
chain_last m k a (x ∷ xs) c = chain_last m k (place x k) xs c.2

-- a walk that met fewer pages than it might, and ended at 0 or a control page, ended at 0
abbrev pub Pointer : List ℕ → ℕ → Type 0
Pointer m a = get_or m a 0 ≢ 0 → (first_control ≤ get_or m a 0) × (get_or m a 0 ≤ last_control)

pub chain_path : (n : ℕ) (m : List ℕ) (k a : ℕ) → length (path n m k a) < n → Pointer m (last_cell k a (path n m k a)) → Chain m k a (path n m k a)
chain_path zero m k a h p = absurd (omega arith)
chain_path (suc n) m k a h p = go (is_control (get_or m a 0)) refl (chain_path n m k (place (get_or m a 0) k))
  where
    go : (b : Bool) → is_control (get_or m a 0) ≡ b
        → (let c = place (get_or m a 0) k in length (path n m k c) < n → Pointer m (last_cell k c (path n m k c)) → Chain m k c (path n m k c))
        → Chain m k a (path (suc n) m k a)
    go true e ih =
        let h2 = rw (path_on n m k a e) at h in
        let p2 = rw (path_on n m k a e) at p in
        rw (path_on n m k a e) (refl, control_page (get_or m a 0) e, ih (omega arith) p2)
    go false e ih = rw (path_off (suc n) m k a e) (ends (hit_or (get_or m a 0) 0) (rw (path_off (suc n) m k a e) at p))
      where
        ends : (get_or m a 0 ≡ 0) ⊎ (get_or m a 0 ≢ 0) → Pointer m a → get_or m a 0 ≡ 0
        ends (inl z) q = z
        ends (inr z) q =
            let r = q z in
            let c = page_control (get_or m a 0) (r.0, omega (arith, r.1)) in
            let y : ◌≡◌ {A = ℕ} 0 1 = cc in absurd (omega arith)

-- ---- the lists met
pub met_path : (m : List ℕ) (a : ℕ) → is_grant a ≡ false → met m a ≡ path (suc control_pages) m (link_of a) a
unfolding Walks.met Lists.reach
met_path m a e = rw e

pub met_one : (m : List ℕ) (a : ℕ) → is_grant a ≡ true → met m a ≡ path 1 m (link_of a) a
unfolding Walks.met Lists.reach
met_one m a e = rw e

pub met_pages : (m : List ℕ) (a : ℕ) → Pages (met m a)
met_pages m a = go (is_grant a) refl
  where
    go : (b : Bool) → is_grant a ≡ b → Pages (met m a)
    go true e = rw (met_one m a e) (path_pages 1 m (link_of a) a)
    go false e = rw (met_path m a e) (path_pages (suc control_pages) m (link_of a) a)

pub some_pos : (x : ℕ) → 1 ≤ x → some x ≡ x ∷ []
some_pos zero h = absurd (omega arith)
some_pos (suc n) h = refl

-- a grant is 0 or a control page
pub met_some : (m : List ℕ) (a : ℕ) → is_grant a ≡ true → Pointer m a → met m a ≡ some (get_or m a 0)
met_some m a e p = go (hit_or (get_or m a 0) 0)
  where
    go : (get_or m a 0 ≡ 0) ⊎ (get_or m a 0 ≢ 0) → met m a ≡ some (get_or m a 0)
    go (inl z) = met_one m a e ∙ path_off 1 m (link_of a) a (zero_control (get_or m a 0) z) ∙ sym (ap some z)
    go (inr n) =
        let r = p n in
        met_one m a e ∙ path_on 0 m (link_of a) a (page_control (get_or m a 0) (r.0, omega (arith, r.1)))
        ∙ ap (λ (l : List ℕ). get_or m a 0 ∷ l) (path_none m (link_of a) (place (get_or m a 0) (link_of a))) ∙ sym (some_pos (get_or m a 0) (omega (arith, r.0)))

pub met_none : (m : List ℕ) (a : ℕ) → is_grant a ≡ true → get_or m a 0 ≡ 0 → met m a ≡ []
met_none m a e z = met_one m a e ∙ path_off 1 m (link_of a) a (zero_control (get_or m a 0) z)

-- ---- counting
pub pages_page : (xs : List ℕ) → Pages xs → (z : ℕ) → 1 ≤ count z xs → Page z
pages_page [] p z h = absurd (omega arith)
pages_page (x ∷ xs) p z h = go (hit_or z x) (pages_page xs p.1 z)
  where
    go : (z ≡ x) ⊎ (z ≢ x) → (1 ≤ count z xs → Page z) → Page z
    go (inl e) ih = rw e p.0
    go (inr n) ih = ih (omega (arith, hit_other z x n))

pub none_else : (xs : List ℕ) → Pages xs → (z : ℕ) → one z ≡ 0 → count z xs ≡ 0
none_else xs p z e = go (zero_or (count z xs))
  where
    go : (count z xs ≡ 0) ⊎ (1 ≤ count z xs) → count z xs ≡ 0
    go (inl f) = f
    go (inr i) = absurd (omega (arith, page_one z (pages_page xs p z i)))

pub gather_sum : (z : ℕ) (L : Lists) (hs : List ℕ) → count z (gather L hs) ≡ sum z L hs
gather_sum z L [] = refl
gather_sum z L (a ∷ hs) = omega (arith, count_append z (L a) (gather L hs), gather_sum z L hs)

-- who is in one of the lists
pub record In (L : Lists) (hs : List ℕ) (z : ℕ) : Type 0 where
  pub head : ℕ
  pub here : 1 ≤ count head hs
  pub there : 1 ≤ count z (L head)

pub gather_of : (L : Lists) (hs : List ℕ) (z : ℕ) → 1 ≤ count z (gather L hs) → In L hs z
gather_of L [] z h = absurd (omega arith)
gather_of L (a ∷ hs) z h = go (zero_or (count z (L a))) (gather_of L hs z)
  where
    go : (count z (L a) ≡ 0) ⊎ (1 ≤ count z (L a)) → (1 ≤ count z (gather L hs) → In L hs z) → In L (a ∷ hs) z
    go (inl e) ih =
        let t = ih (omega (arith, count_append z (L a) (gather L hs))) in
        record { head = t.head; here = omega (arith, t.here); there = t.there }
    go (inr i) ih = record { head = a; here = omega (arith, hit_self a); there = i }

pub of_gather : (L : Lists) (hs : List ℕ) (a z : ℕ) → 1 ≤ count a hs → 1 ≤ count z (L a) → 1 ≤ count z (gather L hs)
of_gather L [] a z h i = absurd (omega arith)
of_gather L (b ∷ hs) a z h i = go (hit_or a b) (of_gather L hs a z)
  where
    go : (a ≡ b) ⊎ (a ≢ b) → (1 ≤ count a hs → 1 ≤ count z (L a) → 1 ≤ count z (gather L hs)) → 1 ≤ count z (gather L (b ∷ hs))
    go (inl e) ih = rw (← e) (omega (arith, count_append z (L a) (gather L hs)))
    go (inr n) ih = omega (arith, count_append z (L b) (gather L hs), ih (omega (arith, hit_other a b n)) i)

-- ---- words 1-15 of page 10, and all of them
abbrev pub spare : List ℕ
spare = grants ∷ range 16 1 (grant_for 16)

range_parts : range page_size 1 grants ≡ grants ∷ (range last_name 1 (grant_for 1) ++ range 16 1 (grant_for 16))
unfolding range
range_parts = refl

pub used_uses : (z : ℕ) (L : Lists) (ps : List ℕ) → ((a : ℕ) → 1 ≤ count a spare → L a ≡ []) → sum z L (uses ps) ≡ sum z L (used ps)
used_uses z L ps h =
    let n : sum z L spare ≡ 0 = sum_pos z L spare (λ a i. ap (count z) (h a i)) in
    let e : sum z L (range page_size 1 grants) ≡ sum z L (grants ∷ (range last_name 1 (grant_for 1) ++ range 16 1 (grant_for 16))) = ap (sum z L) range_parts in
    omega (
      arith,
      n,
      e,
      sum_append z L (mails ps) (range page_size 1 grants),
      sum_append z L (mails ps) (range last_name 1 (grant_for 1)),
      sum_append z L (range last_name 1 (grant_for 1)) (range 16 1 (grant_for 16)),
    )
