-- Memory map: "A header holds the first page, a link the next, 0 ends." What a walk meets, what joining and leaving store, and what of a chain
-- a store elsewhere leaves. Page x links through its word k. Assumes nothing.
use Rattle.std.specs.Prelude.{◌≡◌, refl, ◌≢◌, ◌⊎◌, List, [], ◌∷◌, ◌++◌, ℕ, zero, suc, ◌≤◌, ◌<◌, length, get_or, set}
use Rattle.std.proofs.Common.{sym, ap, ◌∙◌, inl, inr, arith, length-set, get_or-set_same, get_or-set_other, eq-eqb, ne_eqb}
use Rattle.model.specs.Map.{control_pages, first_control, last_control, memory_size, page_size, place}
use Rattle.model.specs.Bytes.{store, word}
use Rattle.model.specs.Store.{bytes}
use Rattle.model.specs.Queue as Queue
use Rattle.model.specs.Lists.{count}
use Rattle.model.specs.Walks.{last_cell}
use Rattle.laws.specs.Count.{hit_self, hit_other, hit_or, count_append, count_ne, count_mid}

abbrev pub Page : ℕ → Type 0
Page x = (first_control ≤ x) × (x < suc last_control)

-- from the cell a the links k lead through exactly the pages xs, and then to 0
abbrev pub Chain : List ℕ → ℕ → ℕ → List ℕ → Type 0
Chain m k a [] = get_or m a 0 ≡ 0
Chain m k a (x ∷ xs) = (get_or m a 0 ≡ x) × Page x × Chain m k (place x k) xs

abbrev pub walk : ℕ → List ℕ → ℕ → ℕ → List ℕ
walk = Queue.walk bytes

-- ---- walk and Chain
pub walk_end : (n : ℕ) (m : List ℕ) (k a : ℕ) → get_or m a 0 ≡ 0 → walk n m k a ≡ []
unfolding Queue.walk
walk_end zero m k a e = refl
walk_end (suc n) m k a e = rw (eq-eqb (get_or m a 0) 0 e, Queue.walk)

pub walk_step : (n : ℕ) (m : List ℕ) (k a : ℕ) → get_or m a 0 ≢ 0 → walk (suc n) m k a ≡ get_or m a 0 ∷ walk n m k (place (get_or m a 0) k)
unfolding Queue.walk
walk_step n m k a h = rw (ne_eqb (get_or m a 0) 0 h, Queue.walk)

pub walk_chain : (n : ℕ) (m : List ℕ) (k a : ℕ) (xs : List ℕ) → Chain m k a xs → length xs ≤ n → walk n m k a ≡ xs
walk_chain n m k a [] c h = walk_end n m k a c
walk_chain zero m k a (x ∷ xs) c h = absurd (omega arith)
walk_chain (suc n) m k a (x ∷ xs) c h = rw (walk_step n m k a (omega arith), c.0, walk_chain n m k (place x k) xs c.2 (omega arith))

-- all the pages that a walk met
abbrev pub Pages : List ℕ → Type 0
Pages [] = Unit {0}
Pages (x ∷ xs) = Page x × Pages xs

-- a walk that came to its end before its fuel did: what the judge computes
pub chain_walk : (n : ℕ) (m : List ℕ) (k a : ℕ) → length (walk n m k a) < n → Pages (walk n m k a) → Chain m k a (walk n m k a)
chain_walk zero m k a h p = absurd (omega arith)
chain_walk (suc n) m k a h p = go (hit_or (get_or m a 0) 0) (chain_walk n m k (place (get_or m a 0) k))
  where
    go : (get_or m a 0 ≡ 0) ⊎ (get_or m a 0 ≢ 0) → (let c = place (get_or m a 0) k in length (walk n m k c) < n → Pages (walk n m k c) → Chain m k c (walk n m k c))
        → Chain m k a (walk (suc n) m k a)
    go (inl e) ih = rw (walk_end (suc n) m k a e) e
    go (inr e) ih =
        let h2 = rw (walk_step n m k a e) at h in
        let p2 = rw (walk_step n m k a e) at p in
        rw (walk_step n m k a e) (refl, p2.0, ih (omega arith) p2.1)

-- ---- one general frame: the cell may change its place, and the pages keep their links
pub chain_move : (m m' : List ℕ) (k c a : ℕ) (xs : List ℕ) → get_or m' a 0 ≡ get_or m c 0
    → ((x : ℕ) → 1 ≤ count x xs → word m' x k ≡ word m x k) → Chain m k c xs → Chain m' k a xs
chain_move m m' k c a [] e f h = e ∙ h
chain_move m m' k c a (x ∷ xs) e f h =
    (e ∙ h.0, h.1, chain_move m m' k (place x k) (place x k) xs (f x (omega (arith, hit_self x))) (λ z i. f z (omega arith)) h.2)

-- no link of xs is at b
abbrev pub Off : ℕ → ℕ → List ℕ → Type 0
Off b k xs = (x : ℕ) → 1 ≤ count x xs → b ≢ place x k

-- a store elsewhere
pub chain_put : (m : List ℕ) (b v k a : ℕ) (xs : List ℕ) → b ≢ a → Off b k xs → Chain m k a xs → Chain (set m b v) k a xs
chain_put m b v k a xs n o h = chain_move m (set m b v) k a a xs (get_or-set_other m b a v 0 (omega arith)) (λ x i. get_or-set_other m b (place x k) v 0
    (λ e. o x i (sym e))) h

-- a page that is not in xs has no link in it
pub off_page : (q j k : ℕ) (xs : List ℕ) → j < page_size → k < page_size → count q xs ≡ 0 → Off (place q j) k xs
off_page q j k xs hj hk n x i = let d : x ≢ q = count_ne x q xs n i in omega arith

pub off_word : (q j k : ℕ) (xs : List ℕ) → j < page_size → k < page_size → j ≢ k → Off (place q j) k xs
off_word q j k xs hj hk n x i = omega arith

-- ---- join: at the end, with link 0
-- the cell that ends the chain
abbrev pub last : ℕ → ℕ → List ℕ → ℕ
last = last_cell

cell_end : (n : ℕ) (m : List ℕ) (k a : ℕ) (xs : List ℕ) → Chain m k a xs → length xs ≤ n → Queue.cell_of bytes n m k a 0 ≡ last k a xs
unfolding Queue.cell_of
cell_end zero m k a [] c h = refl
cell_end (suc n) m k a [] c h = rw (eq-eqb (get_or m a 0) 0 c, Queue.cell_of)
cell_end zero m k a (x ∷ xs) c h = absurd (omega arith)
cell_end (suc n) m k a (x ∷ xs) c h = rw (ne_eqb (get_or m a 0) 0 (omega arith), Queue.cell_of, c.0) (cell_end n m k (place x k) xs c.2 (omega arith))

pub join_is : (m : List ℕ) (k a p : ℕ) (xs : List ℕ) → Chain m k a xs → length xs ≤ control_pages → a ≢ place p k → Off (place p k) k xs
    → Queue.join bytes m a k p ≡ set (store m p k 0) (last k a xs) p
unfolding Queue.join
join_is m k a p xs c h n o = rw (cell_end control_pages (store m p k 0) k a xs (chain_put m (place p k) 0 k a xs (λ e. n (sym e)) o c) h)

pub last_in : (k a : ℕ) (x : ℕ) (xs : List ℕ) → (z : ℕ) × (1 ≤ count z (x ∷ xs)) × (last k a (x ∷ xs) ≡ place z k)
last_in k a x [] = (x, omega (arith, hit_self x), refl)
last_in k a x (y ∷ ys) = let r = last_in k (place x k) y ys in (r.0, omega (arith, r.1), r.2)

-- a word that is neither the header nor a link of the list is not the one that ends it
pub last_not : (k a : ℕ) (xs : List ℕ) (b : ℕ) → b ≢ a → ((z : ℕ) → 1 ≤ count z xs → b ≢ place z k) → b ≢ last k a xs
last_not k a [] b n o = n
last_not k a (y ∷ ys) b n o = let r = last_in k a y ys in rw r.2 (o r.0 r.1)

abbrev pub NoDup : List ℕ → Type 0
NoDup xs = (z : ℕ) → count z xs ≤ 1

off_next : (x k : ℕ) (xs : List ℕ) → k < page_size → NoDup (x ∷ xs) → Off (place x k) k xs
off_next x k xs hk d = off_page x k k xs hk hk (omega (arith, d x, hit_self x))

pub chain_join : (m : List ℕ) (k a p : ℕ) (xs : List ℕ) → length m ≡ memory_size → a < memory_size → k < page_size → Page p → a ≢ place p k → Off a k xs
    → NoDup (p ∷ xs) → Chain m k a xs → Chain (set (store m p k 0) (last k a xs) p) k a (xs ++ p ∷ [])
chain_join m k a p [] hm ha hk hp np o d c = (
  get_or-set_same (store m p k 0) a p 0 (rw length-set (omega arith)),
  hp,
  get_or-set_other (store m p k 0) a (place p k) p 0 (omega arith) ∙ get_or-set_same m (place p k) 0 0 (omega arith),
)
chain_join m k a p (x ∷ xs) hm ha hk hp np o d c =
    let l = last_in k a x xs in (
      get_or-set_other (store m p k 0) (last k a (x ∷ xs)) a p 0 (rw l.2 (o l.0 l.1)) ∙ get_or-set_other m (place p k) a 0 0 np ∙ c.0,
      c.1,
      chain_join m k (place x k) p xs hm (omega arith) hk hp (let e = count_ne x p (x ∷ xs) (omega (arith, d p, hit_self p)) (omega (arith, hit_self x))
          in omega arith) (off_next x k xs hk (λ z. omega (arith, d z))) (λ z. omega (arith, d z)) c.2,
    )

-- ---- leave: what pointed to p points behind it, and p's link is 0
cell_page : (n : ℕ) (m : List ℕ) (k a p : ℕ) (xs ys : List ℕ) → Chain m k a (xs ++ p ∷ ys) → length xs ≤ n → count p xs ≡ 0
    → Queue.cell_of bytes n m k a p ≡ last k a xs
unfolding Queue.cell_of
cell_page zero m k a p [] ys c h z = refl
cell_page (suc n) m k a p [] ys c h z = rw (eq-eqb (get_or m a 0) p c.0, Queue.cell_of)
cell_page zero m k a p (x ∷ xs) ys c h z = absurd (omega arith)
cell_page (suc n) m k a p (x ∷ xs) ys c h z =
    let e = count_ne x p (x ∷ xs) z (omega (arith, hit_self x)) in
    rw (ne_eqb (get_or m a 0) p (omega arith), Queue.cell_of, c.0) (cell_page n m k (place x k) p xs ys c.2 (omega arith) (omega arith))

pub leave_is : (m : List ℕ) (k a p : ℕ) (xs ys : List ℕ) → Chain m k a (xs ++ p ∷ ys) → length xs ≤ control_pages → count p xs ≡ 0
    → Queue.leave bytes m a k p ≡ store (set m (last k a xs) (word m p k)) p k 0
unfolding Queue.leave
leave_is m k a p xs ys c h z = rw (cell_page control_pages m k a p xs ys c h z)

pub chain_leave : (m : List ℕ) (k a p : ℕ) (xs ys : List ℕ) → length m ≡ memory_size → a < memory_size → k < page_size → Off a k (xs ++ p ∷ ys)
    → NoDup (xs ++ p ∷ ys) → Chain m k a (xs ++ p ∷ ys) → Chain (store (set m (last k a xs) (word m p k)) p k 0) k a (xs ++ ys)
chain_leave m k a p [] ys hm ha hk o d c =
    let v = word m p k in
    chain_move m (store (set m a v) p k 0) k (place p k) a ys
    (get_or-set_other (set m a v) (place p k) a 0 0 (o p (omega (arith, hit_self p))) ∙ get_or-set_same m a v 0 (omega arith))
    (λ x i. let e : x ≢ p = count_ne x p ys (omega (arith, d p, hit_self p)) i in
    get_or-set_other (set m a v) (place p k) (place x k) 0 0 (omega arith) ∙ get_or-set_other m a (place x k) v 0 (λ q. o x (omega arith) (sym q)))
    c.2
chain_leave m k a p (x ∷ xs) ys hm ha hk o d c =
    let v = word m p k in
    let l = last_in k a x xs in (
      get_or-set_other (set m (last k a (x ∷ xs)) v) (place p k) a 0 0 (o p (count_mid p (x ∷ xs) ys))
          ∙ get_or-set_other m (last k a (x ∷ xs)) a v 0 (rw l.2 (o l.0 (omega (arith, l.1, count_append l.0 xs (p ∷ ys))))) ∙ c.0,
      c.1,
      chain_leave m k (place x k) p xs ys hm (omega arith) hk (off_next x k (xs ++ p ∷ ys) hk d) (λ z. omega (arith, d z)) c.2,
    )

-- where a page stands
pub split_at_page : (p : ℕ) (zs : List ℕ) → 1 ≤ count p zs → (xs ys : List ℕ) × (zs ≡ xs ++ p ∷ ys) × (count p xs ≡ 0)
split_at_page p [] h = absurd (omega arith)
split_at_page p (z ∷ zs) h = go (hit_or p z) (split_at_page p zs)
  where
    go : (p ≡ z) ⊎ (p ≢ z) → (1 ≤ count p zs → (xs ys : List ℕ) × (zs ≡ xs ++ p ∷ ys) × (count p xs ≡ 0)) → (xs ys : List ℕ) × (z ∷ zs ≡ xs ++ p ∷ ys) ×
        (count p xs ≡ 0)
    go (inl e) ih = ([], zs, rw e, refl)
    go (inr e) ih = let r = ih (omega (arith, hit_other p z e)) in (z ∷ r.0, r.1, ap {B = List ℕ} (λ l. z ∷ l) r.2, omega (arith, r.3, hit_other p z e))
