-- Memory map: "Joining is at the end, with link 0; a page that leaves has that link set to 0." All the chains of a memory at once: L says for each
-- header which pages hang from it, H which cells are headers now; one law for a page that joins, one for a page that leaves. Assumes nothing.
use Rattle.std.specs.Prelude.{◌≡◌, refl, ◌≢◌, ◌⊎◌, true, false, List, [], ◌∷◌, ◌++◌, ℕ, ◌+◌, ◌≤◌, ◌<◌, length, set, eqb}
use Rattle.std.proofs.Common.{sym, ◌∙◌, inl, inr, arith, eq-eqb, ne_eqb}
use Rattle.model.specs.Map.{first_control, memory_size, place, processor_list}
use Rattle.model.specs.Lists as Model
use Rattle.model.specs.Lists.{hit, count, link_of, Lists}
use Rattle.model.specs.Bytes.{store, word}
use Rattle.laws.specs.Count.{hit_le, hit_self, hit_other, hit_or, count_append, count_mid}
use Rattle.laws.specs.Chain.{Page, Chain, Off, NoDup, last, last_in, chain_put, off_page, off_word, chain_join, chain_leave}

pub link_le : (a : ℕ) → link_of a ≤ 1
unfolding Model.link_of
link_le a = hit_le (eqb a processor_list)

pub link_procs : link_of processor_list ≡ 1
unfolding Model.link_of
link_procs = refl

pub link_other : (a : ℕ) → a ≢ processor_list → link_of a ≡ 0
unfolding Model.link_of
link_other a n = hit_other a processor_list n

-- a page has no link in a list of another kind, nor in one of its kind where it is not
pub off_link : (q a b : ℕ) (xs : List ℕ) → (link_of b ≡ link_of a → count q xs ≡ 0) → Off (place q (link_of a)) (link_of b) xs
off_link q a b xs n = go (hit_or (link_of b) (link_of a))
  where
    go : (link_of b ≡ link_of a) ⊎ (link_of b ≢ link_of a) → Off (place q (link_of a)) (link_of b) xs
    go (inl e) = off_page q (link_of a) (link_of b) xs (omega (arith, link_le a)) (omega (arith, link_le b)) (n e)
    go (inr e) = off_word q (link_of a) (link_of b) xs (omega (arith, link_le a)) (omega (arith, link_le b)) (omega arith)

pub nodup_cons : (p : ℕ) (xs : List ℕ) → count p xs ≡ 0 → NoDup xs → NoDup (p ∷ xs)
nodup_cons p xs n d z = go (hit_or z p)
  where
    go : (z ≡ p) ⊎ (z ≢ p) → hit (eqb z p) + count z xs ≤ 1
    go (inl e) = rw e (omega (arith, hit_self p))
    go (inr e) = omega (arith, hit_other z p e, d z)

unfoldable pub upd : Lists → ℕ → List ℕ → Lists
upd L a xs b = elim (eqb b a) [ true ↦ xs | false ↦ L b ]

pub upd_same : (L : Lists) (a : ℕ) (xs : List ℕ) → upd L a xs a ≡ xs
unfolding upd
upd_same L a xs = rw (eq-eqb a a refl, upd)

pub upd_other : (L : Lists) (a b : ℕ) (xs : List ℕ) → b ≢ a → upd L a xs b ≡ L b
unfolding upd
upd_other L a b xs h = rw (ne_eqb b a h, upd)

-- two changes at two places
pub upd_swap : (L : Lists) (a b : ℕ) (xs ys : List ℕ) → a ≢ b → upd (upd L a xs) b ys ≡ upd (upd L b ys) a xs
upd_swap L a b xs ys n = λ i c. at c i
  where
    at : (c : ℕ) → upd (upd L a xs) b ys c ≡ upd (upd L b ys) a xs c
    at c = go (hit_or c a) (hit_or c b)
      where
        go : (c ≡ a) ⊎ (c ≢ a) → (c ≡ b) ⊎ (c ≢ b) → upd (upd L a xs) b ys c ≡ upd (upd L b ys) a xs c
        go (inl e) (inl f) = absurd (n (sym e ∙ f))
        go (inl e) (inr f) = rw (e, upd_other (upd L a xs) b a ys n, upd_same L a xs, upd_same (upd L b ys) a xs)
        go (inr e) (inl f) = rw (f, upd_same (upd L a xs) b ys, upd_other (upd L b ys) a b xs (λ d. n (sym d)), upd_same L b ys)
        go (inr e) (inr f) = rw (upd_other (upd L a xs) b c ys f, upd_other L a c xs e, upd_other (upd L b ys) a c xs e, upd_other L b c ys f)

abbrev pub Rep : List ℕ → (ℕ → Type 0) → Lists → Type 0
Rep m H L = (a : ℕ) → H a → Chain m (link_of a) a (L a)

-- a header is in the memory, and is no link of a control page
pub record Header (a : ℕ) : Type 0 where
  pub fits : a < memory_size
  pub free : (x k : ℕ) → first_control ≤ x → k ≤ 1 → a ≢ place x k

abbrev pub Good : (ℕ → Type 0) → Type 0
Good H = (a : ℕ) → H a → Header a

-- no page is in two queues of one kind, or twice in one
abbrev pub Apart : (ℕ → Type 0) → Lists → Type 0
Apart H L = (a b : ℕ) → H a → H b → a ≢ b → link_of a ≡ link_of b → (z : ℕ) → count z (L a) + count z (L b) ≤ 1

abbrev pub Single : (ℕ → Type 0) → Lists → Type 0
Single H L = (a : ℕ) → H a → NoDup (L a)

pub chain_pages : (m : List ℕ) (k a : ℕ) (xs : List ℕ) → Chain m k a xs → (z : ℕ) → 1 ≤ count z xs → Page z
chain_pages m k a [] c z h = absurd (omega arith)
chain_pages m k a (x ∷ xs) c z h = go (hit_or z x) (chain_pages m k (place x k) xs c.2 z)
  where
    go : (z ≡ x) ⊎ (z ≢ x) → (1 ≤ count z xs → Page z) → Page z
    go (inl e) ih = omega arith
    go (inr e) ih = ih (omega (arith, hit_other z x e))

-- a cell of the chain that hangs from a
abbrev pub CellOf : ℕ → ℕ → List ℕ → Type 0
CellOf c a xs = (c ≡ a) ⊎ ((z : ℕ) × (1 ≤ count z xs) × (c ≡ place z (link_of a)))

pub last_cell_lem : (a : ℕ) (xs : List ℕ) → CellOf (last (link_of a) a xs) a xs
last_cell_lem a [] = inl refl
last_cell_lem a (x ∷ xs) = inr (last_in (link_of a) a x xs)

module _ (m : List ℕ) (H : ℕ → Type 0) (L : Lists) (hm : length m ≡ memory_size) (good : Good H) (apart : Apart H L) (single : Single H L)
    (rep : Rep m H L) where
  page_of_lem : (a z : ℕ) → H a → 1 ≤ count z (L a) → first_control ≤ z
  page_of_lem a z ia i = (chain_pages m (link_of a) a (L a) (rep a ia) z i).0

  -- no header is a link of a page that is in a chain
  off_head : (a b : ℕ) → H a → H b → Off a (link_of b) (L b)
  off_head a b ia ib x i = (good a ia).free x (link_of b) (page_of_lem b x ib i) (link_le b)

  -- a store to a cell of one chain leaves the others
  other_put : (m' : List ℕ) (a b c v : ℕ) → H a → H b → b ≢ a → CellOf c a (L a) → Chain m' (link_of b) b (L b) → Chain (set m' c v) (link_of b) b (L b)
  other_put m' a b c v ia ib n (inl e) h = chain_put m' c v (link_of b) b (L b) (omega arith) (rw e (off_head a b ia ib)) h
  other_put m' a b c v ia ib n (inr s) h =
      chain_put m' c v (link_of b) b (L b) (λ e. off_head b a ib ia s.0 s.1 (sym e ∙ s.2))
      (rw s.2 (off_link s.0 a b (L b) (λ e. omega (arith, apart b a ib ia n e s.0, s.1)))) h

  pub rep_join : (a p : ℕ) → H a → Page p → ((b : ℕ) → H b → link_of b ≡ link_of a → count p (L b) ≡ 0)
      → Rep (set (store m p (link_of a) 0) (last (link_of a) a (L a)) p) H (upd L a (L a ++ p ∷ []))
  rep_join a p ia hp new b ib = go (hit_or b a)
    where
      m1 : List ℕ
      m1 = store m p (link_of a) 0

      off : (b : ℕ) → H b → b ≢ place p (link_of a)
      off b ib = (good b ib).free p (link_of a) hp.0 (link_le a)

      go : (b ≡ a) ⊎ (b ≢ a) → Chain (set m1 (last (link_of a) a (L a)) p) (link_of b) b (upd L a (L a ++ p ∷ []) b)
      go (inl e) = rw (e, upd_same) (chain_join m (link_of a) a p (L a) hm (good a ia).fits (omega (arith, link_le a)) hp (off a ia) (off_head a a ia ia)
          (nodup_cons p (L a) (new a ia refl) (single a ia)) (rep a ia))
      go (inr n) = rw (upd_other L a b (L a ++ p ∷ []) n) (other_put m1 a b (last (link_of a) a (L a)) p ia ib n (last_cell_lem a (L a))
          (chain_put m (place p (link_of a)) 0 (link_of b) b (L b) (λ e. off b ib (sym e)) (off_link p a b (L b) (new b ib)) (rep b ib)))

  pub rep_leave : (a p : ℕ) (xs ys : List ℕ) → H a → L a ≡ xs ++ p ∷ ys
      → Rep (store (set m (last (link_of a) a xs) (word m p (link_of a))) p (link_of a) 0) H (upd L a (xs ++ ys))
  rep_leave a p xs ys ia e b ib = go (hit_or b a)
    where
      v : ℕ
      v = word m p (link_of a)

      c : ℕ
      c = last (link_of a) a xs

      own : CellOf c a xs → CellOf c a (L a)
      own (inl q) = inl q
      own (inr s) = inr (s.0, rw e (omega (arith, count_append s.0 xs (p ∷ ys), s.1)), s.2)

      go : (b ≡ a) ⊎ (b ≢ a) → Chain (store (set m c v) p (link_of a) 0) (link_of b) b (upd L a (xs ++ ys) b)
      go (inl q) = rw (q, upd_same) (chain_leave m (link_of a) a p xs ys hm (good a ia).fits (omega (arith, link_le a))
          (rw e at (off_head a a ia ia)) (rw e at (single a ia)) (rw e at (rep a ia)))
      go (inr n) = rw (upd_other L a b (xs ++ ys) n) (other_put (set m c v) a b (place p (link_of a)) 0 ia ib n
          (inr (p, rw e (count_mid p xs ys), refl))
          (other_put m a b c v ia ib n (own (last_cell_lem a xs)) (rep b ib)))
