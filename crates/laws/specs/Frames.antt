-- What stays when words change that the judge does not look at: page 0 and unprotected words, registers and kept words of a processor; and when only
-- one control page, which is in hand, changes. Assumes nothing.
use Rattle.std.specs.Prelude.{◌≡◌, refl, ◌≢◌, ◌⊎◌, List, ℕ, zero, suc, ◌+◌, ◌*◌, ◌%◌, ◌≤◌, ◌<◌, length, get_or, set}
use Rattle.std.proofs.Common.{sym, ◌∙◌, inl, inr, arith, length-set, get_or-set_other}
use Rattle.model.specs.Map as Map
use Rattle.model.specs.Map.{c3, clock_line, code_word, divider, entry_after, first_unused, free_semaphore, grant_for, grants, guarded_from, guarded_to, link}
use Rattle.model.specs.Map.{list_link, memory_size, own_semaphore, page_size, place, processor_list, running_page, semaphore_after, word_a, word_values}
use Rattle.model.specs.Address.{wrapped}
use Rattle.model.specs.Bytes.{store, word, copy, zeroed}
use Rattle.model.specs.Address as Address
use Rattle.model.specs.Lists.{count, Lists, link_of, queues}
use Rattle.laws.specs.Count.{hit_or}
use Rattle.laws.specs.Chain.{Page, chain_move}
use Rattle.laws.specs.Queues.{link_procs, link_other}
use Rattle.laws.specs.Heads.{Place, Seat, seat_of}
use Rattle.laws.specs.Heads.Place.{int, three, grant, slot}
use Rattle.laws.specs.Heads.Seat.{line, page, own}
use Rattle.laws.specs.Uses.{Among, Head, head_place, Sep, proc_page}
use Rattle.laws.specs.Places.{in_grant, all_pages_lem}
use Rattle.laws.specs.Inv.{View, Fixed, Holds, Mem, Base, Inv}
use Rattle.laws.specs.Judged.{WellFormed, well_formed_lem, invariant}

-- a store elsewhere
pub other : (m : List ℕ) (b v a : ℕ) → a ≢ b → get_or (set m b v) a 0 ≡ get_or m a 0
other m b v a n = get_or-set_other m b a v 0 (omega arith)

-- ---- heads, links and grants
pub holds_kept : (m m' : List ℕ) (ps : List ℕ) (L : Lists) → Sep ps L → ((a : ℕ) → Among ps a → get_or m' a 0 ≡ get_or m a 0)
    → ((a x : ℕ) → Among ps a → a ≢ processor_list → 1 ≤ count x (L a) → word m' x link ≡ word m x link)
    → ((x : ℕ) → 1 ≤ count x ps → word m' x list_link ≡ word m x list_link) → Holds m ps L → Holds m' ps L
holds_kept m m' ps L s heads zeros ones h = record {
  rep = λ a i. chain_move m m' (link_of a) a a (L a) (heads a i.0) (λ x c. go a i x c (hit_or a processor_list)) (h.rep a i);
  grant = λ k i. rw (heads (grant_for k) (in_grant ps k i)) (h.grant k i);
}
  where
    go : (a : ℕ) → Head ps a → (x : ℕ) → 1 ≤ count x (L a) → (a ≡ processor_list) ⊎ (a ≢ processor_list)
        → word m' x (link_of a) ≡ word m x (link_of a)
    go a i x c (inl e) = rw (e, link_procs) (ones x (rw (e, s.procs) at c))
    go a i x c (inr n) = rw (link_other a n) (zeros a x i.0 n c)

-- ---- the counters, the words of who runs, pages 8 and 9
pub fixed_same : {m m' : List ℕ} {l c : ℕ → ℕ} {n : ℕ} {e : ℕ → ℕ} → ((a : ℕ) → clock_line ≤ a → a ≤ c3 → get_or m' a 0 ≡ get_or m a 0)
    → ((a : ℕ) → running_page ≤ a → a ≤ divider → get_or m' a 0 ≡ get_or m a 0) → ((a : ℕ) → code_word 0 ≤ a → a < grants → get_or m' a 0 ≡ get_or m a 0)
    → Fixed m l c n e → Fixed m' l c n e
fixed_same clock turn rest f = record {
  clock = λ a h i. clock a h i ∙ f.clock a h i;
  turn = λ a h i. turn a h i ∙ f.turn a h i;
  code = λ k h. rest (code_word k) (omega arith) (omega arith) ∙ f.code k h;
  next = rest first_unused (omega arith) (omega arith) ∙ f.next;
  entry = λ i h. rest (entry_after i) (omega arith) (omega arith) ∙ f.entry i h;
}

-- ---- the semaphores
pub seat_same : (m m' : List ℕ) {ps : List ℕ} → ((a : ℕ) → semaphore_after 0 ≤ a → a ≤ free_semaphore → get_or m' a 0 ≡ get_or m a 0)
    → ((p : ℕ) → 1 ≤ count p ps → word m' p own_semaphore ≡ word m p own_semaphore) → (a : ℕ) → Seat ps a → get_or m' a 0 ≡ get_or m a 0
seat_same m m' low page-3 a (line k u e) = low a (omega arith) (omega arith)
seat_same m m' low page-3 a (page e) = low a (omega arith) (omega arith)
seat_same m m' low page-3 a (own p u e) = rw e (page-3 p u)

-- ---- the judged words stay
pub record Kept (m m' : List ℕ) : Type 0 where
  pub size : length m' ≡ length m
  pub fixed : (a : ℕ) → guarded_from ≤ a → a < guarded_to → get_or m' a 0 ≡ get_or m a 0
  pub words : (p j : ℕ) → Page p → j ≤ Map.label → word m' p j ≡ word m p j
  pub state : (p : ℕ) → Page p → word m' p Map.state ≡ word m p Map.state

module _ {m m' : List ℕ} (k : Kept m m') where
  kept_heads : {ps : List ℕ} {L : Lists} → Sep ps L → (a : ℕ) → Among ps a → get_or m' a 0 ≡ get_or m a 0
  kept_heads {ps} {L} s a h = go (head_place ps a h)
    where
      go : Place ps a → get_or m' a 0 ≡ get_or m a 0
      go (int n u v) = k.fixed a (omega arith) (omega arith)
      go (three u v w) = k.fixed a (omega arith) (omega arith)
      go (grant u v) = k.fixed a (omega arith) (omega arith)
      go (slot t) = rw t.is (k.words t.page t.word (proc_page s t.page t.proc) (omega arith))

  kept_sems : {ps : List ℕ} {L : Lists} → Sep ps L → (a : ℕ) → 1 ≤ count (a + 1) (queues ps) → get_or m' a 0 ≡ get_or m a 0
  kept_sems {ps} s a h =
      seat_same m m' (λ a i j. k.fixed a (omega arith) (omega arith)) (λ p u. k.words p own_semaphore (proc_page s p u) (omega arith)) a (seat_of ps a h)

  pub mem_kept : {ps : List ℕ} {L : Lists} {W : View} → Sep ps L → Mem m ps L W → Mem m' ps L W
  mem_kept {ps} {L} {W} s x =
      let p = x.reads.words in
      record {
        size = k.size ∙ x.size;
        holds = holds_kept m m' ps L s (kept_heads s) (λ a y h n c. k.words y link (all_pages_lem s a y h c) (omega arith))
            (λ y h. k.words y list_link (proc_page s y h) (omega arith)) x.holds;
        reads = record {
          words = record {
            note = λ y h n. k.words y Map.note h (omega arith) ∙ p.note y h n;
            size = λ y h n. k.words y Map.size h (omega arith) ∙ p.size y h n;
            reason = λ y h i. k.words y Map.reason h (omega arith) ∙ p.reason y h i;
            label = λ y h. k.words y Map.label h (omega arith) ∙ p.label y h;
            state = λ y h. k.state y h ∙ p.state y h;
          };
          fixed = fixed_same (λ a h i. k.fixed a (omega arith) (omega arith)) (λ a h i. k.fixed a (omega arith) (omega arith))
              (λ a h i. k.fixed a (omega arith) (omega arith)) x.reads.fixed;
          sems = λ a h. kept_sems s a h ∙ x.reads.sems a h;
        };
      }

  pub base_kept : {ps : List ℕ} {L : Lists} {W : View} {hs : List ℕ} {g : ℕ} → Base m ps L W hs g → Base m' ps L W hs g
  base_kept b = record { mem = mem_kept b.facts.sep b.mem; facts = b.facts; all = b.all }

  pub inv_kept : {ps : List ℕ} {L : Lists} {W : View} → Inv m ps L W → Inv m' ps L W
  inv_kept i = record { base = base_kept i.base; best = i.best }

  pub kept_keeps : WellFormed m → WellFormed m'
  kept_keeps w = well_formed_lem (inv_kept (invariant w))

pub kept_refl : (m : List ℕ) → Kept m m
kept_refl m = record { size = refl; fixed = λ a i j. refl; words = λ p j h i. refl; state = λ p h. refl }

pub kept_on_lem : {m m1 m2 : List ℕ} → Kept m m1 → Kept m1 m2 → Kept m m2
kept_on_lem f g = record {
  size = g.size ∙ f.size;
  fixed = λ a i j. g.fixed a i j ∙ f.fixed a i j;
  words = λ p j h i. g.words p j h i ∙ f.words p j h i;
  state = λ p h. g.state p h ∙ f.state p h;
}

-- ---- a store to a word that is not judged
pub record Quiet (b : ℕ) : Type 0 where
  pub fixed : (a : ℕ) → guarded_from ≤ a → a < guarded_to → a ≢ b
  pub words : (p j : ℕ) → Page p → j ≤ Map.label → place p j ≢ b
  pub state : (p : ℕ) → Page p → place p Map.state ≢ b

pub kept_set : {m m' : List ℕ} (b v : ℕ) → Quiet b → Kept m m' → Kept m (set m' b v)
kept_set {m} {m'} b v q k = record {
  size = simp length-set k.size;
  fixed = λ a i j. other m' b v a (q.fixed a i j) ∙ k.fixed a i j;
  words = λ p j h i. other m' b v (place p j) (q.words p j h i) ∙ k.words p j h i;
  state = λ p h. other m' b v (place p Map.state) (q.state p h) ∙ k.state p h;
}

pub quiet_low : (b : ℕ) → b < guarded_from → Quiet b
quiet_low b u = record { fixed = λ a i j. omega arith; words = λ p j h i. omega arith; state = λ p h. omega arith }

pub quiet_word : (q w b : ℕ) → Page q → word_a ≤ w → w < page_size → w ≢ Map.state → b ≡ place q w → Quiet b
quiet_word q w b g l u n e = record { fixed = λ a i j. omega arith; words = λ p j h i. omega arith; state = λ p h. omega arith }

-- ---- only words of page q change
pub record Only (q : ℕ) (m m' : List ℕ) : Type 0 where
  pub size : length m' ≡ length m
  pub below : (a : ℕ) → a < q * page_size → get_or m' a 0 ≡ get_or m a 0
  pub above : (a : ℕ) → q * page_size + page_size ≤ a → get_or m' a 0 ≡ get_or m a 0

pub only_refl : (q : ℕ) (m : List ℕ) → Only q m m
only_refl q m = record { size = refl; below = λ a h. refl; above = λ a h. refl }

pub only_set : {q : ℕ} {m m' : List ℕ} (b v : ℕ) → q * page_size ≤ b → b < q * page_size + page_size → Only q m m' → Only q m (set m' b v)
only_set {q} {m} {m'} b v l u o = record {
  size = simp length-set o.size;
  below = λ a h. other m' b v a (omega arith) ∙ o.below a h;
  above = λ a h. other m' b v a (omega arith) ∙ o.above a h;
}

-- ---- n words copied leave every other word
pub copy_far : (n : ℕ) (m : List ℕ) (a b c : ℕ) → b < memory_size → ((i : ℕ) → i < n → c ≢ wrapped b i) → get_or (copy n m a b) c 0 ≡ get_or m c 0
unfolding Address.copy
copy_far zero m a b c l f = refl
copy_far (suc n) m a b c l f =
    let e : wrapped b 0 ≡ b = omega arith in
    let f0 : c ≢ b = λ z. f 0 (omega arith) (z ∙ sym e) in
    copy_far n (set m b (get_or m a 0)) (wrapped a 1) (wrapped b 1) c (omega arith)
    (λ i h z. f (suc i) (omega arith) (z ∙ (let d : (wrapped b 1 + i) % memory_size ≡ (b + suc i) % memory_size = omega arith in d)))
    ∙ other m b (get_or m a 0) c f0

-- n words copied to words of page q
pub only_copy : {q : ℕ} {m : List ℕ} (n : ℕ) (m' : List ℕ) (a b : ℕ) → q < word_values → q * page_size ≤ b → b + n ≤ q * page_size + page_size → Only q m m'
    → Only q m (copy n m' a b)
unfolding Address.copy
only_copy zero m' a b i l u o = o
only_copy (suc zero) m' a b i l u o = only_set b (get_or m' a 0) l (omega arith) o
only_copy (suc (suc n)) m' a b i l u o =
    let w : wrapped b 1 ≡ b + 1 = omega arith in
    rw w (only_copy (suc n) (set m' b (get_or m' a 0)) (wrapped a 1) (b + 1) i (omega arith) (omega arith) (only_set b (get_or m' a 0) l (omega arith) o))

-- the first words of page q cleared
pub only_zeroed : {q : ℕ} {m : List ℕ} (n : ℕ) (m' : List ℕ) → q < word_values → n ≤ page_size → Only q m m' → Only q m (zeroed n m' (place q link))
unfolding Address.zeroed
only_zeroed zero m' i u o = o
only_zeroed {q} (suc n) m' i u o =
    let w : (place q link + n) % memory_size ≡ place q n = omega arith in
    rw w (only_zeroed n (store m' q n 0) i (omega arith) (only_set (place q n) 0 (omega arith) (omega arith) o))
