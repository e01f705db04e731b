-- Words copied: each word of the target holds what its word of the source held, where source and target do not overlap. Assumes nothing.
use Rattle.std.specs.Prelude.{◌≡◌, ◌≢◌, List, ℕ, zero, suc, ◌+◌, ◌%◌, ◌≤◌, ◌<◌, length, get_or, set}
use Rattle.std.proofs.Common.{◌∙◌, arith, length-set, get_or-set_same}
use Rattle.model.specs.Map.{memory_size}
use Rattle.model.specs.Address.{wrapped}
use Rattle.model.specs.Address as Address
use Rattle.model.specs.Bytes.{copy}
use Rattle.laws.specs.Frames.{other, copy_far}
use Rattle.history.specs.Letter.{words, next_sum, first_sum, sum_below}

-- n words from a on and n words from b on have none in common
abbrev pub Apart : ℕ → ℕ → ℕ → Type 0
Apart n a b = (i j : ℕ) → i < n → j < n → wrapped a i ≢ wrapped b j

not_back : (n b j : ℕ) → b < memory_size → suc n ≤ memory_size → j < n → b ≢ (wrapped b 1 + j) % memory_size
not_back n b j l u h = rw (next_sum b j) (omega arith)

pub copy_at : (n : ℕ) (m : List ℕ) (a b : ℕ) → length m ≡ memory_size → n ≤ memory_size → a < memory_size → b < memory_size → Apart n a b → (i : ℕ) → i < n
    → get_or (copy n m a b) (wrapped b i) 0 ≡ get_or m (wrapped a i) 0
unfolding Address.copy
copy_at zero m a b z l la lb f i h = absurd (omega arith)
copy_at (suc n) m a b z l la lb f zero h =
    let ea : wrapped a 0 ≡ a = first_sum a la in
    let eb : wrapped b 0 ≡ b = first_sum b lb in
    rw (ea, eb) (copy_far n (set m b (get_or m a 0)) (wrapped a 1) (wrapped b 1) b (sum_below b) (λ j k. not_back n b j lb l k)
    ∙ get_or-set_same m b (get_or m a 0) 0 (omega arith))
copy_at (suc n) m a b z l la lb f (suc i) h =
    let ea : (wrapped a 1 + i) % memory_size ≡ (a + suc i) % memory_size = next_sum a i in
    let eb : (wrapped b 1 + i) % memory_size ≡ (b + suc i) % memory_size = next_sum b i in
    let e0 : wrapped b 0 ≡ b = first_sum b lb in
    let d : (a + suc i) % memory_size ≢ b = rw e0 at (f (suc i) 0 h (omega arith)) in
    let ih = copy_at n (set m b (get_or m a 0)) (wrapped a 1) (wrapped b 1) (simp length-set z) (omega arith) (sum_below a) (sum_below b)
    (λ x y hx hy.
    let ex : (wrapped a 1 + x) % memory_size ≡ (a + suc x) % memory_size = next_sum a x in
    let ey : (wrapped b 1 + y) % memory_size ≡ (b + suc y) % memory_size = next_sum b y in
    rw (ex, ey) (f (suc x) (suc y) (omega arith) (omega arith))) i (omega arith) in
    rw (ea, eb) at ih ∙ other m b (get_or m a 0) ((a + suc i) % memory_size) d

-- the i-th word of a text
pub words_at : (m : List ℕ) (a n i : ℕ) → a < memory_size → i < n → get_or (words m a n) i 0 ≡ get_or m (wrapped a i) 0
unfolding words
words_at m a zero i la h = absurd (omega arith)
words_at m a (suc n) zero la h = let e : wrapped a 0 ≡ a = first_sum a la in rw e
words_at m a (suc n) (suc i) la h =
    let e : (wrapped a 1 + i) % memory_size ≡ (a + suc i) % memory_size = next_sum a i in
    rw e at (words_at m (wrapped a 1) n i (sum_below a) (omega arith))
