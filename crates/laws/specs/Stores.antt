-- What the memory holds after one store to a judged word, and after any change of a page that is in hand. Assumes nothing.
use Rattle.std.specs.Prelude.{◌≡◌, refl, ◌≢◌, ◌⊎◌, Bool, true, false, List, ℕ, ◌+◌, ◌-◌, ◌≤◌, ◌<◌, length, get_or, set, ltb}
use Rattle.std.proofs.Common.{ap, ◌∙◌, inl, inr, arith, length-set, get_or-set_same, ltb-true, ltb-false}
use Rattle.model.specs.Map as Map
use Rattle.model.specs.Map.{all_codes, clock_line, code_low, code_word, divider, entries, entries_full, entry_after, entry_at, first_unused, free_list}
use Rattle.model.specs.Map.{free_semaphore, grants, grants_end, guarded_last, header_after, interrupts, list_link, memory_size, own_semaphore, page_size}
use Rattle.model.specs.Map.{place, processor_list, q2, running_page, semaphore_after}
use Rattle.model.specs.Bytes.{store, word}
use Rattle.model.specs.Lists.{count, Lists, queues}
use Rattle.laws.specs.Count.{hit_or}
use Rattle.laws.specs.Chain.{Page}
use Rattle.laws.specs.Heads.{Place, Seat, seat_of}
use Rattle.laws.specs.Heads.Place.{int, three, grant, slot}
use Rattle.laws.specs.Heads.Seat.{line, page, own}
use Rattle.laws.specs.Uses.{Among, head_place, Sep, proc_page}
use Rattle.laws.specs.Places.{all_pages_lem}
use Rattle.laws.specs.Inv.{View, Col, Others, Words, Fixed, Holds, Mem}
use Rattle.laws.specs.Frames.{other, holds_kept, Only, fixed_same, seat_same}
use Rattle.laws.specs.Views.{put1, put1_same, put1_other, with_words, with_rest, with_state, with_reason, with_sem, with_low, with_code, with_entry, retold}

-- ---- one store
pub col_off : (m : List ℕ) (b v k : ℕ) (f : ℕ → ℕ) → ((p : ℕ) → Page p → place p k ≢ b) → Col m k f → Col (set m b v) k f
col_off m b v k f n c p h = other m b v (place p k) (n p h) ∙ c p h

pub col_on : (m : List ℕ) (q v k : ℕ) (f : ℕ → ℕ) → length m ≡ memory_size → Page q → k < page_size → Col m k f → Col (store m q k v) k (put1 f q v)
col_on m q v k f size g l c p h = go (hit_or p q)
  where
    go : (p ≡ q) ⊎ (p ≢ q) → word (store m q k v) p k ≡ put1 f q v p
    go (inl e) = rw (put1_same f q v p e, e) (get_or-set_same m (place q k) v 0 (omega arith))
    go (inr n) = rw (put1_other f q v p n) (other m (place q k) v (place p k) (omega arith) ∙ c p h)

-- b is no head and no link
pub record Loose (b : ℕ) : Type 0 where
  pub int : (k : ℕ) → k < interrupts → header_after k ≢ b
  pub three : (a : ℕ) → free_list ≤ a → a ≤ processor_list → a ≢ free_semaphore → a ≢ b
  pub grant : (a : ℕ) → grants ≤ a → a < grants_end → a ≢ b
  pub page : (p j : ℕ) → Page p → j ≤ q2 → j ≢ Map.reason → j ≢ own_semaphore → place p j ≢ b

-- below page 10 only the headers of interrupts and three words of page 7 are heads
loose_low : (b : ℕ) → b < grants → ((k : ℕ) → k < interrupts → header_after k ≢ b) → ((a : ℕ) → free_list ≤ a → a ≤ processor_list → a ≢ free_semaphore → a ≢ b)
    → Loose b
loose_low b u f g = record { int = f; three = g; grant = λ c1 c2 c3. omega arith; page = λ c1 c2 c3 c4 c5 c6. omega arith }

-- words 2, 3 and those from 7 on of a control page
loose_word : (q j : ℕ) → Page q → j < page_size → ((k : ℕ) → k ≤ q2 → k ≢ Map.reason → k ≢ own_semaphore → k ≢ j) → Loose (place q j)
loose_word q j h l f = record {
  int = λ c1 c2. omega arith;
  three = λ c1 c2 c3 c4. omega arith;
  grant = λ c1 c2 c3. omega arith;
  page = λ p k c3 c4 c5 c6. (let d = f k c4 c5 c6 in omega arith);
}

pub holds_loose : (m : List ℕ) (b v : ℕ) {ps : List ℕ} {L : Lists} → Sep ps L → Loose b → Holds m ps L → Holds (set m b v) ps L
holds_loose m b v {ps} {L} s f h =
    holds_kept m (set m b v) ps L s (λ a i. other m b v a (go a (head_place ps a i)))
    (λ a x i n c. other m b v (place x Map.link) (f.page x 0 (all_pages_lem s a x i c) (omega arith) (omega arith) (omega arith)))
    (λ x i. other m b v (place x list_link) (f.page x list_link (proc_page s x i) (omega arith) (omega arith) (omega arith))) h
  where
    go : (a : ℕ) → Place ps a → a ≢ b
    go a (int k u w) = rw w (f.int k u)
    go a (three u w x) = f.three a u w x
    go a (grant u w) = f.grant a u w
    go a (slot t) = rw t.is (f.page t.page t.word (proc_page s t.page t.proc) (omega arith) (omega arith) (omega arith))

-- b is no semaphore
pub record Deaf (b : ℕ) : Type 0 where
  pub line : (k : ℕ) → k < interrupts → semaphore_after k ≢ b
  pub page : free_semaphore ≢ b
  pub own : (p : ℕ) → Page p → place p own_semaphore ≢ b

pub deaf_seat : {ps : List ℕ} {L : Lists} → Sep ps L → (b : ℕ) → Deaf b → (a : ℕ) → 1 ≤ count (a + 1) (queues ps) → a ≢ b
deaf_seat {ps} s b d a h = go (seat_of ps a h)
  where
    go : Seat ps a → a ≢ b
    go (line k u e) = rw e (d.line k u)
    go (page e) = rw e d.page
    go (own p u e) = rw e (d.own p (proc_page s p u))

deaf_word : (q j : ℕ) → Page q → j < page_size → j ≢ own_semaphore → Deaf (place q j)
deaf_word q j g l n = record { line = λ c1 c2. omega arith; page = omega arith; own = λ c1 c2. omega arith }

-- the counters, the words of who runs, pages 8 and 9
abbrev Mid : ℕ → Type 0
Mid b = (clock_line ≤ b) × (b < grants) × ((a : ℕ) → free_list ≤ a → a ≤ processor_list → a ≢ b)

loose_mid : (b : ℕ) → Mid b → Loose b
loose_mid b i = loose_low b i.1 (λ c1 c2. omega arith) (λ a h u d. i.2 a h u)

deaf_mid : (b : ℕ) → Mid b → Deaf b
deaf_mid b i = record { line = λ c1 c2. omega arith; page = i.2 free_semaphore (omega arith) (omega arith); own = λ c1 c2. omega arith }

-- b is no word k of a control page
abbrev NoWord : ℕ → ℕ → Type 0
NoWord b k = (p : ℕ) → Page p → place p k ≢ b

pub words_off : {m : List ℕ} (b v : ℕ) {ps : List ℕ} {n z r l t : ℕ → ℕ} → NoWord b Map.note → NoWord b Map.reason → NoWord b Map.label
    → NoWord b Map.state → Words m ps n z r l t → Words (set m b v) ps n z r l t
words_off {m} b v {l = l} {t = t} n1 n2 n7 n12 f = record {
  note = λ p h i. other m b v (place p Map.note) (n1 p h) ∙ f.note p h i;
  size = λ p h i. other m b v (place p Map.size) (n2 p h) ∙ f.size p h i;
  reason = λ p h i. other m b v (place p Map.reason) (n2 p h) ∙ f.reason p h i;
  label = col_off m b v Map.label l n7 f.label;
  state = col_off m b v Map.state t n12 f.state;
}

words_low : {m : List ℕ} (b v : ℕ) {ps : List ℕ} {n z r l t : ℕ → ℕ} → b < guarded_last → Words m ps n z r l t → Words (set m b v) ps n z r l t
words_low b v g f = words_off b v (λ p h. omega arith) (λ p h. omega arith) (λ p h. omega arith) (λ p h. omega arith) f

pub fixed_off : {m : List ℕ} (b v : ℕ) {l c : ℕ → ℕ} {n : ℕ} {e : ℕ → ℕ} → ((a : ℕ) → clock_line ≤ a → a ≤ Map.c3 → a ≢ b)
    → ((a : ℕ) → running_page ≤ a → a ≤ divider → a ≢ b) → ((a : ℕ) → code_word 0 ≤ a → a < grants → a ≢ b) → Fixed m l c n e → Fixed (set m b v) l c n e
fixed_off {m} b v clock turn rest f =
    fixed_same (λ a h i. other m b v a (clock a h i)) (λ a h i. other m b v a (turn a h i)) (λ a h i. other m b v a (rest a h i)) f

module _ {m : List ℕ} {ps : List ℕ} {L : Lists} {W : View} (s : Sep ps L) (x : Mem m ps L W) where
  sems_off : (b v : ℕ) → Deaf b → (a : ℕ) → 1 ≤ count (a + 1) (queues ps) → get_or (set m b v) a 0 ≡ W.sem a
  sems_off b v d a h = other m b v a (deaf_seat s b d a h) ∙ x.reads.sems a h

  -- a word of a control page
  high_mem : (b v : ℕ) {n z r l t h : ℕ → ℕ} → grants_end ≤ b → Loose b → Words (set m b v) ps n z r l t
      → ((a : ℕ) → 1 ≤ count (a + 1) (queues ps) → get_or (set m b v) a 0 ≡ h a) → Mem (set m b v) ps L (with_sem (with_words W n z r l t) h)
  high_mem b v u l words sems = record {
    size = simp length-set x.size;
    holds = holds_loose m b v s l x.holds;
    reads = record {
      words = words;
      fixed = fixed_off b v (λ c1 c2 c3. omega arith) (λ c1 c2 c3. omega arith) (λ c1 c2 c3. omega arith) x.reads.fixed;
      sems = sems;
    };
  }

  -- word 12 of any control page, and word 2 of a processor's
  pub state_mem : (q v : ℕ) → Page q → Mem (store m q Map.state v) ps L (with_state W (put1 W.state q v))
  state_mem q v g = let p = x.reads.words in let a = place q Map.state in high_mem a v (omega arith)
      (loose_word q Map.state g (omega arith) (λ c1 c2 c3 c4. omega arith))
      (record {
        note = λ y h n. other m a v (place y Map.note) (omega arith) ∙ p.note y h n;
        size = λ y h n. other m a v (place y Map.size) (omega arith) ∙ p.size y h n;
        reason = λ y h i. other m a v (place y Map.reason) (omega arith) ∙ p.reason y h i;
        label = col_off m a v Map.label W.label (λ y h. omega arith) p.label;
        state = col_on m q v Map.state W.state x.size g (omega arith) p.state;
      }) (sems_off a v (deaf_word q Map.state g (omega arith) (omega arith)))

  pub reason_mem : (q v : ℕ) → 1 ≤ count q ps → Mem (store m q Map.reason v) ps L (with_reason W (put1 W.reason q v))
  reason_mem q v hq = let p = x.reads.words in let a = place q Map.reason in let g = proc_page s q hq in high_mem a v (omega arith)
      (loose_word q Map.reason g (omega arith) (λ c1 c2 c3 c4. omega arith))
      (record {
        note = λ y h n. other m a v (place y Map.note) (omega arith) ∙ p.note y h n;
        size = λ y h n. other m a v (place y Map.size) (λ e. apart y n (omega arith)) ∙ p.size y h n;
        reason = λ y h i. here y i (hit_or y q);
        label = col_off m a v Map.label W.label (λ y h. omega arith) p.label;
        state = col_off m a v Map.state W.state (λ y h. omega arith) p.state;
      }) (sems_off a v (deaf_word q Map.reason g (omega arith) (omega arith)))
    where
      apart : (y : ℕ) → count y ps ≡ 0 → y ≡ q → ⊥
      apart y n e = omega (arith, ap (λ (z : ℕ). count z ps) e)

      here : (y : ℕ) → 1 ≤ count y ps → (y ≡ q) ⊎ (y ≢ q) → word (store m q Map.reason v) y Map.reason ≡ put1 W.reason q v y
      here y i (inl e) =
          let g = proc_page s q hq in
          rw (put1_same W.reason q v y e, e) (get_or-set_same m (place q Map.reason) v 0 (omega (arith, x.size)))
      here y i (inr n) =
          rw (put1_other W.reason q v y n)
          (other m (place q Map.reason) v (place y Map.reason) (omega arith) ∙ x.reads.words.reason y (proc_page s y i) i)

  -- a semaphore
  pub sem_mem : (b v : ℕ) → 1 ≤ count (b + 1) (queues ps) → Mem (set m b v) ps L (with_sem W (put1 W.sem b v))
  sem_mem b v q = go (seat_of ps b q)
    where
      here : b < memory_size → (a : ℕ) → 1 ≤ count (a + 1) (queues ps) → (a ≡ b) ⊎ (a ≢ b) → get_or (set m b v) a 0 ≡ put1 W.sem b v a
      here l a h (inl e) = rw (put1_same W.sem b v a e, e) (get_or-set_same m b v 0 (omega (arith, x.size)))
      here l a h (inr n) = rw (put1_other W.sem b v a n) (other m b v a n ∙ x.reads.sems a h)

      low : b < code_word 0 → Loose b → ((a : ℕ) → clock_line ≤ a → a ≤ Map.c3 → a ≢ b) → ((a : ℕ) → running_page ≤ a → a ≤ divider → a ≢ b)
          → Mem (set m b v) ps L (with_sem W (put1 W.sem b v))
      low u l clock turn = record {
        size = simp length-set x.size;
        holds = holds_loose m b v s l x.holds;
        reads = record {
          words = words_low b v (omega arith) x.reads.words;
          fixed = fixed_off b v clock turn (λ c1 c2 c3. omega arith) x.reads.fixed;
          sems = λ a h. here (omega arith) a h (hit_or a b);
        };
      }

      go : Seat ps b → Mem (set m b v) ps L (with_sem W (put1 W.sem b v))
      go (line k u e) = low (omega arith) (loose_low b (omega arith) (λ c1 c2. omega arith) (λ c1 c2 c3 c4. omega arith)) (λ c1 c2 c3. omega arith)
          (λ c1 c2 c3. omega arith)
      go (page e) = low (omega arith) (loose_low b (omega arith) (λ c1 c2. omega arith) (λ c1 c2 c3 c4. omega arith)) (λ c1 c2 c3. omega arith)
          (λ c1 c2 c3. omega arith)
      go (own q u e) = let g = proc_page s q u in
          high_mem b v (omega arith) (rw e (loose_word q own_semaphore g (omega arith) (λ c1 c2 c3 c4. omega arith)))
          (words_off b v (λ y h. omega arith) (λ y h. omega arith) (λ y h. omega arith) (λ y h. omega arith) x.reads.words)
          (λ a h. here (omega arith) a h (hit_or a b))

  -- a counter, a word of who runs, a word of page 8 or 9
  mid_mem : (b v : ℕ) {l c : ℕ → ℕ} {n : ℕ} {e : ℕ → ℕ} → Mid b → Fixed (set m b v) l c n e → Mem (set m b v) ps L (with_rest W W.sem l c n e)
  mid_mem b v i f = record {
    size = simp length-set x.size;
    holds = holds_loose m b v s (loose_mid b i) x.holds;
    reads = record { words = words_low b v (omega arith) x.reads.words; fixed = f; sems = sems_off b v (deaf_mid b i) };
  }

  low_mem : (b v : ℕ) → b < code_word 0 → Mid b → Mem (set m b v) ps L (with_low W (put1 W.low b v))
  low_mem b v u i = let f = x.reads.fixed in mid_mem b v i (record {
    clock = λ a h i. here a (f.clock a h i) (hit_or a b);
    turn = λ a h i. here a (f.turn a h i) (hit_or a b);
    code = λ k h. other m b v (code_word k) (omega arith) ∙ f.code k h;
    next = other m b v first_unused (omega arith) ∙ f.next;
    entry = λ i h. other m b v (entry_after i) (omega arith) ∙ f.entry i h;
  })
    where
      here : (a : ℕ) → get_or m a 0 ≡ W.low a → (a ≡ b) ⊎ (a ≢ b) → get_or (set m b v) a 0 ≡ put1 W.low b v a
      here a h (inl e) = rw (put1_same W.low b v a e, e) (get_or-set_same m b v 0 (omega (arith, x.size)))
      here a h (inr n) = rw (put1_other W.low b v a n) (other m b v a n ∙ h)

  pub clock_mem : (b v : ℕ) → clock_line ≤ b → b ≤ Map.c3 → Mem (set m b v) ps L (with_low W (put1 W.low b v))
  clock_mem b v l u = low_mem b v (omega arith) (l, omega arith, λ c1 c2 c3. omega arith)

  pub turn_mem : (b v : ℕ) → running_page ≤ b → b ≤ divider → Mem (set m b v) ps L (with_low W (put1 W.low b v))
  turn_mem b v l u = low_mem b v (omega arith) (omega arith, omega arith, λ c1 c2 c3. omega arith)

  first_code : (c v : ℕ) → c < all_codes → Mem (set m (code_word c) v) ps L (with_code W (put1 W.code c v))
  first_code c v l = let f = x.reads.fixed in let b = code_word c in mid_mem b v (omega arith, omega arith, λ c1 c2 c3. omega arith) (record {
    clock = λ a h i. other m b v a (omega arith) ∙ f.clock a h i;
    turn = λ a h i. other m b v a (omega arith) ∙ f.turn a h i;
    code = λ k h. here k h (hit_or k c);
    next = other m b v first_unused (omega arith) ∙ f.next;
    entry = λ i h. other m b v (entry_after i) (omega arith) ∙ f.entry i h;
  })
    where
      here : (k : ℕ) → k < all_codes → (k ≡ c) ⊎ (k ≢ c) → get_or (set m (code_word c) v) (code_word k) 0 ≡ put1 W.code c v k
      here k h (inl e) = rw (put1_same W.code c v k e, e) (get_or-set_same m (code_word c) v 0 (omega (arith, x.size)))
      here k h (inr n) = rw (put1_other W.code c v k n) (other m (code_word c) v (code_word k) (omega arith) ∙ x.reads.fixed.code k h)

  first_entry : (n e : ℕ) → 1 ≤ n → n < entries_full → Mem (set m (entry_at n) e) ps L (with_entry W W.next (put1 W.entry (n - 1) e))
  first_entry n e l u = let f = x.reads.fixed in let b = entry_at n in mid_mem b e (omega arith, omega arith, λ c1 c2 c3. omega arith) (record {
    clock = λ a h i. other m b e a (omega arith) ∙ f.clock a h i;
    turn = λ a h i. other m b e a (omega arith) ∙ f.turn a h i;
    code = λ k h. other m b e (code_word k) (omega arith) ∙ f.code k h;
    next = other m b e first_unused (omega arith) ∙ f.next;
    entry = λ i h. here i h (hit_or i (n - 1));
  })
    where
      here : (i : ℕ) → i < entries → (i ≡ n - 1) ⊎ (i ≢ n - 1) → get_or (set m (entry_at n) e) (entry_after i) 0 ≡ put1 W.entry (n - 1) e i
      here i h (inl q) =
          let a : entry_after i ≡ entry_at n = omega arith in
          rw (put1_same W.entry (n - 1) e i q, a) (get_or-set_same m (entry_at n) e 0 (omega (arith, x.size)))
      here i h (inr q) = rw (put1_other W.entry (n - 1) e i q) (other m (entry_at n) e (entry_after i) (omega arith) ∙ x.reads.fixed.entry i h)

module _ {m : List ℕ} {ps : List ℕ} {L : Lists} {W : View} (s : Sep ps L) (x : Mem m ps L W) where
  -- both words of code c
  pub code_mem : (c v w : ℕ) → c < all_codes → Mem (set (set m (code_word c) v) (code_low c) w) ps L (with_code W (put1 W.code c v))
  code_mem c v w l =
      let x1 = first_code s x c v l in
      let m1 = set m (code_word c) v in
      let b = code_low c in
      let f = x1.reads.fixed in
      mid_mem s x1 b w (omega arith, omega arith, λ c1 c2 c3. omega arith) (record {
        clock = λ a h i. other m1 b w a (omega arith) ∙ f.clock a h i;
        turn = λ a h i. other m1 b w a (omega arith) ∙ f.turn a h i;
        code = λ k h. other m1 b w (code_word k) (omega arith) ∙ f.code k h;
        next = other m1 b w first_unused (omega arith) ∙ f.next;
        entry = λ i h. other m1 b w (entry_after i) (omega arith) ∙ f.entry i h;
      })

  -- both words of page 9
  pub entry_mem : (e : ℕ) → 1 ≤ W.next → W.next < entries_full
      → Mem (set (set m (entry_at W.next) e) first_unused (W.next + 1)) ps L (with_entry W (W.next + 1) (put1 W.entry (W.next - 1) e))
  entry_mem e l u =
      let n = W.next in
      let x1 = first_entry s x n e l u in
      let m1 = set m (entry_at n) e in
      let f = x1.reads.fixed in
      mid_mem s x1 first_unused (n + 1) (omega arith, omega arith, λ c1 c2 c3. omega arith) (record {
        clock = λ a h i. other m1 first_unused (n + 1) a (omega arith) ∙ f.clock a h i;
        turn = λ a h i. other m1 first_unused (n + 1) a (omega arith) ∙ f.turn a h i;
        code = λ k h. other m1 first_unused (n + 1) (code_word k) (omega arith) ∙ f.code k h;
        next = get_or-set_same m1 first_unused (n + 1) 0 (omega (arith, x1.size));
        entry = λ i h. other m1 first_unused (n + 1) (entry_after i) (omega arith) ∙ f.entry i h;
      })

-- ---- page q, which is in no list
pub only_word : {q : ℕ} {m m' : List ℕ} → Only q m m' → (p j : ℕ) → p ≢ q → j < page_size → word m' p j ≡ word m p j
only_word {q} {m} {m'} o p j n h = go (ltb p q) refl
  where
    go : (b : Bool) → ltb p q ≡ b → word m' p j ≡ word m p j
    go true e = let l = ltb-true p q e in o.below (place p j) (omega arith)
    go false e = let l = ltb-false p q e in o.above (place p j) (omega arith)

module _ {m m' : List ℕ} {q : ℕ} (o : Only q m m') (g : Page q) {ps : List ℕ} {L : Lists} {W : View} (s : Sep ps L) (out : count q ps ≡ 0)
    (free : (a : ℕ) → Among ps a → count q (L a) ≡ 0) (x : Mem m ps L W) where
  not_q : (p : ℕ) → 1 ≤ count p ps → p ≢ q
  not_q p h e = let c = ap (λ (y : ℕ). count y ps) e in omega arith

  col_retold : (k : ℕ) (f : ℕ → ℕ) → k < page_size → Col m k f → Col m' k (put1 f q (word m' q k))
  col_retold k f l c p h = go (hit_or p q)
    where
      go : (p ≡ q) ⊎ (p ≢ q) → word m' p k ≡ put1 f q (word m' q k) p
      go (inl e) = rw (put1_same f q (word m' q k) p e, e)
      go (inr n) = rw (put1_other f q (word m' q k) p n) (only_word o p k n l ∙ c p h)

  pub hand_mem : Mem m' ps L (retold m' W q)
  hand_mem =
      let p = x.reads.words in
      record {
        size = o.size ∙ x.size;
        holds = holds_kept m m' ps L s (λ a h. head a (head_place ps a h)) (λ a y h n c. only_word o y Map.link (λ e. link a y h c e) (omega arith))
            (λ y h. only_word o y list_link (not_q y h) (omega arith)) x.holds;
        reads = record {
          words = record {
            note = λ y h n. others Map.note W.note p.note y h n (omega arith) (hit_or y q);
            size = λ y h n. others Map.size W.size p.size y h n (omega arith) (hit_or y q);
            reason = λ y h i.
                let d = not_q y i in
                rw (put1_other W.reason q (word m' q Map.reason) y d) (only_word o y Map.reason d (omega arith) ∙ p.reason y h i);
            label = col_retold Map.label W.label (omega arith) p.label;
            state = col_retold Map.state W.state (omega arith) p.state;
          };
          fixed = fixed_same (λ a h i. o.below a (omega arith)) (λ a h i. o.below a (omega arith)) (λ a h i. o.below a (omega arith)) x.reads.fixed;
          sems = λ a h.
              seat_same m m' (λ a i j. o.below a (omega arith)) (λ p u. only_word o p own_semaphore (not_q p u) (omega arith)) a (seat_of ps a h)
              ∙ x.reads.sems a h;
        };
      }
    where
      head : (a : ℕ) → Place ps a → get_or m' a 0 ≡ get_or m a 0
      head a (int k u w) = o.below a (omega arith)
      head a (three u w x) = o.below a (omega arith)
      head a (grant u w) = o.below a (omega arith)
      head a (slot t) = rw t.is (only_word o t.page t.word (not_q t.page t.proc) (omega arith))

      link : (a y : ℕ) → Among ps a → 1 ≤ count y (L a) → y ≡ q → ⊥
      link a y h c e = let d = ap (λ (z : ℕ). count z (L a)) e in omega (arith, free a h)

      others : (k : ℕ) (f : ℕ → ℕ) → Others m ps k f → (y : ℕ) → Page y → count y ps ≡ 0 → k < page_size → (y ≡ q) ⊎ (y ≢ q)
          → word m' y k ≡ put1 f q (word m' q k) y
      others k f c y h n l (inl e) = rw (put1_same f q (word m' q k) y e, e)
      others k f c y h n l (inr d) = rw (put1_other f q (word m' q k) y d) (only_word o y k d l ∙ c y h n)
