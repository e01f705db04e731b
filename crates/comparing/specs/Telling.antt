-- What each step tells, and what is left then, are the lines that were left before; so repeating the step tells all the lines of two memories, in their order,
-- and no others.
use Prim.Native.Nat.{ℕ, zero, suc, ◌+◌, ◌-◌, ◌≤◌}
use Rattle.std.proofs.Common.{arith, ◌∙◌}
use Rattle.std.specs.Prelude.{◌≡◌, Bool, ◌&&◌, Some, None, get_or}
use Rattle.std.proofs.Math.Path.{refl, sym, ap}
use Rattle.std.proofs.Math.Bool.{true, false, cond}
use mathlib.Core.List.{List, [], ◌∷◌, ◌++◌}
use Rattle.std.proofs.Math.Dec.{eqb}
use Rattle.std.proofs.Math.ListN.{length}
use borrow.Author.Tests.{eq-eqb, lt-ltb, le-ltb}
use Rattle.model.specs.Told.{Finding, Said, Line}
use Rattle.model.specs.Told.Finding.{WrongLength, Broken}
use Rattle.model.specs.declared.Side.TheVariants as Side
use Rattle.model.specs.Told.Said.{Nothing, OnlyIn, DiffersIn}
use Rattle.model.specs.Told.Line.{Refused, Processor}
use Rattle.model.specs.Map.{memory_size, first_name}
use Rattle.model.specs.Differ as Differ
use Rattle.model.specs.Differ.{finding_lines, name_lines, or_same, broken_or}
use Rattle.model.specs.Answer.{wrong_length}
use Rattle.model.specs.Bytes.{Memory, told_of, said, word_line, word_lines, names_lines, judged_lines, is_whole, size_lines, lines}
use Rattle.comparing.specs.declared.Cursor.{Cursor}
use Rattle.comparing.specs.declared.Cursor.TheVariants.{Start, Words, Second, Names, Over}
use Rattle.comparing.specs.Cursors as Cursors
use Rattle.comparing.specs.Cursors.{names_end, told_or, whole_from, sizes_from, lines_from, Step, gives, speaks, next_differing, next_named}
use Rattle.comparing.specs.Cursors.{word_step, first_step, second_step, name_step, ended, against_step, whole_step, cut_step, size_step, sizes_step}

told_line : (t : Bool) (x : Line) (xs : List Line) → told_or t (x ∷ xs) ≡ x ∷ xs
unfolding Cursors.told_or Differ.or_same
told_line true x xs = refl
told_line false x xs = refl

line_of : (a : ℕ) (s : Said) → speaks s ≡ true → name_lines a s ≡ Processor a s ∷ []
unfolding Cursors.speaks Differ.name_lines
line_of a Nothing h = cc
line_of a (OnlyIn s) h = refl
line_of a (DiffersIn d) h = refl

no_line : (a : ℕ) (s : Said) → speaks s ≡ false → name_lines a s ≡ []
unfolding Cursors.speaks Differ.name_lines
no_line a Nothing h = refl
no_line a (OnlyIn s) h = cc
no_line a (DiffersIn d) h = cc

-- ---- one step of each search, and the lines that go with it
module _ (n : ℕ) (m k : Memory) (a : ℕ) where
  module _ (e : eqb (get_or m a 0) (get_or k a 0) ≡ true) where
    next_same : next_differing (suc n) m k a ≡ next_differing n m k (a + 1)
    unfolding Cursors.next_differing
    next_same = rw (e, next_differing)

    words_same : word_lines (suc n) m k a ≡ word_lines n m k (a + 1)
    unfolding Differ.word_lines Differ.differing
    words_same = rw (e, Differ.differing)

  module _ (e : eqb (get_or m a 0) (get_or k a 0) ≡ false) where
    next_differs : next_differing (suc n) m k a ≡ a
    unfolding Cursors.next_differing
    next_differs = rw (e, next_differing)

    words_differ : word_lines (suc n) m k a ≡ word_line m k a ∷ word_lines n m k (a + 1)
    unfolding Differ.word_lines Differ.differing
    words_differ = rw (e, Differ.differing)

  module _ (e : speaks (said m k a) ≡ false) where
    pub next_silent : next_named (suc n) m k a ≡ next_named n m k (a + 1)
    unfolding Cursors.next_named
    next_silent = rw (e, next_named)

    names_silent : names_lines (suc n) m k a ≡ names_lines n m k (a + 1)
    unfolding Differ.names_lines
    names_silent = rw (no_line a (said m k a) e)

  module _ (e : speaks (said m k a) ≡ true) where
    pub next_speaks : next_named (suc n) m k a ≡ a
    unfolding Cursors.next_named
    next_speaks = rw (e, next_named)

    names_speak : names_lines (suc n) m k a ≡ Processor a (said m k a) ∷ names_lines n m k (a + 1)
    unfolding Differ.names_lines
    names_speak = rw (line_of a (said m k a) e)

-- ---- of two memories of 8,192 words
module _ (m k : Memory) (em : length m ≡ memory_size) (ek : length k ≡ memory_size) where
  whole : is_whole m && is_whole k ≡ true
  unfolding Differ.is_whole
  whole = rw (eq-eqb (length m) memory_size em, eq-eqb (length k) memory_size ek)

  whole_from_lem : (c : Cursor) → lines_from c m k ≡ whole_from c m k
  unfolding Cursors.lines_from
  whole_from_lem c = rw whole

  -- a line, and what is left behind it
  tells : (x : Line) (c : Cursor) (xs : List Line) (t : Bool) → whole_from c m k ≡ xs → gives (Some (x, c)) m k ≡ told_or t (x ∷ xs)
  unfolding Cursors.gives
  tells x c xs t e = rw (whole_from_lem c, e, told_line t x xs)

  ended_lines : (t : Bool) → gives (ended t) m k ≡ told_or t []
  unfolding Cursors.ended Cursors.gives Cursors.told_or Differ.or_same Cursors.whole_from
  ended_lines true = refl
  ended_lines false = rw (whole_from_lem Over)

  -- the names: n of them are left from a on
  names_left : (n a : ℕ) → suc n ≡ names_end - a → whole_from (Names (a + 1) true) m k ≡ names_lines n m k (a + 1)
  unfolding Cursors.whole_from Cursors.told_or
  names_left n a e = ap (λ (j : ℕ). names_lines j m k (a + 1)) (omega arith)

  name_lines_lem : (n a : ℕ) (t : Bool) → n ≡ names_end - a → gives (name_step m k (next_named n m k a) t) m k ≡ told_or t (names_lines n m k a)
  unfolding Differ.names_lines Cursors.next_named Cursors.name_step
  name_lines_lem zero a t e = rw (le-ltb a names_end (omega arith)) (ended_lines t)
  name_lines_lem (suc n) a t e = go (speaks (said m k a)) refl (name_lines_lem n (a + 1) t (omega arith))
    where
      go : (b : Bool) → speaks (said m k a) ≡ b → gives (name_step m k (next_named n m k (a + 1)) t) m k ≡ told_or t (names_lines n m k (a + 1))
          → gives (name_step m k (next_named (suc n) m k a) t) m k ≡ told_or t (names_lines (suc n) m k a)
      go false h on = rw (next_silent n m k a h, names_silent n m k a h) on
      go true h on =
          rw (next_speaks n m k a h, names_speak n m k a h, lt-ltb a names_end (omega arith))
          (tells (Processor a (said m k a)) (Names (a + 1) true) (names_lines n m k (a + 1)) t (names_left n a e))

  -- behind the words
  second_lines : (g : Finding) (t : Bool) → gives (second_step g m k t) m k ≡ told_or t (broken_or (finding_lines Side.Second g) (names_lines 15 m k first_name))
  unfolding Cursors.second_step Cursors.names_step Differ.finding_lines Differ.broken_or Cursors.whole_from
  second_lines Finding.Nothing t = name_lines_lem 15 1 t refl
  second_lines WrongLength t = tells _ Over [] t refl
  second_lines (Broken n a) t = tells _ Over [] t refl

  judged_lines_lem : (f : Finding) (t : Bool) → told_of m ≡ f → gives (first_step f m k t) m k ≡ told_or t (judged_lines m k)
  unfolding Cursors.first_step Differ.judged_lines Differ.finding_lines Differ.broken_or Cursors.whole_from
  judged_lines_lem Finding.Nothing t e = rw e (second_lines (told_of k) t)
  judged_lines_lem WrongLength t e = rw e (tells _ Second (finding_lines Side.Second (told_of k)) t refl)
  judged_lines_lem (Broken n a) t e = rw e (tells _ Second (finding_lines Side.Second (told_of k)) t refl)

  -- the words: n of them are left from a on
  words_left : (n a : ℕ) → suc n ≡ memory_size - a → whole_from (Words (a + 1) true) m k ≡ word_lines n m k (a + 1) ++ judged_lines m k
  unfolding Cursors.whole_from Cursors.told_or
  words_left n a e = ap (λ (j : ℕ). word_lines j m k (a + 1) ++ judged_lines m k) (omega arith)

  word_lines_lem : (n a : ℕ) (t : Bool) → n ≡ memory_size - a
      → gives (word_step m k (next_differing n m k a) t) m k ≡ told_or t (word_lines n m k a ++ judged_lines m k)
  unfolding Differ.word_lines Differ.differing Cursors.next_differing Cursors.word_step
  word_lines_lem zero a t e = rw (le-ltb a memory_size (omega arith)) (judged_lines_lem (told_of m) t refl)
  word_lines_lem (suc n) a t e = go (eqb (get_or m a 0) (get_or k a 0)) refl (word_lines_lem n (a + 1) t (omega arith))
    where
      go : (b : Bool) → eqb (get_or m a 0) (get_or k a 0) ≡ b
          → gives (word_step m k (next_differing n m k (a + 1)) t) m k ≡ told_or t (word_lines n m k (a + 1) ++ judged_lines m k)
          → gives (word_step m k (next_differing (suc n) m k a) t) m k ≡ told_or t (word_lines (suc n) m k a ++ judged_lines m k)
      go true h on = rw (next_same n m k a h, words_same n m k a h) on
      go false h on =
          rw (next_differs n m k a h, words_differ n m k a h, lt-ltb a memory_size (omega arith))
          (tells (word_line m k a) (Words (a + 1) true) (word_lines n m k (a + 1) ++ judged_lines m k) t (words_left n a e))

  against_lines : (g : Finding) → gives (against_step g) m k ≡ finding_lines Side.Second g
  unfolding Cursors.against_step Differ.finding_lines Cursors.whole_from Cursors.gives
  against_lines Finding.Nothing = refl
  against_lines WrongLength = rw (whole_from_lem Over)
  against_lines (Broken n a) = rw (whole_from_lem Over)

  whole_lines_lem : (c : Cursor) → gives (whole_step c m k) m k ≡ whole_from c m k
  unfolding Cursors.whole_step Cursors.whole_from Cursors.words_step Cursors.names_step Differ.whole_lines Cursors.told_or Cursors.gives
  whole_lines_lem Start = word_lines_lem memory_size 0 false refl
  whole_lines_lem (Words a t) = word_lines_lem (memory_size - a) a t refl
  whole_lines_lem Second = against_lines (told_of k)
  whole_lines_lem (Names n t) = name_lines_lem (names_end - n) n t refl
  whole_lines_lem Over = refl

  pub whole_gives : (c : Cursor) (r : Step) → r ≡ whole_step c m k → gives r m k ≡ lines_from c m k
  whole_gives c r e = rw (e, whole_from_lem c) (whole_lines_lem c)

-- ---- where one has another length
module _ (m k : Memory) (z : is_whole m && is_whole k ≡ false) where
  cut_from : (c : Cursor) → lines_from c m k ≡ sizes_from c m k
  unfolding Cursors.lines_from
  cut_from c = rw z

  size_lines_lem : gives (size_step k) m k ≡ size_lines Side.Second k
  unfolding Cursors.size_step Differ.size_lines Cursors.gives Cursors.sizes_from
  size_lines_lem = go (is_whole k)
    where
      go : (b : Bool) → gives (cond b None (Some (Refused Side.Second wrong_length, Over))) m k ≡ cond b [] (Refused Side.Second wrong_length ∷ [])
      go true = refl
      go false = rw (cut_from Over)

  both_lines : gives (sizes_step m k) m k ≡ size_lines Side.First m ++ size_lines Side.Second k
  unfolding Cursors.sizes_step Differ.size_lines Cursors.gives Cursors.sizes_from
  both_lines = go (is_whole m) size_lines_lem
    where
      go : (b : Bool) → gives (size_step k) m k ≡ size_lines Side.Second k
          → gives (cond b (size_step k) (Some (Refused Side.First wrong_length, Second))) m k
          ≡ cond b [] (Refused Side.First wrong_length ∷ []) ++ size_lines Side.Second k
      go true h = h
      go false h = rw (cut_from Second)

  cut_lines : (c : Cursor) → gives (cut_step c m k) m k ≡ sizes_from c m k
  unfolding Cursors.cut_step Cursors.sizes_from Cursors.gives
  cut_lines Start = both_lines
  cut_lines (Words a t) = refl
  cut_lines Second = size_lines_lem
  cut_lines (Names n t) = refl
  cut_lines Over = refl

  pub cut_gives : (c : Cursor) (r : Step) → r ≡ cut_step c m k → gives r m k ≡ lines_from c m k
  cut_gives c r e = rw (e, cut_from c) (cut_lines c)

-- ---- the step repeated, at most n times, from a cursor on
abbrev on : (Cursor → List Line) → Step → List Line
on g None = []
on g (Some s) = s.0 ∷ g s.1

unfoldable pub repeated : ℕ → (Cursor → Step) → Cursor → List Line
repeated zero f c = []
repeated (suc n) f c = on (repeated n f) (f c)

-- any step whose contract is that of `next`, repeated until its end, tells the lines of two memories
module _ (m k : Memory) (f : Cursor → Step) (h : (c : Cursor) → gives (f c) m k ≡ lines_from c m k) where
  pub repeated_tells : (n : ℕ) (c : Cursor) → length (lines_from c m k) ≤ n → repeated n f c ≡ lines_from c m k
  unfolding repeated Cursors.gives
  repeated_tells zero c l = sym (empty (lines_from c m k) l)
    where
      empty : (xs : List Line) → length xs ≤ 0 → xs ≡ []
      empty [] i = refl
      empty (x ∷ xs) i = absurd (omega arith)
  repeated_tells (suc n) c l = go (f c) (h c) (λ d. repeated_tells n d)
    where
      go : (r : Step) → gives r m k ≡ lines_from c m k
          → ((d : Cursor) → length (lines_from d m k) ≤ n → repeated n f d ≡ lines_from d m k) → on (repeated n f) r ≡ lines_from c m k
      go None e i = e
      go (Some s) e i =
          let z : suc (length (lines_from s.1 m k)) ≡ length (lines_from c m k) = ap length e in
          ap (λ (xs : List Line). s.0 ∷ xs) (i s.1 (omega arith)) ∙ e

  pub all_told : (n : ℕ) → length (lines m k) ≤ n → repeated n f Start ≡ lines m k
  unfolding Cursors.lines_from Cursors.sizes_from Cursors.whole_from Differ.lines
  all_told n l = repeated_tells n Start l

-- what is left from the start on is all that is printed
pub from_start : (m k : Memory) → lines_from Start m k ≡ lines m k
unfolding Cursors.lines_from Cursors.sizes_from Cursors.whole_from Differ.lines
from_start m k = refl
