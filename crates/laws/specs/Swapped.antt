-- Which words differ: a memory beside itself, two memories swapped, and two that differ in no word. Assumes nothing.
use Rattle.std.specs.Prelude.{◌≡◌, ◌≢◌, ◌↔◌, ◌⊎◌, Bool, cond, ℕ, zero, suc, ◌+◌, ◌<◌, eqb, length}
use Rattle.std.proofs.Math.Path.{refl}
use Rattle.std.proofs.Common.{sym, ap, ◌∙◌, inl, inr, arith, ext_get_or, eq-eqb, ne_eqb}
use Rattle.std.proofs.Math.Bool.{true, false}
use mathlib.Core.List.{List, [], ◌∷◌, ◌++◌, map, map-append, append-nil}
use Rattle.model.specs.Told.{Finding, Said, Line}
use Rattle.model.specs.declared.Side.{Side}
use Rattle.model.specs.declared.Side.TheVariants.{First, Second}
use Rattle.model.specs.Told.Said.{Nothing, OnlyIn, DiffersIn}
use Rattle.model.specs.Told.Line.{Word, Refused, RefusedAt, Processor, Same}
use Rattle.model.specs.Map.{memory_size, place, first_name, last_name}
use Rattle.model.specs.Map.{q1, q2}
use Rattle.model.specs.Answer.{wrong_length}
use Rattle.model.specs.Differ as Differ
use Rattle.model.specs.Differ.{same_messages, same_state, finding_lines, name_lines, or_same, broken_or}
use Rattle.model.specs.Bytes.{at, page_of, priority, told_of, differing, word_line, word_lines, state_of, messages, differences, said_of, said}
use Rattle.model.specs.Bytes.{names_lines, judged_lines, is_whole, size_lines, whole_lines, lines}
use Rattle.laws.specs.Count.{hit_or}
use Rattle.laws.specs.Differing.{Alike, any, differing_all, differing_here, differing_none, differing_skip, messages_are, numbers_are, said_absent}
use Rattle.laws.specs.Differing.{said_both, said_first, said_nothing, said_second, states_are, test_same}

-- ---- "a memory differs from itself in nothing"
module _ (m : List ℕ) where
  pub differing_itself : (n a : ℕ) → differing n m m a ≡ []
  differing_itself zero a = differing_none m m a
  differing_itself (suc n) a = differing_skip m m n a refl ∙ differing_itself n (a + 1)

  alike_itself : (p : ℕ) → Alike m p m p
  alike_itself p = record { state = refl; priority = refl; q1 = refl; q2 = refl }

  pub said_itself : (n : ℕ) → said m m n ≡ Nothing
  said_itself n = go (hit_or (page_of m n) 0)
    where
      go : (page_of m n ≡ 0) ⊎ (page_of m n ≢ 0) → said m m n ≡ Nothing
      go (inl e) = (said_nothing m m n).1 (inl (e, e))
      go (inr d) = (said_nothing m m n).1 (inr (d, d, alike_itself (page_of m n)))

-- where nothing is said of any name there is no line
pub no_names : (m k : List ℕ) → ((n : ℕ) → said m k n ≡ Nothing) → (j a : ℕ) → names_lines j m k a ≡ []
unfolding Differ.names_lines Differ.name_lines
no_names m k f zero a = refl
no_names m k f (suc j) a = rw (f a) (no_names m k f j (a + 1))

pub whole : (m : List ℕ) → length m ≡ memory_size → is_whole m ≡ true
unfolding Differ.is_whole
whole m l = eq-eqb (length m) memory_size l

-- two of 8,192 words that the judge accepts
module _ (m k : List ℕ) (lm : length m ≡ memory_size) (lk : length k ≡ memory_size) (gm : told_of m ≡ Finding.Nothing) (gk : told_of k ≡ Finding.Nothing) where
  pub lines_good : lines m k ≡ or_same (word_lines memory_size m k 0 ++ names_lines last_name m k first_name)
  unfolding Differ.lines Differ.whole_lines Differ.judged_lines Differ.finding_lines Differ.broken_or
  lines_good = rw (whole m lm, whole k lk, gm, gk)

some_line : (xs : List Line) (y : Line) (ys : List Line) → or_same (xs ++ y ∷ ys) ≡ xs ++ y ∷ ys
unfolding Differ.or_same
some_line [] y ys = refl
some_line (x ∷ xs) y ys = refl

-- "If either is broken, only the word list and the reason are printed": the first, or the second alone
pub lines_broken : (m k : List ℕ) → length m ≡ memory_size → length k ≡ memory_size → (n a : ℕ)
    → (told_of m ≡ Finding.Broken n a → lines m k ≡ word_lines memory_size m k 0 ++ RefusedAt First n a ∷ finding_lines Second (told_of k))
    × (told_of m ≡ Finding.Nothing → told_of k ≡ Finding.Broken n a → lines m k ≡ word_lines memory_size m k 0 ++ RefusedAt Second n a ∷ [])
unfolding Differ.lines Differ.whole_lines Differ.judged_lines Differ.finding_lines Differ.broken_or Differ.is_whole
lines_broken m k l j n a = (
  λ e. rw (eq-eqb (length m) memory_size l, eq-eqb (length k) memory_size j, e) (some_line (word_lines memory_size m k 0) _ _),
  λ e f. rw (eq-eqb (length m) memory_size l, eq-eqb (length k) memory_size j, e, f) (some_line (word_lines memory_size m k 0) _ _),
)

-- "if either file isn't 8,192 bytes, only 20 and which file"
pub lines_cut : (m k : List ℕ)
    → (length m ≢ memory_size → length k ≡ memory_size → lines m k ≡ Refused First 20 ∷ [])
    × (length m ≡ memory_size → length k ≢ memory_size → lines m k ≡ Refused Second 20 ∷ [])
    × (length m ≢ memory_size → length k ≢ memory_size → lines m k ≡ Refused First 20 ∷ Refused Second 20 ∷ [])
unfolding Differ.lines Differ.size_lines Differ.is_whole
lines_cut m k = (
  λ l j. rw (ne_eqb (length m) memory_size l, eq-eqb (length k) memory_size j),
  λ l j. rw (eq-eqb (length m) memory_size l, ne_eqb (length k) memory_size j),
  λ l j. rw (ne_eqb (length m) memory_size l, ne_eqb (length k) memory_size j),
)

pub lines_itself : (m : List ℕ) → length m ≡ memory_size → told_of m ≡ Finding.Nothing → lines m m ≡ Same ∷ []
unfolding Differ.word_lines Differ.or_same
lines_itself m l g = lines_good m m l l g g ∙ rw (differing_itself m memory_size 0, no_names m m (said_itself m) last_name first_name)

-- ---- "swapping the files swaps the values and first with second, and leaves every differs in as it was"
unfoldable pub swap_side : Side → Side
swap_side First = Second
swap_side Second = First

unfoldable pub swap_said : Said → Said
swap_said Nothing = Nothing
swap_said (OnlyIn s) = OnlyIn (swap_side s)
swap_said (DiffersIn d) = DiffersIn d

unfoldable pub swap_line : Line → Line
swap_line (Word a x y) = Word a y x
swap_line (Refused s n) = Refused (swap_side s) n
swap_line (RefusedAt s n a) = RefusedAt (swap_side s) n a
swap_line (Processor n o) = Processor n (swap_said o)
swap_line Same = Same

-- swapped twice is as it was
side_twice : (s : Side) → swap_side (swap_side s) ≡ s
unfolding swap_side
side_twice First = refl
side_twice Second = refl

said_twice : (o : Said) → swap_said (swap_said o) ≡ o
unfolding swap_said
said_twice Nothing = refl
said_twice (OnlyIn s) = rw (side_twice s)
said_twice (DiffersIn d) = refl

line_twice : (x : Line) → swap_line (swap_line x) ≡ x
unfolding swap_line
line_twice (Word a x y) = refl
line_twice (Refused s n) = rw (side_twice s)
line_twice (RefusedAt s n a) = rw (side_twice s)
line_twice (Processor n o) = rw (said_twice o)
line_twice Same = refl

pub differing_swap : (m k : List ℕ) (n a : ℕ) → differing n k m a ≡ differing n m k a
differing_swap m k zero a = differing_none k m a ∙ sym (differing_none m k a)
differing_swap m k (suc n) a = go (hit_or (at m a) (at k a)) (differing_swap m k n (a + 1))
  where
    go : (at m a ≡ at k a) ⊎ (at m a ≢ at k a) → differing n k m (a + 1) ≡ differing n m k (a + 1) → differing (suc n) k m a ≡ differing (suc n) m k a
    go (inl e) ih = differing_skip k m n a (sym e) ∙ ih ∙ sym (differing_skip m k n a e)
    go (inr d) ih = rw (differing_here k m n a (λ e. d (sym e)), differing_here m k n a d, ih)

words_swap : (m k xs : List ℕ) → map (word_line k m) xs ≡ map swap_line (map (word_line m k) xs)
unfolding swap_line
words_swap m k [] = refl
words_swap m k (a ∷ xs) = rw (words_swap m k xs)

pub word_lines_swap : (m k : List ℕ) (n a : ℕ) → word_lines n k m a ≡ map swap_line (word_lines n m k a)
unfolding Differ.word_lines
word_lines_swap m k n a = rw (differing_swap m k n a) (words_swap m k (differing n m k a))

-- two tests that ask the same of two in either order
swapped : {A : Type 0} (t : A → A → Bool) → ((x y : A) → (t x y ≡ true) ↔ (x ≡ y)) → (x y : A) → t y x ≡ t x y
swapped t f x y = test_same (t y x) (t x y) (λ e. (f x y).1 (sym ((f y x).0 e))) (λ e. (f y x).1 (sym ((f x y).0 e)))

pub differences_swap : (m : List ℕ) (p : ℕ) (k : List ℕ) (q : ℕ) → differences k q m p ≡ differences m p k q
unfolding Differ.differences Differ.same_mail
differences_swap m p k q =
    rw (
      swapped same_state states_are (state_of m p) (state_of k q),
      swapped eqb numbers_are (priority m p) (priority k q),
      swapped same_messages messages_are (messages m (place p q1)) (messages k (place q q1)),
      swapped same_messages messages_are (messages m (place p q2)) (messages k (place q q2)),
    )

pub said_swap : (m k : List ℕ) (n : ℕ) → said k m n ≡ swap_said (said m k n)
unfolding Differ.said swap_said swap_side
said_swap m k n = go (hit_or p 0) (hit_or q 0) (any (differences m p k q)) refl
  where
    p : ℕ
    p = page_of m n

    q : ℕ
    q = page_of k n

    go : (p ≡ 0) ⊎ (p ≢ 0) → (q ≡ 0) ⊎ (q ≢ 0) → (b : Bool) → any (differences m p k q) ≡ b → said_of k q m p ≡ swap_said (said_of m p k q)
    go (inl e) (inl f) b h = rw (said_absent k q m p f e, said_absent m p k q e f)
    go (inl e) (inr f) b h = rw (said_first k q m p f e, said_second m p k q e f)
    go (inr e) (inl f) b h = rw (said_second k q m p f e, said_first m p k q e f)
    go (inr e) (inr f) true h = rw (said_both m p k q e f, said_both k q m p f e, differences_swap m p k q, h)
    go (inr e) (inr f) false h = rw (said_both m p k q e f, said_both k q m p f e, differences_swap m p k q, h)

name_lines_swap : (n : ℕ) (o : Said) → name_lines n (swap_said o) ≡ map swap_line (name_lines n o)
unfolding Differ.name_lines swap_said swap_line
name_lines_swap n Nothing = refl
name_lines_swap n (OnlyIn s) = refl
name_lines_swap n (DiffersIn d) = refl

pub names_lines_swap : (m k : List ℕ) (n a : ℕ) → names_lines n k m a ≡ map swap_line (names_lines n m k a)
unfolding Differ.names_lines
names_lines_swap m k zero a = refl
names_lines_swap m k (suc n) a =
    rw (said_swap m k a, names_lines_swap m k n (a + 1), name_lines_swap a (said m k a))
    (sym (map-append swap_line (name_lines a (said m k a)) (names_lines n m k (a + 1))))

pub finding_lines_swap : (s : Side) (f : Finding) → finding_lines (swap_side s) f ≡ map swap_line (finding_lines s f)
unfolding Differ.finding_lines swap_line
finding_lines_swap s Finding.Nothing = refl
finding_lines_swap s Finding.WrongLength = refl
finding_lines_swap s (Finding.Broken n a) = refl

pub size_lines_swap : (s : Side) (m : List ℕ) → size_lines (swap_side s) m ≡ map swap_line (size_lines s m)
unfolding Differ.size_lines swap_line
size_lines_swap s m = go (is_whole m)
  where
    go : (b : Bool) → cond b [] (Refused (swap_side s) wrong_length ∷ []) ≡ map swap_line (cond b [] (Refused s wrong_length ∷ []))
    go true = refl
    go false = refl

or_same_swap : (xs : List Line) → or_same (map swap_line xs) ≡ map swap_line (or_same xs)
unfolding Differ.or_same swap_line
or_same_swap [] = refl
or_same_swap (x ∷ xs) = refl

broken_or_swap : (b n : List Line) → broken_or (map swap_line b) (map swap_line n) ≡ map swap_line (broken_or b n)
unfolding Differ.broken_or
broken_or_swap [] n = refl
broken_or_swap (x ∷ xs) n = refl

no_finding : (s : Side) → finding_lines s Finding.Nothing ≡ []
unfolding Differ.finding_lines
no_finding s = refl

no_size : (s : Side) (m : List ℕ) → length m ≡ memory_size → size_lines s m ≡ []
unfolding Differ.size_lines
no_size s m l = rw (whole m l)

-- where one of the two is accepted; the other may be anything. Where both are refused the first's reason still stands first
module _ (m k : List ℕ) (l : length m ≡ memory_size) (g : told_of m ≡ Finding.Nothing) where
  judged_lines_swap : judged_lines k m ≡ map swap_line (judged_lines m k)
  unfolding Differ.judged_lines swap_side
  judged_lines_swap =
      rw (
        g,
        no_finding First,
        no_finding Second,
        append-nil (finding_lines First (told_of k)),
        finding_lines_swap Second (told_of k),
        names_lines_swap m k last_name first_name,
      ) (broken_or_swap (finding_lines Second (told_of k)) (names_lines last_name m k first_name))

  whole_lines_swap : whole_lines k m ≡ map swap_line (whole_lines m k)
  unfolding Differ.whole_lines
  whole_lines_swap =
      rw (word_lines_swap m k memory_size 0, judged_lines_swap)
      (ap or_same (sym (map-append swap_line (word_lines memory_size m k 0) (judged_lines m k))) ∙ or_same_swap (word_lines memory_size m k 0 ++ judged_lines m k))

  pub lines_swap : lines k m ≡ map swap_line (lines m k)
  unfolding Differ.lines swap_side
  lines_swap = go (is_whole k) refl
    where
      go : (b : Bool) → is_whole k ≡ b → lines k m ≡ map swap_line (lines m k)
      go true e = rw (whole m l, e) whole_lines_swap
      go false e = rw (whole m l, e) (rw (no_size First m l, no_size Second m l, append-nil (size_lines First k)) (size_lines_swap Second k))

swap_twice : (xs : List Line) → map swap_line (map swap_line xs) ≡ xs
swap_twice [] = refl
swap_twice (x ∷ xs) = rw (line_twice x, swap_twice xs)

pub lines_swap_back : (m k : List ℕ) → length m ≡ memory_size → told_of m ≡ Finding.Nothing → lines m k ≡ map swap_line (lines k m)
lines_swap_back m k l g = rw (lines_swap m k l g) (sym (swap_twice (lines m k)))

-- ---- "two memories that differ in no word differ in nothing": they are one
pub no_word : (m k : List ℕ) → length m ≡ memory_size → length k ≡ memory_size → differing memory_size m k 0 ≡ [] → m ≡ k
no_word m k lm lk e = ext_get_or 0 m k (lm ∙ sym lk) (λ i h. go i h (hit_or (at m i) (at k i)))
  where
    go : (i : ℕ) → i < length m → (at m i ≡ at k i) ⊎ (at m i ≢ at k i) → at m i ≡ at k i
    go i h (inl f) = f
    go i h (inr d) =
        let c = rw e at (differing_all m k memory_size 0 i (record { from = omega arith; to = omega arith; words = d })) in
        absurd (omega (arith, c))

pub no_word_said : (m k : List ℕ) → length m ≡ memory_size → length k ≡ memory_size → differing memory_size m k 0 ≡ [] → (n : ℕ) → said m k n ≡ Nothing
no_word_said m k lm lk e n = rw (no_word m k lm lk e) (said_itself k n)

pub no_word_lines : (m k : List ℕ) → length m ≡ memory_size → length k ≡ memory_size → told_of m ≡ Finding.Nothing → differing memory_size m k 0 ≡ []
    → lines m k ≡ Same ∷ []
no_word_lines m k lm lk g e = let f = no_word m k lm lk e in rw (← f) (lines_itself m lm g)
