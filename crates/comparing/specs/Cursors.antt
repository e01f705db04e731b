-- The lines of two memories m and k, told one by one: which lines are left from a cursor on, and the step that tells the next of them.
use Rattle.std.specs.Prelude.{ℕ, zero, suc, ◌+◌, ◌-◌, Bool, true, false, cond, ◌&&◌, List, [], ◌∷◌, ◌++◌, Option, Some, None, eqb, ltb, get_or}
use Rattle.model.specs.Told.{Finding, Said, Line}
use Rattle.model.specs.Told.Finding.{WrongLength, Broken}
use Rattle.model.specs.declared.Side.TheVariants as Side
use Rattle.model.specs.Told.Said.{Nothing, OnlyIn, DiffersIn}
use Rattle.model.specs.Told.Line.{Word, Refused, RefusedAt, Processor, Same}
use Rattle.model.specs.declared.Line.{Line as CodedLine}
use Rattle.model.specs.Coded.{line_told}
use Rattle.model.specs.Map.{memory_size, first_name}
use Rattle.model.specs.Address.{unless}
use Rattle.model.specs.Answer.{wrong_length}
use Rattle.model.specs.Differ.{finding_lines, or_same}
use Rattle.model.specs.Bytes.{Memory, told_of, said, word_lines, names_lines, judged_lines, is_whole, size_lines, whole_lines}
use Rattle.comparing.specs.declared.Cursor.{Cursor}
use Rattle.comparing.specs.declared.Cursor.TheVariants.{Start, Words, Second, Names, Over}

abbrev pub names_end : ℕ
names_end = 16

-- ---- what is left from a cursor on: t says whether there was a line yet, for `same` stands only where there was none
unfoldable pub told_or : Bool → List Line → List Line
told_or true xs = xs
told_or false xs = or_same xs

-- of two whole memories
unfoldable pub whole_from : Cursor → Memory → Memory → List Line
whole_from Start m k = whole_lines m k
whole_from (Words a t) m k = told_or t (word_lines (memory_size - a) m k a ++ judged_lines m k)
whole_from Second m k = finding_lines Side.Second (told_of k)
whole_from (Names n t) m k = told_or t (names_lines (names_end - n) m k n)
whole_from Over m k = []

-- where one is not whole
unfoldable pub sizes_from : Cursor → Memory → Memory → List Line
sizes_from Start m k = size_lines Side.First m ++ size_lines Side.Second k
sizes_from (Words a t) m k = []
sizes_from Second m k = size_lines Side.Second k
sizes_from (Names n t) m k = []
sizes_from Over m k = []

unfoldable pub lines_from : Cursor → Memory → Memory → List Line
lines_from c m k = unless (is_whole m && is_whole k) (sizes_from c m k) (whole_from c m k)

-- a step: a line and the cursor behind it, or that there is none; what the code's is in the paper's numbers
abbrev pub Step : Type 0
Step = Option (Line × Cursor)

abbrev pub Told : Type 0
Told = Option (CodedLine × Cursor)

unfoldable pub step_told : Told → Step
step_told None = None
step_told (Some s) = Some (line_told s.0, s.1)

-- what a step tells, and then what is left
unfoldable pub gives : Step → Memory → Memory → List Line
gives (Some s) m k = s.0 ∷ lines_from s.1 m k
gives None m k = []

-- ---- the steps, as the code goes: the first of n addresses from a on at which the two differ; the first of n names of which something is said
unfoldable pub next_differing : ℕ → Memory → Memory → ℕ → ℕ
next_differing zero m k a = a
next_differing (suc n) m k a = elim (eqb (get_or m a 0) (get_or k a 0)) [ true ↦ next_differing n m k (a + 1) | false ↦ a ]

unfoldable pub speaks : Said → Bool
speaks Nothing = false
speaks (OnlyIn s) = true
speaks (DiffersIn d) = true

unfoldable pub next_named : ℕ → Memory → Memory → ℕ → ℕ
next_named zero m k a = a
next_named (suc n) m k a = elim (speaks (said m k a)) [ true ↦ a | false ↦ next_named n m k (a + 1) ]

unfoldable pub ended : Bool → Step
ended t = cond t None (Some (Same, Over))

-- b is the next name, or the end
unfoldable pub name_step : Memory → Memory → ℕ → Bool → Step
name_step m k b t = cond (ltb b names_end) (Some (Processor b (said m k b), Names (b + 1) true)) (ended t)

unfoldable pub names_step : Memory → Memory → ℕ → Bool → Step
names_step m k a t = name_step m k (next_named (names_end - a) m k a) t

unfoldable pub second_step : Finding → Memory → Memory → Bool → Step
second_step Finding.Nothing m k t = names_step m k first_name t
second_step WrongLength m k t = Some (Refused Side.Second wrong_length, Over)
second_step (Broken n a) m k t = Some (RefusedAt Side.Second n a, Over)

unfoldable pub first_step : Finding → Memory → Memory → Bool → Step
first_step Finding.Nothing m k t = second_step (told_of k) m k t
first_step WrongLength m k t = Some (Refused Side.First wrong_length, Second)
first_step (Broken n a) m k t = Some (RefusedAt Side.First n a, Second)

abbrev pub judged_step : Memory → Memory → Bool → Step
judged_step m k t = first_step (told_of m) m k t

-- b is the next address, or the end
unfoldable pub word_step : Memory → Memory → ℕ → Bool → Step
word_step m k b t = cond (ltb b memory_size) (Some (Word b (get_or m b 0) (get_or k b 0), Words (b + 1) true)) (judged_step m k t)

unfoldable pub words_step : Memory → Memory → ℕ → Bool → Step
words_step m k a t = word_step m k (next_differing (memory_size - a) m k a) t

-- what is against the second, alone
unfoldable pub against_step : Finding → Step
against_step Finding.Nothing = None
against_step WrongLength = Some (Refused Side.Second wrong_length, Over)
against_step (Broken n a) = Some (RefusedAt Side.Second n a, Over)

unfoldable pub whole_step : Cursor → Memory → Memory → Step
whole_step Start m k = words_step m k 0 false
whole_step (Words a t) m k = words_step m k a t
whole_step Second m k = against_step (told_of k)
whole_step (Names n t) m k = names_step m k n t
whole_step Over m k = None

unfoldable pub size_step : Memory → Step
size_step k = cond (is_whole k) None (Some (Refused Side.Second wrong_length, Over))

unfoldable pub sizes_step : Memory → Memory → Step
sizes_step m k = cond (is_whole m) (size_step k) (Some (Refused Side.First wrong_length, Second))

unfoldable pub cut_step : Cursor → Memory → Memory → Step
cut_step Start m k = sizes_step m k
cut_step (Words a t) m k = None
cut_step Second m k = size_step k
cut_step (Names n t) m k = None
cut_step Over m k = None

unfoldable pub step : Cursor → Memory → Memory → Step
step c m k = cond (is_whole m) (cond (is_whole k) (whole_step c m k) (cut_step c m k)) (cut_step c m k)
