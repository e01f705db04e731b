-- Which words differ (document 02, 7/13): "a tool that reads both files and lists every differing address in rising order with both values, no more and no
-- fewer. If both are well-formed it then lists, by name, processors present in only one, and for names in both whether state, priority or any queue's content
-- differs. Queue content is compared by messages in order, and not by page numbers. If either is broken, only the word list and the reason are printed; if
-- either file isn't 8,192 bytes, only 20 and which file." m is the first memory, k the second.
use Rattle.std.specs.Prelude.{ℕ, zero, suc, ◌+◌, Bool, true, false, cond, not, ◌&&◌, List, [], ◌∷◌, ◌++◌, map, eqb, leb}
use Rattle.model.specs.Told.{Finding, Said, Line}
use Rattle.model.specs.Told.Finding.{WrongLength, Broken}
use Rattle.model.specs.declared.Side.{Side}
use Rattle.model.specs.declared.Side.TheVariants.{First, Second}
use Rattle.model.specs.declared.State.{State}
use Rattle.model.specs.declared.Parts.{Parts}
use Rattle.model.specs.Told.Said.{Nothing, OnlyIn, DiffersIn}
use Rattle.model.specs.Told.Line.{Word, Refused, RefusedAt, Processor, Same}
use Rattle.model.specs.Store.{Store}
use Rattle.model.specs.Map.{memory_size, place, stop_in, wait_in, free_semaphore, reason, q1, q2, state, note, size, text, interrupts, first_name, last_name}
use Rattle.model.specs.Address.{at, word, wrapped, unless}
use Rattle.model.specs.Lists.{hit}
use Rattle.model.specs.Queue.{queue}
use Rattle.model.specs.Processor as Processor
use Rattle.model.specs.Wait.{queued, seat}
use Rattle.model.specs.Mail.{length_of}
use Rattle.model.specs.Answer.{wrong_length}
use Rattle.model.specs.Classes.{told_of}

-- ---- two lists of words are the same; two lists of messages
unfoldable pub same_words : List ℕ → List ℕ → Bool
same_words [] [] = true
same_words [] (y ∷ ys) = false
same_words (x ∷ xs) [] = false
same_words (x ∷ xs) (y ∷ ys) = elim (eqb x y) [ true ↦ same_words xs ys | false ↦ false ]

unfoldable pub same_messages : List (List ℕ) → List (List ℕ) → Bool
same_messages [] [] = true
same_messages [] (y ∷ ys) = false
same_messages (x ∷ xs) [] = false
same_messages (x ∷ xs) (y ∷ ys) = elim (same_words x y) [ true ↦ same_messages xs ys | false ↦ false ]

-- ---- "state": the bits, whether it runs, its queue and its reason
unfoldable pub same_wait : State → State → Bool
same_wait s t = unless (eqb s.queue t.queue) false (eqb s.reason t.reason)

unfoldable pub same_state : State → State → Bool
same_state s t =
    unless (eqb s.stopped t.stopped) false
    (unless (eqb s.waiting t.waiting) false
    (unless (eqb s.runs t.runs) false
    (same_wait s t)))

-- a queue by the address of its semaphore, which is the same in every memory; one's own message wait, which hangs on its page, by another number; none by 0
abbrev pub no_queue : ℕ
no_queue = 0

abbrev pub for_message : ℕ
for_message = 1

unfoldable pub queue_at : ℕ → ℕ
queue_at s = cond (leb s free_semaphore) s for_message

-- ---- nothing is said where nothing differs
unfoldable pub differs_in : Parts → Said
differs_in d = cond d.state (DiffersIn d) (cond d.priority (DiffersIn d) (cond d.q1 (DiffersIn d) (cond d.q2 (DiffersIn d) Nothing)))

-- ---- the lines of a finding, of a name, and `same` where there are none
unfoldable pub finding_lines : Side → Finding → List Line
finding_lines s Finding.Nothing = []
finding_lines s WrongLength = Refused s wrong_length ∷ []
finding_lines s (Broken n a) = RefusedAt s n a ∷ []

unfoldable pub name_lines : ℕ → Said → List Line
name_lines n Nothing = []
name_lines n (OnlyIn s) = Processor n (OnlyIn s) ∷ []
name_lines n (DiffersIn d) = Processor n (DiffersIn d) ∷ []

unfoldable pub or_same : List Line → List Line
or_same [] = Same ∷ []
or_same (x ∷ xs) = x ∷ xs

-- "only the word list and the reason": b are the lines of what is broken, n those of the names
unfoldable pub broken_or : List Line → List Line → List Line
broken_or [] n = n
broken_or (x ∷ xs) n = x ∷ xs

module _ (S : Store) where
  -- ---- "every differing address in rising order .., no more and no fewer": of the n addresses from a on; "address, first value and second value"
  unfoldable pub differing : ℕ → S.M → S.M → ℕ → List ℕ
  differing zero m k a = []
  differing (suc n) m k a = elim (eqb (at S m a) (at S k a)) [ true ↦ differing n m k (a + 1) | false ↦ a ∷ differing n m k (a + 1) ]

  abbrev pub word_line : S.M → S.M → ℕ → Line
  word_line m k a = Word a (at S m a) (at S k a)

  unfoldable pub word_lines : ℕ → S.M → S.M → ℕ → List Line
  word_lines n m k a = map (word_line m k) (differing n m k a)

  -- ---- "state": the stopped and the waiting bit of page p, whether it is the one that runs, the queue it waits in, its reason
  unfoldable pub queue_of : S.M → ℕ → ℕ
  queue_of m p = cond (queued S m (seat S interrupts m p) p) (queue_at (seat S interrupts m p)) no_queue

  unfoldable pub state_of : S.M → ℕ → State
  state_of m p = record {
    stopped = stop_in (word S m p state);
    waiting = wait_in (word S m p state);
    runs = hit (eqb (Processor.running S m) p);
    queue = queue_of m p;
    reason = word S m p reason;
  }

  -- ---- "messages in order, and not .. page numbers": word 1, word 2 and the text of page q; the messages of the queue with header h
  unfoldable pub words_from : ℕ → S.M → ℕ → List ℕ
  words_from zero m a = []
  words_from (suc n) m a = at S m a ∷ words_from n m (wrapped a 1)

  unfoldable pub content_of : S.M → ℕ → List ℕ
  content_of m q = word S m q size ∷ words_from (length_of S m q) m (place q text)

  unfoldable pub message_of : S.M → ℕ → List ℕ
  message_of m q = word S m q note ∷ content_of m q

  unfoldable pub messages : S.M → ℕ → List (List ℕ)
  messages m h = map (message_of m) (queue S m h)

  unfoldable pub same_mail : S.M → ℕ → S.M → ℕ → Bool
  same_mail m h k g = same_messages (messages m h) (messages k g)

  -- ---- "for names in both whether state, priority or any queue's content differs": page p of the first, page q of the second
  unfoldable pub differences : S.M → ℕ → S.M → ℕ → Parts
  differences m p k q = record {
    state = not (same_state (state_of m p) (state_of k q));
    priority = not (eqb (Processor.priority S m p) (Processor.priority S k q));
    q1 = not (same_mail m (place p q1) k (place q q1));
    q2 = not (same_mail m (place p q2) k (place q q2));
  }

  -- "by name, processors present in only one": what is said of the name n, whose pages are p and q, or 0
  unfoldable pub said_of : S.M → ℕ → S.M → ℕ → Said
  said_of m p k q =
      cond (eqb p 0) (cond (eqb q 0) Nothing (OnlyIn Second))
      (cond (eqb q 0) (OnlyIn First)
      (differs_in (differences m p k q)))

  unfoldable pub said : S.M → S.M → ℕ → Said
  said m k n = said_of m (Processor.page_of S m n) k (Processor.page_of S k n)

  -- n names from a on
  unfoldable pub names_lines : ℕ → S.M → S.M → ℕ → List Line
  names_lines zero m k a = []
  names_lines (suc n) m k a = name_lines a (said m k a) ++ names_lines n m k (a + 1)

  -- ---- what is printed behind the words: the reasons, else the names
  unfoldable pub judged_lines : S.M → S.M → List Line
  judged_lines m k = broken_or (finding_lines First (told_of S m) ++ finding_lines Second (told_of S k)) (names_lines last_name m k first_name)

  -- ---- "if either file isn't 8,192 bytes, only 20 and which file"
  unfoldable pub is_whole : S.M → Bool
  is_whole m = eqb (S.size m) memory_size

  unfoldable pub size_lines : Side → S.M → List Line
  size_lines s m = cond (is_whole m) [] (Refused s wrong_length ∷ [])

  -- ---- all that is printed
  unfoldable pub whole_lines : S.M → S.M → List Line
  whole_lines m k = or_same (word_lines memory_size m k 0 ++ judged_lines m k)

  unfoldable pub lines : S.M → S.M → List Line
  lines m k = unless (is_whole m && is_whole k) (size_lines First m ++ size_lines Second k) (whole_lines m k)
