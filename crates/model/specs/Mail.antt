-- Memory map: "Message page". Instructions: "Sending", and the moves of mail.
use Rattle.std.specs.Prelude.{ℕ, zero, suc, Bool, true, false, cond, eqb}
use Rattle.model.specs.Store.{Store}
use Rattle.model.specs.Map.{place, pair, upper, lower, length_in, link, reason, own_semaphore, own_queue, q1, q2, note, size, text, notice}
use Rattle.model.specs.Map.{head_words, is_unmarked}
use Rattle.model.specs.Address.{word, store, write, wrapped, copy}
use Rattle.model.specs.Queue.{first, queue, join, leave}
use Rattle.model.specs.Processor.{name, running}
use Rattle.model.specs.Wait.{wake}

-- "A match on NI or flag 0 means any."
unfoldable pub asks : ℕ → ℕ → Bool
asks n x = cond (eqb n 0) true (eqb n x)

-- NI n and flag f ask for a message whose word 1 is w
unfoldable pub fits : ℕ → ℕ → ℕ → Bool
fits n f w = cond (asks n (upper w)) (asks f (lower w)) false

-- whether a match was found in Q1, and the memory with the tested messages in Q2
pub data Tested (M : Type 0) : Type 0 where
  tested : Bool → M → Tested M

module _ (S : Store) where
  -- "1 sender*16+flag"
  abbrev pub sender : S.M → ℕ → ℕ
  sender m q = upper (word S m q note)

  abbrev pub flag : S.M → ℕ → ℕ
  flag m q = lower (word S m q note)

  -- "A notice has 128 in word 2 and is read as length 0." "Marked mail is read as before, and RME hands out the true length."
  abbrev pub length_of : S.M → ℕ → ℕ
  length_of m q = length_in (word S m q size)

  abbrev pub is_notice : S.M → ℕ → Bool
  is_notice m q = eqb (word S m q size) notice

  -- mail that is not marked; what is neither this nor a notice is marked mail
  abbrev pub unmarked : S.M → ℕ → Bool
  unmarked m q = is_unmarked (word S m q size)

  unfoldable pub matches : S.M → ℕ → ℕ → ℕ → Bool
  matches m n f q = fits n f (word S m q note)

  -- "first match in Q1", "first match in Q2", of the running processor; 0: none
  abbrev pub in_q1 : S.M → ℕ → ℕ → ℕ
  in_q1 m n f = first (matches m n f) (queue S m (place (running S m) q1))

  abbrev pub in_q2 : S.M → ℕ → ℕ → ℕ
  in_q2 m n f = first (matches m n f) (queue S m (place (running S m) q2))

  -- whether the processor of page p waits for message q: "NI*16+F as reason"
  unfoldable pub awaits : S.M → ℕ → ℕ → Bool
  awaits m p q = cond (eqb (word S m p own_queue) 0) false (matches m (upper (word S m p reason)) (lower (word S m p reason)) q)

  -- "if NI waits for it, NI wakes"
  unfoldable pub heard : S.M → ℕ → ℕ → S.M
  heard m p q = cond (awaits m p q) (wake S m (place p own_semaphore) p) m

  -- "The page joins NI's Q1; if NI waits for it, NI wakes." "A notice wakes one that waits for it alike."
  unfoldable pub deliver : S.M → ℕ → ℕ → S.M
  deliver m p q = heard (join S m (place p q1) link q) p q

  -- page q becomes the running processor's message with flag f and the text of l words from a on
  unfoldable pub write_message : S.M → ℕ → ℕ → ℕ → ℕ → S.M
  write_message m q f a l = copy S l (store S (store S m q note (pair (name S m (running S m)) f)) q size l) a (place q text)

  -- "a notice with NI as sender and the same flag, no text written"
  unfoldable pub make_notice : S.M → ℕ → ℕ → ℕ → S.M
  make_notice m q n f = store S (store S m q note (pair n f)) q size notice

  -- WNM, TME: message q goes from Q1 of the processor of page p to the end of its Q2
  unfoldable pub move : S.M → ℕ → ℕ → S.M
  move m p q = join S (leave S m (place p q1) link q) (place p q2) link q

  -- TME: "Q1 messages tested, the found one too, go to Q2 in order"
  unfoldable pub test_q1 : ℕ → S.M → ℕ → ℕ → ℕ → Tested S.M
  test_q1 zero m p n f = tested false m
  test_q1 (suc i) m p n f = elim (eqb (word S m p q1) 0) [
    | true ↦ tested false m
    | false ↦ elim (matches m n f (word S m p q1)) [ true ↦ tested true (move m p (word S m p q1)) | false ↦ test_q1 i (move m p (word S m p q1)) p n f ]
  ]

  -- RME: "sender, flag, length, text to A on, one word each"
  unfoldable pub copy_out : S.M → ℕ → ℕ → S.M
  copy_out m q a = texts (write S (write S (write S m a (sender m q)) (wrapped a 1) (flag m q)) (wrapped a 2) (length_of m q))
    where
      texts : S.M → S.M
      texts m₁ = copy S (length_of m q) m₁ (place q text) (wrapped a head_words)
