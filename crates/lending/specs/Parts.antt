-- What `settings` and `write` lend to their calls, and what becomes of the words m: "Both take the bytes from the 8,200 words, whatever the lent length, by
-- copying them out first; `write` copies the buffer back." Then: what is copied back changes just its own words.
use Rattle.std.specs.Prelude.{ℕ, ◌+◌, ◌≤◌, ◌≡◌, List, ◌++◌, length, take, drop}
use Rattle.std.proofs.Common.{arith, ap, ◌∙◌, append_assoc, length-append, length-take-le, take_at, drop_at}
use Rattle.std.proofs.Math.Seq.{take-append_seam}
use Rattle.model.specs.Told.{Answer}
use Rattle.model.specs.Told.{Writing}
use Rattle.model.specs.Answer.{Outcome}
use Rattle.model.specs.Answer.Outcome.{gives}
use Rattle.model.specs.Settings.{write_settings}
use Rattle.model.specs.Bytes.{from_settings}

-- "LENGTH words from ADDRESS on"
abbrev pub part : List ℕ → ℕ → ℕ → List ℕ
part m a n = take n (drop a m)

-- the words of l from a on, all others as they were
abbrev pub with_part : List ℕ → ℕ → List ℕ → List ℕ
with_part m a l = take a m ++ l ++ drop (a + length l) m

-- "fresh start from the file that stands in LENGTH words from ADDRESS on": lent are the first k words; those behind stay
unfoldable pub fresh_from : List ℕ → ℕ → ℕ → ℕ → Outcome Answer (List ℕ)
fresh_from m k a n = whole (from_settings (take k m) (part m a n))
  where
    whole : Outcome Answer (List ℕ) → Outcome Answer (List ℕ)
    whole (gives r l) = gives r (l ++ drop k m)

-- what the call leaves of the buffer goes back to its words
unfoldable pub back : List ℕ → ℕ → Outcome Writing (List ℕ) → Outcome Writing (List ℕ)
back m a (gives r l) = gives r (with_part m a l)

-- "the write call: the buffer is ROOM words from FILE on, USED of them in use; the block LENGTH words from BLOCK on"
unfoldable pub written_in : List ℕ → ℕ → ℕ → ℕ → ℕ → ℕ → Outcome Writing (List ℕ)
written_in m file room used block n = back m file (write_settings (part m file room) used (part m block n))

-- ---- what is copied back changes its own words and no others
module _ (m l : List ℕ) (a : ℕ) (h : a + length l ≤ length m) where
  before : length (take a m) ≡ a
  before = length-take-le a m (omega arith)

  pub before_stays : take a (with_part m a l) ≡ take a m
  before_stays = rw append_assoc (take_at (take a m) (l ++ drop (a + length l) m) a before)

  pub part_is : part (with_part m a l) a (length l) ≡ l
  part_is =
      rw (append_assoc, drop_at (take a m) (l ++ drop (a + length l) m) a before) (take-append_seam l (drop (a + length l) m))

  pub behind_stays : drop (a + length l) (with_part m a l) ≡ drop (a + length l) m
  behind_stays =
      let long : length (take a m ++ l) ≡ a + length l = length-append (take a m) l ∙ ap (λ (k : ℕ). k + length l) before in
      drop_at (take a m ++ l) (drop (a + length l) m) (a + length l) long
