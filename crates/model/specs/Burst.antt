-- A burst from the line card (document 02, 2/13): the seventh public call, from the memory and "a lent buffer" to an outcome. The buffer is a list
-- of bytes, number and class number in turn.
use Rattle.std.specs.Prelude.{ℕ, ◌+◌, ◌%◌, Bool, false, cond, List, [], ◌∷◌, eqb, ltb, length}
use Rattle.model.specs.Told.Answer.{Done, Refused, RefusedAt}
use Rattle.model.specs.Told.{Checked}
use Rattle.model.specs.Told.Checked.{Good, Bad}
use Rattle.model.specs.Store.{Store}
use Rattle.model.specs.Map.{pair_bytes, longest_list}
use Rattle.model.specs.Address.{unless}
use Rattle.model.specs.Interrupt.{delivered}
use Rattle.model.specs.Turn.{who_runs}
use Rattle.model.specs.Answer.{Step, refused, no_interrupt, wrong_class, wrong_list}
use Rattle.model.specs.Answer.Outcome.{gives}
use Rattle.model.specs.Call.{is_outer, is_class, head}

-- "up to 32 interrupts, as pairs"; what is not so is "A longer or odd list"
unfoldable pub is_list : List ℕ → Bool
is_list l = cond (ltb longest_list (length l)) false (eqb (length l % pair_bytes) 0)

-- "All pairs are tested for 24 and 25 ..; the first bad pair refuses the whole list and tells its place": those of l, of which the first has place i
unfoldable pub tested : ℕ → List ℕ → Checked
tested i [] = Good
tested i (k ∷ []) = Good
tested i (k ∷ c ∷ l) =
    unless (is_outer k) (Bad no_interrupt i)
    (unless (is_class k c) (Bad wrong_class i)
    (tested (i + 1) l))

module _ (S : Store) where
  -- "Memory afterwards equals that of delivering them one by one, who runs included."
  unfoldable pub arrived : S.M → List ℕ → S.M
  arrived m [] = m
  arrived m (k ∷ []) = m
  arrived m (k ∷ c ∷ l) = arrived (who_runs S (delivered S m k c)) l

  -- "before the first is delivered"
  abbrev pub heeds_pairs : Checked → S.M → List ℕ → Step S
  heeds_pairs Good m l = gives Done (arrived m l)
  heeds_pairs (Bad n i) m l = gives (RefusedAt n i) m

  -- 20, 30-34, 27 "after the memory checks and before 24", then 24 and 25 with the place, "from 1"
  unfoldable pub burst_judged : S.M → List ℕ → Step S
  burst_judged m l =
      unless (is_list l) (refused S m wrong_list)
      (heeds_pairs (tested 1 l) m l)

  unfoldable pub burst : S.M → List ℕ → Step S
  burst m l = head S m Refused RefusedAt (burst_judged m l)
