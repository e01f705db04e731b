-- Settings that survive a box swap (document 02, 5/13): the eighth and the ninth public call. A fresh start from settings is one function from the memory and a
-- file to an outcome; writing one from the lent buffer, how much of it is in use and a block to an outcome, whose memory is the buffer.
use Rattle.std.specs.Prelude.{ℕ, ◌+◌, ◌-◌, ◌/◌, ◌%◌, cond, List, [], ◌∷◌, ◌++◌, eqb, ltb, length, take, drop}
use Rattle.model.specs.Told.{Answer}
use Rattle.model.specs.declared.Entry.{Entry}
use Rattle.model.specs.Told.{Fit}
use Rattle.model.specs.Told.Fit.{Good, Refused, RefusedAt}
use Rattle.model.specs.Told.{Writing}
use Rattle.model.specs.Store.{Store}
use Rattle.model.specs.Map.{memory_size, word_values}
use Rattle.model.specs.Address.{unless}
use Rattle.model.specs.Processor.{running}
use Rattle.model.specs.Page.{Taken, take_page}
use Rattle.model.specs.Page.Taken.{took}
use Rattle.model.specs.Operate.{created}
use Rattle.model.specs.Answer.{Outcome, Step, refused, wrong_length, no_room}
use Rattle.model.specs.Answer.Outcome.{gives}
use Rattle.model.specs.Fresh.{started}
use Rattle.model.specs.Layout.{trailer_bytes, version_of, count_of, line_of, divider_of, entries_of, newest, of_block, of_file}

-- ---- "A fresh start from settings equals fresh followed by creation of the entries in order, processor 1's LR staying"
module _ (S : Store) where
  -- what CRP does when it is done, but for its LR; of its tests, 6/13: "A fresh start from settings isn't bound by this rule"
  unfoldable pub made : S.M → Entry → S.M
  made m e = to (take_page S m (running S m))
    where
      to : Taken S.M → S.M
      to (took q m₁) = created S m₁ q e.name e.priority e.w e.address

  unfoldable pub all_made : S.M → List Entry → S.M
  all_made m [] = m
  all_made m (e ∷ es) = all_made (made m e) es

  -- the settings of a block
  unfoldable pub settled : S.M → List ℕ → S.M
  settled m b = all_made (started S m (line_of b) (divider_of b)) (entries_of b)

  -- "refused by 29 .., 28 .., 26 .., memory untouched"
  abbrev pub heeds_file : Fit → S.M → List ℕ → Step S
  heeds_file Good m f = gives Answer.Done (settled m (newest f))
  heeds_file (Refused k) m f = refused S m k
  heeds_file (RefusedAt k v) m f = gives (Answer.RefusedAt k v) m

  -- 20, then 29, 28, 26
  unfoldable pub from_settings : S.M → List ℕ → Step S
  from_settings m f =
      unless (eqb (S.size m) memory_size) (refused S m wrong_length)
      (heeds_file (of_file f) m f)

-- ---- "Writing puts a block and a new trailer in the old trailer's place"
-- the trailer of a block: its length is the distance
unfoldable pub trailer_for : List ℕ → List ℕ
trailer_for b = length b / word_values ∷ length b % word_values ∷ version_of b ∷ count_of b ∷ []

-- "in the old trailer's place"; "an empty file may be written to": there it is 0
abbrev pub place_for : ℕ → ℕ
place_for used = used - trailer_bytes

abbrev pub new_length : ℕ → List ℕ → ℕ
new_length used b = place_for used + length b + trailer_bytes

-- "and the older blocks stay as they were": so does all before the place, and all behind the new length
unfoldable pub written : List ℕ → ℕ → List ℕ → List ℕ
written l used b = take (place_for used) l ++ b ++ trailer_for b ++ drop (new_length used b) l

-- "refused by 29, 28 and 26 alike": the greater number of what refuses the file and what refuses the block; of two 29 the file's
unfoldable pub weight : Fit → ℕ
weight Good = 0
weight (Refused k) = k
weight (RefusedAt k v) = k

unfoldable pub worse : Fit → Fit → Fit
worse f b = cond (ltb (weight f) (weight b)) b f

unfoldable pub of_used : List ℕ → Fit
of_used f = cond (eqb (length f) 0) Good (of_file f)

-- "then by 35 if the lent buffer is too short, and changes nothing"
unfoldable pub writes : List ℕ → ℕ → List ℕ → Outcome Writing (List ℕ)
writes l used b =
    cond (ltb (length l) (new_length used b)) (gives (Writing.Refused no_room) l)
    (gives (Writing.Written (new_length used b)) (written l used b))

abbrev pub heeds_both : Fit → List ℕ → ℕ → List ℕ → Outcome Writing (List ℕ)
heeds_both Good l used b = writes l used b
heeds_both (Refused k) l used b = gives (Writing.Refused k) l
heeds_both (RefusedAt k v) l used b = gives (Writing.RefusedAt k v) l

-- where more is said to be in use than is lent, nothing can be read: 35 too
unfoldable pub write_settings : List ℕ → ℕ → List ℕ → Outcome Writing (List ℕ)
write_settings l used b =
    cond (ltb (length l) used) (gives (Writing.Refused no_room) l)
    (heeds_both (worse (of_used (take used l)) (of_block b)) l used b)
