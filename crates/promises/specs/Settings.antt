-- What is promised of settings, on one page. A file, a block and a buffer are lists of bytes: any lists of numbers where nothing else is said. `of_file` and
-- `of_block` are the verdicts, `newest` is the newest block of a file, `from_settings` and `write_settings` are the two calls (model/specs/Layout.antt and
-- Settings.antt). Each statement is followed by its proof in the laws. Assumes nothing.
use Rattle.std.specs.Prelude.{◌≡◌, ◌≢◌, List, [], ◌∷◌, ℕ, ◌+◌, ◌-◌, ◌≤◌, ◌<◌, length, take, drop}
use Rattle.model.specs.Told.Answer.{Done}
use Rattle.model.specs.Told.Fit.{Good, Refused, RefusedAt}
use Rattle.model.specs.Told.Writing.{Written}
use Rattle.model.specs.Map.{memory_size, start_address}
use Rattle.model.specs.Answer.{answer_of, memory_of, numbers, writing_numbers, done_number, written_number}
use Rattle.model.specs.Answer.Outcome.{gives}
use Rattle.model.specs.Layout.{labelled, label_place, label_bytes}
use Rattle.model.specs.Layout.{trailer_bytes, most_entries, own_version, version_of, trailer_place, trailer_in, newest, of_block, of_file}
use Rattle.model.specs.Settings.{place_for, new_length, written, weight, of_used, write_settings}
use Rattle.model.specs.Bytes.{from_settings, settled, lr, running, priority, page_of, crp, crp_page}
use Rattle.laws.specs.Words.{Small}
use Rattle.laws.specs.Calls.{Sound, settings_starts}
use Rattle.laws.specs.Numbers as Numbers
use Rattle.laws.specs.Numbers.{Refuses}
use Rattle.laws.specs.Above.{crp_behind}
use Rattle.laws.specs.Settle.{FromSettings, from_settings_lem, settled_lr}
use Rattle.laws.specs.Files as Files
use Rattle.laws.specs.Files.{filed, Label, Sample, told_writing}

-- ---- "A fresh start from settings equals fresh followed by creation of the entries in order, processor 1's LR staying." On any memory of 8,192 words,
-- whatever it holds, a good file is taken: `FromSettings` (laws/specs/Settle.antt) has the memory that the fresh start with the file's line and divider
-- leaves, and the one that the call leaves. From the first to the second leads what CRP does behind its tests, once for each entry, in order, done each time,
-- with LR put back: `Created`. Each entry passes the tests too, but that of its own priority (`Unbound`). What stands there then is `Settled`: the processors
-- are 1 and the entries in their order, on pages 236, 237, .., each entry stopped with its own name, priority, W and address and all else zero, nothing in its
-- queues; processor 1 runs
pub a_start_from_settings : (m : List ℕ) → length m ≡ memory_size → Small m → (f : List ℕ) → of_file f ≡ Good → FromSettings m f
a_start_from_settings = from_settings_lem

-- what stands behind CRP's tests is CRP itself, wherever they are passed: 6/13, "A fresh start from settings isn't bound by this rule", is all the difference
pub behind_its_tests_it_is_crp : (m : List ℕ) (n b w a len : ℕ) → 1 ≤ n → 1 ≤ b → b ≤ priority m (running m) → page_of m n ≡ 0
    → crp m n b w a len ≡ crp_page m n b w a len
behind_its_tests_it_is_crp = crp_behind

pub its_lr_stays : (m : List ℕ) (l : length m ≡ memory_size) (s : Small m) (f : List ℕ) (g : of_file f ≡ Good) → lr (from_settings_lem m l s f g).left ≡ start_address
its_lr_stays m l s f g = settled_lr (from_settings_lem m l s f g).settled

-- the memory is well-formed then. That its history is empty is said on the page History: the call begins a run
pub settings_well_formed : {m : List ℕ} → length m ≡ memory_size → Small m → (f : List ℕ) → of_file f ≡ Good → Sound (memory_of (from_settings m f))
settings_well_formed = settings_starts

-- ---- what refuses the file refuses the call, after 20, with the same number, and with 29 the version; memory untouched. A good one is taken
pub a_bad_file_is_refused : (m : List ℕ) → length m ≡ memory_size → (f : List ℕ)
    → ((k : ℕ) → of_file f ≡ Refused k → Refuses numbers (from_settings m f) (k ∷ []) m)
    × ((k v : ℕ) → of_file f ≡ RefusedAt k v → Refuses numbers (from_settings m f) (k ∷ v ∷ []) m)
    × (of_file f ≡ Good → numbers (answer_of (from_settings m f)) ≡ done_number ∷ [])
a_bad_file_is_refused m l f = (Numbers.settings_refuses m l f, Numbers.settings_too_new m l f, Numbers.settings_takes m l f)

-- ---- which files are good: anything, then a good block, then that block's trailer (`filed`), and no others
pub such_a_file_is_good : (x b : List ℕ) → of_block b ≡ Good → (of_file (filed x b) ≡ Good) × (newest (filed x b) ≡ b)
such_a_file_is_good x b g = (Files.filed_good x b g, Files.filed_newest x b)

pub a_good_file_is_such : (f : List ℕ) → Small f → of_file f ≡ Good → f ≡ filed (take (trailer_place f - (trailer_in f).distance) f) (newest f)
a_good_file_is_such = Files.good_filed

-- the label of a good block of version 3 is some letters, A-Z and a-z, and then zeros to its end: `Label` (laws/specs/Files.antt)
pub a_label_is_letters : (b : List ℕ) → of_block b ≡ Good → version_of b ≡ labelled → Label b label_place label_bytes
a_label_is_letters = Files.good_label

-- there is one of each version with each number of entries
pub there_are_good_files : (v n : ℕ) → 1 ≤ v → v ≤ own_version → n ≤ most_entries → Sample v n
there_are_good_files = Files.a_sample

-- ---- the round trip, over the three versions: into a file that is empty or good, and a buffer with room, a good block is written; what write leaves is good,
-- its newest block is that block, and a fresh start from it is that of the block
pub what_is_written_is_read : (l : List ℕ) (used : ℕ) (b : List ℕ) → used ≤ length l → of_used (take used l) ≡ Good → of_block b ≡ Good
    → new_length used b ≤ length l
    → (write_settings l used b ≡ gives (Written (new_length used b)) (written l used b))
    × (newest (take (new_length used b) (written l used b)) ≡ b)
    × (of_file (take (new_length used b) (written l used b)) ≡ Good)
    × ((m : List ℕ) → length m ≡ memory_size → from_settings m (take (new_length used b) (written l used b)) ≡ gives Done (settled m b))
what_is_written_is_read l used b u g h r =
    let t = Files.round_trip l used b u g h r in (Files.writes_good l used b u g h r, t.0, t.1, Files.round_start l used b u g h r)

-- the new length: of a new file the block and its trailer, else what was in use and the block
pub the_new_length : (l : List ℕ) (used : ℕ) (b : List ℕ) → (new_length 0 b ≡ length b + trailer_bytes)
    × (used ≤ length l → used ≢ 0 → of_used (take used l) ≡ Good → new_length used b ≡ used + length b)
the_new_length l used b = (Files.length_empty b, Files.length_used l used b)

-- ---- "and the older blocks stay as they were": all before the old trailer, all behind the new length, and how much is lent
pub nothing_else_is_written : (l : List ℕ) (used : ℕ) (b : List ℕ) → used ≤ length l → new_length used b ≤ length l
    → (take (place_for used) (written l used b) ≡ take (place_for used) l)
    × (drop (new_length used b) (written l used b) ≡ drop (new_length used b) l)
    × (length (written l used b) ≡ length l)
nothing_else_is_written l used b u r = (Files.written_before l used b u, Files.written_behind l used b u, Files.written_size l used b u r)

-- "refused by 29, 28 and 26 alike": of what refuses the file and what refuses the block the greater number is told, of two alike the file's
pub the_greater_number_is_told : (l : List ℕ) (used : ℕ) (b : List ℕ) → used ≤ length l
    → ((k : ℕ) → of_used (take used l) ≡ Refused k → weight (of_block b) ≤ k → writing_numbers (answer_of (write_settings l used b)) ≡ k ∷ [])
    × ((k v : ℕ) → of_used (take used l) ≡ RefusedAt k v → weight (of_block b) ≤ k → writing_numbers (answer_of (write_settings l used b)) ≡ k ∷ v ∷ [])
    × ((k : ℕ) → of_block b ≡ Refused k → weight (of_used (take used l)) < k → writing_numbers (answer_of (write_settings l used b)) ≡ k ∷ [])
    × ((k v : ℕ) → of_block b ≡ RefusedAt k v → weight (of_used (take used l)) < k → writing_numbers (answer_of (write_settings l used b)) ≡ k ∷ v ∷ [])
the_greater_number_is_told l used b u =
    (Files.file_told l used b u, Files.file_told_new l used b u, Files.block_told l used b u, Files.block_told_new l used b u)

-- "and changes nothing": an answer with any other number than that of written leaves every byte; and the numbers tell the answer
pub a_refused_write_changes_nothing : (l : List ℕ) (used : ℕ) (b : List ℕ) (k : ℕ) (ns : List ℕ) → k ≢ written_number
    → writing_numbers (answer_of (write_settings l used b)) ≡ k ∷ ns → memory_of (write_settings l used b) ≡ l
a_refused_write_changes_nothing = Files.write_kept

pub the_numbers_of_writing_tell : (l : List ℕ) (used : ℕ) (b : List ℕ)
    → told_writing (writing_numbers (answer_of (write_settings l used b))) ≡ answer_of (write_settings l used b)
the_numbers_of_writing_tell = Files.write_told
