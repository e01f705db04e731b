-- What the kernel promises of its calls, on one page. A memory is a list of words; `Small m` says that each is below 256, as every word of a lent slice is;
-- `Sound m` that there are 8,192 of them and that the judge accepts them; `Reached m` that m comes from a fresh start, from settings or not, by any calls, and
-- any changes of page 0 and of unprotected words by the host between them (laws/specs/Calls.antt). An answer is spoken of by document 01's numbers, `numbers`,
-- `held_numbers` and `verdict_numbers` (model/specs/Answer.antt). Each statement is followed by its proof in the laws. Assumes nothing.
use Rattle.std.specs.Prelude.{◌≡◌, ◌≢◌, ◌⊎◌, true, false, List, [], ◌∷◌, ℕ, ◌+◌, ◌≤◌, ◌<◌, length}
use Rattle.model.specs.declared.Registers.{Registers}
use Rattle.model.specs.Map.{memory_size, first_control, last_control, grant_for, last_fault, last_name}
use Rattle.model.specs.Instruction.{crp_code, exi_code, shape_for}
use Rattle.model.specs.Fresh.{startable}
use Rattle.model.specs.Told.Answer.{Done}
use Rattle.model.specs.Answer.Outcome.{gives}
use Rattle.model.specs.Answer.{answer_of, memory_of, numbers, held_numbers, verdict_numbers, done_number, handed_out_number, wrong_length}
use Rattle.model.specs.Bytes.{judged, fresh, from_settings, instruction, interrupt, burst, set_registers, read_registers, judge, running, at, lr, direct}
use Rattle.model.specs.Bytes.{pointed, indexed, is_foreign, argument_fault}
use Rattle.laws.specs.Words.{Small}
use Rattle.laws.specs.Calls.{Sound, Host, Reached, fresh_starts, fresh_sound, instruction_sound, interrupt_sound, burst_sound, set_sound, host_sound}
use Rattle.laws.specs.Calls.{settings_sound, reached_sound}
use Rattle.laws.specs.Numbers as Numbers
use Rattle.laws.specs.Numbers.{told, told_held, told_verdict, kind_numbers, Refuses, RefuseAll, Told, Class, Bad, sound_good, read_kept_lem, judge_kept}
use Rattle.laws.specs.Kinds.{instruction_kind, fresh_kind, settings_kind, interrupt_kind, burst_kind, set_kind}
use Rattle.laws.specs.Refusals.{first_refusal, last_refusal, kind_kept, kind_hands}
use Rattle.laws.specs.Faulty.{Faulted, faulted, grants_stay}
use Rattle.laws.specs.Above.{InOrder, AtLr, asked, asked_in_order, crp_asks, exi_asks}
use Rattle.laws.specs.Above.Asked.{one}
use Rattle.laws.specs.Bursts.{Comes, comes, empty_done}
use Rattle.laws.specs.UsedOnce.{as_processor, as_free, as_message, as_grant, used_once_lem, used_never}
use Rattle.laws.specs.Witness.{example, example_reached, example_runs}

-- ---- the numbers tell the answer: from them it can be had again, of every call, on any memory
pub the_numbers_tell : (m l f : List ℕ) (line d k c : ℕ) (r : Registers) → (told (numbers (answer_of (instruction m))) ≡ answer_of (instruction m))
    × (told (numbers (answer_of (interrupt m k c))) ≡ answer_of (interrupt m k c))
    × (told (numbers (answer_of (burst m l))) ≡ answer_of (burst m l))
    × (told (numbers (answer_of (set_registers m r))) ≡ answer_of (set_registers m r))
    × (told (numbers (answer_of (fresh m line d))) ≡ answer_of (fresh m line d))
    × (told (numbers (answer_of (from_settings m f))) ≡ answer_of (from_settings m f))
    × (told_held (held_numbers (answer_of (read_registers m))) ≡ answer_of (read_registers m))
    × (told_verdict (verdict_numbers (answer_of (judge m))) ≡ answer_of (judge m))
the_numbers_tell m l f line d k c r = (
  kind_numbers (instruction m) (instruction_kind m),
  kind_numbers (interrupt m k c) (interrupt_kind m k c),
  kind_numbers (burst m l) (burst_kind m l),
  kind_numbers (set_registers m r) (set_kind m r),
  kind_numbers (fresh m line d) (fresh_kind m line d),
  kind_numbers (from_settings m f) (settings_kind m f),
  Numbers.read_told m,
  Numbers.judge_told m,
)

-- ---- a memory of the wrong length is refused with 20 by every call; it comes back untouched
pub wrong_length_refused : (m : List ℕ) → length m ≢ memory_size
    → RefuseAll m (wrong_length ∷ []) × ((line d : ℕ) → Refuses numbers (fresh m line d) (wrong_length ∷ []) m)
    × ((f : List ℕ) → Refuses numbers (from_settings m f) (wrong_length ∷ []) m)
wrong_length_refused m n = (Numbers.length_refused m n, Numbers.fresh_length m n, Numbers.settings_length m n)

-- ---- "Say what is broken". One that the judge of document 01 refuses is refused by every call but the two fresh starts with a class and an address, and
-- comes back untouched: `Told`. `Offends` says which (laws/specs/Findings.antt): the class is one of 30-34; the address offends in its class, and is the
-- lowest that does; nothing offends in the classes before. What offends is the table, model/specs/Classes.antt
pub broken_refused : (m : List ℕ) → length m ≡ memory_size → judged m ≡ false → Told m
broken_refused = Numbers.broken_refused

-- "Together the five are given exactly where 21 was": an answer of that form comes of such a memory only, and of a fresh start never
pub told_nowhere_else : (m l f : List ℕ) (line d n c : ℕ) (r : Registers) (k a : ℕ) → Class k
    → (numbers (answer_of (instruction m)) ≡ k ∷ a ∷ [] → Bad m)
    × (numbers (answer_of (interrupt m n c)) ≡ k ∷ a ∷ [] → Bad m)
    × (numbers (answer_of (burst m l)) ≡ k ∷ a ∷ [] → Bad m)
    × (numbers (answer_of (set_registers m r)) ≡ k ∷ a ∷ [] → Bad m)
    × (held_numbers (answer_of (read_registers m)) ≡ k ∷ a ∷ [] → Bad m)
    × (verdict_numbers (answer_of (judge m)) ≡ k ∷ a ∷ [] → Bad m)
    × (numbers (answer_of (fresh m line d)) ≢ k ∷ a ∷ []) × (numbers (answer_of (from_settings m f)) ≢ k ∷ a ∷ [])
told_nowhere_else m l f line d n c r k a t = (
  Numbers.instruction_bad m t,
  Numbers.interrupt_bad m t n c,
  Numbers.burst_bad m t l,
  Numbers.set_bad m t r,
  Numbers.read_bad m t,
  Numbers.judge_bad m t,
  Numbers.fresh_never m t line d,
  Numbers.settings_never m t f,
)

-- fresh takes it, whatever it holds
pub fresh_takes_any : (m : List ℕ) → length m ≡ memory_size → (line d : ℕ) → startable line d ≡ true → numbers (answer_of (fresh m line d)) ≡ done_number ∷ []
fresh_takes_any = Numbers.fresh_takes

-- ---- "Refusals leave all memory untouched": each call, each number 20-34 with whatever values, any memory; reading and judging never write
pub refusal_keeps : (m l f : List ℕ) (line d n c : ℕ) (r : Registers) (k : ℕ) (ns : List ℕ) → first_refusal ≤ k → k ≤ last_refusal
    → (numbers (answer_of (instruction m)) ≡ k ∷ ns → memory_of (instruction m) ≡ m)
    × (numbers (answer_of (interrupt m n c)) ≡ k ∷ ns → memory_of (interrupt m n c) ≡ m)
    × (numbers (answer_of (burst m l)) ≡ k ∷ ns → memory_of (burst m l) ≡ m)
    × (numbers (answer_of (set_registers m r)) ≡ k ∷ ns → memory_of (set_registers m r) ≡ m)
    × (numbers (answer_of (fresh m line d)) ≡ k ∷ ns → memory_of (fresh m line d) ≡ m)
    × (numbers (answer_of (from_settings m f)) ≡ k ∷ ns → memory_of (from_settings m f) ≡ m)
refusal_keeps m l f line d n c r k ns i j = (
  kind_kept (instruction m) (instruction_kind m) k ns i j,
  kind_kept (interrupt m n c) (interrupt_kind m n c) k ns i j,
  kind_kept (burst m l) (burst_kind m l) k ns i j,
  kind_kept (set_registers m r) (set_kind m r) k ns i j,
  kind_kept (fresh m line d) (fresh_kind m line d) k ns i j,
  kind_kept (from_settings m f) (settings_kind m f) k ns i j,
)

pub read_and_judge_keep : (m : List ℕ) → (memory_of (read_registers m) ≡ m) × (memory_of (judge m) ≡ m)
read_and_judge_keep m = (read_kept_lem m, judge_kept m)

-- "handed out (own code: ..; memory unchanged)"
pub handed_out_keeps : (m : List ℕ) (program arguments : ℕ) → numbers (answer_of (instruction m)) ≡ handed_out_number ∷ program ∷ arguments ∷ []
    → memory_of (instruction m) ≡ m
handed_out_keeps m = kind_hands (instruction m) (instruction_kind m)

-- ---- a faulty instruction stops only the processor that ran it, is entered while page 9 has room, and changes nothing else but who runs. From the answer
-- alone, faults being 1-13: `Faulted` says who, which fault, and what every word of the memory is afterwards (laws/specs/Faulty.antt, Turns.antt)
pub a_fault : (m : List ℕ) (f n : ℕ) → numbers (answer_of (instruction m)) ≡ f ∷ n ∷ [] → f ≤ last_fault → Faulted m f n (memory_of (instruction m))
a_fault = faulted

-- so a fault leaves every grant, 13 as any other: "keeps its grant if it faults". Word k of page 10 is as it was, for every name k
pub a_fault_leaves_the_grants : (m : List ℕ) (f n : ℕ) → numbers (answer_of (instruction m)) ≡ f ∷ n ∷ [] → f ≤ last_fault → (k : ℕ) → 1 ≤ k → k ≤ last_name
    → at (memory_of (instruction m)) (grant_for k) ≡ at m (grant_for k)
a_fault_leaves_the_grants = grants_stay

-- ---- "No creating above yourself" (document 02, 6/13). `asked m` is for whom the CRP asks that the instruction at LR is, or that EXI runs there: `one n b`, of
-- name n and priority b (laws/specs/Above.antt). What it is answered is `InOrder`, test by test: 12 if n or b is 0; else 13 if b is above the priority of the
-- one that runs, whatever names and pages there are; else 9 if the name exists; else it is done or waits for a page, so that none is refused that asks for no
-- more than its own
pub creating_in_order : {m : List ℕ} → Sound m → running m ≢ 0 → (n b : ℕ) → asked m ≡ one n b → InOrder m (instruction m) n b
creating_in_order = asked_in_order

-- the name and the priority are those in its words: of a CRP at LR that the decoder does not refuse, and of one that EXI runs, with its arguments at a
pub what_crp_asks_for : (m : List ℕ) → AtLr m crp_code → asked m ≡ one (direct m (lr m) (shape_for crp_code)).field (direct m (lr m) (shape_for crp_code)).second
what_crp_asks_for = crp_asks

pub what_exi_asks_for : (m : List ℕ) → AtLr m exi_code → (a : ℕ) → (direct m (lr m) (shape_for exi_code)).field ≡ crp_code
    → indexed m (direct m (lr m) (shape_for exi_code)).second (direct m (lr m) (shape_for exi_code)).address ≡ a → is_foreign m crp_code ≡ false
    → argument_fault m crp_code a ≡ 0 → asked m ≡ one (pointed m a (shape_for crp_code)).field (pointed m a (shape_for crp_code)).second
what_exi_asks_for = exi_asks

-- ---- "A burst from the line card", on every memory that the judge of document 01 accepts, of every list of numbers: one of three things comes of it, `Comes`
-- (laws/specs/Bursts.antt), each with its answer. The list is longer than 64 or odd: 27. Or a pair would be refused as one interrupt, 24 or 25, and each
-- before it would be done: that number, with its place, from 1. Or it is done, and the memory is that of the single interrupt call repeated in order,
-- each answering done: `OneByOne`. A memory that is not accepted is refused as by every call: above
pub a_burst : (m : List ℕ) → length m ≡ memory_size → judged m ≡ true → (l : List ℕ) → Comes m l
a_burst m s j = comes (record { size = s; accepted = j })

-- "An empty list changes nothing."
pub an_empty_burst : (m : List ℕ) → length m ≡ memory_size → judged m ≡ true → burst m [] ≡ gives Done m
an_empty_burst m s j = empty_done (record { size = s; accepted = j })

-- ---- a fresh start gives a well-formed memory, whatever was there; every call, and the host, leave one well-formed
pub fresh_well_formed : {m : List ℕ} → length m ≡ memory_size → Small m → (line d : ℕ) → startable line d ≡ true → Sound (memory_of (fresh m line d))
fresh_well_formed = fresh_starts

pub calls_keep : {m : List ℕ} → Sound m → (l f : List ℕ) (line d k c : ℕ) (r : Registers)
    → Sound (memory_of (instruction m)) × Sound (memory_of (interrupt m k c)) × Sound (memory_of (burst m l)) × Sound (memory_of (set_registers m r))
    × Sound (memory_of (fresh m line d)) × Sound (memory_of (from_settings m f))
calls_keep h l f line d k c r =
    (instruction_sound h, interrupt_sound h k c, burst_sound h l, set_sound h r, fresh_sound h line d, settings_sound h f)

pub host_keeps : {m m' : List ℕ} → Host m m' → Sound m → Sound m'
host_keeps = host_sound

-- ---- so: from a fresh start on none of the five is ever given, and the judge accepts
pub always_well_formed : (m : List ℕ) → Reached m → Sound m
always_well_formed = reached_sound

pub never_told : (m : List ℕ) → Reached m → (l : List ℕ) (n c : ℕ) (r : Registers) (k a : ℕ) → Class k
    → (numbers (answer_of (instruction m)) ≢ k ∷ a ∷ []) × (numbers (answer_of (interrupt m n c)) ≢ k ∷ a ∷ []) × (numbers (answer_of (burst m l)) ≢ k ∷ a ∷ [])
    × (numbers (answer_of (set_registers m r)) ≢ k ∷ a ∷ []) × (held_numbers (answer_of (read_registers m)) ≢ k ∷ a ∷ [])
    × (verdict_numbers (answer_of (judge m)) ≡ done_number ∷ [])
never_told m h l n c r k a t =
    let s = reached_sound m h in (
      λ e. sound_good s (Numbers.instruction_bad m t e),
      λ e. sound_good s (Numbers.interrupt_bad m t n c e),
      λ e. sound_good s (Numbers.burst_bad m t l e),
      λ e. sound_good s (Numbers.set_bad m t r e),
      λ e. sound_good s (Numbers.read_bad m t e),
      Numbers.judge_yes s,
    )

-- ---- each control page has exactly one use: a processor, free, a message in one queue, or granted; and no other number is in any of these lists
pub one_use : (m : List ℕ) → Reached m → (z : ℕ) → first_control ≤ z → z ≤ last_control → as_processor m z + as_free m z + as_message m z + as_grant m z ≡ 1
one_use m h = used_once_lem (reached_sound m h)

pub no_other_use : (m : List ℕ) → Reached m → (z : ℕ) → (z < first_control) ⊎ (last_control < z)
    → as_processor m z + as_free m z + as_message m z + as_grant m z ≡ 0
no_other_use m h = used_never (reached_sound m h)

-- ---- it is not empty talk: a fresh start on a memory of zeros is reached, and someone runs there
pub reached_example : Reached example
reached_example = example_reached

pub running_example : running example ≡ first_control
running_example = example_runs
