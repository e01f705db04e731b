-- Refusals and faults: what a call answers, with document 01's number and values for every case.
use Rattle.std.specs.Prelude.{ℕ, List, [], ◌∷◌}
use Rattle.model.specs.Told.{Answer}
use Rattle.model.specs.Told.Answer.{Done, Waits, HandedOut, Fault, Refused, RefusedAt}
use Rattle.model.specs.Told.{Held}
use Rattle.model.specs.Told.{Verdict}
use Rattle.model.specs.Told.{Writing}
use Rattle.model.specs.Store.{Store}
use Rattle.model.specs.Processor.{running, advance, set_lr}
use Rattle.model.specs.Wait.{put_to_wait}
use Rattle.model.specs.Turn.{who_runs}

-- what a call gives: its answer and the memory that it leaves
pub data Outcome (A M : Type 0) : Type 0 where
  gives : A → M → Outcome A M

unfoldable pub answer_of : {A M : Type 0} → Outcome A M → A
answer_of (gives a m) = a

unfoldable pub memory_of : {A M : Type 0} → Outcome A M → M
memory_of (gives a m) = m

-- ---- "first that applies: 20 length not 8,192; .. 22 idle; 23 word at LR not 224; 24 interrupt not 16-50; 25 class number ..; 26 fresh or
-- register value out of range"
abbrev pub wrong_length : ℕ
wrong_length = 20

abbrev pub idle : ℕ
idle = 22

abbrev pub no_instruction : ℕ
no_instruction = 23

abbrev pub no_interrupt : ℕ
no_interrupt = 24

abbrev pub wrong_class : ℕ
wrong_class = 25

abbrev pub out_of_range : ℕ
out_of_range = 26

-- ---- document 02, 2/13: "A longer or odd list is refused by 27"
abbrev pub wrong_list : ℕ
wrong_list = 27

-- ---- document 02, 5/13: "a version above the reader's own is refused by 29 with that version, any other break of layout .. by 28"; "by 35 if the lent buffer
-- is too short"
abbrev pub broken_layout : ℕ
broken_layout = 28

abbrev pub too_new : ℕ
too_new = 29

abbrev pub no_room : ℕ
no_room = 35

-- ---- document 02, 1/13, for 21: "30 a control page used twice or not at all, 31 a wait queue or semaphore, 32 a processor or message record, 33
-- the code or error table, 34 counters and the running entry"
abbrev pub broken_pages : ℕ
broken_pages = 30

abbrev pub broken_waits : ℕ
broken_waits = 31

abbrev pub broken_records : ℕ
broken_records = 32

abbrev pub broken_tables : ℕ
broken_tables = 33

abbrev pub broken_counters : ℕ
broken_counters = 34

-- ---- "1 absent code; 2 EXI of EXI; 3 code exists; 4 deleting code 0 or 1; 5 WIN ..; 6 no match in Q2; 7 NI doesn't exist; 8 ST2 ..; 9 name
-- exists; 10 NI isn't stopped; 11 protected word; 12 other bad argument"
abbrev pub absent_code : ℕ
absent_code = 1

abbrev pub exi_of_exi : ℕ
exi_of_exi = 2

abbrev pub code_exists : ℕ
code_exists = 3

abbrev pub kept_code : ℕ
kept_code = 4

abbrev pub bad_wait : ℕ
bad_wait = 5

abbrev pub no_match : ℕ
no_match = 6

abbrev pub no_name : ℕ
no_name = 7

abbrev pub not_startable : ℕ
not_startable = 8

abbrev pub name_exists : ℕ
name_exists = 9

abbrev pub not_stopped : ℕ
not_stopped = 10

abbrev pub protected : ℕ
protected = 11

abbrev pub bad_argument : ℕ
bad_argument = 12

-- ---- document 02, 6/13: "CRP with a priority higher than that of the processor running it is now fault 13"
abbrev pub above_itself : ℕ
above_itself = 13

-- ---- "Other answers: done; put to wait; handed out": document 01 gives them no number, so the house does, clear of faults and refusals
abbrev pub done_number : ℕ
done_number = 0

abbrev pub waits_number : ℕ
waits_number = 60

abbrev pub handed_out_number : ℕ
handed_out_number = 61

-- of settings: written, with the new length
abbrev pub written_number : ℕ
written_number = 62

-- ---- the number of each answer, then its values
unfoldable pub numbers : Answer → List ℕ
numbers Done = done_number ∷ []
numbers Waits = waits_number ∷ []
numbers (HandedOut p a) = handed_out_number ∷ p ∷ a ∷ []
numbers (Fault f n) = f ∷ n ∷ []
numbers (Refused k) = k ∷ []
numbers (RefusedAt k a) = k ∷ a ∷ []

unfoldable pub held_numbers : Held → List ℕ
held_numbers (Held.Has r) = done_number ∷ r.a ∷ r.s ∷ r.p ∷ r.z ∷ r.ci ∷ r.lr ∷ r.w ∷ []
held_numbers (Held.Refused k) = k ∷ []
held_numbers (Held.RefusedAt k a) = k ∷ a ∷ []

unfoldable pub verdict_numbers : Verdict → List ℕ
verdict_numbers Verdict.WellFormed = done_number ∷ []
verdict_numbers (Verdict.Refused k) = k ∷ []
verdict_numbers (Verdict.RefusedAt k a) = k ∷ a ∷ []

unfoldable pub writing_numbers : Writing → List ℕ
writing_numbers (Writing.Written n) = written_number ∷ n ∷ []
writing_numbers (Writing.Refused k) = k ∷ []
writing_numbers (Writing.RefusedAt k v) = k ∷ v ∷ []

module _ (S : Store) where
  -- what an instruction, fresh, an interrupt and setting registers give
  abbrev pub Step : Type 0
  Step = Outcome Answer S.M

  -- "Refusals leave all memory untouched"
  abbrev pub refused : S.M → ℕ → Step
  refused m k = gives (Refused k) m

  -- "Each instruction done advances": LR grows by len
  unfoldable pub done : S.M → ℕ → Step
  done m len = gives Done (who_runs S (advance S m len))

  -- "unless it sets its own LR"
  unfoldable pub jumps : S.M → ℕ → Step
  jumps m a = gives Done (who_runs S (set_lr S m (running S m) a))

  -- "put to wait (the runner now waits)": in the queue at s, with w as reason
  unfoldable pub waits : S.M → ℕ → ℕ → Step
  waits m s w = gives Waits (who_runs S (put_to_wait S m s (running S m) w))
