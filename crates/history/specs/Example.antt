-- The law of the past is not empty: a run in which processor 1 sends itself a message of two words, takes it to Q2 and reads it. Nor is what is said of
-- namesakes: the run goes on, and 1 holds mail of a 2 that is gone while another 2 lives. Assumes nothing.
use Rattle.std.specs.Prelude.{◌≡◌, refl, Bool, true, false, List, [], ◌∷◌, ◌++◌, ℕ, ◌+◌, ◌≤◌, ◌<◌, length, ltb}
use Rattle.std.proofs.Common.{◌∙◌, subst, arith, length-set, ltb-true}
use Rattle.model.specs.Store as Store
use Rattle.model.specs.Store.{Store, bytes, trees}
use Rattle.model.specs.Same.{trees_is_bytes}
use Rattle.model.specs.Address as Address
use Rattle.model.specs.Queue as Queue
use Rattle.model.specs.Processor as Processor
use Rattle.model.specs.Instruction as Instruction
use Rattle.model.specs.Operate as Operate
use Rattle.model.specs.Wait as Wait
use Rattle.model.specs.Page as Page
use Rattle.model.specs.Mail as Mail
use Rattle.model.specs.Delete as Delete
use Rattle.model.specs.Interrupt as Interrupt
use Rattle.model.specs.Walks as Walks
use Rattle.model.specs.Tell as Tell
use Rattle.model.specs.Classes as Classes
use Rattle.model.specs.Turn as Turn
use Rattle.model.specs.Fresh as Fresh
use Rattle.model.specs.Rule as Rule
use Rattle.model.specs.Lists as Lists
use Rattle.model.specs.Judge as Judge
use Rattle.model.specs.Fault as Fault
use Rattle.model.specs.Execute as Execute
use Rattle.model.specs.Call as Call
use Rattle.model.specs.Burst as Burst
use Rattle.model.specs.Layout as Layout
use Rattle.model.specs.Settings as Settings
use Rattle.model.specs.Differ as Differ
use Rattle.model.specs.Answer as Answer
use Rattle.model.specs.Answer.{memory_of}
use Rattle.model.specs.Rule.{all}
use Rattle.model.specs.Bytes as Memory
use Rattle.model.specs.Bytes.{instruction, is_notice, name, processors, unmarked}
use Rattle.model.specs.Lists.{count}
use Rattle.laws.specs.Words.{Small, small_set}
use Rattle.laws.specs.Start.{zeros_size}
use Rattle.laws.specs.Calls as Calls
use Rattle.laws.specs.Calls.Act.{instruct}
use Rattle.laws.specs.Witness.{zeros_small}
use Rattle.history.specs.Letter as Letter
use Rattle.history.specs.Letter.{Letter, waiting_for}
use Rattle.history.specs.Order as Order
use Rattle.history.specs.Put.{of, mailed}
use Rattle.history.specs.Lives as Lives
use Rattle.history.specs.Lives.{Living, Past, none_yet, later, Run}
use Rattle.history.specs.Lives.Run.{start, call}
use Rattle.history.specs.Senders.{WaitsAt}
use Rattle.history.specs.Said as Said
use Rattle.history.specs.Said.{times, none_twice, times_append}

-- from 2752, where processor 1 starts: SME to 1 with flag 1 of the text at 3000; WNM from 1 with flag 1; RME from 1 with flag 1 to 3100
abbrev program : List ℕ
program = 224 ∷ 65 ∷ 43 ∷ 184 ∷ 224 ∷ 81 ∷ 32 ∷ 224 ∷ 97 ∷ 44 ∷ 28 ∷ []

-- then: CRP 2 with priority 1, which starts at 3300; ST1 2; STP 1; DEP 2; CRP 2 again
abbrev making : List ℕ
making = 224 ∷ 178 ∷ 16 ∷ 12 ∷ 228 ∷ 224 ∷ 130 ∷ 224 ∷ 145 ∷ 224 ∷ 194 ∷ 224 ∷ 178 ∷ 16 ∷ 12 ∷ 228 ∷ []

-- from 3300, where 2 starts: SME to 1 with flag 2 of the text at 3000; ST1 1; STP 2
abbrev sender : List ℕ
sender = 224 ∷ 65 ∷ 75 ∷ 184 ∷ 224 ∷ 129 ∷ 224 ∷ 146 ∷ []

-- length 2, text 5 6
abbrev spoken : List ℕ
spoken = 2 ∷ 5 ∷ 6 ∷ []

module _ (S : Store) where
  unfoldable writes : S.M → ℕ → List ℕ → S.M
  writes m a [] = m
  writes m a (v ∷ vs) = writes (S.put m a v) (a + 1) vs

  abbrev m0 : S.M
  m0 = writes (writes (writes (writes S.zeros 2752 program) 2763 making) 3300 sender) 3000 spoken

  abbrev m1 : S.M
  m1 = memory_of (Call.fresh S m0 16 5)

  abbrev m2 : S.M
  m2 = memory_of (Call.instruction S m1)

  abbrev m3 : S.M
  m3 = memory_of (Call.instruction S m2)

  abbrev m4 : S.M
  m4 = memory_of (Call.instruction S m3)

  -- 2 is created, is started, and 1 stops; 2 sends, starts 1, stops; it is deleted, and created again
  abbrev m5 : S.M
  m5 = memory_of (Call.instruction S m4)

  abbrev m6 : S.M
  m6 = memory_of (Call.instruction S m5)

  abbrev m7 : S.M
  m7 = memory_of (Call.instruction S m6)

  abbrev m8 : S.M
  m8 = memory_of (Call.instruction S m7)

  abbrev m9 : S.M
  m9 = memory_of (Call.instruction S m8)

  abbrev m10 : S.M
  m10 = memory_of (Call.instruction S m9)

  abbrev m11 : S.M
  m11 = memory_of (Call.instruction S m10)

  abbrev m12 : S.M
  m12 = memory_of (Call.instruction S m11)

  -- who lives and what waits: after SME a message on page 237, after RME none
  record Seen : Type 0 where
    living2 : Queue.processors S m2 ≡ 236 ∷ []
    living3 : Queue.processors S m3 ≡ 236 ∷ []
    living4 : Queue.processors S m4 ≡ 236 ∷ []
    sent : Queue.queue S m2 7557 ≡ 237 ∷ []
    none : Queue.queue S m2 7558 ≡ []
    note : S.get m2 7585 ≡ 17
    size : S.get m2 7586 ≡ 2
    first : S.get m2 7587 ≡ 5
    second : S.get m2 7588 ≡ 6
    left1 : Queue.queue S m4 7557 ≡ []
    left2 : Queue.queue S m4 7558 ≡ []
    -- the second 2 on page 240, and mail of 2 on page 239 in Q1 of 1
    living12 : Queue.processors S m12 ≡ 236 ∷ 240 ∷ []
    named12 : S.get m12 7687 ≡ 18
    waits12 : Queue.queue S m12 7557 ≡ 239 ∷ []
    note12 : S.get m12 7649 ≡ 34
    size12 : S.get m12 7650 ≡ 66

at_trees : Seen trees
unfolding
    Call.is_outer Call.is_class Call.finding Call.head Call.fresh Call.instruction_judged Call.instruction Call.interrupt_judged Call.interrupt
    Call.read_judged Call.read_registers Call.set_judged Call.set_registers Call.judge Address.guarded Address.clear Address.copy Address.zeroed
    Queue.first Queue.walk Queue.cell_of Queue.join Queue.leave Processor.is_named Processor.stop Processor.start Processor.set_lr Processor.advance
    Processor.registers_of Processor.set_flags_lr Processor.set_registers_of Processor.hand_back Processor.in_range Instruction.direct_counted
    Instruction.direct_creating Instruction.direct Instruction.pointed_creating Instruction.pointed Instruction.within Instruction.indexed
    Instruction.set_code Operate.cvi Operate.dvi Operate.gin Operate.win Operate.waits_for_page Operate.with_page Operate.posted Operate.sent
    Operate.sme_text Operate.sme Operate.wnm Operate.received Operate.rme Operate.tme_q1 Operate.tme Operate.st1 Operate.stp Operate.dep
    Operate.on_page Operate.named Operate.st2_found Operate.st2 Operate.headed Operate.created Operate.crp_page Operate.crp Operate.adds
    Operate.stores_a Operate.ands Operate.increments Operate.worked Operate.return_to Operate.reaches Operate.follows Operate.thirteen Wait.enqueue
    Wait.unqueue Wait.put_to_wait Wait.wake Wait.queued Wait.seat Wait.leave_wait Page.take_free Page.first_free Page.take_page Page.free_page
    Page.grant_page Page.give_back Mail.asks Mail.fits Mail.matches Mail.awaits Mail.heard Mail.deliver Mail.write_message Mail.make_notice Mail.move
    Mail.test_q1 Mail.copy_out Delete.unlisted Delete.sent_by Delete.marked Delete.marked_from Delete.mail_marked Delete.all_marked Delete.sent_marked
    Delete.noticed Delete.returned Delete.emptied Delete.mail_returned Delete.grant_returned Delete.mail_settled Delete.delete Interrupt.classed
    Interrupt.struck Interrupt.served_from Interrupt.serve Interrupt.counts Interrupt.ends Interrupt.turns Interrupt.c3_counts Interrupt.c2_counts
    Interrupt.c1_counts Interrupt.c0_counts Interrupt.delivered Turn.fold Turn.stays Turn.above Turn.better Turn.chosen Turn.on_page0 Turn.kept_on
    Turn.context_of Turn.saved_of Turn.kept Turn.restored Turn.save Turn.load Turn.runs Turn.switch Turn.who_runs Fresh.startable Fresh.cleared
    Fresh.timed Fresh.first_processor Fresh.chained Fresh.freed Fresh.all_built_in Fresh.started Lists.range Lists.link_of Lists.is_grant Lists.reach
    Lists.lists Judge.page Judge.reasoned Judge.reasonless Judge.quiet Judge.unasked Judge.sized Judge.message Judge.kind Judge.used Judge.entry
    Judge.zero_bits Judge.list Judge.listed Judge.once Judge.used_once Judge.label Judge.names Judge.bit Judge.waiter Judge.waiting_bits Judge.served
    Judge.reasons Judge.owner Judge.message_wait Judge.message_waits Judge.interrupt_semaphore Judge.message_semaphore Judge.page_semaphore
    Judge.semaphores Judge.page_wait Judge.page_waits Judge.grant Judge.granted Judge.mail Judge.messages Judge.runner Judge.not_higher Judge.running
    Judge.codes Judge.counters Judge.clock Judge.faults Judge.zeros Judge.well_formed Judge.judged Walks.is_control Walks.path Walks.met Tell.broken
    Tell.offending Tell.offending_in Tell.least Tell.tell Tell.first Classes.cell Classes.once Classes.used_once Classes.pointer Classes.ends
    Classes.uses_end Classes.of_pages Classes.queues_end Classes.waiting_bits Classes.reasons Classes.message_waits Classes.page_semaphore
    Classes.semaphores Classes.none_free Classes.no_grant Classes.page_waits Classes.of_waits Classes.labels Classes.existing Classes.nought
    Classes.granted Classes.messages Classes.of_records Classes.is_built_in Classes.is_foreign Classes.codes Classes.in_range Classes.faults
    Classes.of_tables Classes.outer Classes.below Classes.positive Classes.clock Classes.runner Classes.not_higher Classes.shown Classes.running
    Classes.of_counters Classes.classes Classes.told_of Burst.is_list Burst.tested Burst.arrived Burst.burst_judged Burst.burst Layout.head_bytes
    Layout.entry_at Layout.entries_from Layout.is_letter Layout.is_zeros Layout.is_label Layout.is_laid_out Layout.is_block Layout.is_ranged Layout.is_entry
    Layout.are_entries Layout.bears Layout.names_differ Layout.in_bounds Layout.of_block Layout.trailer_in Layout.begins Layout.points_back
    Layout.is_trailer Layout.of_file Layout.is_good Settings.made Settings.all_made Settings.settled Settings.from_settings Settings.trailer_for
    Settings.written Settings.weight Settings.worse Settings.of_used Settings.writes Settings.write_settings Differ.same_words Differ.same_messages
    Differ.same_wait Differ.same_state Differ.queue_at Differ.differs_in Differ.finding_lines Differ.name_lines Differ.or_same Differ.broken_or
    Differ.differing Differ.word_lines Differ.queue_of Differ.state_of Differ.words_from Differ.content_of Differ.message_of Differ.messages
    Differ.same_mail Differ.differences Differ.said_of Differ.said Differ.names_lines Differ.judged_lines Differ.is_whole Differ.size_lines
    Differ.whole_lines Differ.lines Answer.answer_of Answer.memory_of Answer.numbers Answer.held_numbers Answer.verdict_numbers Answer.writing_numbers
    Answer.done Answer.jumps Answer.waits Fault.entered Fault.fault Execute.run Execute.foreign Execute.is_foreign Execute.argument_fault
    Execute.argued Execute.exi Execute.taken Execute.decoded Execute.coded Execute.fetched Store.tget Store.tput Store.tzero Store.get_t Store.put_t
    Store.size_t Store.trees Rule.all Rule.every Rule.holds writes
at_trees = record {
  living2 = refl;
  living3 = refl;
  living4 = refl;
  sent = refl;
  none = refl;
  note = refl;
  size = refl;
  first = refl;
  second = refl;
  left1 = refl;
  left2 = refl;
  living12 = refl;
  named12 = refl;
  waits12 = refl;
  note12 = refl;
  size12 = refl;
}

seen : Seen bytes
seen = subst Seen trees_is_bytes at_trees

-- ---- the memory before is one of 8,192 words of 8 bits
abbrev Eight : List ℕ → Type 0
Eight [] = Unit {0}
Eight (v ∷ vs) = (v < 256) × Eight vs

writes_small : (m : List ℕ) (a : ℕ) (vs : List ℕ) → Eight vs → Small m → Small (writes bytes m a vs)
unfolding writes
writes_small m a [] h s = s
writes_small m a (v ∷ vs) h s = writes_small _ (a + 1) vs h.1 (small_set a v h.0 s)

writes_size : (m : List ℕ) (a : ℕ) (vs : List ℕ) → length (writes bytes m a vs) ≡ length m
unfolding writes
writes_size m a [] = refl
writes_size m a (v ∷ vs) = writes_size _ (a + 1) vs ∙ simp length-set

-- each is one, by a test that is computed
eight : (vs : List ℕ) → all (λ v. ltb v 256) vs ≡ true → Eight vs
unfolding Rule.all
eight [] e = tt
eight (v ∷ vs) e = go (ltb v 256) refl (eight vs)
  where
    go : (c : Bool) → ltb v 256 ≡ c → (all (λ v. ltb v 256) vs ≡ true → Eight vs) → (v < 256) × Eight vs
    go true f ih = (ltb-true v 256 f, ih (rw (f, all) at e))
    go false f ih =
        let g : ◌≡◌ {A = Bool} false true = rw (f, all) at e in
        let z : ◌≡◌ {A = ℕ} 0 1 = cc in
        absurd (omega arith)

eights : (Eight program × Eight making) × (Eight sender × Eight spoken)
unfolding Rule.all
eights = ((eight program refl, eight making refl), (eight sender refl, eight spoken refl))

small0 : Small (m0 bytes)
small0 =
    writes_small _ 3000 spoken eights.1.1 (writes_small _ 3300 sender eights.1.0
    (writes_small _ 2763 making eights.0.1 (writes_small _ 2752 program eights.0.0 zeros_small)))

size0 : length (m0 bytes) ≡ 8192
size0 = writes_size _ 3000 spoken ∙ writes_size _ 3300 sender ∙ writes_size _ 2763 making ∙ writes_size _ 2752 program ∙ zeros_size

-- ---- the run
run1 : Run (m1 bytes) none_yet
unfolding Fresh.startable
run1 = start (m0 bytes) 16 5 size0 small0 refl

abbrev h2 : Past
h2 = later instruct (m1 bytes) none_yet

abbrev h3 : Past
h3 = later instruct (m2 bytes) h2

abbrev past : Past
past = later instruct (m3 bytes) h3

run2 : Run (m2 bytes) h2
unfolding Calls.after
run2 = call (m1 bytes) none_yet instruct run1

run3 : Run (m3 bytes) h3
unfolding Calls.after
run3 = call (m2 bytes) h2 instruct run2

-- the memory after it
abbrev memory : List ℕ
memory = m4 bytes

example_run : Run memory past
unfolding Calls.after
example_run = call (m3 bytes) h3 instruct run3

-- ---- a run in which x was read
pub record Heard (x : Letter) : Type 0 where
  pub memory : List ℕ
  pub past : Past
  pub run : Run memory past
  pub page : ℕ
  pub living : 1 ≤ count page (processors memory)
  pub read : 1 ≤ times x (past.read page)

-- ---- the message: from 1 with flag 1, of the words 5 and 6
abbrev pub letter : Letter
letter = record { notice = false; sender = 1; flag = 1; size = 2; text = 5 ∷ 6 ∷ [] }

waits2 : waiting_for (m2 bytes) 236 ≡ letter ∷ []
unfolding Letter.waiting_for Letter.mail_of Letter.words
waits2 = rw (seen.none, seen.sent) (rw (seen.note, seen.size) (rw (seen.first, seen.second)))

waits4 : waiting_for (m4 bytes) 236 ≡ []
unfolding Letter.waiting_for
waits4 = rw (seen.left2, seen.left1)

once : times letter (letter ∷ []) ≡ 1
unfolding Said.times Said.same Said.alike Said.same_text Order.only Letter.key
once = refl

never : times letter [] ≡ 0
unfolding Said.times Order.only
never = refl

-- what was put stays put
put_stays : (m m' : List ℕ) (h : Past) → memory_of (instruction m) ≡ m' → processors m ≡ 236 ∷ [] → processors m' ≡ 236 ∷ []
    → (later instruct m h).put 236 ≡ h.put 236 ++ of 236 (mailed m).puts
unfolding Lives.later Lives.grown Lives.lives Lives.mail_by Lives.restarts Calls.after
put_stays m m' h e l l' = rw (e, l, l')

lives2 : 1 ≤ count 236 (processors (m2 bytes))
lives2 = rw seen.living2 (omega arith)

lives4 : 1 ≤ count 236 (processors (m4 bytes))
lives4 = rw seen.living4 (omega arith)

was_put : 1 ≤ times letter (h2.put 236)
was_put = omega (arith, rw (waits2, once) at (none_twice (m2 bytes) h2 run2 236 lives2 letter))

still_put : 1 ≤ times letter (past.put 236)
still_put =
    let e3 = put_stays (m2 bytes) (m3 bytes) h2 refl seen.living2 seen.living3 in
    let e4 = put_stays (m3 bytes) (m4 bytes) h3 refl seen.living3 seen.living4 in
    rw (e4, times_append letter (h3.put 236) (of 236 (mailed (m3 bytes)).puts), e3, times_append letter (h2.put 236) (of 236 (mailed (m2 bytes)).puts))
    (omega (arith, was_put))

example_read : 1 ≤ times letter (past.read 236)
example_read = omega (arith, rw (waits4, never) at (none_twice (m4 bytes) past example_run 236 lives4 letter), still_put)

pub example_heard : Heard letter
example_heard = record { memory = memory; past = past; run = example_run; page = 236; living = lives4; read = example_read }

-- ---- a run in which mail waits whose sender is gone, while another lives under its name
pub record Namesake : Type 0 where
  pub memory : List ℕ
  pub past : Past
  pub run : Run memory past
  pub holder : ℕ
  pub holds : Living memory holder
  pub page : ℕ
  pub waits : WaitsAt memory holder 5 page
  pub marked : unmarked memory page ≡ false
  pub mail : is_notice memory page ≡ false
  pub other : ℕ
  pub lives : Living memory other
  pub named : name memory other ≡ Memory.sender memory page

abbrev h5 : Past
h5 = later instruct (m4 bytes) past

abbrev h6 : Past
h6 = later instruct (m5 bytes) h5

abbrev h7 : Past
h7 = later instruct (m6 bytes) h6

abbrev h8 : Past
h8 = later instruct (m7 bytes) h7

abbrev h9 : Past
h9 = later instruct (m8 bytes) h8

run9 : Run (m9 bytes) h9
unfolding Calls.after
run9 =
    call (m8 bytes) h8 instruct (call (m7 bytes) h7 instruct (call (m6 bytes) h6 instruct (call (m5 bytes) h5 instruct (call (m4 bytes) past instruct example_run))))

abbrev h10 : Past
h10 = later instruct (m9 bytes) h9

abbrev h11 : Past
h11 = later instruct (m10 bytes) h10

run12 : Run (m12 bytes) (later instruct (m11 bytes) h11)
unfolding Calls.after
run12 = call (m11 bytes) h11 instruct (call (m10 bytes) h10 instruct (call (m9 bytes) h9 instruct run9))

pub example_namesake : Namesake
example_namesake = record {
  memory = m12 bytes;
  past = later instruct (m11 bytes) h11;
  run = run12;
  holder = 236;
  holds = rw seen.living12 (omega arith);
  page = 239;
  waits = (omega arith, omega arith, rw seen.waits12 (omega arith));
  marked = rw seen.size12;
  mail = rw seen.size12;
  other = 240;
  lives = rw seen.living12 (omega arith);
  named = rw (seen.named12, seen.note12);
}
