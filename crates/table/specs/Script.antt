-- A row is a script of calls on a whole memory of 8,192 words, with the numbers of each answer and the words to be found afterwards. Every call
-- but fresh judges the memory first. Places and answers are written in document 01's numbers, word k of page p as p * 32 + k, and not by the
-- model's names: a row that took them from the model would follow it wherever it went.
use Rattle.std.specs.Prelude.{ℕ, zero, suc, ◌+◌, ◌*◌, ◌/◌, ◌%◌, Bool, eqb}
use Rattle.std.proofs.Math.Bool.{true, false}
use mathlib.Core.List.{List, [], ◌∷◌, ◌++◌}
use Rattle.model.specs.Store as Store
use Rattle.model.specs.Address as Address
use Rattle.model.specs.Queue as Queue
use Rattle.model.specs.Processor as Processor
use Rattle.model.specs.Instruction as Instruction
use Rattle.model.specs.Operate as Operate
use Rattle.model.specs.Wait as Wait
use Rattle.model.specs.Page as Page
use Rattle.model.specs.Mail as Mail
use Rattle.model.specs.Delete as Delete
use Rattle.model.specs.Interrupt as Interrupt
use Rattle.model.specs.Turn as Turn
use Rattle.model.specs.Fresh as Fresh
use Rattle.model.specs.Rule as Rule
use Rattle.model.specs.Lists as Lists
use Rattle.model.specs.Judge as Judge
use Rattle.model.specs.Classes as Classes
use Rattle.model.specs.Tell as Tell
use Rattle.model.specs.Walks as Walks
use Rattle.model.specs.Answer as Answer
use Rattle.model.specs.Fault as Fault
use Rattle.model.specs.Execute as Execute
use Rattle.model.specs.Call as Call
use Rattle.model.specs.Burst as Burst
use Rattle.model.specs.Layout as Layout
use Rattle.model.specs.Settings as Settings
use Rattle.model.specs.Differ as Differ
use Rattle.model.specs.declared.Registers.{Registers}
use Rattle.model.specs.Store.{Store}
use Rattle.model.specs.Address.{at, write}
use Rattle.model.specs.Answer.{answer_of, memory_of, numbers, held_numbers, verdict_numbers, writing_numbers}
use Rattle.model.specs.Call.{fresh, instruction, interrupt, read_registers, set_registers, judge}
use Rattle.model.specs.Burst.{burst}
use Rattle.model.specs.Settings.{from_settings, write_settings}

-- the nine calls with the numbers of their answers, of settings written the buffer too; `host` writes page 0 and unprotected words, `made` any; `has` looks
-- at words
pub data Line : Type 0 where
  fresh_start : ℕ → ℕ → List ℕ → Line
  settles : List ℕ → List ℕ → Line
  stores : List ℕ → ℕ → List ℕ → List ℕ → List ℕ → Line
  step : List ℕ → Line
  signal : ℕ → ℕ → List ℕ → Line
  signals : List ℕ → List ℕ → Line
  reads : List ℕ → Line
  sets : Registers → List ℕ → Line
  judges : List ℕ → Line
  host made : ℕ → List ℕ → Line
  has : ℕ → List ℕ → Line

abbrev pub Script : Type 0
Script = List Line

unfoldable pub same_words : List ℕ → List ℕ → Bool
same_words [] [] = true
same_words [] (y ∷ ys) = false
same_words (x ∷ xs) [] = false
same_words (x ∷ xs) (y ∷ ys) = elim (eqb x y) [ true ↦ same_words xs ys | false ↦ false ]

module _ (S : Store) where
  unfoldable pub writes : S.M → ℕ → List ℕ → S.M
  writes m a [] = m
  writes m a (v ∷ vs) = writes (write S m a v) (a + 1) vs

  unfoldable pub looks : S.M → ℕ → List ℕ → Bool
  looks m a [] = true
  looks m a (v ∷ vs) = elim (eqb (at S m a) v) [ true ↦ looks m (a + 1) vs | false ↦ false ]

  -- whether a script runs as it says, and what it leaves passes a test. To open it opens the whole machine
  unfoldable pub leads : Script → S.M → (S.M → Bool) → Bool
  unfolding
      Call.is_outer Call.is_class Call.finding Call.head Call.fresh Call.instruction_judged Call.instruction Call.interrupt_judged Call.interrupt
      Call.read_judged Call.read_registers Call.set_judged Call.set_registers Call.judge Address.guarded Address.clear Address.copy Address.zeroed
      Queue.first Queue.walk Queue.cell_of Queue.join Queue.leave Processor.is_named Processor.stop Processor.start Processor.set_lr Processor.advance
      Processor.registers_of Processor.set_flags_lr Processor.set_registers_of Processor.hand_back Processor.in_range Instruction.direct_counted
      Instruction.direct_creating Instruction.direct Instruction.pointed_creating Instruction.pointed Instruction.within Instruction.indexed
      Instruction.set_code Operate.cvi Operate.dvi Operate.gin Operate.win Operate.waits_for_page Operate.with_page Operate.posted Operate.sent
      Operate.sme_text Operate.sme Operate.wnm Operate.received Operate.rme Operate.tme_q1 Operate.tme Operate.st1 Operate.stp Operate.dep
      Operate.on_page Operate.named Operate.st2_found Operate.st2 Operate.headed Operate.created Operate.crp_page Operate.crp Operate.adds
      Operate.stores_a Operate.ands Operate.increments Operate.worked Operate.return_to Operate.reaches Operate.follows Operate.thirteen Wait.enqueue
      Wait.unqueue Wait.put_to_wait Wait.wake Wait.queued Wait.seat Wait.leave_wait Page.take_free Page.first_free Page.take_page Page.free_page
      Page.grant_page Page.give_back Mail.asks Mail.fits Mail.matches Mail.awaits Mail.heard Mail.deliver Mail.write_message Mail.make_notice Mail.move
      Mail.test_q1 Mail.copy_out Delete.unlisted Delete.sent_by Delete.marked Delete.marked_from Delete.mail_marked Delete.all_marked Delete.sent_marked
      Delete.noticed Delete.returned Delete.emptied Delete.mail_returned Delete.grant_returned Delete.mail_settled Delete.delete Interrupt.classed
      Interrupt.struck Interrupt.served_from Interrupt.serve Interrupt.counts Interrupt.ends Interrupt.turns Interrupt.c3_counts Interrupt.c2_counts
      Interrupt.c1_counts Interrupt.c0_counts Interrupt.delivered Turn.fold Turn.stays Turn.above Turn.better Turn.chosen Turn.on_page0 Turn.kept_on
      Turn.context_of Turn.saved_of Turn.kept Turn.restored Turn.save Turn.load Turn.runs Turn.switch Turn.who_runs Fresh.startable Fresh.cleared
      Fresh.timed Fresh.first_processor Fresh.chained Fresh.freed Fresh.all_built_in Fresh.started Lists.range Lists.link_of Lists.is_grant Lists.reach
      Lists.lists Judge.page Judge.reasoned Judge.reasonless Judge.quiet Judge.unasked Judge.sized Judge.message Judge.kind Judge.used Judge.entry
      Judge.zero_bits Judge.list Judge.listed Judge.once Judge.used_once Judge.label Judge.names Judge.bit Judge.waiter Judge.waiting_bits Judge.served
      Judge.reasons Judge.owner Judge.message_wait Judge.message_waits Judge.interrupt_semaphore Judge.message_semaphore Judge.page_semaphore
      Judge.semaphores Judge.page_wait Judge.page_waits Judge.grant Judge.granted Judge.mail Judge.messages Judge.runner Judge.not_higher Judge.running
      Judge.codes Judge.counters Judge.clock Judge.faults Judge.zeros Judge.well_formed Judge.judged Walks.is_control Walks.path Walks.met Tell.broken
      Tell.offending Tell.offending_in Tell.least Tell.tell Tell.first Classes.cell Classes.once Classes.used_once Classes.pointer Classes.ends
      Classes.uses_end Classes.of_pages Classes.queues_end Classes.waiting_bits Classes.reasons Classes.message_waits Classes.page_semaphore
      Classes.semaphores Classes.none_free Classes.no_grant Classes.page_waits Classes.of_waits Classes.labels Classes.existing Classes.nought
      Classes.granted Classes.messages Classes.of_records Classes.is_built_in Classes.is_foreign Classes.codes Classes.in_range Classes.faults
      Classes.of_tables Classes.outer Classes.below Classes.positive Classes.clock Classes.runner Classes.not_higher Classes.shown Classes.running
      Classes.of_counters Classes.classes Classes.told_of Burst.is_list Burst.tested Burst.arrived Burst.burst_judged Burst.burst Layout.head_bytes
      Layout.entry_at Layout.entries_from Layout.is_letter Layout.is_zeros Layout.is_label Layout.is_laid_out Layout.is_block Layout.is_ranged Layout.is_entry
      Layout.are_entries Layout.bears Layout.names_differ Layout.in_bounds Layout.of_block Layout.trailer_in Layout.begins Layout.points_back
      Layout.is_trailer Layout.of_file Layout.is_good Settings.made Settings.all_made Settings.settled Settings.from_settings Settings.trailer_for
      Settings.written Settings.weight Settings.worse Settings.of_used Settings.writes Settings.write_settings Differ.same_words Differ.same_messages
      Differ.same_wait Differ.same_state Differ.queue_at Differ.differs_in Differ.finding_lines Differ.name_lines Differ.or_same Differ.broken_or
      Differ.differing Differ.word_lines Differ.queue_of Differ.state_of Differ.words_from Differ.content_of Differ.message_of Differ.messages
      Differ.same_mail Differ.differences Differ.said_of Differ.said Differ.names_lines Differ.judged_lines Differ.is_whole Differ.size_lines
      Differ.whole_lines Differ.lines Answer.answer_of Answer.memory_of Answer.numbers Answer.held_numbers Answer.verdict_numbers Answer.writing_numbers
      Answer.done Answer.jumps Answer.waits Fault.entered Fault.fault Execute.run Execute.foreign Execute.is_foreign Execute.argument_fault
      Execute.argued Execute.exi Execute.taken Execute.decoded Execute.coded Execute.fetched Store.tget Store.tput Store.tzero Store.get_t Store.put_t
      Store.size_t Store.trees Rule.all Rule.every Rule.holds same_words writes looks
  leads [] m g = g m
  leads (fresh_start l d ns ∷ cs) m g =
      let o = fresh S m l d in elim (same_words (numbers (answer_of o)) ns) [ true ↦ leads cs (memory_of o) g | false ↦ false ]
  leads (settles f ns ∷ cs) m g =
      let o = from_settings S m f in elim (same_words (numbers (answer_of o)) ns) [ true ↦ leads cs (memory_of o) g | false ↦ false ]
  leads (stores l u b ns k ∷ cs) m g =
      let o = write_settings l u b in
      elim (same_words (writing_numbers (answer_of o)) ns) [ true ↦ elim (same_words (memory_of o) k) [ true ↦ leads cs m g | false ↦ false ] | false ↦ false ]
  leads (step ns ∷ cs) m g =
      let o = instruction S m in elim (same_words (numbers (answer_of o)) ns) [ true ↦ leads cs (memory_of o) g | false ↦ false ]
  leads (signal k c ns ∷ cs) m g =
      let o = interrupt S m k c in elim (same_words (numbers (answer_of o)) ns) [ true ↦ leads cs (memory_of o) g | false ↦ false ]
  leads (signals l ns ∷ cs) m g =
      let o = burst S m l in elim (same_words (numbers (answer_of o)) ns) [ true ↦ leads cs (memory_of o) g | false ↦ false ]
  leads (reads ns ∷ cs) m g =
      let o = read_registers S m in elim (same_words (held_numbers (answer_of o)) ns) [ true ↦ leads cs (memory_of o) g | false ↦ false ]
  leads (sets r ns ∷ cs) m g =
      let o = set_registers S m r in elim (same_words (numbers (answer_of o)) ns) [ true ↦ leads cs (memory_of o) g | false ↦ false ]
  leads (judges ns ∷ cs) m g =
      let o = judge S m in elim (same_words (verdict_numbers (answer_of o)) ns) [ true ↦ leads cs (memory_of o) g | false ↦ false ]
  leads (host a vs ∷ cs) m g = leads cs (writes m a vs) g
  leads (made a vs ∷ cs) m g = leads cs (writes m a vs) g
  leads (has a vs ∷ cs) m g = elim (looks m a vs) [ true ↦ leads cs m g | false ↦ false ]

  unfoldable pub plays : Script → S.M → Bool
  unfolding leads
  plays r m = leads r m (λ k. true)

  -- a row starts on a memory of zeros
  unfoldable pub plays_from_zero : Script → Bool
  unfolding plays
  plays_from_zero r = plays r S.zeros

  unfoldable pub plays_all : List Script → Bool
  unfolding plays_from_zero
  plays_all [] = true
  plays_all (r ∷ rs) = elim (plays_from_zero r) [ true ↦ plays_all rs | false ↦ false ]

-- ---- what rows are made of
-- the house's numbers for done and put to wait
abbrev pub ok : List ℕ
ok = 0 ∷ []

abbrev pub put_to_wait : List ℕ
put_to_wait = 60 ∷ []

abbrev pub registers : ℕ → ℕ → ℕ → ℕ → ℕ → ℕ → ℕ → Registers
registers a s p z c l w = record { a = a; s = s; p = p; z = z; ci = c; lr = l; w = w; stopped = 0 }

-- fresh, line 16, divider 5, with these words from 2752 on
abbrev pub begins : List ℕ → Script → Script
begins ws s = fresh_start 16 5 ok ∷ host 2752 ws ∷ s

-- from settings of that line and divider with one entry: processor 2, of the higher priority 2, on page 237, stopped at 3000
abbrev pub begins_with_2 : List ℕ → Script → Script
begins_with_2 ws s = settles (1 ∷ 1 ∷ 16 ∷ 5 ∷ 2 ∷ 2 ∷ 0 ∷ 3000 / 256 ∷ 3000 % 256 ∷ 0 ∷ 9 ∷ 1 ∷ 1 ∷ []) ok ∷ host 2752 ws ∷ s

-- the same n times
unfoldable pub times : ℕ → Script → Script
times zero cs = []
times (suc n) cs = cs ++ times n cs

unfoldable pub repeated : ℕ → List ℕ → List ℕ
repeated zero vs = []
repeated (suc n) vs = vs ++ repeated n vs

-- n messages from 2 with flag 1 and no text, on pages p, p + 1 ..; the last of them on page p + n ends the list
unfoldable pub mailed : ℕ → ℕ → Script → Script
mailed zero p s = made (p * 32) (0 ∷ 33 ∷ 0 ∷ []) ∷ s
mailed (suc n) p s = made (p * 32) ((p + 1) ∷ 33 ∷ 0 ∷ []) ∷ mailed n (p + 1) s

-- the first instruction is fault f of processor 1, entered on page 9
abbrev pub faulty : List ℕ → ℕ → Script
faulty ws f = begins ws (step (f ∷ 1 ∷ []) ∷ has (9 * 32) (2 ∷ (16 + f) ∷ 0 ∷ []) ∷ [])
