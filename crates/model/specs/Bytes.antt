-- The model at the memory that the code has, by short names: what contracts and laws cite. Written by tools/short_names.py.
use Rattle.std.specs.Prelude.{ℕ, Bool, List}
use Rattle.model.specs.declared.Registers.{Registers}
use Rattle.model.specs.declared.Arguments.{Arguments}
use Rattle.model.specs.Told.{Held}
use Rattle.model.specs.Told.{Verdict}
use Rattle.model.specs.Told.{Finding}
use Rattle.model.specs.Told.{Checked}
use Rattle.model.specs.declared.Entry.{Entry}
use Rattle.model.specs.Told.{Fit}
use Rattle.model.specs.declared.State.{State}
use Rattle.model.specs.declared.Parts.{Parts}
use Rattle.model.specs.Told.{Said}
use Rattle.model.specs.Told.{Line}
use Rattle.model.specs.declared.Side.{Side}
use Rattle.model.specs.declared.Context.{Context}
use Rattle.model.specs.Page.{Taken}
use Rattle.model.specs.Mail.{Tested}
use Rattle.model.specs.Lists.{Lists}
use Rattle.model.specs.Answer.{Outcome}
use Rattle.model.specs.Rule.{Rule}
use Rattle.model.specs.Store.{bytes}
use Rattle.model.specs.Call as Call
use Rattle.model.specs.Address as Address
use Rattle.model.specs.Queue as Queue
use Rattle.model.specs.Processor as Processor
use Rattle.model.specs.Instruction as Instruction
use Rattle.model.specs.Operate as Operate
use Rattle.model.specs.Wait as Wait
use Rattle.model.specs.Page as Page
use Rattle.model.specs.Mail as Mail
use Rattle.model.specs.Delete as Delete
use Rattle.model.specs.Interrupt as Interrupt
use Rattle.model.specs.Turn as Turn
use Rattle.model.specs.Fresh as Fresh
use Rattle.model.specs.Lists as Lists
use Rattle.model.specs.Judge as Judge
use Rattle.model.specs.Walks as Walks
use Rattle.model.specs.Classes as Classes
use Rattle.model.specs.Burst as Burst
use Rattle.model.specs.Settings as Settings
use Rattle.model.specs.Differ as Differ
use Rattle.model.specs.Answer as Answer
use Rattle.model.specs.Fault as Fault
use Rattle.model.specs.Execute as Execute

abbrev pub Memory : Type 0
Memory = bytes.M

abbrev pub Step : Type 0
Step = Answer.Step bytes

abbrev pub finding : Memory → Finding
finding = Call.finding bytes

abbrev pub heeds : {A : Type 0} → Finding → Memory → (ℕ → A) → (ℕ → ℕ → A) → Outcome A Memory → Outcome A Memory
heeds = Call.heeds bytes

abbrev pub head : {A : Type 0} → Memory → (ℕ → A) → (ℕ → ℕ → A) → Outcome A Memory → Outcome A Memory
head = Call.head bytes

abbrev pub fresh : Memory → ℕ → ℕ → Step
fresh = Call.fresh bytes

abbrev pub instruction_judged : Memory → Step
instruction_judged = Call.instruction_judged bytes

abbrev pub instruction : Memory → Step
instruction = Call.instruction bytes

abbrev pub interrupt_judged : Memory → ℕ → ℕ → Step
interrupt_judged = Call.interrupt_judged bytes

abbrev pub interrupt : Memory → ℕ → ℕ → Step
interrupt = Call.interrupt bytes

abbrev pub read_judged : Memory → Outcome Held Memory
read_judged = Call.read_judged bytes

abbrev pub read_registers : Memory → Outcome Held Memory
read_registers = Call.read_registers bytes

abbrev pub set_judged : Memory → Registers → Step
set_judged = Call.set_judged bytes

abbrev pub set_registers : Memory → Registers → Step
set_registers = Call.set_registers bytes

abbrev pub judge : Memory → Outcome Verdict Memory
judge = Call.judge bytes

abbrev pub at : Memory → ℕ → ℕ
at = Address.at bytes

abbrev pub write : Memory → ℕ → ℕ → Memory
write = Address.write bytes

abbrev pub word : Memory → ℕ → ℕ → ℕ
word = Address.word bytes

abbrev pub store : Memory → ℕ → ℕ → ℕ → Memory
store = Address.store bytes

abbrev pub address_at : Memory → ℕ → ℕ
address_at = Address.address_at bytes

abbrev pub copy : ℕ → Memory → ℕ → ℕ → Memory
copy = Address.copy bytes

abbrev pub zeroed : ℕ → Memory → ℕ → Memory
zeroed = Address.zeroed bytes

abbrev pub walk : ℕ → Memory → ℕ → ℕ → List ℕ
walk = Queue.walk bytes

abbrev pub processors : Memory → List ℕ
processors = Queue.processors bytes

abbrev pub queue : Memory → ℕ → List ℕ
queue = Queue.queue bytes

abbrev pub cell_of : ℕ → Memory → ℕ → ℕ → ℕ → ℕ
cell_of = Queue.cell_of bytes

abbrev pub join : Memory → ℕ → ℕ → ℕ → Memory
join = Queue.join bytes

abbrev pub leave : Memory → ℕ → ℕ → ℕ → Memory
leave = Queue.leave bytes

abbrev pub name : Memory → ℕ → ℕ
name = Processor.name bytes

abbrev pub priority : Memory → ℕ → ℕ
priority = Processor.priority bytes

abbrev pub is_named : Memory → ℕ → ℕ → Bool
is_named = Processor.is_named bytes

abbrev pub page_of : Memory → ℕ → ℕ
page_of = Processor.page_of bytes

abbrev pub running : Memory → ℕ
running = Processor.running bytes

abbrev pub stopped : Memory → ℕ → Bool
stopped = Processor.stopped bytes

abbrev pub waiting : Memory → ℕ → ℕ
waiting = Processor.waiting bytes

abbrev pub ready : Memory → ℕ → Bool
ready = Processor.ready bytes

abbrev pub stop : Memory → ℕ → Memory
stop = Processor.stop bytes

abbrev pub start : Memory → ℕ → Memory
start = Processor.start bytes

abbrev pub lr_of : Memory → ℕ → ℕ
lr_of = Processor.lr_of bytes

abbrev pub set_lr : Memory → ℕ → ℕ → Memory
set_lr = Processor.set_lr bytes

abbrev pub lr : Memory → ℕ
lr = Processor.lr bytes

abbrev pub advance : Memory → ℕ → Memory
advance = Processor.advance bytes

abbrev pub registers_of : Memory → ℕ → Registers
registers_of = Processor.registers_of bytes

abbrev pub set_flags_lr : Memory → ℕ → Registers → Memory
set_flags_lr = Processor.set_flags_lr bytes

abbrev pub set_registers_of : Memory → ℕ → Registers → Memory
set_registers_of = Processor.set_registers_of bytes

abbrev pub hand_back : Memory → ℕ → Registers → Memory
hand_back = Processor.hand_back bytes

abbrev pub code_at : Memory → ℕ → ℕ
code_at = Instruction.code_at bytes

abbrev pub field_at : Memory → ℕ → ℕ
field_at = Instruction.field_at bytes

abbrev pub three_at : Memory → ℕ → ℕ
three_at = Instruction.three_at bytes

abbrev pub address_of : Memory → ℕ → ℕ
address_of = Instruction.address_of bytes

abbrev pub direct_counted : Memory → ℕ → Arguments
direct_counted = Instruction.direct_counted bytes

abbrev pub direct_creating : Memory → ℕ → Arguments
direct_creating = Instruction.direct_creating bytes

abbrev pub direct : Memory → ℕ → ℕ → Arguments
direct = Instruction.direct bytes

abbrev pub argument : Memory → ℕ → ℕ → ℕ
argument = Instruction.argument bytes

abbrev pub four_at : Memory → ℕ → ℕ → ℕ
four_at = Instruction.four_at bytes

abbrev pub flag_at : Memory → ℕ → ℕ
flag_at = Instruction.flag_at bytes

abbrev pub pointed_creating : Memory → ℕ → Arguments
pointed_creating = Instruction.pointed_creating bytes

abbrev pub pointed : Memory → ℕ → ℕ → Arguments
pointed = Instruction.pointed bytes

abbrev pub within : ℕ → Memory → ℕ → ℕ → Bool
within = Instruction.within bytes

abbrev pub indexed : Memory → ℕ → ℕ → ℕ
indexed = Instruction.indexed bytes

abbrev pub kind : Memory → ℕ → ℕ
kind = Instruction.kind bytes

abbrev pub program : Memory → ℕ → ℕ
program = Instruction.program bytes

abbrev pub set_code : Memory → ℕ → ℕ → ℕ → Memory
set_code = Instruction.set_code bytes

abbrev pub cvi : Memory → ℕ → ℕ → ℕ → Step
cvi = Operate.cvi bytes

abbrev pub dvi : Memory → ℕ → ℕ → Step
dvi = Operate.dvi bytes

abbrev pub gin : Memory → ℕ → Step
gin = Operate.gin bytes

abbrev pub win : Memory → ℕ → ℕ → ℕ → Step
win = Operate.win bytes

abbrev pub waits_for_page : Memory → Step
waits_for_page = Operate.waits_for_page bytes

abbrev pub with_page : Memory → (ℕ → Memory → Memory) → ℕ → Step
with_page = Operate.with_page bytes

abbrev pub posted : Memory → ℕ → ℕ → ℕ → ℕ → ℕ → Memory
posted = Operate.posted bytes

abbrev pub sent : Memory → ℕ → ℕ → ℕ → ℕ → ℕ → Step
sent = Operate.sent bytes

abbrev pub sme_text : Memory → ℕ → ℕ → ℕ → ℕ → Step
sme_text = Operate.sme_text bytes

abbrev pub sme : Memory → ℕ → ℕ → ℕ → ℕ → Step
sme = Operate.sme bytes

abbrev pub wnm : Memory → ℕ → ℕ → ℕ → Step
wnm = Operate.wnm bytes

abbrev pub received : Memory → ℕ → ℕ → Memory
received = Operate.received bytes

abbrev pub rme : Memory → ℕ → ℕ → ℕ → ℕ → Step
rme = Operate.rme bytes

abbrev pub tme_q1 : Memory → ℕ → ℕ → ℕ → ℕ → Step
tme_q1 = Operate.tme_q1 bytes

abbrev pub tme : Memory → ℕ → ℕ → ℕ → ℕ → Step
tme = Operate.tme bytes

abbrev pub st1 : Memory → ℕ → ℕ → Step
st1 = Operate.st1 bytes

abbrev pub stp : Memory → ℕ → ℕ → Step
stp = Operate.stp bytes

abbrev pub dep : Memory → ℕ → ℕ → Step
dep = Operate.dep bytes

abbrev pub on_page : Memory → ℕ → ℕ → ℕ → Step
on_page = Operate.on_page bytes

abbrev pub named : Memory → ℕ → ℕ → ℕ → Step
named = Operate.named bytes

abbrev pub st2_found : Memory → ℕ → ℕ → ℕ → Step
st2_found = Operate.st2_found bytes

abbrev pub st2 : Memory → ℕ → ℕ → ℕ → Step
st2 = Operate.st2 bytes

abbrev pub headed : Memory → ℕ → ℕ → ℕ → ℕ → ℕ → Memory
headed = Operate.headed bytes

abbrev pub created : Memory → ℕ → ℕ → ℕ → ℕ → ℕ → Memory
created = Operate.created bytes

abbrev pub crp_page : Memory → ℕ → ℕ → ℕ → ℕ → ℕ → Step
crp_page = Operate.crp_page bytes

abbrev pub crp : Memory → ℕ → ℕ → ℕ → ℕ → ℕ → Step
crp = Operate.crp bytes

abbrev pub sum_of : Memory → ℕ → ℕ
sum_of = Operate.sum_of bytes

abbrev pub adds : Memory → ℕ → Memory
adds = Operate.adds bytes

abbrev pub stores_a : Memory → ℕ → Memory
stores_a = Operate.stores_a bytes

abbrev pub ands : Memory → ℕ → Memory
ands = Operate.ands bytes

abbrev pub increments : Memory → ℕ → Memory
increments = Operate.increments bytes

abbrev pub worked : Memory → ℕ → ℕ → Memory
worked = Operate.worked bytes

abbrev pub return_to : Memory → ℕ → Memory
return_to = Operate.return_to bytes

abbrev pub reaches : Memory → ℕ → ℕ → ℕ → Step
reaches = Operate.reaches bytes

abbrev pub follows : Memory → ℕ → ℕ → ℕ → ℕ → Step
follows = Operate.follows bytes

abbrev pub thirteen : Memory → ℕ → ℕ → ℕ → ℕ → Step
thirteen = Operate.thirteen bytes

abbrev pub enqueue : Memory → ℕ → ℕ → Memory
enqueue = Wait.enqueue bytes

abbrev pub unqueue : Memory → ℕ → ℕ → Memory
unqueue = Wait.unqueue bytes

abbrev pub put_to_wait : Memory → ℕ → ℕ → ℕ → Memory
put_to_wait = Wait.put_to_wait bytes

abbrev pub wake : Memory → ℕ → ℕ → Memory
wake = Wait.wake bytes

abbrev pub queued : Memory → ℕ → ℕ → Bool
queued = Wait.queued bytes

abbrev pub seat : ℕ → Memory → ℕ → ℕ
seat = Wait.seat bytes

abbrev pub leave_wait : Memory → ℕ → Memory
leave_wait = Wait.leave_wait bytes

abbrev pub grant_of : Memory → ℕ → ℕ
grant_of = Page.grant_of bytes

abbrev pub take_free : Memory → ℕ → Memory
take_free = Page.take_free bytes

abbrev pub first_free : Memory → Taken Memory
first_free = Page.first_free bytes

abbrev pub take_page : Memory → ℕ → Taken Memory
take_page = Page.take_page bytes

abbrev pub free_page : Memory → ℕ → Memory
free_page = Page.free_page bytes

abbrev pub grant_page : Memory → ℕ → ℕ → Memory
grant_page = Page.grant_page bytes

abbrev pub give_back : Memory → ℕ → Memory
give_back = Page.give_back bytes

abbrev pub sender : Memory → ℕ → ℕ
sender = Mail.sender bytes

abbrev pub flag : Memory → ℕ → ℕ
flag = Mail.flag bytes

abbrev pub length_of : Memory → ℕ → ℕ
length_of = Mail.length_of bytes

abbrev pub is_notice : Memory → ℕ → Bool
is_notice = Mail.is_notice bytes

abbrev pub unmarked : Memory → ℕ → Bool
unmarked = Mail.unmarked bytes

abbrev pub matches : Memory → ℕ → ℕ → ℕ → Bool
matches = Mail.matches bytes

abbrev pub in_q1 : Memory → ℕ → ℕ → ℕ
in_q1 = Mail.in_q1 bytes

abbrev pub in_q2 : Memory → ℕ → ℕ → ℕ
in_q2 = Mail.in_q2 bytes

abbrev pub awaits : Memory → ℕ → ℕ → Bool
awaits = Mail.awaits bytes

abbrev pub heard : Memory → ℕ → ℕ → Memory
heard = Mail.heard bytes

abbrev pub deliver : Memory → ℕ → ℕ → Memory
deliver = Mail.deliver bytes

abbrev pub write_message : Memory → ℕ → ℕ → ℕ → ℕ → Memory
write_message = Mail.write_message bytes

abbrev pub make_notice : Memory → ℕ → ℕ → ℕ → Memory
make_notice = Mail.make_notice bytes

abbrev pub move : Memory → ℕ → ℕ → Memory
move = Mail.move bytes

abbrev pub test_q1 : ℕ → Memory → ℕ → ℕ → ℕ → Tested Memory
test_q1 = Mail.test_q1 bytes

abbrev pub copy_out : Memory → ℕ → ℕ → Memory
copy_out = Mail.copy_out bytes

abbrev pub unlisted : Memory → ℕ → Memory
unlisted = Delete.unlisted bytes

abbrev pub sent_by : Memory → ℕ → ℕ → Bool
sent_by = Delete.sent_by bytes

abbrev pub marked : Memory → ℕ → ℕ → Memory
marked = Delete.marked bytes

abbrev pub marked_from : ℕ → Memory → ℕ → ℕ → Memory
marked_from = Delete.marked_from bytes

abbrev pub mail_marked : Memory → ℕ → ℕ → Memory
mail_marked = Delete.mail_marked bytes

abbrev pub all_marked : ℕ → Memory → ℕ → ℕ → Memory
all_marked = Delete.all_marked bytes

abbrev pub sent_marked : Memory → ℕ → ℕ → Memory
sent_marked = Delete.sent_marked bytes

abbrev pub noticed : Memory → ℕ → ℕ → ℕ → Memory
noticed = Delete.noticed bytes

abbrev pub returned : Memory → ℕ → ℕ → Memory
returned = Delete.returned bytes

abbrev pub emptied : ℕ → Memory → ℕ → ℕ → Memory
emptied = Delete.emptied bytes

abbrev pub mail_returned : Memory → ℕ → ℕ → Memory
mail_returned = Delete.mail_returned bytes

abbrev pub grant_returned : Memory → ℕ → Memory
grant_returned = Delete.grant_returned bytes

abbrev pub mail_settled : Memory → ℕ → ℕ → Memory
mail_settled = Delete.mail_settled bytes

abbrev pub delete : Memory → ℕ → Memory
delete = Delete.delete bytes

abbrev pub classed : Memory → ℕ → ℕ → ℕ → Memory
classed = Interrupt.classed bytes

abbrev pub struck : Memory → ℕ → ℕ → ℕ → Memory
struck = Interrupt.struck bytes

abbrev pub served_from : ℕ → Memory → ℕ → ℕ → ℕ → Memory
served_from = Interrupt.served_from bytes

abbrev pub serve : Memory → ℕ → ℕ → Memory
serve = Interrupt.serve bytes

abbrev pub counts : Memory → ℕ → Memory
counts = Interrupt.counts bytes

abbrev pub ends : Memory → ℕ → ℕ → Bool
ends = Interrupt.ends bytes

abbrev pub turns : Memory → ℕ → ℕ → Memory
turns = Interrupt.turns bytes

abbrev pub c3_counts : Memory → Memory
c3_counts = Interrupt.c3_counts bytes

abbrev pub c2_counts : Memory → Memory
c2_counts = Interrupt.c2_counts bytes

abbrev pub c1_counts : Memory → Memory
c1_counts = Interrupt.c1_counts bytes

abbrev pub c0_counts : Memory → Memory
c0_counts = Interrupt.c0_counts bytes

abbrev pub delivered : Memory → ℕ → ℕ → Memory
delivered = Interrupt.delivered bytes

abbrev pub stays : Memory → ℕ → ℕ
stays = Turn.stays bytes

abbrev pub above : Memory → ℕ → ℕ → Bool
above = Turn.above bytes

abbrev pub better : Memory → ℕ → ℕ → ℕ
better = Turn.better bytes

abbrev pub chosen : Memory → ℕ
chosen = Turn.chosen bytes

abbrev pub on_page0 : Memory → List ℕ
on_page0 = Turn.on_page0 bytes

abbrev pub kept_on : Memory → ℕ → List ℕ
kept_on = Turn.kept_on bytes

abbrev pub context_of : Memory → ℕ → Context
context_of = Turn.context_of bytes

abbrev pub saved_of : Memory → ℕ → Context
saved_of = Turn.saved_of bytes

abbrev pub kept : ℕ → Memory → ℕ → List ℕ → Memory
kept = Turn.kept bytes

abbrev pub restored : ℕ → Memory → List ℕ → Memory
restored = Turn.restored bytes

abbrev pub save : Memory → ℕ → Memory
save = Turn.save bytes

abbrev pub load : Memory → ℕ → Memory
load = Turn.load bytes

abbrev pub runs : Memory → ℕ → Memory
runs = Turn.runs bytes

abbrev pub switch : Memory → ℕ → ℕ → Memory
switch = Turn.switch bytes

abbrev pub who_runs : Memory → Memory
who_runs = Turn.who_runs bytes

abbrev pub cleared : Memory → Memory
cleared = Fresh.cleared bytes

abbrev pub timed : Memory → ℕ → ℕ → Memory
timed = Fresh.timed bytes

abbrev pub first_processor : Memory → Memory
first_processor = Fresh.first_processor bytes

abbrev pub chained : ℕ → Memory → ℕ → Memory
chained = Fresh.chained bytes

abbrev pub freed : Memory → Memory
freed = Fresh.freed bytes

abbrev pub all_built_in : ℕ → Memory → Memory
all_built_in = Fresh.all_built_in bytes

abbrev pub started : Memory → ℕ → ℕ → Memory
started = Fresh.started bytes

abbrev pub lists : Memory → Lists
lists = Lists.lists bytes

abbrev pub well_formed : Memory → List ℕ → Lists → Rule
well_formed = Judge.well_formed bytes

abbrev pub judged : Memory → Bool
judged = Judge.judged bytes

abbrev pub path : ℕ → Memory → ℕ → ℕ → List ℕ
path = Walks.path bytes

abbrev pub met : Memory → Lists
met = Walks.met bytes

abbrev pub told_of : Memory → Finding
told_of = Classes.told_of bytes

abbrev pub arrived : Memory → List ℕ → Memory
arrived = Burst.arrived bytes

abbrev pub heeds_pairs : Checked → Memory → List ℕ → Step
heeds_pairs = Burst.heeds_pairs bytes

abbrev pub burst_judged : Memory → List ℕ → Step
burst_judged = Burst.burst_judged bytes

abbrev pub burst : Memory → List ℕ → Step
burst = Burst.burst bytes

abbrev pub made : Memory → Entry → Memory
made = Settings.made bytes

abbrev pub all_made : Memory → List Entry → Memory
all_made = Settings.all_made bytes

abbrev pub settled : Memory → List ℕ → Memory
settled = Settings.settled bytes

abbrev pub heeds_file : Fit → Memory → List ℕ → Step
heeds_file = Settings.heeds_file bytes

abbrev pub from_settings : Memory → List ℕ → Step
from_settings = Settings.from_settings bytes

abbrev pub differing : ℕ → Memory → Memory → ℕ → List ℕ
differing = Differ.differing bytes

abbrev pub word_line : Memory → Memory → ℕ → Line
word_line = Differ.word_line bytes

abbrev pub word_lines : ℕ → Memory → Memory → ℕ → List Line
word_lines = Differ.word_lines bytes

abbrev pub queue_of : Memory → ℕ → ℕ
queue_of = Differ.queue_of bytes

abbrev pub state_of : Memory → ℕ → State
state_of = Differ.state_of bytes

abbrev pub words_from : ℕ → Memory → ℕ → List ℕ
words_from = Differ.words_from bytes

abbrev pub content_of : Memory → ℕ → List ℕ
content_of = Differ.content_of bytes

abbrev pub message_of : Memory → ℕ → List ℕ
message_of = Differ.message_of bytes

abbrev pub messages : Memory → ℕ → List (List ℕ)
messages = Differ.messages bytes

abbrev pub same_mail : Memory → ℕ → Memory → ℕ → Bool
same_mail = Differ.same_mail bytes

abbrev pub differences : Memory → ℕ → Memory → ℕ → Parts
differences = Differ.differences bytes

abbrev pub said_of : Memory → ℕ → Memory → ℕ → Said
said_of = Differ.said_of bytes

abbrev pub said : Memory → Memory → ℕ → Said
said = Differ.said bytes

abbrev pub names_lines : ℕ → Memory → Memory → ℕ → List Line
names_lines = Differ.names_lines bytes

abbrev pub judged_lines : Memory → Memory → List Line
judged_lines = Differ.judged_lines bytes

abbrev pub is_whole : Memory → Bool
is_whole = Differ.is_whole bytes

abbrev pub size_lines : Side → Memory → List Line
size_lines = Differ.size_lines bytes

abbrev pub whole_lines : Memory → Memory → List Line
whole_lines = Differ.whole_lines bytes

abbrev pub lines : Memory → Memory → List Line
lines = Differ.lines bytes

abbrev pub refused : Memory → ℕ → Step
refused = Answer.refused bytes

abbrev pub done : Memory → ℕ → Step
done = Answer.done bytes

abbrev pub jumps : Memory → ℕ → Step
jumps = Answer.jumps bytes

abbrev pub waits : Memory → ℕ → ℕ → Step
waits = Answer.waits bytes

abbrev pub entered : Memory → ℕ → Memory
entered = Fault.entered bytes

abbrev pub fault : Memory → ℕ → Step
fault = Fault.fault bytes

abbrev pub run : (Memory → Arguments → Step) → Memory → ℕ → Arguments → ℕ → Step
run = Execute.run bytes

abbrev pub foreign : Memory → ℕ → ℕ → Step
foreign = Execute.foreign bytes

abbrev pub is_foreign : Memory → ℕ → Bool
is_foreign = Execute.is_foreign bytes

abbrev pub argument_fault : Memory → ℕ → ℕ → ℕ
argument_fault = Execute.argument_fault bytes

abbrev pub argued : (Memory → ℕ → Arguments → ℕ → Step) → Memory → ℕ → ℕ → Step
argued = Execute.argued bytes

abbrev pub exi : ℕ → Memory → Arguments → Step
exi = Execute.exi bytes

abbrev pub execute : ℕ → Memory → ℕ → Arguments → ℕ → Step
execute = Execute.execute bytes

abbrev pub taken : Memory → ℕ → ℕ → Step
taken = Execute.taken bytes

abbrev pub decoded : Memory → ℕ → ℕ → Step
decoded = Execute.decoded bytes

abbrev pub coded : Memory → ℕ → Step
coded = Execute.coded bytes

abbrev pub fetched : Memory → ℕ → Step
fetched = Execute.fetched bytes
