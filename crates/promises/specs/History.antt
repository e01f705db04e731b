-- What the kernel promises of mail and notices, and of priorities, over any run, on one page. `Run m h` says that the memory m comes from a fresh start, from
-- settings or not, by any calls, and any changes by the host between them, and that h is the past: what was put to each processor and what it has read, in its
-- present life, and which life sent the message of each page (history/specs/Lives.antt). What an instruction puts and reads is `mailed`
-- (history/specs/Put.antt); a message as a value, mail or a notice, is a `Letter`; what waits for a processor is `waiting_for`, Q2 then Q1
-- (history/specs/Letter.antt). A processor is named by its page. Each statement is followed by its proof. Assumes nothing.
use Rattle.std.specs.Prelude.{◌≡◌, ◌≢◌, ◌⊎◌, true, false, List, [], ◌∷◌, ◌++◌, map, ℕ, suc, ◌+◌, ◌≤◌, ◌<◌, length, get_or}
use Rattle.model.specs.declared.Entry.{Entry}
use Rattle.model.specs.Map.{memory_size, place, q1, head_words, first_priority}
use Rattle.model.specs.Address.{wrapped}
use Rattle.model.specs.Instruction.{sme_code, rme_code, dep_code}
use Rattle.model.specs.Told.Fit.{Good}
use Rattle.model.specs.Fresh.{startable}
use Rattle.model.specs.Layout.{is_good, of_file, newest, entries_of}
use Rattle.model.specs.Answer.{memory_of}
use Rattle.model.specs.Lists.{count}
use Rattle.model.specs.Bytes.{fresh, from_settings, instruction, priority, processors, queue, running, name, at, unmarked, is_notice}
use Rattle.laws.specs.Words.{Small}
use Rattle.laws.specs.Calls.{Act, Host, Reached, after, reached_sound}
use Rattle.laws.specs.Calls.Act.{fresh_start, fresh_from}
use Rattle.history.specs.Letter.{Letter, mail_of, of_sender_and_flag, waiting_for}
use Rattle.history.specs.Put.{nothing, of, mailed, puts, reads, code_run, only_notices}
use Rattle.history.specs.Went.{went_to}
use Rattle.history.specs.Told.{Under}
use Rattle.history.specs.Whole.{instruction_lawful, instruction_written, instruction_one}
use Rattle.history.specs.Traced.{About, Each, Origin, Stood, Turned}
use Rattle.history.specs.Begin.{settings_empty}
use Rattle.history.specs.Lives as Lives
use Rattle.history.specs.Lives.{Past, Run, Living, Life, life, sent_by, none_yet, grown, mail_by, restarts, later, run_reached, reached_run, call_lawful}
use Rattle.history.specs.Senders as Senders
use Rattle.history.specs.Senders.{SentBy, WaitsAt}
use Rattle.history.specs.Said as Said
use Rattle.history.specs.Said.{same, same_is, is_same, times}
use Rattle.history.specs.Highest.{Since, highest, highest_most, highest_least, never_higher, host_never_higher, priority_stays, new_under, above_nobody}
use Rattle.history.specs.Highest.{fresh_alike, settings_bound}
use Rattle.history.specs.Example.{Heard, Namesake, letter, example_heard, example_namesake}

-- ---- THE ORDER OF MAIL. At every point of every run, for every processor p that lives, of every sender s and flag f: what it has read, then what waits for
-- it, Q2 before Q1, is just what was put to it, mail and notices, in that order, with text
pub nothing_lost : (m : List ℕ) (h : Past) → Run m h → (p : ℕ) → Living m p → (s f : ℕ)
    → of_sender_and_flag s f (h.read p ++ waiting_for m p) ≡ of_sender_and_flag s f (h.put p)
nothing_lost = Lives.nothing_lost

-- the runs are all there are: no memory that a fresh start can lead to is left out
pub a_run_is_reached : (m : List ℕ) (h : Past) → Run m h → Reached m
a_run_is_reached = run_reached

pub what_is_reached_has_a_past : (m : List ℕ) → Reached m → (h : Past) × Run m h
what_is_reached_has_a_past = reached_run

-- ---- how the past grows: while p lives, by exactly what the call puts to it and what it reads
pub the_past_grows : (a : Act) (m : List ℕ) (h : Past) → restarts a ≡ false → (p : ℕ) → Living m p → Living (after a m) p
    → ((later a m h).put p ≡ h.put p ++ of p (mail_by a m).puts) × ((later a m h).read p ≡ h.read p ++ of p (mail_by a m).reads)
the_past_grows = Said.past_grows

-- a life begins with nothing, and keeps its name; a change by the host adds nothing
pub born_with_nothing : (a : Act) (m : List ℕ) (h : Past) → restarts a ≡ false → (p : ℕ) → count p (processors m) ≡ 0
    → ((later a m h).put p ≡ []) × ((later a m h).read p ≡ [])
born_with_nothing = Said.born_empty

pub a_life_keeps_its_name : (m : List ℕ) → Reached m → (a : Act) → restarts a ≡ false → (p : ℕ) → Living m p → Living (after a m) p
    → name (after a m) p ≡ name m p
a_life_keeps_its_name m h = Said.name_stays (reached_sound m h)

pub the_host_adds_nothing : {m m' : List ℕ} → Reached m → Host m m' → (h : Past) (p : ℕ) → Living m p → Living m' p
    → ((grown m m' nothing h).put p ≡ h.put p) × ((grown m m' nothing h).read p ≡ h.read p) × (name m' p ≡ name m p)
the_host_adds_nothing {m} r = Said.host_grows (reached_sound m r)

-- a later fresh start begins a new history; one that is refused keeps the old one
pub fresh_begins_anew : (m : List ℕ) (h : Past) (line d : ℕ) → startable line d ≡ true → later (fresh_start line d) m h ≡ none_yet
fresh_begins_anew = Said.fresh_begins

pub refused_fresh_keeps_the_past : {m : List ℕ} → Reached m → (h : Past) (line d : ℕ) → startable line d ≡ false → (p : ℕ) → Living m p
    → ((later (fresh_start line d) m h).put p ≡ h.put p) × ((later (fresh_start line d) m h).read p ≡ h.read p)
refused_fresh_keeps_the_past {m} r = Said.refused_keeps (reached_sound m r)

-- so does a fresh start from settings: it is one more beginning, of any memory of 8,192 words, after which nothing waits for anybody; a file that is refused
-- keeps the old history
pub settings_begin_a_history : (m f : List ℕ) → length m ≡ memory_size → Small m → of_file f ≡ Good → Run (memory_of (from_settings m f)) none_yet
settings_begin_a_history = Lives.Run.settle

pub nothing_waits_then : (m f : List ℕ) → length m ≡ memory_size → Small m → of_file f ≡ Good → (p : ℕ) → Living (memory_of (from_settings m f)) p
    → waiting_for (memory_of (from_settings m f)) p ≡ []
nothing_waits_then = settings_empty

pub settings_begin_anew : (m : List ℕ) (h : Past) (f : List ℕ) → of_file f ≡ Good → later (fresh_from f) m h ≡ none_yet
settings_begin_anew = Said.settings_begin

pub refused_settings_keep_the_past : {m : List ℕ} → Reached m → (h : Past) (f : List ℕ) → is_good (of_file f) ≡ false → (p : ℕ) → Living m p
    → ((later (fresh_from f) m h).put p ≡ h.put p) × ((later (fresh_from f) m h).read p ≡ h.read p)
refused_settings_keep_the_past {m} r = Said.unsettled_keeps (reached_sound m r)

-- ---- NOTICES TO A NAMESAKE (document 02, 3/13). A life is a page and the call in which it began: who is deleted and made again under its name is another
-- life. `h.by x` is the life that sent the message of page x, `life h p` the one that p lives now. At every point of every run, of mail x that waits for a
-- processor p that lives: where it is unmarked, the one that has its sender's name now is the very life that sent it; where it is marked, no one who lives is
pub unmarked_mail_is_of_the_living : (m : List ℕ) (h : Past) → Run m h → (p w x : ℕ) → Living m p → WaitsAt m p w x → unmarked m x ≡ true → SentBy m h x
unmarked_mail_is_of_the_living = Senders.living_sender

pub marked_mail_is_of_the_gone : (m : List ℕ) (h : Past) → Run m h → (p w x : ℕ) → Living m p → WaitsAt m p w x → unmarked m x ≡ false
    → is_notice m x ≡ false → (r : ℕ) → Living m r → h.by x ≢ life h r
marked_mail_is_of_the_gone = Senders.gone_sender

-- so every notice goes to the very life that sent the mail which it is about: `about` says of each notice that an instruction puts to whom it goes, and on
-- which page that mail is
pub each_notice_goes_to_the_sender : (m : List ℕ) (h : Past) → Run m h
    → Each (λ (y : ℕ × ℕ). sent_by m (mailed m) h y.1 ≡ life h y.0) (mailed m).about
each_notice_goes_to_the_sender = Senders.notice_to_sender

-- and no processor ever gets a notice for mail that it did not send in this life. `noticed` has, for each notice that was put to it, the life that sent that
-- mail: just as many as notices were put
pub no_notice_for_anothers_mail : (m : List ℕ) (h : Past) → Run m h → (p : ℕ) → Living m p → Each (λ (l : Life). l ≡ life h p) (h.noticed p)
no_notice_for_anothers_mail = Senders.own_notices

pub of_each_notice_it_is_known : (m : List ℕ) (h : Past) → Run m h → (p : ℕ) → Living m p → length (h.noticed p) ≡ length (only_notices (h.put p))
of_each_notice_it_is_known = Senders.notices_counted

pub what_it_is_noticed_of_grows : (a : Act) (m : List ℕ) (h : Past) → restarts a ≡ false → (p : ℕ) → Living m p → Living (after a m) p
    → (later a m h).noticed p ≡ h.noticed p ++ map (sent_by m (mail_by a m) h) (of p (mail_by a m).about)
what_it_is_noticed_of_grows = Senders.noticed_grows

-- how that is known. A life that goes on is the same life; one that begins is none that was: it is numbered by its call, and all before have lower numbers
pub a_life_goes_on : (a : Act) (m : List ℕ) (h : Past) → restarts a ≡ false → (p : ℕ) → Living m p → Living (after a m) p → life (later a m h) p ≡ life h p
a_life_goes_on = Senders.life_goes_on

pub a_life_begins : (a : Act) (m : List ℕ) (h : Past) → restarts a ≡ false → (p : ℕ) → count p (processors m) ≡ 0 → (later a m h).since p ≡ suc h.calls
a_life_begins = Senders.life_begins

pub no_life_comes_again : (m : List ℕ) (h : Past) → Run m h → (p : ℕ) → Living m p → h.since p ≤ h.calls
no_life_comes_again = Senders.new_life

-- the one that runs is the sender of what it writes, on the page `wrote`, which then stands at the end of Q1 of the one it is put to; the sender of every other
-- page's message stays
pub the_runner_sends : (a : Act) (m : List ℕ) (h : Past) → restarts a ≡ false → (x : ℕ) → x ≡ (mail_by a m).wrote → (later a m h).by x ≡ life h (running m)
the_runner_sends = Senders.runner_sends

pub the_sender_stays : (a : Act) (m : List ℕ) (h : Past) → restarts a ≡ false → (x : ℕ) → x ≢ (mail_by a m).wrote → (later a m h).by x ≡ h.by x
the_sender_stays = Senders.sender_stays

pub what_it_wrote_stands : (m : List ℕ) → Reached m
    → Each (λ (y : ℕ × Letter). (mailed m).wrote ≢ 0 → Stood (memory_of (instruction m)) (mailed m).wrote y.0 y.1) (puts m)
what_it_wrote_stands m h = (instruction_lawful (reached_sound m h)).traced.written

-- and a message keeps its page: one that waits after a call waited before it for the same processor, on that page and with that sender and flag, marked now
-- only if whoever had its sender's name is gone; or the one that ran sent it; or it is a notice
pub a_message_keeps_its_page : (m : List ℕ) → Reached m → (a : Act) → restarts a ≡ false → (p w x : ℕ) → Living m p
    → Living (after a m) p → WaitsAt (after a m) p w x → Origin m (after a m) (mail_by a m) p x
a_message_keeps_its_page m r a e p w x i j c = (call_lawful (reached_sound m r) a e).traced.pages p w x i j c.0 c.1 c.2

-- what a notice is about: what the one that runs was to send, or unmarked mail that waits, and it goes to who has its sender's name
pub what_a_notice_is_about : (m : List ℕ) → Reached m → Each (λ (y : ℕ × ℕ). About m (mailed m).wrote y.0 y.1) (mailed m).about
what_a_notice_is_about m h = (instruction_lawful (reached_sound m h)).traced.about

-- and stands on the page of that message, at the end of Q1 of the one it goes to
pub a_notice_stands_where_the_mail_was : (m : List ℕ) → Reached m → (p : ℕ) → Living (memory_of (instruction m)) p
    → Turned (memory_of (instruction m)) p (of p (mailed m).about) (only_notices (of p (puts m)))
a_notice_stands_where_the_mail_was m h = (instruction_lawful (reached_sound m h)).traced.turned

-- ---- NO CREATING ABOVE YOURSELF (document 02, 6/13). `highest m` is the highest priority among those that live (history/specs/Highest.antt): none of them
-- is above it, and nothing lower is above them all
pub what_highest_means : (m : List ℕ) → ((p : ℕ) → Living m p → priority m p ≤ highest m)
    × ((b : ℕ) → ((p : ℕ) → Living m p → priority m p ≤ b) → highest m ≤ b)
what_highest_means m = (highest_most m (processors m), highest_least m (processors m))

-- in every run, after any call but a fresh start that is taken, from settings or not, it is no higher than before; nor is it after a change by the host
pub the_highest_never_grows : (m : List ℕ) → Reached m → (a : Act) → restarts a ≡ false → highest (after a m) ≤ highest m
the_highest_never_grows m h = never_higher (reached_sound m h)

pub the_host_raises_nobody : (m m' : List ℕ) → Reached m → Host m m' → highest m' ≤ highest m
the_host_raises_nobody m m' h = host_never_higher (reached_sound m h)

-- since: a life keeps its priority, and one that begins has no higher one than the processor had that ran: `Under`
pub a_life_keeps_its_priority : (m : List ℕ) → Reached m → (a : Act) → restarts a ≡ false → (p : ℕ) → Living m p → Living (after a m) p
    → priority (after a m) p ≡ priority m p
a_life_keeps_its_priority m h = priority_stays (reached_sound m h)

pub who_is_new_is_not_above : (m : List ℕ) → Reached m → (a : Act) → restarts a ≡ false → (p : ℕ) → count p (processors m) ≡ 0 → Living (after a m) p
    → Under m (after a m) p
who_is_new_is_not_above m h = new_under (reached_sound m h)

-- so one created later is never above who was highest: at any later point of the run, `Since`, until the next fresh start, nobody is
pub nobody_comes_above : (m m₁ : List ℕ) → Reached m → Since m m₁ → (p : ℕ) → priority m p ≡ highest m → (q : ℕ) → Living m₁ q → priority m₁ q ≤ priority m p
nobody_comes_above m m₁ = above_nobody

-- "From a fresh start every processor thus has priority 1, but for those of settings": nobody is ever above the first one and all entries
pub from_fresh_all_are_alike : (m : List ℕ) → length m ≡ memory_size → Small m → (line d : ℕ) → startable line d ≡ true → (m₁ : List ℕ)
    → Since (memory_of (fresh m line d)) m₁ → (p : ℕ) → Living m₁ p → priority m₁ p ≡ first_priority
from_fresh_all_are_alike m l s line d e m₁ = fresh_alike m l s line d e

pub from_settings_no_higher : (m f : List ℕ) → length m ≡ memory_size → Small m → of_file f ≡ Good → (b : ℕ) → first_priority ≤ b
    → Each (λ (e : Entry). e.priority ≤ b) (entries_of (newest f)) → (m₁ : List ℕ) → Since (memory_of (from_settings m f)) m₁ → (p : ℕ) → Living m₁ p
    → priority m₁ p ≤ b
from_settings_no_higher m f l s g b i u m₁ = settings_bound m f l s g b i u

-- ---- what is put and read is what the instruction does. Only SME and DEP put, only RME reads, direct or by EXI: so WNM and TME only move
pub only_4_and_12_put : (m : List ℕ) → code_run m ≢ sme_code → code_run m ≢ dep_code → puts m ≡ []
only_4_and_12_put = Said.puts_nothing

pub only_6_reads : (m : List ℕ) → code_run m ≢ rme_code → reads m ≡ []
only_6_reads = Said.reads_nothing

-- what an instruction put stands in memory at the end of Q1 of the one it was put to, word for word, in the order in which it was put
pub put_stands : (m : List ℕ) → Reached m → (p : ℕ) → Living (memory_of (instruction m)) p
    → (zs : List Letter) × (map (mail_of (memory_of (instruction m))) (queue (memory_of (instruction m)) (place p q1)) ≡ zs ++ of p (puts m))
put_stands m h = (instruction_lawful (reached_sound m h)).stands.at

-- an instruction reads one message or none; the one that ran reads, and what it read stands from the target on, one word each: sender, flag, length, text.
-- `went_to` says where a word of page 0 is kept if another runs now; every other word is in its place
pub reads_one : (m : List ℕ) → Reached m → length (reads m) ≤ 1
reads_one m h = instruction_one (reached_sound m h)

pub reader_ran : (m : List ℕ) → Reached m → (r : ℕ) (x : Letter) → reads m ≡ (r, x) ∷ [] → r ≡ running m
reader_ran m h = (instruction_written (reached_sound m h)).ran

pub read_stands : (m : List ℕ) → Reached m → (r : ℕ) (x : Letter) → reads m ≡ (r, x) ∷ [] → (i : ℕ) → i < head_words + x.size
    → at (memory_of (instruction m)) (went_to (memory_of (instruction m)) r (wrapped (mailed m).target i)) ≡ get_or (x.sender ∷ x.flag ∷ x.size ∷ x.text) i 0
read_stands m h = (instruction_written (reached_sound m h)).at

-- ---- WHAT FOLLOWS from the order of mail, said apart
module _ (m : List ℕ) (h : Past) (r : Run m h) (p : ℕ) (living : Living m p) where
  -- nothing is read that was not put
  pub nothing_invented : (x : Letter) → 1 ≤ times x (h.read p) → 1 ≤ times x (h.put p)
  nothing_invented = Said.read_was_put m h r p living

  -- what was put was read, or waits
  pub nothing_dropped : (x : Letter) → 1 ≤ times x (h.put p) → (1 ≤ times x (h.read p)) ⊎ (1 ≤ times x (waiting_for m p))
  nothing_dropped = Said.put_is_there m h r p living

  -- as often as it was put, a message is read or waits: never twice
  pub nothing_doubled : (x : Letter) → times x (h.read p) + times x (waiting_for m p) ≡ times x (h.put p)
  nothing_doubled = Said.none_twice m h r p living

  -- of one sender and flag, what was read is the first part of what was put, and what waits is the rest
  pub nothing_overtaken : (s f : ℕ) → of_sender_and_flag s f (h.read p) ++ of_sender_and_flag s f (waiting_for m p) ≡ of_sender_and_flag s f (h.put p)
  nothing_overtaken = Said.none_overtaken m h r p living

-- `times` counts the messages that are the same: in kind, sender, flag, length and text
pub same_means : (x y : Letter) → (same x y ≡ true → x ≡ y) × (x ≡ y → same x y ≡ true)
same_means x y = (same_is x y, is_same x y)

-- ---- it is not empty talk: there is a run in which processor 1 sends itself a message of the words 5 and 6 and reads it
pub a_message_is_read : Heard letter
a_message_is_read = example_heard

-- and one in which mail waits whose sender is gone, while another lives under its name
pub a_namesake_lives_beside_old_mail : Namesake
a_namesake_lives_beside_old_mail = example_namesake
