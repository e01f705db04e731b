-- Say what is broken: "A table .. gives every rule on well-formed memory one class and the address told". Under each class its sentences, and
-- of each sentence rows: of whom it speaks, the address that each tells, and what is asked of each. The rules are the judge's where it has one.
use Rattle.std.specs.Prelude.{ℕ, suc, ◌/◌, cond, List, [], ◌∷◌, ◌++◌, length, eqb, leb}
use Rattle.model.specs.Told.{Finding}
use Rattle.model.specs.Store.{Store}
use Rattle.model.specs.Map as Map
use Rattle.model.specs.Map.{place, page_size, top, free_list, free_semaphore, page_queue, processor_list, running_page, running_label}
use Rattle.model.specs.Map.{clock_line, c0, c1, c2, c3, zero_word, divider, code_word, all_codes, built_in_codes, first_unused, entry_after, entries}
use Rattle.model.specs.Map.{entries_full, grants, grant_for, header_after, semaphore_after, first_control, last_control, control_pages, own_semaphore}
use Rattle.model.specs.Map.{state, interrupts, last_name, first_outer, last_line, c1_end, c2_end, c3_end, wait_bit, a_word}
use Rattle.model.specs.Address.{word, at}
use Rattle.model.specs.Instruction.{built_in}
use Rattle.model.specs.Rule.{Rule, same, most, never, both, when_same, unless_same, when_most, among, under}
use Rattle.model.specs.Lists.{count, Lists, sum, range, link_of, mails, queues}
use Rattle.model.specs.Judge as Judge
use Rattle.model.specs.Walks.{met, last_cell, gather}
use Rattle.model.specs.Answer.{broken_pages, broken_waits, broken_records, broken_tables, broken_counters}
use Rattle.model.specs.Tell.{Row, Class, first}
use Rattle.model.specs.Tell.Row.{tells}
use Rattle.model.specs.Tell.Class.{class}

-- ---- of whom a rule speaks
abbrev pub controls : List ℕ
controls = range control_pages 1 first_control

-- the lists of uses are those of chains, and the words 1-15 of page 10
abbrev pub chains : List ℕ → List ℕ
chains ps = processor_list ∷ free_list ∷ mails ps

abbrev pub holders : List ℕ
holders = range last_name 1 (grant_for 1)

abbrev pub used : List ℕ → List ℕ
used ps = chains ps ++ holders

abbrev pub lines : List ℕ
lines = range interrupts 2 (header_after 0)

-- ---- the address told
abbrev pub itself : ℕ → ℕ
itself a = a

-- "a page is offending by its word 0 and a semaphore by its own word"
abbrev pub page : ℕ → ℕ
page p = place p 0

abbrev pub semaphore : ℕ → ℕ
semaphore p = place p own_semaphore

-- a cell on a control page by that page, any other by itself
unfoldable pub cell : ℕ → ℕ
cell a = cond (leb (page first_control) a) (page (a / page_size)) a

module _ (S : Store) (m : S.M) (ps : List ℕ) (L : Lists) where
  -- ---- 30, "a control page used twice or not at all"
  -- "every control page is used once"
  unfoldable pub once : ℕ → Rule
  once z = same (sum z L (used ps)) 1

  unfoldable pub used_once : List Row
  used_once = tells controls page once ∷ []

  -- a header, a link and a grant is 0 or a control page: of a list, the word where its walk ended
  unfoldable pub pointer : ℕ → Rule
  pointer a = unless_same (at S m a) 0 (among (at S m a) first_control last_control)

  abbrev pub end : ℕ → ℕ
  end a = last_cell (link_of a) a (L a)

  abbrev pub false_end : ℕ → ℕ
  false_end a = cell (end a)

  unfoldable pub ends : ℕ → Rule
  ends a = pointer (end a)

  unfoldable pub uses_end : List Row
  uses_end = tells (chains ps) false_end ends ∷ tells holders itself pointer ∷ []

  unfoldable pub of_pages : List (List Row)
  of_pages = used_once ∷ uses_end ∷ []

  -- ---- 31, "a wait queue or semaphore"
  unfoldable pub queues_end : List Row
  queues_end = tells (queues ps) false_end ends ∷ []

  -- "waiting bit set exactly if in one wait queue"
  unfoldable pub waiting_bits : List Row
  waiting_bits = tells ps page (Judge.bit S m ps L) ∷ tells controls page (Judge.waiter S m ps L) ∷ []

  -- "reasons 1-255 in interrupt queues, 0 in the page queue and when not waiting"
  unfoldable pub reasons : List Row
  reasons =
      tells (gather L lines) page (Judge.reasoned S m)
      ∷ tells (L page_queue) page (Judge.reasonless S m)
      ∷ tells ps page (Judge.quiet S m)
      ∷ []

  -- "a message wait holds its owner only, reason flag 0-7, and matches nothing in its Q1"
  unfoldable pub message_waits : List Row
  message_waits = tells ps page (Judge.message_wait S m ps L) ∷ []

  -- "semaphores as above"
  unfoldable pub page_semaphore : ℕ → Rule
  page_semaphore a = Judge.page_semaphore S m ps L

  unfoldable pub semaphores : List Row
  semaphores =
      tells (range interrupts 1 0) semaphore_after (Judge.interrupt_semaphore S m ps L)
      ∷ tells ps semaphore (Judge.message_semaphore S m ps L)
      ∷ tells (free_semaphore ∷ []) itself page_semaphore
      ∷ []

  -- "free list empty if anyone waits for a page, who then holds no grant"
  unfoldable pub none_free : ℕ → Rule
  none_free p = same (length (L free_list)) 0

  abbrev pub grant_of : ℕ → ℕ
  grant_of p = grant_for (Judge.name_of S m p)

  unfoldable pub no_grant : ℕ → Rule
  no_grant p = same (at S m (grant_of p)) 0

  unfoldable pub page_waits : List Row
  page_waits = tells (L page_queue) (λ p. free_list) none_free ∷ tells (L page_queue) grant_of no_grant ∷ []

  unfoldable pub of_waits : List (List Row)
  of_waits = queues_end ∷ waiting_bits ∷ reasons ∷ message_waits ∷ semaphores ∷ page_waits ∷ []

  -- ---- 32, "a processor or message record"
  -- "names differ and lie in 1-15, priorities 1-15"; "the two zeros of word 12"
  unfoldable pub labels : List Row
  labels = tells ps page (Judge.label S m ps L) ∷ tells ps page (Judge.zero_bits S m) ∷ []

  -- "grants only to existing names; page 10's other words zero"
  unfoldable pub existing : ℕ → Rule
  existing k = unless_same (at S m (grant_for k)) 0 (most 1 (Judge.bearers S m ps L k))

  unfoldable pub nought : ℕ → Rule
  nought a = same (at S m a) 0

  unfoldable pub granted : List Row
  granted = tells (range last_name 1 1) grant_for existing ∷ tells (grants ∷ range 16 1 (grant_for 16)) itself nought ∷ []

  -- "senders 1-15, flags 1-7, word 2 of a message 0-29, 64-93 or 128"
  unfoldable pub messages : List Row
  messages = tells (gather L (mails ps)) page (Judge.message S m) ∷ []

  unfoldable pub of_records : List (List Row)
  of_records = labels ∷ granted ∷ messages ∷ []

  -- ---- 33, "the code or error table"
  -- "kinds 0-2, codes 0, 1 built in, 15 absent or own"
  unfoldable pub is_built_in : ℕ → Rule
  is_built_in c = same (top (at S m (code_word c))) built_in

  unfoldable pub is_foreign : ℕ → Rule
  is_foreign c = never (eqb (top (at S m (code_word c))) built_in)

  unfoldable pub codes : List Row
  codes =
      tells (range all_codes 1 0) code_word (Judge.kind S m)
      ∷ tells (range 2 1 0) code_word is_built_in
      ∷ tells (range 1 1 built_in_codes) code_word is_foreign
      ∷ []

  -- "page 9 in range with names 1-15", "faults 1 to 13", "unused zero"
  unfoldable pub in_range : ℕ → Rule
  in_range a = among (at S m a) 1 entries_full

  unfoldable pub faults : List Row
  faults = tells (first_unused ∷ []) itself in_range ∷ tells (range entries 1 0) entry_after (Judge.entry S m) ∷ []

  unfoldable pub of_tables : List (List Row)
  of_tables = codes ∷ faults ∷ []

  -- ---- 34, "counters and the running entry"
  -- "counters below their ends, divider 1-255, line 16-47"; "page 7 word 26 zero"
  unfoldable pub outer : ℕ → Rule
  outer a = among (at S m a) first_outer last_line

  unfoldable pub below : ℕ → ℕ → Rule
  below end a = under (at S m a) end

  unfoldable pub positive : ℕ → Rule
  positive a = among (at S m a) 1 a_word

  unfoldable pub clock : List Row
  clock =
      tells (clock_line ∷ []) itself outer
      ∷ tells (c0 ∷ []) itself (below (at S m divider))
      ∷ tells (c1 ∷ []) itself (below c1_end)
      ∷ tells (c2 ∷ []) itself (below c2_end)
      ∷ tells (c3 ∷ []) itself (below c3_end)
      ∷ tells (zero_word ∷ []) itself nought
      ∷ tells (divider ∷ []) itself positive
      ∷ []

  -- "the running one is ready": a processor's page, or 0
  unfoldable pub runner : ℕ → Rule
  runner a = unless_same (at S m a) 0 (both (same (count (at S m a) ps) 1) (under (word S m (at S m a) state) wait_bit))

  -- "and none ready is higher, idle only if none is ready"
  unfoldable pub not_higher : ℕ → Rule
  not_higher p =
      when_most (suc (word S m p state)) wait_bit
      (both (never (eqb (at S m running_page) 0)) (most (Judge.priority_of S m p) (Judge.priority_of S m (at S m running_page))))

  -- "word 25 of page 7 is the running one's word 7"
  unfoldable pub shown : ℕ → Rule
  shown a =
      both (when_same (at S m running_page) 0 (same (at S m a) 0))
      (unless_same (at S m running_page) 0 (same (at S m a) (word S m (at S m running_page) Map.label)))

  unfoldable pub running : List Row
  running = tells (running_page ∷ []) itself runner ∷ tells ps (λ p. running_page) not_higher ∷ tells (running_label ∷ []) itself shown ∷ []

  unfoldable pub of_counters : List (List Row)
  of_counters = clock ∷ running ∷ []

  -- ---- "The classes are tried in that order"
  unfoldable pub classes : List Class
  classes =
      class broken_pages of_pages
      ∷ class broken_waits of_waits
      ∷ class broken_records of_records
      ∷ class broken_tables of_tables
      ∷ class broken_counters of_counters
      ∷ []

-- what is told: the processors are those on the list, and the lists are what a walk meets
unfoldable pub told_of : (S : Store) → S.M → Finding
told_of S m = first (classes S m (met S m processor_list) (met S m))
