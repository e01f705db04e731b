-- Fresh start and well-formed memory: "Well-formed: ..", a rule for each sentence, in its order.
use Rattle.std.specs.Prelude.{ℕ, suc, ◌+◌, Bool, List, ◌++◌, length, eqb}
use Rattle.model.specs.Store.{Store}
use Rattle.model.specs.Map as Map
use Rattle.model.specs.Map.{place, page_size, upper, lower, top, less, zeros_in, a_word, free_list, free_semaphore, page_queue, processor_list}
use Rattle.model.specs.Map.{running_page, running_label, clock_line, c0, c1, c2, c3, zero_word, divider, code_word, all_codes, built_in_codes}
use Rattle.model.specs.Map.{first_unused, entry_after, entries, entries_full, grant_for, header_after, semaphore_after, first_control, last_control}
use Rattle.model.specs.Map.{control_pages, reason, own_semaphore, own_queue, q1, q2, state, note, size, longest, length_in, notice, interrupts}
use Rattle.model.specs.Map.{last_name, last_priority, last_flag, last_fault, first_outer, last_line, c1_end, c2_end, c3_end, wait_bit}
use Rattle.model.specs.Address.{word, at}
use Rattle.model.specs.Processor as Processor
use Rattle.model.specs.Mail.{fits}
use Rattle.model.specs.Instruction.{built_in, own}
use Rattle.model.specs.Rule.{Rule, same, most, never, both, each, below, when_same, unless_same, when_most, among, under, holds}
use Rattle.model.specs.Lists.{count, Lists, sum, each_of, range, uses, queues, lists}

-- ---- what is asked of one number, whatever the lists are
unfoldable pub page : ℕ → Rule
page x = among x first_control last_control

module _ (S : Store) (m : S.M) where
  abbrev pub name_of : ℕ → ℕ
  name_of p = Processor.name S m p

  abbrev pub priority_of : ℕ → ℕ
  priority_of p = Processor.priority S m p

  abbrev pub wait_of : ℕ → ℕ
  wait_of p = Processor.waiting S m p

  -- "reasons 1-255 in interrupt queues, 0 in the page queue and when not waiting"
  unfoldable pub reasoned : ℕ → Rule
  reasoned p = among (word S m p reason) 1 a_word

  unfoldable pub reasonless : ℕ → Rule
  reasonless p = same (word S m p reason) 0

  unfoldable pub quiet : ℕ → Rule
  quiet p = when_same (wait_of p) 0 (reasonless p)

  -- of what p waits for and the message q: "matches nothing"
  unfoldable pub unasked : ℕ → ℕ → Rule
  unasked p q = never (fits (upper (word S m p reason)) (lower (word S m p reason)) (word S m q note))

  -- "senders 1-15, flags 1-7, word 2 of a message 0-29 or 128", amended by document 02, 3/13: 0-29, 64-93 or 128. That is at most 128, and
  -- modulo 64 at most 29
  unfoldable pub sized : ℕ → Rule
  sized q = both (most (word S m q size) notice) (most (length_in (word S m q size)) longest)

  unfoldable pub message : ℕ → Rule
  message q = both (among (upper (word S m q note)) 1 last_name) (both (among (lower (word S m q note)) 1 last_flag) (sized q))

  -- "kinds 0-2"
  unfoldable pub kind : ℕ → Rule
  kind c = most (top (at S m (code_word c))) own

  -- "names 1-15", "faults 1 to 13" (document 02, 6/13), "unused zero": word i + 1 of page 9
  unfoldable pub used : ℕ → Rule
  used i = both (among (upper (at S m (entry_after i))) 1 last_name) (among (lower (at S m (entry_after i))) 1 last_fault)

  unfoldable pub entry : ℕ → Rule
  entry i = both (when_most (i + 2) (at S m first_unused) (used i)) (when_most (at S m first_unused) (i + 1) (same (at S m (entry_after i)) 0))

  -- "the two zeros of word 12"
  unfoldable pub zero_bits : ℕ → Rule
  zero_bits p = same (zeros_in (word S m p state)) 0

  -- ---- the sentences: ps are the processors' pages in the list's order, L the list of each head
  module _ (ps : List ℕ) (L : Lists) where
    -- how many have the name k
    abbrev pub bearers : ℕ → ℕ
    bearers k = count k (each_of name_of ps)

    -- a list ends, and holds control pages
    unfoldable pub list : ℕ → Rule
    list a = both (most (length (L a)) control_pages) (each (L a) page)

    unfoldable pub listed : Rule
    listed = each (uses ps ++ queues ps) list

    -- "every control page is used once"
    unfoldable pub once : ℕ → Rule
    once z = same (sum z L (uses ps)) 1

    unfoldable pub used_once : Rule
    used_once = each (range control_pages 1 first_control) once

    -- "names differ and lie in 1-15, priorities 1-15"
    unfoldable pub label : ℕ → Rule
    label p = both (same (bearers (name_of p)) 1) (both (among (name_of p) 1 last_name) (among (priority_of p) 1 last_priority))

    unfoldable pub names : Rule
    names = each ps label

    -- "waiting bit set exactly if in one wait queue"; who waits is a processor
    unfoldable pub bit : ℕ → Rule
    bit p = same (sum p L (queues ps)) (wait_of p)

    unfoldable pub waiter : ℕ → Rule
    waiter z = most (sum z L (queues ps)) (count z ps)

    unfoldable pub waiting_bits : Rule
    waiting_bits = both (each ps bit) (each (range control_pages 1 first_control) waiter)

    -- "reasons 1-255 in interrupt queues, 0 in the page queue and when not waiting"
    unfoldable pub served : ℕ → Rule
    served k = each (L (header_after k)) reasoned

    unfoldable pub reasons : Rule
    reasons = both (below interrupts served) (both (each (L page_queue) reasonless) (each ps quiet))

    -- "a message wait holds its owner only, reason flag 0-7, and matches nothing in its Q1"
    unfoldable pub owner : ℕ → ℕ → Rule
    owner p x = both (same x p) (both (most (lower (word S m p reason)) last_flag) (each (L (place p q1)) (unasked p)))

    unfoldable pub message_wait : ℕ → Rule
    message_wait p = each (L (place p own_queue)) (owner p)

    unfoldable pub message_waits : Rule
    message_waits = each ps message_wait

    -- "semaphores as above": "an interrupt's is minus its waiters; a processor's own is -1 while it waits for a message, else 0"; "The free
    -- semaphore is the free count less the waiters"
    unfoldable pub interrupt_semaphore : ℕ → Rule
    interrupt_semaphore k = same (at S m (semaphore_after k)) (less 0 (length (L (header_after k))))

    unfoldable pub message_semaphore : ℕ → Rule
    message_semaphore p = same (word S m p own_semaphore) (less 0 (length (L (place p own_queue))))

    unfoldable pub page_semaphore : Rule
    page_semaphore = same (at S m free_semaphore) (less (length (L free_list)) (length (L page_queue)))

    unfoldable pub semaphores : Rule
    semaphores = both (below interrupts interrupt_semaphore) (both (each ps message_semaphore) page_semaphore)

    -- "free list empty if anyone waits for a page, who then holds no grant"
    unfoldable pub page_wait : ℕ → Rule
    page_wait p = both (same (length (L free_list)) 0) (same (length (L (grant_for (name_of p)))) 0)

    unfoldable pub page_waits : Rule
    page_waits = each (L page_queue) page_wait

    -- "grants only to existing names; page 10's other words zero": no name stands for them
    unfoldable pub grant : ℕ → Rule
    grant k = unless_same (length (L (grant_for k))) 0 (same (bearers k) 1)

    unfoldable pub granted : Rule
    granted = below page_size grant

    -- "senders 1-15, flags 1-7, word 2 of a message 0-29, 64-93 or 128"
    unfoldable pub mail : ℕ → Rule
    mail p = both (each (L (place p q1)) message) (each (L (place p q2)) message)

    unfoldable pub messages : Rule
    messages = each ps mail

    -- "word 25 of page 7 is the running one's word 7; the running one is ready": page p, a processor's
    unfoldable pub runner : ℕ → Rule
    runner p =
        both (same (count p ps) 1)
        (both (same (at S m running_label) (word S m p Map.label))
        (under (word S m p state) wait_bit))

    -- "and none ready is higher, idle only if none is ready": idle has priority 0 in word 25, and priorities are 1-15
    unfoldable pub not_higher : ℕ → Rule
    not_higher p = when_most (suc (word S m p state)) wait_bit (most (priority_of p) (upper (at S m running_label)))

    unfoldable pub running : Rule
    running =
        both (when_same (at S m running_page) 0 (same (at S m running_label) 0))
        (both (unless_same (at S m running_page) 0 (runner (at S m running_page)))
        (each ps not_higher))

    -- "kinds 0-2, codes 0, 1 built in, 15 absent or own"
    unfoldable pub codes : Rule
    codes =
        both (below all_codes kind)
        (both (same (top (at S m (code_word 0))) built_in)
        (both (same (top (at S m (code_word 1))) built_in)
        (never (eqb (top (at S m (code_word built_in_codes))) built_in))))

    -- "counters below their ends, divider 1-255, line 16-47"
    unfoldable pub counters : Rule
    counters =
        both (under (at S m c0) (at S m divider))
        (both (under (at S m c1) c1_end)
        (both (under (at S m c2) c2_end)
        (under (at S m c3) c3_end)))

    unfoldable pub clock : Rule
    clock = both counters (both (among (at S m divider) 1 a_word) (among (at S m clock_line) first_outer last_line))

    -- "page 9 in range with names 1-15", "faults 1 to 13", "unused zero": word i + 1
    unfoldable pub faults : Rule
    faults = both (among (at S m first_unused) 1 entries_full) (below entries entry)

    -- "the two zeros of word 12 and page 7 word 26 zero"
    unfoldable pub zeros : Rule
    zeros = both (each ps zero_bits) (same (at S m zero_word) 0)

    -- "Well-formed: .."
    unfoldable pub well_formed : Rule
    well_formed =
        both listed
        (both used_once
        (both names
        (both waiting_bits
        (both reasons
        (both message_waits
        (both semaphores
        (both page_waits
        (both granted
        (both messages
        (both running
        (both codes
        (both clock
        (both faults
        zeros)))))))))))))

-- the judge: the processors are those on the list, and the lists are what hangs from their heads
unfoldable pub judged : (S : Store) → S.M → Bool
judged S m = holds (well_formed S m (lists S m processor_list) (lists S m))
