-- Instructions: the table's effects, in its order (ST1, STP and DEP share their faults and stand together); faults in the order of "Order".
-- len is what LR grows by: the instruction's own length, or EXI's.
use Rattle.std.specs.Prelude.{ℕ, ◌+◌, ◌/◌, cond, [], ◌∷◌, eqb, ltb, get_or}
use Rattle.std.specs.Int.Bits.{bit_and}
use Rattle.model.specs.Store.{Store}
use Rattle.model.specs.Map.{word_values, place, page_size, pair, high, low, raised, p_set, indirect, index_part, label, high_lr, word_a, list_link}
use Rattle.model.specs.Map.{link, own_semaphore, q2, processor_list, free_semaphore, semaphore_of, interrupts, return_high, return_low, longest}
use Rattle.model.specs.Map.{head_words, control_pages}
use Rattle.model.specs.Address.{unless, word, store, at, write, address_at, wrapped, guarded, clear, zeroed}
use Rattle.model.specs.Queue.{join, leave}
use Rattle.model.specs.Processor.{name, priority, stopped, waiting, stop, start, running, page_of, lr, set_lr, advance, hand_back, starting_at}
use Rattle.model.specs.Processor.{stopped_once}
use Rattle.model.specs.Page.{Taken, take_page, give_back}
use Rattle.model.specs.Page.Taken.{took}
use Rattle.model.specs.Mail.{Tested, in_q1, in_q2, length_of, deliver, write_message, make_notice, move, test_q1, copy_out}
use Rattle.model.specs.Mail.Tested.{tested}
use Rattle.model.specs.Delete.{delete}
use Rattle.model.specs.Answer.{Step, done, jumps, waits, absent_code, code_exists, kept_code, bad_wait, no_match, no_name, not_startable, name_exists}
use Rattle.model.specs.Answer.{not_stopped, protected, bad_argument, above_itself}
use Rattle.model.specs.Fault.{fault}
use Rattle.model.specs.Interrupt.{serve}
use Rattle.model.specs.Instruction.{st1_code, stp_code, first_going, jump_operation, vep_operation, kind, absent, own, set_code, indexed}

module _ (S : Store) where
  -- ---- CVI: "field becomes an own code at the address"
  unfoldable pub cvi : S.M → ℕ → ℕ → ℕ → Step S
  cvi m c a len =
      unless (eqb (kind S m c) absent) (fault S m code_exists)
      (done S (set_code S m c own a) len)

  -- ---- DVI: "field becomes absent"; "DVI 4 before 1"
  unfoldable pub dvi : S.M → ℕ → ℕ → Step S
  dvi m c len =
      cond (ltb c first_going) (fault S m kept_code)
      (cond (eqb (kind S m c) absent) (fault S m absent_code)
      (done S (set_code S m c absent 0) len))

  -- ---- GIN: "interrupt numbered as its own name"
  unfoldable pub gin : S.M → ℕ → Step S
  gin m len = done S (serve S m (name S m (running S m)) 0) len

  -- ---- WIN: "n+2 is IK, n+3 the count; advance, wait in IK's queue"; "5 WIN with IK not 1-54 or count 0"
  unfoldable pub win : S.M → ℕ → ℕ → ℕ → Step S
  win m k c len =
      cond (eqb k 0) (fault S m bad_wait)
      (cond (ltb interrupts k) (fault S m bad_wait)
      (cond (eqb c 0) (fault S m bad_wait)
      (waits S (advance S m len) (semaphore_of k) c)))

  -- ---- SME and CRP: "with none, they wait in the page queue, LR staying"
  unfoldable pub waits_for_page : S.M → Step S
  waits_for_page m = waits S m free_semaphore 0

  -- "SME and CRP use the page granted to them, else the first free one": what is done with page q in hand is `goes q`
  unfoldable pub with_page : S.M → (ℕ → S.M → S.M) → ℕ → Step S
  with_page m goes len = to (take_page S m (running S m))
    where
      to : Taken S.M → Step S
      to (took q m₁) = cond (eqb q 0) (waits_for_page m₁) (done S (goes q m₁) len)

  -- ---- SME: "text length at A, text from A+1, to processor NI"; "If NI doesn't exist, a notice with NI as sender and the same flag, no text
  -- written, joins the sender's own Q1." Page q is in hand, l is the length
  unfoldable pub posted : S.M → ℕ → ℕ → ℕ → ℕ → ℕ → S.M
  posted m q n f a l =
      cond (eqb (page_of S m n) 0) (deliver S (make_notice S m q n f) (running S m) q)
      (deliver S (write_message S m q f (wrapped a 1) l) (page_of S m n) q)

  -- "wait for a page last"
  unfoldable pub sent : S.M → ℕ → ℕ → ℕ → ℕ → ℕ → Step S
  sent m n f a l len = with_page m (λ q m₁. posted m₁ q n f a l) len

  -- "SME 11 at A, 12, 11 at text"
  unfoldable pub sme_text : S.M → ℕ → ℕ → ℕ → ℕ → Step S
  sme_text m n f a len =
      cond (ltb longest (at S m a)) (fault S m bad_argument)
      (unless (clear (at S m a) (wrapped a 1)) (fault S m protected)
      (sent m n f a (at S m a) len))

  unfoldable pub sme : S.M → ℕ → ℕ → ℕ → ℕ → Step S
  sme m n f a len =
      cond (eqb n 0) (fault S m bad_argument)
      (cond (eqb f 0) (fault S m bad_argument)
      (cond (guarded a) (fault S m protected)
      (sme_text m n f a len)))

  -- ---- WNM: "first match in Q1 to the end of Q2, else wait"; "WNM too leaves LR on itself, with NI*16+F as reason"
  unfoldable pub wnm : S.M → ℕ → ℕ → ℕ → Step S
  wnm m n f len =
      cond (eqb (in_q1 S m n f) 0) (waits S m (place (running S m) own_semaphore) (pair n f))
      (done S (move S m (running S m) (in_q1 S m n f)) len)

  -- ---- RME: "first match in Q2: sender, flag, length, text to A on, one word each; page given back"; it leaves Q2 before
  unfoldable pub received : S.M → ℕ → ℕ → S.M
  received m q a = give_back S (leave S (copy_out S m q a) (place (running S m) q2) link q) q

  -- "RME 6, then 11 on its target"
  unfoldable pub rme : S.M → ℕ → ℕ → ℕ → ℕ → Step S
  rme m n f a len = found (in_q2 S m n f)
    where
      found : ℕ → Step S
      found q =
          cond (eqb q 0) (fault S m no_match)
          (unless (clear (head_words + length_of S m q) a) (fault S m protected)
          (done S (received m q a) len))

  -- ---- TME: "match in Q2, else in Q1: LR becomes A, else advance"
  unfoldable pub tme_q1 : S.M → ℕ → ℕ → ℕ → ℕ → Step S
  tme_q1 m n f a len = to (test_q1 S control_pages m (running S m) n f)
    where
      to : Tested S.M → Step S
      to (tested b m₁) = cond b (jumps S m₁ a) (done S m₁ len)

  unfoldable pub tme : S.M → ℕ → ℕ → ℕ → ℕ → Step S
  tme m n f a len =
      cond (eqb (in_q2 S m n f) 0) (tme_q1 m n f a len)
      (jumps S m a)

  -- ---- ST1, STP: "clear, set the stopped bit of NI, which may be so already"
  unfoldable pub st1 : S.M → ℕ → ℕ → Step S
  st1 m p len = done S (start S m p) len

  unfoldable pub stp : S.M → ℕ → ℕ → Step S
  stp m p len = done S (stop S m p) len

  -- ---- DEP: "delete NI"; "10 NI isn't stopped"
  unfoldable pub dep : S.M → ℕ → ℕ → Step S
  dep m p len =
      unless (stopped S m p) (fault S m not_stopped)
      (done S (delete S m p) len)

  -- codes 8, 9 and 12 on the page of NI; "NI 0 where one is required" and "7 NI doesn't exist" before
  unfoldable pub on_page : S.M → ℕ → ℕ → ℕ → Step S
  on_page m c p len =
      cond (eqb c st1_code) (st1 m p len)
      (cond (eqb c stp_code) (stp m p len)
      (dep m p len))

  unfoldable pub named : S.M → ℕ → ℕ → ℕ → Step S
  named m c n len =
      cond (eqb n 0) (fault S m bad_argument)
      (cond (eqb (page_of S m n) 0) (fault S m no_name)
      (on_page m c (page_of S m n) len))

  -- ---- ST2: "LR of NI becomes A, its stopped bit is cleared"; "7, then 8": "8 ST2 and NI isn't stopped, or also waits"
  unfoldable pub st2_found : S.M → ℕ → ℕ → ℕ → Step S
  st2_found m p a len =
      unless (stopped S m p) (fault S m not_startable)
      (unless (eqb (waiting S m p) 0) (fault S m not_startable)
      (done S (start S (set_lr S m p a) p) len))

  unfoldable pub st2 : S.M → ℕ → ℕ → ℕ → Step S
  st2 m n a len =
      cond (eqb n 0) (fault S m bad_argument)
      (cond (eqb (page_of S m n) 0) (fault S m no_name)
      (st2_found m (page_of S m n) a len))

  -- ---- CRP: "n+2 is priority, W; ..; created stopped, all else zero". Page q is in hand; name n, priority b, W w, LR a
  unfoldable pub headed : S.M → ℕ → ℕ → ℕ → ℕ → ℕ → S.M
  headed m q n b w a = hand_back S (store S m q label (pair b n)) q (stopped_once (starting_at a w))

  unfoldable pub created : S.M → ℕ → ℕ → ℕ → ℕ → ℕ → S.M
  created m q n b w a = join S (headed (zeroed S page_size m (place q link)) q n b w a) processor_list list_link q

  unfoldable pub crp_page : S.M → ℕ → ℕ → ℕ → ℕ → ℕ → Step S
  crp_page m n b w a len = with_page m (λ q m₁. created m₁ q n b w a) len

  -- document 02, 6/13: "CRP with a priority higher than that of the processor running it is now fault 13. It stands after 12 and before 9."
  -- "A CRP that waited for a page is tested again when it runs anew, and keeps its grant if it faults": LR stayed on it, and a fault leaves page 10
  unfoldable pub crp : S.M → ℕ → ℕ → ℕ → ℕ → ℕ → Step S
  crp m n b w a len =
      cond (eqb n 0) (fault S m bad_argument)
      (cond (eqb b 0) (fault S m bad_argument)
      (cond (ltb (priority S m (running S m)) b) (fault S m above_itself)
      (unless (eqb (page_of S m n) 0) (fault S m name_exists)
      (crp_page m n b w a len))))

  -- ---- code 13: "field I X XN; CODE1 0-5". M is the word at a
  -- "0 A becomes A+M modulo 256, P the carry"
  abbrev pub sum_of : S.M → ℕ → ℕ
  sum_of m a = word S m (running S m) word_a + at S m a

  unfoldable pub adds : S.M → ℕ → S.M
  adds m a = store S (store S m (running S m) word_a (low (sum_of m a))) (running S m) high_lr (p_set (word S m (running S m) high_lr) (sum_of m a / word_values))

  -- "1 store A, then A is 0"
  unfoldable pub stores_a : S.M → ℕ → S.M
  stores_a m a = store S (write S m a (word S m (running S m) word_a)) (running S m) word_a 0

  -- "2 A becomes A and M"
  unfoldable pub ands : S.M → ℕ → S.M
  ands m a = store S m (running S m) word_a (bit_and (word S m (running S m) word_a) (at S m a))

  -- "3 M becomes M+1 modulo 256"
  unfoldable pub increments : S.M → ℕ → S.M
  increments m a = write S m a (raised (at S m a))

  unfoldable pub worked : S.M → ℕ → ℕ → S.M
  worked m o a = get_or (adds m a ∷ stores_a m a ∷ ands m a ∷ increments m a ∷ []) o m

  -- "5 the address after the instruction to page 0 words 5-6, then jump"
  unfoldable pub return_to : S.M → ℕ → S.M
  return_to m a = write S (write S m return_high (high a)) return_low (low a)

  -- "4 jump"; "a jump target is free", an operand is not
  unfoldable pub reaches : S.M → ℕ → ℕ → ℕ → Step S
  reaches m o a len =
      cond (eqb o vep_operation) (jumps S (return_to m (wrapped (lr S m) len)) a)
      (cond (eqb o jump_operation) (jumps S m a)
      (cond (guarded a) (fault S m protected)
      (done S (worked m o a) len)))

  -- "indirection comes after it and reads two words the same way"
  unfoldable pub follows : S.M → ℕ → ℕ → ℕ → ℕ → Step S
  follows m i o a len =
      cond (eqb i 0) (reaches m o a len)
      (unless (clear 2 a) (fault S m protected)
      (reaches m o (address_at S m a) len))

  unfoldable pub thirteen : S.M → ℕ → ℕ → ℕ → ℕ → Step S
  thirteen m x o a len =
      cond (ltb vep_operation o) (fault S m bad_argument)
      (follows m (indirect x) o (indexed S m (index_part x) a) len)
