-- Well-formed: the invariant, a field for each sentence. A view names the judged words as functions, so that the sentences name no memory: a step
-- changes one function, and every sentence that does not name it stays. Assumes nothing.
use Rattle.std.specs.Prelude.{◌≡◌, refl, ◌≢◌, false, cond, List, [], ℕ, suc, ◌+◌, ◌≤◌, ◌<◌, length, get_or, eqb}
use Rattle.std.proofs.Common.{ne_eqb}
use Rattle.model.specs.Instruction as Instruction
use Rattle.model.specs.Instruction.{built_in}
use Rattle.model.specs.Map as Map
use Rattle.model.specs.Map.{a_word, all_codes, built_in_codes, c1_end, c2_end, c3_end, clock_line, code_word, entries, entries_full, entry_after, first_outer}
use Rattle.model.specs.Map.{first_unused, free_list, free_semaphore, grant_for, header_after, interrupts, last_fault, last_flag, last_line, last_name}
use Rattle.model.specs.Map.{last_priority, length_in, less, longest, lower, memory_size, notice, own_queue, page_queue, page_size, place, q1, q2, running_label}
use Rattle.model.specs.Map.{running_page, upper, wait_bit, wait_in, zero_word, zeros_in}
use Rattle.model.specs.Bytes as Memory
use Rattle.model.specs.Mail.{fits}
use Rattle.model.specs.Lists.{count, Lists, sum, each_of, some, uses, queues}
use Rattle.laws.specs.Chain.{Page}
use Rattle.laws.specs.Queues.{Rep}
use Rattle.laws.specs.Heads.{one}
use Rattle.laws.specs.Uses.{Head, Sep}

-- ---- the judged words: numbers that the memory must hold
pub record View : Type 0 where
  pub note : ℕ → ℕ  -- word 1 of a page that is no processor's
  pub size : ℕ → ℕ  -- word 2 of such a page
  pub reason : ℕ → ℕ  -- word 2 of a processor's page
  pub label : ℕ → ℕ  -- word 7
  pub state : ℕ → ℕ  -- word 12
  pub sem : ℕ → ℕ  -- the word before the header of a wait queue
  pub low : ℕ → ℕ  -- on page 7 the clock line and the counters, and from the running page to the divider
  pub code : ℕ → ℕ  -- the first word of code c
  pub next : ℕ  -- word 0 of page 9
  pub entry : ℕ → ℕ  -- word i + 1 of page 9

abbrev pub view : List ℕ → View
view m = record {
  note = λ p. Memory.word m p Map.note;
  size = λ p. Memory.word m p Map.size;
  reason = λ p. Memory.word m p Map.reason;
  label = λ p. Memory.word m p Map.label;
  state = λ p. Memory.word m p Map.state;
  sem = λ s. get_or m s 0;
  low = λ a. get_or m a 0;
  code = λ c. get_or m (code_word c) 0;
  next = get_or m first_unused 0;
  entry = λ i. get_or m (entry_after i) 0;
}

-- word k of each control page, of each that is no processor's, and of each processor's
abbrev pub Col : List ℕ → ℕ → (ℕ → ℕ) → Type 0
Col m k f = (p : ℕ) → Page p → Memory.word m p k ≡ f p

abbrev pub Others : List ℕ → List ℕ → ℕ → (ℕ → ℕ) → Type 0
Others m ps k f = (p : ℕ) → Page p → count p ps ≡ 0 → Memory.word m p k ≡ f p

abbrev pub Theirs : List ℕ → List ℕ → ℕ → (ℕ → ℕ) → Type 0
Theirs m ps k f = (p : ℕ) → Page p → 1 ≤ count p ps → Memory.word m p k ≡ f p

pub record Words (m : List ℕ) (ps : List ℕ) (n z r l t : ℕ → ℕ) : Type 0 where
  pub note : Others m ps Map.note n
  pub size : Others m ps Map.size z
  pub reason : Theirs m ps Map.reason r
  pub label : Col m Map.label l
  pub state : Col m Map.state t

pub record Fixed (m : List ℕ) (l c : ℕ → ℕ) (n : ℕ) (e : ℕ → ℕ) : Type 0 where
  pub clock : (a : ℕ) → clock_line ≤ a → a ≤ Map.c3 → get_or m a 0 ≡ l a
  pub turn : (a : ℕ) → running_page ≤ a → a ≤ Map.divider → get_or m a 0 ≡ l a
  pub code : (k : ℕ) → k < all_codes → get_or m (code_word k) 0 ≡ c k
  pub next : get_or m first_unused 0 ≡ n
  pub entry : (i : ℕ) → i < entries → get_or m (entry_after i) 0 ≡ e i

pub record Reads (m : List ℕ) (ps : List ℕ) (W : View) : Type 0 where
  pub words : Words m ps W.note W.size W.reason W.label W.state
  pub fixed : Fixed m W.low W.code W.next W.entry
  pub sems : (s : ℕ) → 1 ≤ count (s + 1) (queues ps) → get_or m s 0 ≡ W.sem s

-- ---- what is true of them
-- "names differ and lie in 1-15, priorities 1-15"
abbrev pub bearers : (ℕ → ℕ) → List ℕ → ℕ → ℕ
bearers l ps k = count k (each_of (λ p. lower (l p)) ps)

pub record Label (w : ℕ) : Type 0 where
  pub name : 1 ≤ lower w
  pub low : 1 ≤ upper w
  pub high : upper w ≤ last_priority

pub record Names (ps : List ℕ) (l : ℕ → ℕ) : Type 0 where
  pub differ : (p : ℕ) → 1 ≤ count p ps → bearers l ps (lower (l p)) ≡ 1
  pub range : (p : ℕ) → 1 ≤ count p ps → Label (l p)

-- "waiting bit set exactly if in one wait queue; reasons 1-255 in interrupt queues, 0 in the page queue and when not waiting"; "the two zeros of word 12"
pub record Seats (ps : List ℕ) (L : Lists) (t r : ℕ → ℕ) : Type 0 where
  pub bit : (p : ℕ) → 1 ≤ count p ps → sum p L (queues ps) ≡ wait_in (t p)
  pub zeros : (p : ℕ) → 1 ≤ count p ps → zeros_in (t p) ≡ 0
  pub served : (k : ℕ) → k < interrupts → (p : ℕ) → 1 ≤ count p (L (header_after k)) → (1 ≤ r p) × (r p ≤ a_word)
  pub asking : (p : ℕ) → 1 ≤ count p (L page_queue) → r p ≡ 0
  pub quiet : (p : ℕ) → 1 ≤ count p ps → wait_in (t p) ≡ 0 → r p ≡ 0

-- "a message wait holds its owner only, reason flag 0-7, and matches nothing in its Q1": page x in the wait of p, whose reason is r and whose Q1 is qs
pub record Waits (r : ℕ) (n : ℕ → ℕ) (qs : List ℕ) (p x : ℕ) : Type 0 where
  pub owner : x ≡ p
  pub flag : lower r ≤ last_flag
  pub none : (q : ℕ) → 1 ≤ count q qs → fits (upper r) (lower r) (n q) ≡ false

-- what counts for the semaphore at s beside its waiters: the free pages, for that of the page queue
unfoldable pub stock : Lists → ℕ → ℕ
stock L s = cond (eqb s free_semaphore) (length (L free_list)) 0

pub stock_page : (L : Lists) → stock L free_semaphore ≡ length (L free_list)
unfolding stock
stock_page L = refl

pub stock_else : (L : Lists) (s : ℕ) → s ≢ free_semaphore → stock L s ≡ 0
unfolding stock
stock_else L s n = rw (ne_eqb s free_semaphore n)

-- in the place of the name that is being deleted, where none is: no word of page 10
abbrev pub no_one : ℕ
no_one = page_size

-- "free list empty if anyone waits for a page, who then holds no grant; grants only to existing names"; g is the name that is being deleted, whose
-- grant is given back last, or no one's
pub record Granted (ps : List ℕ) (L : Lists) (l : ℕ → ℕ) (g : ℕ) : Type 0 where
  pub bare : (p : ℕ) → 1 ≤ count p (L page_queue) → (length (L free_list) ≡ 0) × (length (L (grant_for (lower (l p)))) ≡ 0)
  pub known : (k : ℕ) → k < page_size → k ≢ g → length (L (grant_for k)) ≢ 0 → bearers l ps k ≡ 1

-- "senders 1-15, flags 1-7, word 2 of a message 0-29, 64-93 or 128"
pub record Message (n w : ℕ) : Type 0 where
  pub sender : 1 ≤ upper n
  pub known : upper n ≤ last_name
  pub flag : 1 ≤ lower n
  pub small : lower n ≤ last_flag
  pub most : w ≤ notice
  pub long : length_in w ≤ longest

-- "word 25 of page 7 is the running one's word 7"
pub record Runs (ps : List ℕ) (l b : ℕ → ℕ) : Type 0 where
  pub idle : l running_page ≡ 0 → l running_label ≡ 0
  pub listed : l running_page ≢ 0 → count (l running_page) ps ≡ 1
  pub tag : l running_page ≢ 0 → l running_label ≡ b (l running_page)

-- "the running one is ready and none ready is higher, idle only if none is ready"
pub record Best (ps : List ℕ) (W : View) : Type 0 where
  pub ready : W.low running_page ≢ 0 → suc (W.state (W.low running_page)) ≤ wait_bit
  pub top : (p : ℕ) → 1 ≤ count p ps → suc (W.state p) ≤ wait_bit → upper (W.label p) ≤ upper (W.low running_label)

-- "kinds 0-2, codes 0, 1 built in, 15 absent or own"
pub record Codes (c : ℕ → ℕ) : Type 0 where
  pub kinds : (k : ℕ) → k < all_codes → Map.top (c k) ≤ Instruction.own
  pub zero : Map.top (c 0) ≡ built_in
  pub one : Map.top (c 1) ≡ built_in
  pub last : eqb (Map.top (c built_in_codes)) built_in ≡ false

-- "counters below their ends, divider 1-255, line 16-47"; "page 7 word 26 zero"
pub record Clock (l : ℕ → ℕ) : Type 0 where
  pub c0 : suc (l Map.c0) ≤ l Map.divider
  pub c1 : suc (l Map.c1) ≤ c1_end
  pub c2 : suc (l Map.c2) ≤ c2_end
  pub c3 : suc (l Map.c3) ≤ c3_end
  pub divider : (1 ≤ l Map.divider) × (l Map.divider ≤ a_word)
  pub line : (first_outer ≤ l clock_line) × (l clock_line ≤ last_line)
  pub nought : l zero_word ≡ 0

-- "page 9 in range with names 1-15", "faults 1 to 13", "unused zero"
pub record Entry (w : ℕ) : Type 0 where
  pub name : (1 ≤ upper w) × (upper w ≤ last_name)
  pub fault : (1 ≤ lower w) × (lower w ≤ last_fault)

pub record Faults (n : ℕ) (e : ℕ → ℕ) : Type 0 where
  pub range : (1 ≤ n) × (n ≤ entries_full)
  pub used : (i : ℕ) → i < entries → i + 2 ≤ n → Entry (e i)
  pub unused : (i : ℕ) → i < entries → n ≤ i + 1 → e i ≡ 0

pub record Facts (ps : List ℕ) (L : Lists) (W : View) (g : ℕ) : Type 0 where
  pub sep : Sep ps L
  pub names : Names ps W.label
  pub seats : Seats ps L W.state W.reason
  pub own : (p : ℕ) → 1 ≤ count p ps → (x : ℕ) → 1 ≤ count x (L (place p own_queue)) → Waits (W.reason p) W.note (L (place p q1)) p x
  pub sems : (s : ℕ) → 1 ≤ count (s + 1) (queues ps) → W.sem s ≡ less (stock L s) (length (L (s + 1)))
  pub granted : Granted ps L W.label g
  pub mail : (p w : ℕ) → 1 ≤ count p ps → q1 ≤ w → w ≤ q2 → (q : ℕ) → 1 ≤ count q (L (place p w)) → Message (W.note q) (W.size q)
  pub runs : Runs ps W.low W.label
  pub codes : Codes W.code
  pub clock : Clock W.low
  pub faults : Faults W.next W.entry

-- ---- the memory
pub record Holds (m : List ℕ) (ps : List ℕ) (L : Lists) : Type 0 where
  pub rep : Rep m (Head ps) L
  pub grant : (k : ℕ) → k < page_size → L (grant_for k) ≡ some (get_or m (grant_for k) 0)

pub record Mem (m : List ℕ) (ps : List ℕ) (L : Lists) (W : View) : Type 0 where
  pub size : length m ≡ memory_size
  pub holds : Holds m ps L
  pub reads : Reads m ps W

-- all but who runs, in the midst of a call: the pages hs are in hand, every other control page has its one use
pub record Base (m : List ℕ) (ps : List ℕ) (L : Lists) (W : View) (hs : List ℕ) (g : ℕ) : Type 0 where
  pub mem : Mem m ps L W
  pub facts : Facts ps L W g
  pub all : (z : ℕ) → sum z L (uses ps) + count z hs ≡ one z

-- between calls: no page is in hand, and the right one runs
pub record Inv (m : List ℕ) (ps : List ℕ) (L : Lists) (W : View) : Type 0 where
  pub base : Base m ps L W [] no_one
  pub best : Best ps W
