-- Which words differ: two memories, each made by a script of calls, and the lines that are told of them. Document 02's 7/13, or its ruling, quoted at each row.
-- In the paper's numbers, as every row.
use Rattle.std.specs.Prelude.{ℕ, ◌+◌, ◌*◌, ◌≡◌, refl, Bool, true, false, List, [], ◌∷◌, ◌++◌, map}
use Rattle.model.specs.Store.{Store}
use Rattle.model.specs.Store.{bytes}
use Rattle.model.specs.Same.{by_trees}
use Rattle.model.specs.declared.Side.{Side}
use Rattle.model.specs.declared.Side.TheVariants.{First, Second}
use Rattle.model.specs.Told.Said.{Nothing, OnlyIn, DiffersIn}
use Rattle.model.specs.Told.{Line}
use Rattle.model.specs.Told.Line.{Word, Refused, RefusedAt, Processor, Same}
use Rattle.model.specs.Differ.{lines, names_lines}
use Rattle.table.specs.Program.{win, sme, wnm, rme, st1, crp}
use Rattle.table.specs.Script as Script
use Rattle.table.specs.Script.{Script, ok, put_to_wait, registers, begins, begins_with_2, times, repeated, same_words, leads}
use Rattle.table.specs.Script.Line.{step, sets, judges, host, made}

-- ---- a line by numbers: of a word the address and both values; of all else a number over every address first
abbrev pub side : Side → ℕ
side First = 1
side Second = 2

abbrev pub bit : Bool → ℕ
bit false = 0
bit true = 1

abbrev pub refused : Side → ℕ → List ℕ
refused s n = 10000 ∷ side s ∷ n ∷ []

abbrev pub refused_at : Side → ℕ → ℕ → List ℕ
refused_at s n a = 10001 ∷ side s ∷ n ∷ a ∷ []

abbrev pub only_in : ℕ → Side → List ℕ
only_in n s = 10002 ∷ n ∷ side s ∷ []

-- state, priority, Q1, Q2
abbrev pub differs : ℕ → ℕ → ℕ → ℕ → ℕ → List ℕ
differs n s p q₁ q₂ = 10003 ∷ n ∷ s ∷ p ∷ q₁ ∷ q₂ ∷ []

abbrev pub same : List ℕ
same = 10004 ∷ []

abbrev pub numbers : Line → List ℕ
numbers (Word a x y) = a ∷ x ∷ y ∷ []
numbers (Refused s n) = refused s n
numbers (RefusedAt s n a) = refused_at s n a
numbers (Processor n Nothing) = 10005 ∷ []
numbers (Processor n (OnlyIn s)) = only_in n s
numbers (Processor n (DiffersIn d)) = differs n (bit d.state) (bit d.priority) (bit d.q1) (bit d.q2)
numbers Same = same

unfoldable pub same_lists : List (List ℕ) → List (List ℕ) → Bool
unfolding same_words
same_lists [] [] = true
same_lists [] (y ∷ ys) = false
same_lists (x ∷ xs) [] = false
same_lists (x ∷ xs) (y ∷ ys) = elim (same_words x y) [ true ↦ same_lists xs ys | false ↦ false ]

-- ---- two scripts, and what is told of the memories that they leave
pub record Pair : Type 0 where
  pub first : Script
  pub second : Script
  pub lines : List (List ℕ)

module _ (S : Store) where
  -- both scripts run as they say, and all that is printed of what they leave is this
  unfoldable pub prints : Pair → Bool
  unfolding leads same_lists
  prints p = leads S p.first S.zeros λ m. leads S p.second S.zeros λ k. same_lists (map numbers (lines S m k)) p.lines

  -- both scripts run as they say and leave a well-formed memory, and this is what is said of the names 1 to 15
  unfoldable pub says : Pair → Bool
  unfolding leads same_lists
  says p =
      leads S (p.first ++ (judges ok ∷ [])) S.zeros λ m.
      leads S (p.second ++ (judges ok ∷ [])) S.zeros λ k.
      same_lists (map numbers (names_lines S 15 m k 1)) p.lines

-- ---- "One output whole"
abbrev pub both_begin : List ℕ → Script → Script
both_begin ws s =
    begins (crp 2 1 0 3000 ++ st1 2 ++ sme 2 3 3100 ++ ws) (host 3100 (2 ∷ 65 ∷ 66 ∷ []) ∷ step ok ∷ step ok ∷ step ok ∷ s)

-- their programs are taken out
abbrev pub cleared : Script
cleared = host 2752 (0 ∷ 0 ∷ 0 ∷ 0 ∷ 0 ∷ 0 ∷ 0 ∷ 0 ∷ 0 ∷ 0 ∷ 0 ∷ 0 ∷ 0 ∷ 0 ∷ 0 ∷ 0 ∷ 0 ∷ 0 ∷ 0 ∷ 0 ∷ 0 ∷ 0 ∷ 0 ∷ 0 ∷ []) ∷ []

unfoldable pub one_output : Pair
one_output = record {
  first = both_begin (win 17 1) (step put_to_wait ∷ host 3000 (2 ∷ []) ∷ cleared);
  second = both_begin (sme 2 4 3100 ++ crp 3 1 0 3200 ++ win 18 1) (step ok ∷ step ok ∷ step put_to_wait ∷ host 3000 (5 ∷ []) ∷ cleared);
  lines =
      (163 ∷ 255 ∷ 0 ∷ []) ∷ (164 ∷ 236 ∷ 0 ∷ []) ∷ (165 ∷ 0 ∷ 255 ∷ []) ∷ (166 ∷ 0 ∷ 236 ∷ []) ∷ (244 ∷ 239 ∷ 241 ∷ []) ∷ (245 ∷ 17 ∷ 15 ∷ [])
      ∷ (3000 ∷ 2 ∷ 5 ∷ []) ∷ (7563 ∷ 207 ∷ 216 ∷ []) ∷ (7585 ∷ 0 ∷ 240 ∷ []) ∷ (7616 ∷ 0 ∷ 239 ∷ []) ∷ (7648 ∷ 240 ∷ 0 ∷ []) ∷ (7649 ∷ 0 ∷ 20 ∷ [])
      ∷ (7650 ∷ 0 ∷ 2 ∷ []) ∷ (7651 ∷ 0 ∷ 65 ∷ []) ∷ (7652 ∷ 0 ∷ 66 ∷ []) ∷ (7680 ∷ 241 ∷ 0 ∷ []) ∷ (7687 ∷ 0 ∷ 19 ∷ []) ∷ (7690 ∷ 0 ∷ 12 ∷ [])
      ∷ (7691 ∷ 0 ∷ 128 ∷ []) ∷ (7692 ∷ 0 ∷ 128 ∷ []) ∷ differs 1 1 0 0 0 ∷ differs 2 0 0 1 0 ∷ only_in 3 Second ∷ [];
}

pub one_output_holds : prints bytes one_output ≡ true
unfolding prints one_output
one_output_holds = by_trees (λ S. prints S one_output) refl

-- ---- "every differing address .., no more and no fewer": the first and the last
unfoldable pub first_and_last : Pair
first_and_last = record {
  first = begins [] [];
  second = begins [] (made 0 (9 ∷ []) ∷ made 8191 (255 ∷ []) ∷ []);
  lines = (0 ∷ 0 ∷ 9 ∷ []) ∷ (8191 ∷ 0 ∷ 255 ∷ []) ∷ [];
}

pub first_and_last_holds : prints bytes first_and_last ≡ true
unfolding prints first_and_last
first_and_last_holds = by_trees (λ S. prints S first_and_last) refl

-- "If nothing was printed so far: `same`"
unfoldable pub the_same : Pair
the_same = record { first = begins [] []; second = begins [] []; lines = same ∷ [] }

pub the_same_holds : prints bytes the_same ≡ true
unfolding prints the_same
the_same_holds = by_trees (λ S. prints S the_same) refl

-- ---- "If either is broken, only the word list and the reason": the second, at a semaphore; that the priority of 2 differs is told by its word only
unfoldable pub second_broken : Pair
second_broken = record {
  first = begins_with_2 [] [];
  second = begins_with_2 [] (made (4 * 32 + 3) (255 ∷ []) ∷ made (237 * 32 + 7) ((3 * 16 + 2) ∷ []) ∷ []);
  lines = (131 ∷ 0 ∷ 255 ∷ []) ∷ (7591 ∷ 34 ∷ 50 ∷ []) ∷ refused_at Second 31 131 ∷ [];
}

pub second_broken_holds : prints bytes second_broken ≡ true
unfolding prints second_broken
second_broken_holds = by_trees (λ S. prints S second_broken) refl

-- "both in this order if both are": the clock line is 0, and the free list is lost
unfoldable pub both_broken : Pair
both_broken = record {
  first = begins [] (made (7 * 32 + 15) (0 ∷ []) ∷ []);
  second = begins [] (made (7 * 32 + 20) (0 ∷ []) ∷ []);
  lines = (239 ∷ 0 ∷ 16 ∷ []) ∷ (244 ∷ 237 ∷ 0 ∷ []) ∷ refused_at First 34 239 ∷ refused_at Second 30 7584 ∷ [];
}

pub both_broken_holds : prints bytes both_broken ≡ true
unfolding prints both_broken
both_broken_holds = by_trees (λ S. prints S both_broken) refl

-- two that are broken and the same: both reasons, and no `same`
unfoldable pub same_and_broken : Pair
same_and_broken = record {
  first = begins [] (made (7 * 32 + 15) (0 ∷ []) ∷ []);
  second = begins [] (made (7 * 32 + 15) (0 ∷ []) ∷ []);
  lines = refused_at First 34 239 ∷ refused_at Second 34 239 ∷ [];
}

pub same_and_broken_holds : prints bytes same_and_broken ≡ true
unfolding prints same_and_broken
same_and_broken_holds = by_trees (λ S. prints S same_and_broken) refl

-- ---- "compared by messages in order, and not by page numbers": processor 1 sends itself mail; in the first it has sent and read another before
unfoldable pub other_pages : Pair
other_pages = record {
  first =
      begins (sme 1 3 3100 ++ wnm 1 3 ++ rme 1 3 3200 ++ sme 1 4 3110)
      (host 3100 (1 ∷ 77 ∷ []) ∷ host 3110 (2 ∷ 65 ∷ 66 ∷ []) ∷ step ok ∷ step ok ∷ step ok ∷ step ok ∷ []);
  second = begins (sme 1 4 3110) (host 3110 (2 ∷ 65 ∷ 66 ∷ []) ∷ step ok ∷ []);
  lines = [];
}

pub other_pages_holds : says bytes other_pages ≡ true
unfolding says other_pages
other_pages_holds = by_trees (λ S. says S other_pages) refl

-- in order: two messages, the other way round
abbrev pub two_sent : ℕ → ℕ → Script
two_sent f g = begins (sme 1 f 3100 ++ sme 1 g 3100) (host 3100 (1 ∷ 77 ∷ []) ∷ step ok ∷ step ok ∷ [])

unfoldable pub in_order : Pair
in_order = record { first = two_sent 3 4; second = two_sent 4 3; lines = differs 1 0 0 1 0 ∷ [] }

pub in_order_holds : says bytes in_order ≡ true
unfolding says in_order
in_order_holds = by_trees (λ S. says S in_order) refl

-- one more in the second, one more in the first
abbrev pub one_sent : Script
one_sent = begins (sme 1 3 3100 ++ sme 1 4 3100) (host 3100 (1 ∷ 77 ∷ []) ∷ step ok ∷ [])

unfoldable pub one_more : Pair
one_more = record { first = one_sent; second = two_sent 3 4; lines = differs 1 0 0 1 0 ∷ [] }

pub one_more_holds : says bytes one_more ≡ true
unfolding says one_more
one_more_holds = by_trees (λ S. says S one_more) refl

unfoldable pub one_fewer : Pair
one_fewer = record { first = two_sent 3 4; second = one_sent; lines = differs 1 0 0 1 0 ∷ [] }

pub one_fewer_holds : says bytes one_fewer ≡ true
unfolding says one_fewer
one_fewer_holds = by_trees (λ S. says S one_fewer) refl

-- "Q1, Q2: the lists of messages, each by itself": WNM brings the message to Q2
unfoldable pub each_by_itself : Pair
each_by_itself = record {
  first = begins (sme 1 3 3100 ++ wnm 1 3) (host 3100 (1 ∷ 77 ∷ []) ∷ step ok ∷ []);
  second = begins (sme 1 3 3100 ++ wnm 1 3) (host 3100 (1 ∷ 77 ∷ []) ∷ step ok ∷ step ok ∷ []);
  lines = differs 1 0 0 1 1 ∷ [];
}

pub each_by_itself_holds : says bytes each_by_itself ≡ true
unfolding says each_by_itself
each_by_itself_holds = by_trees (λ S. says S each_by_itself) refl

-- ---- "its word 1 (sender, flag)": mail for 1 on page 238, by its word 1, its word 2 and its text
abbrev pub mail_of : ℕ → ℕ → List ℕ → Script
mail_of v w ws =
    begins_with_2 []
    (made (7 * 32 + 20) (239 ∷ 17 ∷ []) ∷ made (236 * 32 + 5) (238 ∷ []) ∷ made (238 * 32) (0 ∷ v ∷ w ∷ ws) ∷ [])

unfoldable pub other_sender : Pair
other_sender = record { first = mail_of (2 * 16 + 3) 1 (77 ∷ []); second = mail_of (1 * 16 + 3) 1 (77 ∷ []); lines = differs 1 0 0 1 0 ∷ [] }

pub other_sender_holds : says bytes other_sender ≡ true
unfolding says other_sender
other_sender_holds = by_trees (λ S. says S other_sender) refl

-- "its word 2 whole (length, notice, and the mark ..)"
abbrev pub mail_from_2 : ℕ → List ℕ → Script
mail_from_2 w ws = mail_of (2 * 16 + 3) w ws

unfoldable pub marked : Pair
marked = record { first = mail_from_2 1 (77 ∷ []); second = mail_from_2 65 (77 ∷ []); lines = differs 1 0 0 1 0 ∷ [] }

pub marked_holds : says bytes marked ≡ true
unfolding says marked
marked_holds = by_trees (λ S. says S marked) refl

-- marked mail has its text too
unfoldable pub marked_text : Pair
marked_text = record { first = mail_from_2 65 (77 ∷ []); second = mail_from_2 65 (78 ∷ []); lines = differs 1 0 0 1 0 ∷ [] }

pub marked_text_holds : says bytes marked_text ≡ true
unfolding says marked_text
marked_text_holds = by_trees (λ S. says S marked_text) refl

-- "its text, as many words as its length (none of a notice). Words behind the text .. don't count"
unfoldable pub stale_text : Pair
stale_text = record { first = mail_from_2 128 (77 ∷ []); second = mail_from_2 128 (78 ∷ []); lines = [] }

pub stale_text_holds : says bytes stale_text ≡ true
unfolding says stale_text
stale_text_holds = by_trees (λ S. says S stale_text) refl

unfoldable pub behind_text : Pair
behind_text = record { first = mail_from_2 1 (77 ∷ 5 ∷ []); second = mail_from_2 1 (77 ∷ 6 ∷ []); lines = [] }

pub behind_text_holds : says bytes behind_text ≡ true
unfolding says behind_text
behind_text_holds = by_trees (λ S. says S behind_text) refl

-- ---- "no registers, W, LR or saved words"
unfoldable pub registers_only : Pair
registers_only = record {
  first = begins [] [];
  second = begins [] (sets (registers 1 2 1 0 1 3000 15) ok ∷ []);
  lines = [];
}

pub registers_only_holds : says bytes registers_only ≡ true
unfolding says registers_only
registers_only_holds = by_trees (λ S. says S registers_only) refl

-- "the stopped .. bit": 2, of the same priority, is started in the second, and 1 goes on
unfoldable pub started : Pair
started = record {
  first = begins (crp 2 1 0 3000) (step ok ∷ []);
  second = begins (crp 2 1 0 3000 ++ st1 2) (step ok ∷ step ok ∷ []);
  lines = differs 2 1 0 0 0 ∷ [];
}

pub started_holds : says bytes started ≡ true
unfolding says started
started_holds = by_trees (λ S. says S started) refl

-- "whether it is the one that runs": 1 and 2, both ready and of one priority; 2 runs in the second
unfoldable pub who_runs : Pair
who_runs = record {
  first = begins (crp 2 1 0 3000 ++ st1 2) (step ok ∷ step ok ∷ []);
  second = begins (crp 2 1 0 3000 ++ st1 2) (step ok ∷ step ok ∷ made (7 * 32 + 24) (237 ∷ 18 ∷ []) ∷ []);
  lines = differs 1 1 0 0 0 ∷ differs 2 1 0 0 0 ∷ [];
}

pub who_runs_holds : says bytes who_runs ≡ true
unfolding says who_runs
who_runs_holds = by_trees (λ S. says S who_runs) refl

-- "the queue it waits in (interrupt 1-54 ..) and its reason, word 2"
abbrev pub waits : ℕ → ℕ → Script
waits k c = begins (win k c) (step put_to_wait ∷ [])

unfoldable pub other_queue : Pair
other_queue = record { first = waits 17 1; second = waits 18 1; lines = differs 1 1 0 0 0 ∷ [] }

pub other_queue_holds : says bytes other_queue ≡ true
unfolding says other_queue
other_queue_holds = by_trees (λ S. says S other_queue) refl

unfoldable pub other_reason : Pair
other_reason = record { first = waits 17 1; second = waits 17 2; lines = differs 1 1 0 0 0 ∷ [] }

pub other_reason_holds : says bytes other_reason ≡ true
unfolding says other_reason
other_reason_holds = by_trees (λ S. says S other_reason) refl

-- "for a message": whichever page it stands on, 2 waits for any
abbrev pub two_wait : ℕ → ℕ → Script
two_wait n o =
    begins (crp n 1 0 3000 ++ crp o 1 0 3000 ++ st1 n ++ st1 o ++ wnm 0 0)
    (host 3000 (wnm 0 0) ∷ step ok ∷ step ok ∷ step ok ∷ step ok ∷ step put_to_wait ∷ step put_to_wait ∷ step put_to_wait ∷ [])

unfoldable pub message_wait : Pair
message_wait = record { first = two_wait 2 3; second = two_wait 3 2; lines = [] }

pub message_wait_holds : says bytes message_wait ≡ true
unfolding says message_wait
message_wait_holds = by_trees (λ S. says S message_wait) refl

-- "for a page": no page is left; 2 asks for one in the first, and waits for any message in the second, both with reason 0
abbrev pub none_left : List ℕ → Script
none_left ws =
    begins (crp 2 1 0 3000 ++ st1 2 ++ repeated 18 (sme 1 3 3100) ++ win 17 1)
    (host 3000 ws ∷ step ok ∷ step ok ∷ (times 18 (step ok ∷ []) ++ (step put_to_wait ∷ step put_to_wait ∷ [])))

unfoldable pub page_wait : Pair
unfolding times repeated
page_wait = record { first = none_left (sme 1 3 3100); second = none_left (wnm 0 0); lines = differs 2 1 0 0 0 ∷ [] }

pub page_wait_holds : says bytes page_wait ≡ true
unfolding says page_wait
page_wait_holds = by_trees (λ S. says S page_wait) refl

-- "Not the place in that queue": 1 and 2 wait for interrupt 17, the other way round
unfoldable pub other_place : Pair
other_place = record {
  first =
      begins (crp 2 1 0 3000 ++ st1 2 ++ win 17 1) (host 3000 (win 17 1) ∷ step ok ∷ step ok ∷ step put_to_wait ∷ step put_to_wait ∷ []);
  second =
      begins (crp 2 1 0 3000 ++ st1 2 ++ win 17 1)
      (host 3000 (win 17 1)
      ∷ step ok
      ∷ step ok
      ∷ step put_to_wait
      ∷ step put_to_wait
      ∷ made (5 * 32 + 4) (237 ∷ [])
      ∷ made (236 * 32) (0 ∷ [])
      ∷ made (237 * 32) (236 ∷ [])
      ∷ []);
  lines = [];
}

pub other_place_holds : says bytes other_place ≡ true
unfolding says other_place
other_place_holds = by_trees (λ S. says S other_place) refl

-- ---- "priority: the high four bits of word 7"; "processors present in only one": the first name and the last
unfoldable pub other_priority : Pair
other_priority = record {
  first = begins_with_2 [] [];
  second = begins_with_2 [] (made (237 * 32 + 7) ((3 * 16 + 2) ∷ []) ∷ []);
  lines = differs 2 0 1 0 0 ∷ [];
}

pub other_priority_holds : says bytes other_priority ≡ true
unfolding says other_priority
other_priority_holds = by_trees (λ S. says S other_priority) refl

unfoldable pub only_in_one : Pair
only_in_one = record {
  first = begins_with_2 [] [];
  second = begins (crp 15 1 0 3000) (step ok ∷ []);
  lines = only_in 2 First ∷ only_in 15 Second ∷ [];
}

pub only_in_one_holds : says bytes only_in_one ≡ true
unfolding says only_in_one
only_in_one_holds = by_trees (λ S. says S only_in_one) refl

-- 15 is the last name: all that is printed, with its page
unfoldable pub last_name : Pair
last_name = record {
  first = begins (crp 15 1 0 3000) [];
  second = begins (crp 15 1 0 3000) (step ok ∷ []);
  lines =
      (244 ∷ 237 ∷ 238 ∷ []) ∷ (245 ∷ 19 ∷ 18 ∷ []) ∷ (7553 ∷ 0 ∷ 237 ∷ []) ∷ (7563 ∷ 192 ∷ 197 ∷ []) ∷ (7584 ∷ 238 ∷ 0 ∷ []) ∷ (7591 ∷ 0 ∷ 31 ∷ [])
      ∷ (7594 ∷ 0 ∷ 11 ∷ []) ∷ (7595 ∷ 0 ∷ 184 ∷ []) ∷ (7596 ∷ 0 ∷ 128 ∷ []) ∷ only_in 15 Second ∷ [];
}

pub last_name_holds : prints bytes last_name ≡ true
unfolding prints last_name
last_name_holds = by_trees (λ S. prints S last_name) refl

-- ---- "if either file isn't 8,192 bytes, only 20 and which file": none and one word; none and 8,192; and the other way round
abbrev pub sizes : List (List (List ℕ))
sizes = (refused First 20 ∷ refused Second 20 ∷ []) ∷ (refused First 20 ∷ []) ∷ (refused Second 20 ∷ []) ∷ []

pub sizes_holds : map (map numbers) (lines bytes [] (1 ∷ []) ∷ lines bytes [] bytes.zeros ∷ lines bytes bytes.zeros [] ∷ []) ≡ sizes
unfolding Script.plays
sizes_holds = refl
