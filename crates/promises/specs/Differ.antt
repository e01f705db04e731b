-- What is promised of comparing two memories, on one page (document 02, 7/13). m is the first memory, k the second: any lists of numbers where nothing else is
-- said. `differing`, `said`, `lines` and what they are made of are the definitions (model/specs/Differ.antt). `count x xs` is how often x stands in xs. A name
-- that is defined in the laws is said in words where it stands first (laws/specs/Differing, Swapped, Renaming). Each statement is followed by its proof in
-- the laws. Assumes nothing.
use Rattle.std.specs.Prelude.{◌≡◌, ◌≢◌, ◌↔◌, ◌⊎◌, true, false, List, [], ◌∷◌, ◌++◌, map, ℕ, ◌≤◌, ◌<◌, length}
use Rattle.model.specs.Told.{Finding}
use Rattle.model.specs.declared.Side.{Side}
use Rattle.model.specs.declared.Side.TheVariants.{First, Second}
use Rattle.model.specs.declared.State.{State}
use Rattle.model.specs.declared.Parts.{Parts}
use Rattle.model.specs.Told.Said.{Nothing, OnlyIn, DiffersIn}
use Rattle.model.specs.Told.Line.{Word, Refused, RefusedAt, Same}
use Rattle.model.specs.Map.{memory_size, place, first_name, last_name, q1, q2, stop_in, state, reason, interrupts, semaphore_after, header_after, free_semaphore}
use Rattle.model.specs.Map.{page_queue, own_queue}
use Rattle.model.specs.Lists.{count}
use Rattle.model.specs.Differ.{same_words, same_messages, same_state, finding_lines, or_same}
use Rattle.model.specs.Bytes.{at, page_of, priority, judged, told_of, differing, word_lines, state_of, messages, differences, said, names_lines, size_lines, lines}
use Rattle.model.specs.Bytes.{queue, queue_of, word, running, waiting, processors}
use Rattle.history.specs.Letter.{mail_of}
use Rattle.history.specs.Compared.{same_letters}
use Rattle.laws.specs.Chain.{Page}
use Rattle.laws.specs.Judged.{WellFormed}
use Rattle.laws.specs.Differing as Differing
use Rattle.laws.specs.Differing.{Rising, Alike, any}
use Rattle.laws.specs.Swapped as Swapped
use Rattle.laws.specs.Swapped.{swap_side, swap_said, swap_line}
use Rattle.laws.specs.Renaming as Renaming
use Rattle.laws.specs.Renaming.{Renames, Renamed}
use Rattle.laws.specs.Renamings as Renamings
use Rattle.laws.specs.Seated as Seated

-- ---- 1. "The list of differing addresses that the library gives, as a whole list, equals the addresses 0 to 8191 at which the two words differ, in rising
-- order (so: no more, no fewer, none twice)." An address stands in it exactly if it is one of those; none stands twice; each is below the one behind it
-- (`Rising`); and a rising list in which exactly those stand is this list
pub no_more_and_no_fewer : (m k : List ℕ) (x : ℕ) → (1 ≤ count x (differing memory_size m k 0)) ↔ ((x < memory_size) × (at m x ≢ at k x))
no_more_and_no_fewer m k = Differing.differing_exactly m k memory_size

pub none_twice : (m k : List ℕ) (x : ℕ) → count x (differing memory_size m k 0) ≤ 1
none_twice m k = Differing.differing_once m k memory_size

pub in_rising_order : (m k : List ℕ) → Rising (differing memory_size m k 0)
in_rising_order m k = Differing.differing_rising m k memory_size 0

pub as_a_whole_list : (m k xs : List ℕ) → Rising xs → ((x : ℕ) → (1 ≤ count x xs) ↔ ((x < memory_size) × (at m x ≢ at k x))) → differing memory_size m k 0 ≡ xs
as_a_whole_list m k = Differing.differing_is m k memory_size

-- "with both values"
pub with_both_values : (m k : List ℕ) → word_lines memory_size m k 0 ≡ map (λ a. Word a (at m a) (at k a)) (differing memory_size m k 0)
with_both_values m k = Differing.word_lines_are m k memory_size 0

-- ---- 2. "For every name and every two memories of 8,192 words, what is said of it equals its definition; on well-formed ones the queue parts are equality of
-- the lists of messages, page numbers nowhere." Of any two memories. The page of name n is `page_of m n`, 0 if nobody has it. `Alike`: the states, the
-- priorities, the lists of messages in Q1 and those in Q2 are equal; `any d`: one of the four of d is true
pub what_is_said_of_a_name : (m k : List ℕ) (n : ℕ)
    → ((said m k n ≡ Nothing) ↔ (((page_of m n ≡ 0) × (page_of k n ≡ 0)) ⊎ ((page_of m n ≢ 0) × (page_of k n ≢ 0) × Alike m (page_of m n) k (page_of k n))))
    × ((said m k n ≡ OnlyIn First) ↔ ((page_of m n ≢ 0) × (page_of k n ≡ 0)))
    × ((said m k n ≡ OnlyIn Second) ↔ ((page_of m n ≡ 0) × (page_of k n ≢ 0)))
    × ((d : Parts) → (said m k n ≡ DiffersIn d)
    ↔ ((page_of m n ≢ 0) × (page_of k n ≢ 0) × (d ≡ differences m (page_of m n) k (page_of k n)) × (any d ≡ true)))
what_is_said_of_a_name m k n = (Differing.said_nothing m k n, Differing.said_only_first m k n, Differing.said_only_second m k n, Differing.said_differs m k n)

-- each of the four parts, of page p in the first and page q in the second: equality, and no page number in it
pub what_a_part_says : (m : List ℕ) (p : ℕ) (k : List ℕ) (q : ℕ) → (((differences m p k q).state ≡ false) ↔ (state_of m p ≡ state_of k q))
    × (((differences m p k q).priority ≡ false) ↔ (priority m p ≡ priority k q))
    × (((differences m p k q).q1 ≡ false) ↔ (messages m (place p q1) ≡ messages k (place q q1)))
    × (((differences m p k q).q2 ≡ false) ↔ (messages m (place p q2) ≡ messages k (place q q2)))
what_a_part_says m p k q = (Differing.state_is m p k q, Differing.priority_is m p k q, Differing.q1_is m p k q, Differing.q2_is m p k q)

-- and the tests that it is made of are equality
pub the_tests_are_equality : ((xs ys : List ℕ) → (same_words xs ys ≡ true) ↔ (xs ≡ ys))
    × ((xs ys : List ℕ) → (same_words xs ys ≡ false) ↔ (xs ≢ ys))
    × ((xs ys : List (List ℕ)) → (same_messages xs ys ≡ true) ↔ (xs ≡ ys))
    × ((xs ys : List (List ℕ)) → (same_messages xs ys ≡ false) ↔ (xs ≢ ys))
    × ((s t : State) → (same_state s t ≡ true) ↔ (s ≡ t))
    × ((s t : State) → (same_state s t ≡ false) ↔ (s ≢ t))
the_tests_are_equality = (
  Differing.words_are,
  Differing.words_are_not,
  Differing.messages_are,
  Differing.messages_are_not,
  Differing.states_are,
  Differing.states_are_not,
)

-- what a state is, of any two memories: the stopped bit, the waiting bit, whether it is the one that runs, the queue that it waits in, its reason; "no
-- registers, W, LR or saved words", and no page number
pub what_a_state_is : (m : List ℕ) (p : ℕ) (k : List ℕ) (q : ℕ) → (state_of m p ≡ state_of k q)
    ↔ ((stop_in (word m p state) ≡ stop_in (word k q state)) × (waiting m p ≡ waiting k q) × ((running m ≡ p) ↔ (running k ≡ q))
    × (queue_of m p ≡ queue_of k q) × (word m p reason ≡ word k q reason))
what_a_state_is = Seated.state_is_five

-- "the queue it waits in (interrupt 1-54, for a page, for a message, none)": on well-formed memory, of page p of a processor, that of interrupt i + 1 is told
-- by the address of its semaphore, the page queue by that of its own, the processor's own message wait by 1, none by 0: each exactly if p stands there; none
-- exactly if the waiting bit is not set
pub where_one_waits : (m : List ℕ) → length m ≡ memory_size → judged m ≡ true → (p : ℕ) → 1 ≤ count p (processors m)
    → ((i : ℕ) → i < interrupts → (queue_of m p ≡ semaphore_after i) ↔ (1 ≤ count p (queue m (header_after i))))
    × ((queue_of m p ≡ free_semaphore) ↔ (1 ≤ count p (queue m page_queue)))
    × ((queue_of m p ≡ 1) ↔ (1 ≤ count p (queue m (place p own_queue))))
    × ((queue_of m p ≡ 0) ↔ (waiting m p ≡ 0))
where_one_waits m l j p h =
    let w : WellFormed m = record { size = l; accepted = j } in
    (Seated.waits_line w p h, Seated.waits_page w p h, Seated.waits_mail w p h, Seated.waits_not w p h)

-- what is compared of a message has in it all that a reader gets: where two queues, with the headers h and g, hold the same messages, the same letters wait in
-- them, in the same order (`mail_of`: notice or mail, sender, flag, length and text, as the page History has them)
pub what_is_read_is_compared : (m : List ℕ) (h : ℕ) (k : List ℕ) (g : ℕ) → messages m h ≡ messages k g → map (mail_of m) (queue m h) ≡ map (mail_of k) (queue k g)
what_is_read_is_compared = same_letters

-- all that is printed, in its order: of two well-formed memories the words and then the names, or `same` where there is no line (`or_same`); "If either is
-- broken, only the word list and the reason"; "if either file isn't 8,192 bytes, only 20 and which file". `told_of m` is what a call finds of m: nothing exactly
-- if it is well-formed, else the class and the address of what is broken (page Promises)
pub words_and_then_names : (m k : List ℕ) → length m ≡ memory_size → length k ≡ memory_size → told_of m ≡ Finding.Nothing → told_of k ≡ Finding.Nothing
    → lines m k ≡ or_same (word_lines memory_size m k 0 ++ names_lines last_name m k first_name)
words_and_then_names m k = Swapped.lines_good m k

pub words_and_the_reason : (m k : List ℕ) → length m ≡ memory_size → length k ≡ memory_size → (n a : ℕ)
    → (told_of m ≡ Finding.Broken n a → lines m k ≡ word_lines memory_size m k 0 ++ RefusedAt First n a ∷ finding_lines Second (told_of k))
    × (told_of m ≡ Finding.Nothing → told_of k ≡ Finding.Broken n a → lines m k ≡ word_lines memory_size m k 0 ++ RefusedAt Second n a ∷ [])
words_and_the_reason = Swapped.lines_broken

pub only_20_and_which : (m k : List ℕ) → (length m ≢ memory_size → length k ≡ memory_size → lines m k ≡ Refused First 20 ∷ [])
    × (length m ≡ memory_size → length k ≢ memory_size → lines m k ≡ Refused Second 20 ∷ [])
    × (length m ≢ memory_size → length k ≢ memory_size → lines m k ≡ Refused First 20 ∷ Refused Second 20 ∷ [])
only_20_and_which = Swapped.lines_cut

-- ---- 3. "A memory differs from itself in nothing": whatever it holds; and one of 8,192 words that the judge accepts is told as `same`, and nothing else
pub nothing_beside_itself : (m : List ℕ) → (differing memory_size m m 0 ≡ []) × ((n : ℕ) → said m m n ≡ Nothing)
    × (length m ≡ memory_size → told_of m ≡ Finding.Nothing → lines m m ≡ Same ∷ [])
nothing_beside_itself m = (Swapped.differing_itself m memory_size 0, Swapped.said_itself m, Swapped.lines_itself m)

-- "swapping the files swaps the values and `first` with `second`, and leaves every `differs in` as it was": `swap_said` changes `only in first` and `only in
-- second` into one another and nothing else; `swap_line` changes the two values of a word, the side of a refusal, and what is said of a name by `swap_said`. Of
-- any two memories: the same addresses, the values swapped, every name
pub swapped_in_each_part : (m k : List ℕ) → (differing memory_size k m 0 ≡ differing memory_size m k 0)
    × (word_lines memory_size k m 0 ≡ map swap_line (word_lines memory_size m k 0))
    × ((n : ℕ) → said k m n ≡ swap_said (said m k n))
    × (names_lines last_name k m first_name ≡ map swap_line (names_lines last_name m k first_name))
swapped_in_each_part m k = (
  Swapped.differing_swap m k memory_size 0,
  Swapped.word_lines_swap m k memory_size 0,
  Swapped.said_swap m k,
  Swapped.names_lines_swap m k last_name first_name,
)

-- all that is printed, where one of the two has 8,192 words and the judge accepts it, whatever the other is
pub swapped_as_a_whole : (m k : List ℕ) → length m ≡ memory_size → told_of m ≡ Finding.Nothing
    → (lines k m ≡ map swap_line (lines m k)) × (lines m k ≡ map swap_line (lines k m))
swapped_as_a_whole m k l g = (Swapped.lines_swap m k l g, Swapped.lines_swap_back m k l g)

-- where both are refused, each reason has the other side, and the first's still stands first
pub swapped_in_each_reason : (s : Side) → ((f : Finding) → finding_lines (swap_side s) f ≡ map swap_line (finding_lines s f))
    × ((m : List ℕ) → size_lines (swap_side s) m ≡ map swap_line (size_lines s m))
swapped_in_each_reason s = (Swapped.finding_lines_swap s, Swapped.size_lines_swap s)

-- "two memories that differ in no word differ in nothing": they are one memory
pub no_word_no_difference : (m k : List ℕ) → length m ≡ memory_size → length k ≡ memory_size → differing memory_size m k 0 ≡ []
    → (m ≡ k) × ((n : ℕ) → said m k n ≡ Nothing) × (told_of m ≡ Finding.Nothing → lines m k ≡ Same ∷ [])
no_word_no_difference m k l j e = (Swapped.no_word m k l j e, Swapped.no_word_said m k l j e, λ g. Swapped.no_word_lines m k l j g e)

-- ---- 4. "Renaming pages: two well-formed memories that are the same but for which control page is used for what give no processor line." r says which page of
-- the second memory a page of the first is. `Renames r`: r leaves 0, and no two have one. `Renamed r m k`: what points to a page points in k to the page that
-- r gives, and the words that are compared are as they were. What points: the headers of the processor list, the page queue and the interrupts' queues, the
-- running page; of each processor its two links and the headers of its own wait, Q1 and Q2; of each message in Q1 or Q2 its link. What is compared: reason,
-- word 7 and word 12 of each processor; of each message word 1, word 2 and the text. Of no other word is anything asked
pub pages_renamed : (r : ℕ → ℕ) → Renames r → (m k : List ℕ) → length m ≡ memory_size → judged m ≡ true → length k ≡ memory_size → judged k ≡ true
    → Renamed r m k → ((n : ℕ) → said m k n ≡ Nothing) × (names_lines last_name m k first_name ≡ []) × (lines m k ≡ or_same (word_lines memory_size m k 0))
pages_renamed r n m k lm jm lk jk h =
    let w : WellFormed m = record { size = lm; accepted = jm } in
    let v : WellFormed k = record { size = lk; accepted = jk } in
    (Renaming.renamed_said r n m k w v h, Renaming.renamed_names r n m k w v h last_name first_name, Renaming.renamed_lines r n m k w v h)

-- whatever the second memory is, where r gives control pages for control pages (`Page`: one of 236 to 255)
pub pages_renamed_within : (r : ℕ → ℕ) → Renames r → ((x : ℕ) → Page x → Page (r x)) → (m k : List ℕ) → length m ≡ memory_size → judged m ≡ true
    → Renamed r m k → (n : ℕ) → said m k n ≡ Nothing
pages_renamed_within r n f m k l j = Renaming.renamed_within r n f m k (record { size = l; accepted = j })

-- what is asked can be had: every memory is itself with no page renamed; and for every r that gives control pages for control pages, and that some s undoes,
-- there is a second memory of 8,192 words in which the pages of the first are renamed by r (of that one it is not said here that it is well-formed)
pub renamed_to_itself : (m : List ℕ) → Renames (λ x. x) × Renamed (λ x. x) m m
renamed_to_itself m = (Renaming.renames_same, Renaming.renamed_same m)

pub renamed_by_any : (r s : ℕ → ℕ) → ((x : ℕ) → Page x → Page (r x)) → ((x : ℕ) → Page x → s (r x) ≡ x) → (m : List ℕ) → length m ≡ memory_size
    → judged m ≡ true → (k : List ℕ) × (length k ≡ memory_size) × Renamed r m k
renamed_by_any r s f g m l j = Renamings.renamed_some r s f g m (record { size = l; accepted = j })
