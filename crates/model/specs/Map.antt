-- Memory map: "8,192 words of 8 bits, 256 pages of 32." Every place of the memory, every field of a word and every bound by its name: no
-- other file has a number of the map.
use Rattle.std.specs.Prelude.{ℕ, ◌+◌, ◌-◌, ◌*◌, ◌/◌, ◌%◌, Bool, cond, ltb, leb}

-- "8,192 words of 8 bits, 256 pages of 32"; word k of page p stands at place p k
abbrev pub memory_size : ℕ
memory_size = 8192

abbrev pub last_address : ℕ
last_address = 8191

abbrev pub word_values : ℕ
word_values = 256

abbrev pub page_size : ℕ
page_size = 32

abbrev pub place : ℕ → ℕ → ℕ
place p k = p * page_size + k

-- ---- fields of a word
-- two fields of four bits: priority and name, sender and flag, NI and F, name and fault, code and field
abbrev pub pair : ℕ → ℕ → ℕ
pair x y = x * 16 + y

abbrev pub upper : ℕ → ℕ
upper w = w / 16

abbrev pub lower : ℕ → ℕ
lower w = w % 16

-- "An address is 13 bits: the five high bits in the first of two words, the low eight in the second": above the five stand three bits more
abbrev pub top : ℕ → ℕ
top w = w / 32

abbrev pub low_three : ℕ → ℕ
low_three w = w % 8

abbrev pub topped : ℕ → ℕ → ℕ
topped t h = t * 32 + h

abbrev pub high : ℕ → ℕ
high a = a / word_values % 32

abbrev pub low : ℕ → ℕ
low a = a % word_values

abbrev pub joined : ℕ → ℕ → ℕ
joined h l = h % 32 * word_values + l

-- "Semaphores are signed bytes": one more, one less, and a - b for a and b up to 20
abbrev pub raised : ℕ → ℕ
raised x = (x + 1) % word_values

abbrev pub lowered : ℕ → ℕ
lowered x = (x + 255) % word_values

abbrev pub less : ℕ → ℕ → ℕ
less a b = (word_values + a - b) % word_values

-- "P Z CI then LR's high five bits"
abbrev pub p_in : ℕ → ℕ
p_in w = w / 128

abbrev pub z_in : ℕ → ℕ
z_in w = w % 128 / 64

abbrev pub ci_in : ℕ → ℕ
ci_in w = w % 64 / 32

abbrev pub three_flags : ℕ → ℕ → ℕ → ℕ
three_flags p z ci = p % 2 * 128 + z % 2 * 64 + ci % 2 * 32

abbrev pub flags_kept : ℕ → ℕ → ℕ
flags_kept w h = w / 32 * 32 + h

abbrev pub p_set : ℕ → ℕ → ℕ
p_set w p = p * 128 + w % 128

-- "stopped bit, waiting bit, two zeros, four bits W"; "ready (neither bit set)": below the waiting bit
abbrev pub wait_bit : ℕ
wait_bit = 64

abbrev pub is_stopped : ℕ → Bool
is_stopped w = leb 128 w

abbrev pub is_ready : ℕ → Bool
is_ready w = ltb w wait_bit

abbrev pub stop_in : ℕ → ℕ
stop_in w = w / 128

abbrev pub wait_in : ℕ → ℕ
wait_in w = w % 128 / 64

abbrev pub zeros_in : ℕ → ℕ
zeros_in w = w % 64 / 16

abbrev pub stop_set : ℕ → ℕ
stop_set w = w % 128 + 128

abbrev pub stop_cleared : ℕ → ℕ
stop_cleared w = w % 128

abbrev pub wait_set : ℕ → ℕ
wait_set w = w / 128 * 128 + 64 + w % 64

abbrev pub wait_cleared : ℕ → ℕ
wait_cleared w = w / 128 * 128 + w % 64

abbrev pub w_set : ℕ → ℕ → ℕ
w_set w v = w / 16 * 16 + v % 16

abbrev pub stop_put : ℕ → ℕ → ℕ
stop_put w b = b % 2 * 128 + w % 128

-- "I X XN": indirection, and X with XN; of these the register's number
abbrev pub indirect : ℕ → ℕ
indirect x = x / 8

abbrev pub index_part : ℕ → ℕ
index_part x = x % 8

abbrev pub is_indexed : ℕ → Bool
is_indexed x = leb 4 x

abbrev pub index_number : ℕ → ℕ
index_number x = x % 4

-- the most that fields of four, three and five bits, and a word, hold
abbrev pub four_bits : ℕ
four_bits = 15

abbrev pub three_bits : ℕ
three_bits = 7

abbrev pub five_bits : ℕ
five_bits = 31

abbrev pub a_word : ℕ
a_word = 255

-- a bit more than P, Z and CI hold
abbrev pub one_bit : ℕ
one_bit = 1

-- ---- "Protected: addresses 0-15, 128-351, 7552-8191": the first free ones behind, and the first of the second and of the third
abbrev pub guarded_end : ℕ
guarded_end = 16

abbrev pub guarded_from : ℕ
guarded_from = 128

abbrev pub guarded_to : ℕ
guarded_to = 352

abbrev pub guarded_last : ℕ
guarded_last = 7552

-- ---- page 0
-- words 4-6 and 16-31 are kept while another runs, nineteen words: where word i of them stands
abbrev pub kept_count : ℕ
kept_count = 19

abbrev pub zero_place : ℕ → ℕ
zero_place i = cond (ltb i 3) (4 + i) (13 + i)

-- VEP's return words: "page 0 words 5-6"
abbrev pub return_high : ℕ
return_high = 5

abbrev pub return_low : ℕ
return_low = 6

-- "X register XN (words 24+2XN, 25+2XN)"
abbrev pub x_register : ℕ → ℕ
x_register x = 24 + 2 * x

-- ---- "Pages 4-7 ..: interrupt k (1-54) has its semaphore at 2k+1 and queue header at 2k+2"
abbrev pub interrupt_page : ℕ
interrupt_page = 4

abbrev pub interrupts : ℕ
interrupts = 54

abbrev pub semaphore_of : ℕ → ℕ
semaphore_of k = place 4 1 + 2 * k

abbrev pub header_of : ℕ → ℕ
header_of k = place 4 2 + 2 * k

-- the same of interrupt i + 1, for counting from 0
abbrev pub semaphore_after : ℕ → ℕ
semaphore_after i = place 4 3 + 2 * i

abbrev pub header_after : ℕ → ℕ
header_after i = place 4 4 + 2 * i

-- ---- "On page 7: 15 clock line, 16-19 counters C0-C3"
abbrev pub clock_line : ℕ
clock_line = place 7 15

abbrev pub c0 : ℕ
c0 = place 7 16

abbrev pub c1 : ℕ
c1 = place 7 17

abbrev pub c2 : ℕ
c2 = place 7 18

abbrev pub c3 : ℕ
c3 = place 7 19

-- "20 free list, 21 its semaphore, 22 queue waiting for a page"
abbrev pub free_list : ℕ
free_list = place 7 20

abbrev pub free_semaphore : ℕ
free_semaphore = place 7 21

abbrev pub page_queue : ℕ
page_queue = place 7 22

-- "23 processor list, 24 running page (0: idle), 25 running priority and name (0: idle)"
abbrev pub processor_list : ℕ
processor_list = place 7 23

abbrev pub running_page : ℕ
running_page = place 7 24

abbrev pub running_label : ℕ
running_label = place 7 25

-- "26 zero, 27 divider"
abbrev pub zero_word : ℕ
zero_word = place 7 26

abbrev pub divider : ℕ
divider = place 7 27

-- ---- "Page 8: code c at words 2c, 2c+1"; a code has four bits; the last has no instruction of its own
abbrev pub code_word : ℕ → ℕ
code_word c = place 8 0 + 2 * c

abbrev pub code_low : ℕ → ℕ
code_low c = place 8 1 + 2 * c

abbrev pub all_codes : ℕ
all_codes = 16

abbrev pub built_in_codes : ℕ
built_in_codes = 15

-- ---- "Page 9: word 0 is the first unused word, 1-32"; entry i, counting from 1, and entry i + 1
abbrev pub first_unused : ℕ
first_unused = place 9 0

abbrev pub entry_at : ℕ → ℕ
entry_at i = place 9 0 + i

abbrev pub entry_after : ℕ → ℕ
entry_after i = place 9 1 + i

abbrev pub entries : ℕ
entries = 31

abbrev pub entries_full : ℕ
entries_full = 32

-- ---- "Page 10, word k: page granted to processor k, or 0"
abbrev pub grants : ℕ
grants = place 10 0

abbrev pub grants_end : ℕ
grants_end = place 11 0

abbrev pub grant_for : ℕ → ℕ
grant_for k = place 10 0 + k

-- ---- "Pages 236-255: the control pages"
abbrev pub first_control : ℕ
first_control = 236

abbrev pub last_control : ℕ
last_control = 255

abbrev pub control_pages : ℕ
control_pages = 20

-- ---- "Processor page: 0 link, 1 list link, 2 reason for waiting"
abbrev pub link : ℕ
link = 0

abbrev pub list_link : ℕ
list_link = 1

abbrev pub reason : ℕ
reason = 2

-- "3 and 4 semaphore and header of its own message wait"
abbrev pub own_semaphore : ℕ
own_semaphore = 3

abbrev pub own_queue : ℕ
own_queue = 4

-- "5 and 6 message queues Q1 and Q2"
abbrev pub q1 : ℕ
q1 = 5

abbrev pub q2 : ℕ
q2 = 6

-- "7 priority*16+name, 8 A, 9 S"
abbrev pub label : ℕ
label = 7

abbrev pub word_a : ℕ
word_a = 8

abbrev pub word_s : ℕ
word_s = 9

-- "10 P Z CI then LR's high five bits, 11 LR's low bits"
abbrev pub high_lr : ℕ
high_lr = 10

abbrev pub low_lr : ℕ
low_lr = 11

-- "12 stopped bit, waiting bit, two zeros, four bits W"
abbrev pub state : ℕ
state = 12

-- "13-15 and 16-31 keep words 4-6 and 16-31 of page 0 while another runs": word i of the nineteen
abbrev pub keeps : ℕ → ℕ
keeps i = 13 + i

-- ---- "Message page: 0 link, 1 sender*16+flag, 2 length 0-29, 3-31 text"
abbrev pub note : ℕ
note = 1

abbrev pub size : ℕ
size = 2

abbrev pub text : ℕ
text = 3

abbrev pub longest : ℕ
longest = 29

-- "A notice has 128 in word 2 and is read as length 0"
abbrev pub notice : ℕ
notice = 128

-- document 02, 3/13: a message is marked "by 64 added in word 2"; unmarked, it is neither marked nor a notice
abbrev pub mark : ℕ
mark = 64

abbrev pub mark_added : ℕ → ℕ
mark_added w = w + mark

abbrev pub is_unmarked : ℕ → Bool
is_unmarked w = ltb w mark

-- "RME hands out the true length": without the mark
abbrev pub length_in : ℕ → ℕ
length_in w = w % mark

-- what RME hands out before the text: sender, flag, length

abbrev pub head_words : ℕ
head_words = 3

-- ---- bounds: names and priorities 1-15, flags 1-7; document 02, 6/13: "faults 1 to 13"
abbrev pub last_name : ℕ
last_name = 15

abbrev pub last_priority : ℕ
last_priority = 15

abbrev pub last_flag : ℕ
last_flag = 7

abbrev pub last_fault : ℕ
last_fault = 13

-- interrupts from outside 16-50, the clock line 16-47; "For 48-50 .. the class number 0-31"
abbrev pub first_outer : ℕ
first_outer = 16

abbrev pub last_line : ℕ
last_line = 47

abbrev pub first_classed : ℕ
first_classed = 48

abbrev pub last_outer : ℕ
last_outer = 50

abbrev pub last_class : ℕ
last_class = 31

-- document 02, 2/13: "up to 32 interrupts, as pairs of number and class number"; a pair's bytes, and those of the longest list
abbrev pub pair_bytes : ℕ
pair_bytes = 2

abbrev pub longest_list : ℕ
longest_list = 64

-- "51 is served and C1 counts; at 10, 52 and C2; at 60, 53 and C3; at 60, 54"
abbrev pub c0_interrupt : ℕ
c0_interrupt = 51

abbrev pub c1_interrupt : ℕ
c1_interrupt = 52

abbrev pub c2_interrupt : ℕ
c2_interrupt = 53

abbrev pub c3_interrupt : ℕ
c3_interrupt = 54

abbrev pub c1_end : ℕ
c1_end = 10

abbrev pub c2_end : ℕ
c2_end = 60

abbrev pub c3_end : ℕ
c3_end = 60

-- "processor 1, priority 1, LR 2752 on page 236"; "pages 4-10": seven
abbrev pub first_name : ℕ
first_name = 1

abbrev pub first_priority : ℕ
first_priority = 1

abbrev pub start_address : ℕ
start_address = 2752

abbrev pub kernel_pages : ℕ
kernel_pages = 7
