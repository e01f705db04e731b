-- How often a control page is met, as two bits of one number: those of page x weigh 2^(2 (x - 236)) and twice that; 2 is twice or oftener.
use Rattle.std.specs.Prelude.{ℕ, ◌+◌, ◌-◌, ◌*◌, ◌/◌, ◌%◌, ◌^◌, ◌≤◌, cond, List, [], ◌∷◌, leb, ltb}
use Rattle.model.specs.Map.{first_control, processor_list}
use Rattle.model.specs.Lists.{Lists, count, each_of, queues}
use Rattle.model.specs.Classes.{used}
use Rattle.model.specs.Bytes.{Memory, met, name}

-- more than any marks of twenty pages
abbrev pub most : ℕ
most = 1099511627776

unfoldable pub times : ℕ → ℕ → ℕ
times t z = t / 2 ^ (2 * (z - first_control)) % 4

-- how often page z is met; what is no control page is never met
unfoldable pub seen : ℕ → ℕ → ℕ
seen t z = cond (leb first_control z) (times t z) 0

-- page x is met once more
unfoldable pub marked : ℕ → ℕ → ℕ
marked t x = cond (ltb (times t x) 2) (t + 2 ^ (2 * (x - first_control))) t

abbrev pub marked_all : ℕ → List ℕ → ℕ
marked_all t [] = t
marked_all t (x ∷ xs) = marked_all (marked t x) xs

-- the lists of the heads hs
abbrev pub marked_lists : ℕ → Lists → List ℕ → ℕ
marked_lists t L [] = t
marked_lists t L (a ∷ hs) = marked_lists (marked_all t (L a)) L hs

-- a name has the mark of the page as far behind the first
unfoldable pub title : ℕ → ℕ
title n = first_control + n

abbrev pub titles : Memory → List ℕ → List ℕ
titles m ps = each_of (λ p. title (name m p)) ps

-- of all that is used, of all that wait, of the processors, of their names
unfoldable pub used_marks : Memory → ℕ
used_marks m = marked_lists 0 (met m) (used (met m processor_list))

unfoldable pub wait_marks : Memory → ℕ
wait_marks m = marked_lists 0 (met m) (queues (met m processor_list))

unfoldable pub list_marks : Memory → ℕ
list_marks m = marked_all 0 (met m processor_list)

unfoldable pub name_marks : Memory → ℕ
name_marks m = marked_all 0 (titles m (met m processor_list))

-- no page is twice on the processor list
unfoldable pub Single : Memory → Type 0
Single m = (z : ℕ) → count z (met m processor_list) ≤ 1
