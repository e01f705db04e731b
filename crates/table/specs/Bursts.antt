-- A burst from the line card: lists of bytes, number and class number in turn, with the answer and the words to be found afterwards. In the paper's numbers,
-- as every row.
use Rattle.std.specs.Prelude.{ℕ, zero, suc, ◌+◌, ◌*◌, ◌≡◌, refl, true, List, [], ◌∷◌, ◌++◌}
use Rattle.model.specs.Store.{bytes}
use Rattle.model.specs.Same.{by_trees}
use Rattle.table.specs.Program.{win, st1, crp}
use Rattle.table.specs.Script as Script
use Rattle.table.specs.Script.{plays_from_zero, Script, ok, put_to_wait, begins}
use Rattle.table.specs.Script.Line.{step, signals, host, made, has}

-- ---- what rows are made of
-- n pairs of interrupt k, class c, and then l
unfoldable pub pairs : ℕ → ℕ → ℕ → List ℕ → List ℕ
pairs zero k c l = l
pairs (suc n) k c l = k ∷ c ∷ pairs n k c l

-- 1 and 2, of one priority, wait for interrupts k and j, for so many of each; nobody runs
abbrev pub two_wait : ℕ → ℕ → ℕ → ℕ → Script → Script
two_wait k x j y s =
    begins (crp 2 1 0 3000 ++ st1 2 ++ win k x)
    (host 3000 (win j y) ∷ step ok ∷ step ok ∷ step put_to_wait ∷ step put_to_wait ∷ has (7 * 32 + 24) (0 ∷ 0 ∷ []) ∷ s)

-- ---- "who runs included": 2 is woken first and runs; 1, its equal and before it on the list, does not take over
unfoldable pub who_after_each : Script
who_after_each = two_wait 20 1 21 1 (signals (21 ∷ 0 ∷ 20 ∷ 0 ∷ []) ok ∷ has (7 * 32 + 24) (237 ∷ (1 * 16 + 2) ∷ []) ∷ [])

pub who_after_each_holds : plays_from_zero bytes who_after_each ≡ true
unfolding Script.plays_from_zero who_after_each
who_after_each_holds = by_trees (λ S. plays_from_zero S who_after_each) refl

-- ---- "All pairs are tested for 24 and 25 before the first is delivered": 1 and 2 wait as before, and nobody runs
unfoldable pub tested_before : Script
tested_before =
    two_wait 20 1 21 2
    (signals (20 ∷ 0 ∷ 21 ∷ 0 ∷ 51 ∷ 0 ∷ []) (24 ∷ 3 ∷ [])
    ∷ signals (20 ∷ 0 ∷ 21 ∷ 0 ∷ 21 ∷ 1 ∷ []) (25 ∷ 3 ∷ [])
    ∷ has (7 * 32 + 24) (0 ∷ 0 ∷ [])
    ∷ has (4 * 32 + (2 * 20 + 1)) (255 ∷ 236 ∷ 255 ∷ 237 ∷ [])
    ∷ has (236 * 32 + 2) (1 ∷ [])
    ∷ has (237 * 32 + 2) (2 ∷ [])
    ∷ [])

pub tested_before_holds : plays_from_zero bytes tested_before ≡ true
unfolding Script.plays_from_zero tested_before
tested_before_holds = by_trees (λ S. plays_from_zero S tested_before) refl

-- ---- "tells its place, from 1": the first and the last
unfoldable pub place_told : Script
unfolding pairs
place_told =
    begins []
    (signals (15 ∷ 0 ∷ []) (24 ∷ 1 ∷ [])
    ∷ signals (47 ∷ 1 ∷ []) (25 ∷ 1 ∷ [])
    ∷ signals (pairs 31 50 31 (50 ∷ 32 ∷ [])) (25 ∷ 32 ∷ [])
    ∷ signals (pairs 31 16 0 (255 ∷ 0 ∷ [])) (24 ∷ 32 ∷ [])
    ∷ has (7 * 32 + 16) (0 ∷ 0 ∷ [])
    ∷ [])

pub place_told_holds : plays_from_zero bytes place_told ≡ true
unfolding Script.plays_from_zero place_told
place_told_holds = by_trees (λ S. plays_from_zero S place_told) refl

-- ---- "the first bad pair", whichever of the two it breaks; of one that breaks both, 24
unfoldable pub pairs_in_order : Script
pairs_in_order =
    begins []
    (signals (16 ∷ 1 ∷ 15 ∷ 0 ∷ []) (25 ∷ 1 ∷ [])
    ∷ signals (15 ∷ 0 ∷ 16 ∷ 1 ∷ []) (24 ∷ 1 ∷ [])
    ∷ signals (16 ∷ 0 ∷ 51 ∷ 32 ∷ []) (24 ∷ 2 ∷ [])
    ∷ [])

pub pairs_in_order_holds : plays_from_zero bytes pairs_in_order ≡ true
unfolding Script.plays_from_zero pairs_in_order
pairs_in_order_holds = by_trees (λ S. plays_from_zero S pairs_in_order) refl

-- ---- "A longer or odd list is refused by 27, .. before 24"; 32 pairs are taken: the clock's line is 16 and its divider 5, so 32 is 6 times 5 and 2
unfoldable pub lists_taken : Script
unfolding pairs
lists_taken =
    begins []
    (signals (pairs 33 16 0 []) (27 ∷ [])
    ∷ signals (pairs 33 15 0 []) (27 ∷ [])
    ∷ signals (pairs 64 16 0 []) (27 ∷ [])
    ∷ signals (pairs 32 16 0 (16 ∷ [])) (27 ∷ [])
    ∷ signals (16 ∷ []) (27 ∷ [])
    ∷ signals (15 ∷ 0 ∷ 16 ∷ []) (27 ∷ [])
    ∷ has (7 * 32 + 16) (0 ∷ 0 ∷ [])
    ∷ signals (pairs 32 16 0 []) ok
    ∷ has (7 * 32 + 16) (2 ∷ 6 ∷ [])
    ∷ signals [] ok
    ∷ has (7 * 32 + 16) (2 ∷ 6 ∷ [])
    ∷ [])

pub lists_taken_holds : plays_from_zero bytes lists_taken ≡ true
unfolding Script.plays_from_zero lists_taken
lists_taken_holds = by_trees (λ S. plays_from_zero S lists_taken) refl

-- ---- each pair has its own class number: 1 is woken by the first 48, 2 by the second
unfoldable pub own_class : Script
own_class = two_wait 48 1 48 2 (signals (48 ∷ 3 ∷ 48 ∷ 5 ∷ []) ok ∷ has (236 * 32 + 8) (3 ∷ []) ∷ has (237 * 32 + 8) (5 ∷ []) ∷ [])

pub own_class_holds : plays_from_zero bytes own_class ≡ true
unfolding Script.plays_from_zero own_class
own_class_holds = by_trees (λ S. plays_from_zero S own_class) refl

-- ---- "after the memory checks": a broken memory, and any list
unfoldable pub memory_first : Script
memory_first =
    begins []
    (made (7 * 32 + 26) (1 ∷ [])
    ∷ signals (16 ∷ []) (34 ∷ (7 * 32 + 26) ∷ [])
    ∷ signals [] (34 ∷ (7 * 32 + 26) ∷ [])
    ∷ signals (15 ∷ 0 ∷ []) (34 ∷ (7 * 32 + 26) ∷ [])
    ∷ signals (16 ∷ 0 ∷ []) (34 ∷ (7 * 32 + 26) ∷ [])
    ∷ [])

pub memory_first_holds : plays_from_zero bytes memory_first ≡ true
unfolding Script.plays_from_zero memory_first
memory_first_holds = by_trees (λ S. plays_from_zero S memory_first) refl
