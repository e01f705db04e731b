-- Say what is broken: the memory of worked sum (b), with one rule broken or several, and the class and the address that the judge tells. In the paper's
-- numbers, as every row.
use Rattle.std.specs.Prelude.{◌+◌, ◌*◌, ◌≡◌, refl, true, List, [], ◌∷◌}
use Rattle.model.specs.Store.{bytes}
use Rattle.model.specs.Same.{by_trees}
use Rattle.table.specs.Script as Script
use Rattle.table.specs.Script.{plays_all, Script, ok}
use Rattle.table.specs.Script.Line.{fresh_start, step, judges, host, made}

-- (b): 236 is the processor, 237 a notice in its Q1, 238-255 are free
abbrev pub summed : Script → Script
summed s = fresh_start 16 5 ok ∷ host 2752 (224 ∷ 66 ∷ 107 ∷ 184 ∷ []) ∷ host 3000 (2 ∷ 65 ∷ 66 ∷ []) ∷ step ok ∷ s

-- ---- of each class, two addresses that offend: the lower is told
unfoldable pub lower_of_two : List Script
lower_of_two =
    summed (made (255 * 32 + 0) (237 ∷ []) ∷ made (10 * 32 + 9) (9 ∷ []) ∷ judges (30 ∷ (10 * 32 + 9) ∷ []) ∷ [])
    ∷ summed (made (236 * 32 + 3) (255 ∷ []) ∷ made (4 * 32 + 43) (255 ∷ []) ∷ judges (31 ∷ (4 * 32 + 43) ∷ []) ∷ [])
    ∷ summed (made (236 * 32 + 7) (1 ∷ []) ∷ made (10 * 32 + 16) (1 ∷ []) ∷ judges (32 ∷ (10 * 32 + 16) ∷ []) ∷ [])
    ∷ summed (made (9 * 32 + 1) (1 ∷ []) ∷ made (8 * 32 + 6) (96 ∷ []) ∷ judges (33 ∷ (8 * 32 + 6) ∷ []) ∷ [])
    ∷ summed (made (7 * 32 + 19) (60 ∷ []) ∷ made (7 * 32 + 17) (10 ∷ []) ∷ judges (34 ∷ (7 * 32 + 17) ∷ []) ∷ [])
    ∷ []

pub lower_of_two_holds : plays_all bytes lower_of_two ≡ true
unfolding Script.plays_all lower_of_two
lower_of_two_holds = by_trees (λ S. plays_all S lower_of_two) refl

-- ---- one break, in the order of the classes; a row for each word that can be told
unfoldable pub one_break : List Script
one_break =
    summed (made (7 * 32 + 20) (0 ∷ []) ∷ judges (30 ∷ (238 * 32 + 0) ∷ []) ∷ [])
    ∷ summed (made (7 * 32 + 20) (9 ∷ []) ∷ judges (30 ∷ (7 * 32 + 20) ∷ []) ∷ [])
    ∷ summed (made (255 * 32 + 0) (1 ∷ []) ∷ judges (30 ∷ (255 * 32 + 0) ∷ []) ∷ [])
    ∷ summed (made (255 * 32 + 0) (237 ∷ []) ∷ judges (30 ∷ (237 * 32 + 0) ∷ []) ∷ [])
    ∷ summed (made (255 * 32 + 0) (250 ∷ []) ∷ judges (30 ∷ (250 * 32 + 0) ∷ []) ∷ [])
    ∷ summed (made (236 * 32 + 1) (236 ∷ []) ∷ judges (30 ∷ (236 * 32 + 0) ∷ []) ∷ [])
    ∷ summed (made (236 * 32 + 1) (7 ∷ []) ∷ judges (30 ∷ (236 * 32 + 0) ∷ []) ∷ [])
    ∷ summed (made (236 * 32 + 5) (9 ∷ []) ∷ judges (30 ∷ (236 * 32 + 0) ∷ []) ∷ [])
    ∷ summed (made (10 * 32 + 9) (250 ∷ []) ∷ judges (30 ∷ (250 * 32 + 0) ∷ []) ∷ [])
    ∷ summed (made (10 * 32 + 9) (9 ∷ []) ∷ judges (30 ∷ (10 * 32 + 9) ∷ []) ∷ [])
    ∷ summed (made (10 * 32 + 0) (250 ∷ []) ∷ judges (32 ∷ (10 * 32 + 0) ∷ []) ∷ [])
    ∷ summed (made (4 * 32 + 44) (9 ∷ []) ∷ judges (31 ∷ (4 * 32 + 44) ∷ []) ∷ [])
    ∷ summed (made (4 * 32 + 44) (236 ∷ []) ∷ judges (31 ∷ (4 * 32 + 43) ∷ []) ∷ [])
    ∷ summed (made (4 * 32 + 43) (255 ∷ 236 ∷ []) ∷ judges (31 ∷ (236 * 32 + 0) ∷ []) ∷ [])
    ∷ summed (made (236 * 32 + 12) (64 ∷ []) ∷ judges (31 ∷ (236 * 32 + 0) ∷ []) ∷ [])
    ∷ summed (made (236 * 32 + 2) (1 ∷ []) ∷ judges (31 ∷ (236 * 32 + 0) ∷ []) ∷ [])
    ∷ summed (made (236 * 32 + 4) (236 ∷ []) ∷ judges (31 ∷ (236 * 32 + 0) ∷ []) ∷ [])
    ∷ summed (made (236 * 32 + 3) (255 ∷ []) ∷ judges (31 ∷ (236 * 32 + 3) ∷ []) ∷ [])
    ∷ summed (made (7 * 32 + 21) (17 ∷ []) ∷ judges (31 ∷ (7 * 32 + 21) ∷ []) ∷ [])
    ∷ summed (made (7 * 32 + 22) (236 ∷ []) ∷ judges (31 ∷ (7 * 32 + 20) ∷ []) ∷ [])
    ∷ summed (made (236 * 32 + 7) (1 ∷ []) ∷ judges (32 ∷ (236 * 32 + 0) ∷ []) ∷ [])
    ∷ summed (made (236 * 32 + 12) (32 ∷ []) ∷ judges (32 ∷ (236 * 32 + 0) ∷ []) ∷ [])
    ∷ summed (made (237 * 32 + 1) (5 ∷ []) ∷ judges (32 ∷ (237 * 32 + 0) ∷ []) ∷ [])
    ∷ summed (made (237 * 32 + 2) (30 ∷ []) ∷ judges (32 ∷ (237 * 32 + 0) ∷ []) ∷ [])
    ∷ summed (made (10 * 32 + 16) (1 ∷ []) ∷ judges (32 ∷ (10 * 32 + 16) ∷ []) ∷ [])
    ∷ summed (made (8 * 32 + 30) (32 ∷ []) ∷ judges (33 ∷ (8 * 32 + 30) ∷ []) ∷ [])
    ∷ summed (made (9 * 32 + 0) (2 ∷ []) ∷ judges (33 ∷ (9 * 32 + 1) ∷ []) ∷ [])
    ∷ summed (made (7 * 32 + 27) (0 ∷ []) ∷ judges (34 ∷ (7 * 32 + 16) ∷ []) ∷ [])
    ∷ summed (made (7 * 32 + 24) (0 ∷ []) ∷ judges (34 ∷ (7 * 32 + 24) ∷ []) ∷ [])
    ∷ summed (made (7 * 32 + 25) (0 ∷ []) ∷ judges (34 ∷ (7 * 32 + 25) ∷ []) ∷ [])
    ∷ summed (made (7 * 32 + 26) (1 ∷ []) ∷ judges (34 ∷ (7 * 32 + 26) ∷ []) ∷ [])
    ∷ []

pub one_break_holds : plays_all bytes one_break ≡ true
unfolding Script.plays_all one_break
one_break_holds = by_trees (λ S. plays_all S one_break) refl

-- ---- what takes several words to break alone
unfoldable pub several_words : List Script
several_words =
    summed (made (4 * 32 + 43) (255 ∷ 237 ∷ []) ∷ judges (31 ∷ (237 * 32 + 0) ∷ []) ∷ [])
    ∷ summed (made (4 * 32 + 43) (255 ∷ 236 ∷ []) ∷ made (236 * 32 + 12) (64 ∷ [])
    ∷ made (7 * 32 + 24) (0 ∷ 0 ∷ []) ∷ judges (31 ∷ (236 * 32 + 0) ∷ []) ∷ [])
    ∷ summed (made (7 * 32 + 20) (0 ∷ 255 ∷ 236 ∷ []) ∷ made (237 * 32 + 0) (238 ∷ []) ∷ made (236 * 32 + 2) (5 ∷ [])
    ∷ made (236 * 32 + 12) (64 ∷ []) ∷ made (7 * 32 + 24) (0 ∷ 0 ∷ []) ∷ judges (31 ∷ (236 * 32 + 0) ∷ []) ∷ [])
    ∷ summed (made (7 * 32 + 20) (0 ∷ 255 ∷ 236 ∷ []) ∷ made (237 * 32 + 0) (238 ∷ []) ∷ made (254 * 32 + 0) (0 ∷ [])
    ∷ made (10 * 32 + 1) (255 ∷ []) ∷ made (236 * 32 + 12) (64 ∷ []) ∷ made (7 * 32 + 24) (0 ∷ 0 ∷ []) ∷ judges (31 ∷ (10 * 32 + 1) ∷ []) ∷ [])
    ∷ summed (made (236 * 32 + 2) (8 ∷ 255 ∷ 236 ∷ []) ∷ made (236 * 32 + 12) (64 ∷ [])
    ∷ made (7 * 32 + 24) (0 ∷ 0 ∷ []) ∷ judges (31 ∷ (236 * 32 + 0) ∷ []) ∷ [])
    ∷ summed (made (236 * 32 + 2) (0 ∷ 255 ∷ 236 ∷ []) ∷ made (236 * 32 + 12) (64 ∷ [])
    ∷ made (7 * 32 + 24) (0 ∷ 0 ∷ []) ∷ judges (31 ∷ (236 * 32 + 0) ∷ []) ∷ [])
    ∷ summed (made (236 * 32 + 1) (238 ∷ []) ∷ made (7 * 32 + 20) (239 ∷ 17 ∷ []) ∷ made (238 * 32 + 0) (0 ∷ 0 ∷ 0 ∷ 255 ∷ 236 ∷ [])
    ∷ made (238 * 32 + 7) (18 ∷ []) ∷ made (238 * 32 + 12) (128 ∷ []) ∷ made (236 * 32 + 12) (64 ∷ [])
    ∷ made (7 * 32 + 24) (0 ∷ 0 ∷ []) ∷ judges (31 ∷ (238 * 32 + 0) ∷ []) ∷ [])
    ∷ summed (made (7 * 32 + 20) (239 ∷ 17 ∷ []) ∷ made (10 * 32 + 2) (238 ∷ []) ∷ judges (32 ∷ (10 * 32 + 2) ∷ []) ∷ [])
    ∷ summed (made (236 * 32 + 1) (238 ∷ []) ∷ made (7 * 32 + 20) (239 ∷ 17 ∷ []) ∷ made (238 * 32 + 0) (0 ∷ []) ∷ made (238 * 32 + 7) (17 ∷ [])
    ∷ made (238 * 32 + 12) (128 ∷ []) ∷ judges (32 ∷ (236 * 32 + 0) ∷ []) ∷ [])
    ∷ summed (made (8 * 32 + 6) (96 ∷ []) ∷ judges (33 ∷ (8 * 32 + 6) ∷ []) ∷ [])
    ∷ summed (made (8 * 32 + 2) (64 ∷ []) ∷ judges (33 ∷ (8 * 32 + 2) ∷ []) ∷ [])
    ∷ summed (made (9 * 32 + 0) (33 ∷ []) ∷ judges (33 ∷ (9 * 32 + 0) ∷ []) ∷ [])
    ∷ summed (made (7 * 32 + 15) (48 ∷ []) ∷ judges (34 ∷ (7 * 32 + 15) ∷ []) ∷ [])
    ∷ summed (made (7 * 32 + 16) (5 ∷ []) ∷ judges (34 ∷ (7 * 32 + 16) ∷ []) ∷ [])
    ∷ summed (made (7 * 32 + 17) (10 ∷ []) ∷ judges (34 ∷ (7 * 32 + 17) ∷ []) ∷ [])
    ∷ summed (made (7 * 32 + 18) (60 ∷ []) ∷ judges (34 ∷ (7 * 32 + 18) ∷ []) ∷ [])
    ∷ summed (made (7 * 32 + 19) (60 ∷ []) ∷ judges (34 ∷ (7 * 32 + 19) ∷ []) ∷ [])
    ∷ summed (made (7 * 32 + 24) (237 ∷ []) ∷ judges (34 ∷ (7 * 32 + 24) ∷ []) ∷ [])
    ∷ summed (made (236 * 32 + 1) (238 ∷ []) ∷ made (7 * 32 + 20) (239 ∷ 17 ∷ []) ∷ made (238 * 32 + 0) (0 ∷ [])
    ∷ made (238 * 32 + 7) (34 ∷ []) ∷ judges (34 ∷ (7 * 32 + 24) ∷ []) ∷ [])
    ∷ summed (made (7 * 32 + 24) (0 ∷ 0 ∷ []) ∷ judges (34 ∷ (7 * 32 + 24) ∷ []) ∷ [])
    ∷ []

pub several_words_holds : plays_all bytes several_words ≡ true
unfolding Script.plays_all several_words
several_words_holds = by_trees (λ S. plays_all S several_words) refl
