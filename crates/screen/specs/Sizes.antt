-- The sizes that the contracts name, as src/kept.rt has them for the code.
use Rattle.std.specs.Prelude.{ℕ}

-- what is kept until it is written
abbrev pub kept_room : ℕ
kept_room = 4096

-- a number is at most so long
abbrev pub number_room : ℕ
number_room = 20

-- the line of an answer is at most so long
abbrev pub line_room : ℕ
line_room = 160
