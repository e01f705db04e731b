-- The sizes that the contracts name.
use Rattle.std.specs.Prelude.{ℕ}

-- "first" or "second" is at most so long
abbrev pub side_room : ℕ
side_room = 6

-- "processor ", a number and ": "
abbrev pub name_room : ℕ
name_room = 32

-- " state priority Q1 Q2"
abbrev pub parts_room : ℕ
parts_room = 21
