-- The size that the contracts name, as src/sizes.rt has it for the code.
use Rattle.std.specs.Prelude.{ℕ}

-- "The program keeps one buffer of 8,200 words"
abbrev pub buffer_words : ℕ
buffer_words = 8200
