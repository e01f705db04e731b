-- The sizes that the contracts name, as src/sizes.rt has them for the code.
use Rattle.std.specs.Prelude.{ℕ}

-- what is read ahead of a script
abbrev pub ahead_bytes : ℕ
ahead_bytes = 4096
