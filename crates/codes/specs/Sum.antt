-- "0 A becomes A+M modulo 256, P the carry": the record of page p with both, M being the word at a.
use Rattle.std.specs.Prelude.{ℕ, ◌+◌, ◌/◌}
use Rattle.model.specs.declared.Registers.{Registers}
use Rattle.model.specs.Map.{word_a, word_values, low}
use Rattle.model.specs.Bytes.{Memory, at, word, registers_of}

unfoldable pub summed : Memory → ℕ → ℕ → Registers
summed m p a = to (registers_of m p) (word m p word_a + at m a)
  where
    to : Registers → ℕ → Registers
    to r s = record { a = low s; s = r.s; p = s / word_values; z = r.z; ci = r.ci; lr = r.lr; w = r.w; stopped = r.stopped }
