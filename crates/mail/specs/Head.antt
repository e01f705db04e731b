-- RME: "sender, flag, length .. to A on, one word each", before the text.
use Rattle.std.specs.Prelude.{ℕ}
use Rattle.model.specs.Address.{wrapped}
use Rattle.model.specs.Bytes.{Memory, write, sender, flag, length_of}

abbrev pub head_out : Memory → ℕ → ℕ → Memory
head_out m q a = write (write (write m a (sender m q)) (wrapped a 1) (flag m q)) (wrapped a 2) (length_of m q)
