use Rattle.std.proofs.Common.{◌≡◌, drop}
use Rattle.script.specs.Script.{decimal, whole_number}
use Rattle.script.proofs.reading.whole_number.Given as goal

-- what is left to read decides
abbrev pub invariant-loop-character : goal.invariant-loop-character
invariant-loop-character l = decimal l.value (drop l.character-index l.word) ≡ whole_number l.word
