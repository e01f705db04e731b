use Rattle.std.proofs.Common.{◌≡◌, ◌-◌, length}
use Rattle.script.specs.Sizes.{most_numbers}
use Rattle.script.specs.Script as Script
use Rattle.script.proofs.reading.numbers.Given as goal

-- what is left to read decides
abbrev pub invariant-loop-count : goal.invariant-loop-count
invariant-loop-count l =
    (length l.given ≡ most_numbers) × (Script.numbers (most_numbers - l.count) l.left l.given ≡ Script.numbers most_numbers l.fn.text l.fn.given)
