use Rattle.std.proofs.Common.{◌≡◌, ◌<◌, ◌+◌, refl}
use native.Mathlib.Omega.{arith}
use denote.Enum.Declared.{tag_of}
use Rattle.model.specs.declared.fault.Fault.{Fault}
use Rattle.model.specs.declared.fault.Fault.TheVariants.{AbsentCode, ExiOfExi, CodeExists, KeptCode, BadWait, NoMatch, NoName}
use Rattle.model.specs.declared.fault.Fault.TheVariants.{NotStartable, NameExists, NotStopped, Protected, BadArgument, AboveItself}
use Rattle.model.specs.contracts.fault.Fault.{the_type}
use Rattle.model.specs.Coded.{fault_number}
use Rattle.model.proofs.fault.U8FromFault.from.Goals as goal

numbered : (f : Fault) → (tag_of the_type f + 1 ≡ fault_number f) × (tag_of the_type f + 1 < 16)
unfolding fault_number
numbered AbsentCode = (refl, omega arith)
numbered ExiOfExi = (refl, omega arith)
numbered CodeExists = (refl, omega arith)
numbered KeptCode = (refl, omega arith)
numbered BadWait = (refl, omega arith)
numbered NoMatch = (refl, omega arith)
numbered NoName = (refl, omega arith)
numbered NotStartable = (refl, omega arith)
numbered NameExists = (refl, omega arith)
numbered NotStopped = (refl, omega arith)
numbered Protected = (refl, omega arith)
numbered BadArgument = (refl, omega arith)
numbered AboveItself = (refl, omega arith)

pub returns : goal.returns
returns c = numbered c.args.fault
