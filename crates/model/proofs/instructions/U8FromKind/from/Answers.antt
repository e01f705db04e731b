use Rattle.std.proofs.Common.{◌≡◌, ◌<◌, refl}
use native.Mathlib.Omega.{arith}
use denote.Enum.Declared.{tag_of}
use Rattle.model.specs.declared.instructions.Kind.{Kind}
use Rattle.model.specs.declared.instructions.Kind.TheVariants.{Absent, BuiltIn, Own}
use Rattle.model.specs.contracts.instructions.Kind.{the_type}
use Rattle.model.specs.Coded.{kind_number}
use Rattle.model.proofs.instructions.U8FromKind.from.Goals as goal

numbered : (k : Kind) → (tag_of the_type k ≡ kind_number k) × (tag_of the_type k < 8)
unfolding kind_number
numbered Absent = (refl, omega arith)
numbered BuiltIn = (refl, omega arith)
numbered Own = (refl, omega arith)

pub returns : goal.returns
returns c = numbered c.args.kind
