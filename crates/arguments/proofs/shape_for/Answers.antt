use Rattle.std.proofs.Common.{◌≡◌, ◌≤◌, ◌∙◌, refl}
use native.Mathlib.Omega.{arith}
use denote.Enum.Declared.{tag_of}
use Rattle.model.specs.declared.instructions.Shape.{Shape}
use Rattle.model.specs.declared.instructions.Shape.TheVariants.{Bare, Plain, Addressed, Counted, Flagged, Complete, Creating}
use Rattle.model.specs.contracts.instructions.Shape.{the_type}
use Rattle.model.specs.Coded.{shape_number}
use Rattle.arguments.proofs.shape_for.Goals as goal

numbered : (s : Shape) → (tag_of the_type s ≡ shape_number s) × (tag_of the_type s ≤ 6)
unfolding shape_number
numbered Bare = (refl, omega arith)
numbered Plain = (refl, omega arith)
numbered Addressed = (refl, omega arith)
numbered Counted = (refl, omega arith)
numbered Flagged = (refl, omega arith)
numbered Complete = (refl, omega arith)
numbered Creating = (refl, omega arith)

pub returns : goal.returns
returns c = let n = numbered c.row_for.result.shape in (n.0 ∙ c.row_for.ensures.2, n.1)
