-- What an instruction is given, as contracts and definitions see it.
use Rattle.std.specs.Prelude.{ℕ}

-- field, second, W and address; WIN's IK and count; what an instruction does not have is 0
pub record Given : Type 0 where
  pub field : ℕ
  pub second : ℕ
  pub w : ℕ
  pub address : ℕ
  pub interrupt : ℕ
  pub count : ℕ
