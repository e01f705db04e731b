-- What calls answer and tests find, by document 01's numbers. What the code's own types are among these is said in Coded.
use Rattle.std.specs.Prelude.{ℕ}
use Rattle.model.specs.declared.Registers.{Registers}
use Rattle.model.specs.declared.Side.{Side}
use Rattle.model.specs.declared.Parts.{Parts}

-- what a call answers. Handed out: the program's address, and that of n+1 or of the arguments. Fault: its number, and the name. Refused: its number, and with 30-34
-- the address, with 24 and 25 of a burst the place of the bad pair, with 29 of settings the version
pub data Answer : Type 0 where
  Done : Answer
  Waits : Answer
  HandedOut : ℕ → ℕ → Answer
  Fault : ℕ → ℕ → Answer
  Refused : ℕ → Answer
  RefusedAt : ℕ → ℕ → Answer

-- what reading the registers answers
pub data Held : Type 0 where
  Has : Registers → Held
  Refused : ℕ → Held
  RefusedAt : ℕ → ℕ → Held

-- what the judge answers
pub data Verdict : Type 0 where
  WellFormed : Verdict
  Refused : ℕ → Verdict
  RefusedAt : ℕ → ℕ → Verdict

-- what is found of a memory before a call goes on: nothing against it, a wrong length, or what is broken by its class and the lowest address
pub data Finding : Type 0 where
  Nothing : Finding
  WrongLength : Finding
  Broken : ℕ → ℕ → Finding

-- what comes of testing the pairs of a burst: all are good, or the number that refuses the first bad one, and its place
pub data Checked : Type 0 where
  Good : Checked
  Bad : ℕ → ℕ → Checked

-- the verdict of a block or of a file: it is good, or the number that refuses it, and with 29 the version
pub data Fit : Type 0 where
  Good : Fit
  Refused : ℕ → Fit
  RefusedAt : ℕ → ℕ → Fit

-- what writing settings answers: the new length of the file, or the number that refuses it, and with 29 the version
pub data Writing : Type 0 where
  Written : ℕ → Writing
  Refused : ℕ → Writing
  RefusedAt : ℕ → ℕ → Writing

-- what is said of a name
pub data Said : Type 0 where
  Nothing : Said
  OnlyIn : Side → Said
  DiffersIn : Parts → Said

-- a line of what is printed of two memories: an address with both words, what refuses one of the two by its number, and with 30-34 the address, what is said of
-- a name, or that they are the same
pub data Line : Type 0 where
  Word : ℕ → ℕ → ℕ → Line
  Refused : Side → ℕ → Line
  RefusedAt : Side → ℕ → ℕ → Line
  Processor : ℕ → Said → Line
  Same : Line
