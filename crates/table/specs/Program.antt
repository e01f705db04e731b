-- Instructions: the words of each, so that a row of the table can be read.
use Rattle.std.specs.Prelude.{ℕ, ◌+◌, ◌*◌, ◌/◌, ◌%◌, List, [], ◌∷◌}

-- an address in two words, t in the three bits above it
abbrev pub address : ℕ → ℕ → List ℕ
address t a = (t * 32 + a / 256) ∷ a % 256 ∷ []

abbrev pub win : ℕ → ℕ → List ℕ
win k c = 224 ∷ 48 ∷ k ∷ c ∷ []

abbrev pub sme : ℕ → ℕ → ℕ → List ℕ
sme n f a = 224 ∷ (64 + n) ∷ address f a

abbrev pub wnm : ℕ → ℕ → List ℕ
wnm n f = 224 ∷ (80 + n) ∷ f * 32 ∷ []

abbrev pub rme : ℕ → ℕ → ℕ → List ℕ
rme n f a = 224 ∷ (96 + n) ∷ address f a

abbrev pub tme : ℕ → ℕ → ℕ → List ℕ
tme n f a = 224 ∷ (112 + n) ∷ address f a

abbrev pub st1 : ℕ → List ℕ
st1 n = 224 ∷ (128 + n) ∷ []

abbrev pub stp : ℕ → List ℕ
stp n = 224 ∷ (144 + n) ∷ []

abbrev pub st2 : ℕ → ℕ → List ℕ
st2 n a = 224 ∷ (160 + n) ∷ address 0 a

abbrev pub crp : ℕ → ℕ → ℕ → ℕ → List ℕ
crp n b w a = 224 ∷ (176 + n) ∷ (b * 16 + w) ∷ address 0 a

abbrev pub dep : ℕ → List ℕ
dep n = 224 ∷ (192 + n) ∷ []

-- EXI: X XN as x
abbrev pub exi : ℕ → ℕ → ℕ → List ℕ
exi c x a = 224 ∷ (224 + c) ∷ address x a

-- an own code
abbrev pub code : ℕ → ℕ → List ℕ
code c f = 224 ∷ (c * 16 + f) ∷ []
