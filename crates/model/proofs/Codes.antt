-- A code that is built in, by its number: one of fifteen, or none; and its row of the table.
use Prim.Native.Nat.{ℕ, zero, suc, ◌≤◌}
use mathlib.Core.Path.{◌≡◌, refl, ap}
use lib.ListN.{get_or}
use native.Mathlib.Omega.{arith}
use denote.Enum.Declared.{tag_of}
use Rattle.std.specs.Prelude.{Result, Ok, Err}
use Rattle.model.specs.declared.fault.Fault.{Fault}
use Rattle.model.specs.declared.fault.Fault.TheVariants.{AbsentCode}
use Rattle.model.specs.declared.instructions.Code.{Code}
use Rattle.model.specs.declared.instructions.Code.TheVariants.{Cvi, Dvi, Gin, Win, Sme, Wnm, Rme, Tme, St1, Stp, St2, Crp, Dep, Thirteen, Exi}
use Rattle.model.specs.contracts.instructions.Code.{the_type}
use Rattle.model.specs.declared.instructions.Row.{Row}
use Rattle.model.specs.declared.instructions.TheConstants.{TABLE}
use Rattle.model.specs.Coded.{code_number, code_of, shape_number}
use Rattle.model.specs.Instruction.{length_for, count_for, shape_for}

module _ (P : ℕ → Result Code Fault → Type 0) (f : (k : Code) → P (code_number k) (Ok k)) (g : (c : ℕ) → 15 ≤ c → P c (Err AbsentCode)) where
  pub by_code : (c : ℕ) → P c (code_of c)
  unfolding code_of code_number
  by_code zero = f Cvi
  by_code (suc zero) = f Dvi
  by_code (suc (suc zero)) = f Gin
  by_code (suc (suc (suc zero))) = f Win
  by_code (suc (suc (suc (suc zero)))) = f Sme
  by_code (suc (suc (suc (suc (suc zero))))) = f Wnm
  by_code (suc (suc (suc (suc (suc (suc zero)))))) = f Rme
  by_code (suc (suc (suc (suc (suc (suc (suc zero))))))) = f Tme
  by_code (suc (suc (suc (suc (suc (suc (suc (suc zero)))))))) = f St1
  by_code (suc (suc (suc (suc (suc (suc (suc (suc (suc zero))))))))) = f Stp
  by_code (suc (suc (suc (suc (suc (suc (suc (suc (suc (suc zero)))))))))) = f St2
  by_code (suc (suc (suc (suc (suc (suc (suc (suc (suc (suc (suc zero))))))))))) = f Crp
  by_code (suc (suc (suc (suc (suc (suc (suc (suc (suc (suc (suc (suc zero)))))))))))) = f Dep
  by_code (suc (suc (suc (suc (suc (suc (suc (suc (suc (suc (suc (suc (suc zero))))))))))))) = f Thirteen
  by_code (suc (suc (suc (suc (suc (suc (suc (suc (suc (suc (suc (suc (suc (suc zero)))))))))))))) = f Exi
  by_code (suc (suc (suc (suc (suc (suc (suc (suc (suc (suc (suc (suc (suc (suc (suc c))))))))))))))) = g _ (omega arith)

pub number_of : (c : ℕ) (k : Code) → Ok k ≡ code_of c → code_number k ≡ c
number_of c k e = by_code (λ i r. Ok k ≡ r → code_number k ≡ i) (λ j h. let s : k ≡ j = cc in ap code_number s) (λ i l h. absurd (cc)) c e

pub no_code : (c : ℕ) (f : Fault) → Err f ≡ code_of c → (15 ≤ c) × (f ≡ AbsentCode)
no_code c f e = by_code (λ i r. Err f ≡ r → (15 ≤ i) × (f ≡ AbsentCode)) (λ j h. absurd (cc)) (λ i l h. (l, cc)) c e

-- ---- what a row says of the code
abbrev Says : Code → Row → Type 0
Says k r =
    (r.length ≡ length_for (code_number k)) × (r.count ≡ count_for (code_number k)) × (shape_number r.shape ≡ shape_for (code_number k))
    × (2 ≤ r.length) × (r.length ≤ 5) × (r.count ≤ 5)

pub row_at : (k : Code) (d : Row) → Says k (get_or TABLE (tag_of the_type k) d)
unfolding code_number shape_number
row_at Cvi d = (refl, refl, refl, omega arith, omega arith, omega arith)
row_at Dvi d = (refl, refl, refl, omega arith, omega arith, omega arith)
row_at Gin d = (refl, refl, refl, omega arith, omega arith, omega arith)
row_at Win d = (refl, refl, refl, omega arith, omega arith, omega arith)
row_at Sme d = (refl, refl, refl, omega arith, omega arith, omega arith)
row_at Wnm d = (refl, refl, refl, omega arith, omega arith, omega arith)
row_at Rme d = (refl, refl, refl, omega arith, omega arith, omega arith)
row_at Tme d = (refl, refl, refl, omega arith, omega arith, omega arith)
row_at St1 d = (refl, refl, refl, omega arith, omega arith, omega arith)
row_at Stp d = (refl, refl, refl, omega arith, omega arith, omega arith)
row_at St2 d = (refl, refl, refl, omega arith, omega arith, omega arith)
row_at Crp d = (refl, refl, refl, omega arith, omega arith, omega arith)
row_at Dep d = (refl, refl, refl, omega arith, omega arith, omega arith)
row_at Thirteen d = (refl, refl, refl, omega arith, omega arith, omega arith)
row_at Exi d = (refl, refl, refl, omega arith, omega arith, omega arith)
