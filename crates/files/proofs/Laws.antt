-- Laws of files, a law for each way through the code: f is a file's name, l is a buffer before a step, l₁ and l₂ are the buffer after it.
use Prim.Native.Nat.{ℕ, ◌+◌, ◌≤◌}
use mathlib.Core.Path.{◌≡◌, sym, ap, ◌∙◌}
use mathlib.Core.List.{List, [], ◌∷◌, ◌++◌}
use lib.ListN.{length, take, drop, length-append}
use lib.Seq.{length-take-le, take-append_seam, take_at}
use native.Mathlib.Omega.{arith}
use Rattle.files.specs.Files as Files
use Rattle.files.specs.Files.{new_bytes, new_name}

-- ---- the name of the new file
pub new_name_lem : (f l l₁ l₂ : List ℕ) → l₁ ≡ take 0 l ++ f ++ drop (0 + length f) l
    → l₂ ≡ take (length f) l₁ ++ (46 ∷ 110 ∷ 101 ∷ 119 ∷ []) ++ drop (length f + new_bytes) l₁ → take (length f + new_bytes) l₂ ≡ new_name f
unfolding Files.new_name
new_name_lem f l l₁ l₂ e₁ e₂ =
    let four : List ℕ = 46 ∷ 110 ∷ 101 ∷ 119 ∷ [] in
    let a : take (length f) l₁ ≡ f = rw e₁ (take-append_seam f (drop (0 + length f) l)) in
    rw (e₂, a) (take_at (f ++ four) (drop (length f + new_bytes) l₁) (length f + new_bytes) (length-append f four))

pub new_long : (f l l₁ l₂ : List ℕ) → l₁ ≡ take 0 l ++ f ++ drop (0 + length f) l
    → l₂ ≡ take (length f) l₁ ++ (46 ∷ 110 ∷ 101 ∷ 119 ∷ []) ++ drop (length f + new_bytes) l₁ → length f + new_bytes ≡ length (take (length f + new_bytes) l₂)
unfolding Files.new_name
new_long f l l₁ l₂ e₁ e₂ = sym (ap length (new_name_lem f l l₁ l₂ e₁ e₂) ∙ length-append f (46 ∷ 110 ∷ 101 ∷ 119 ∷ []))
