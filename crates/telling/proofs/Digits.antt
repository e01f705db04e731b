-- Digits of four values: what adding one unit does to a digit that is below 3, to the others and to the whole.
use Prim.Native.Nat.{ℕ, zero, suc, ◌+◌, ◌*◌, ◌/◌, ◌%◌, ◌^◌, ◌<◌}
use mathlib.Core.Path.{◌≡◌, refl, sym, ap, ◌∙◌}
use native.Mathlib.Omega.{arith}
use native.Mathlib.Nat.{pow-suc, pow-zero}
use lib.Pow.{shr-shr}

-- digit k, by quarters
unfoldable pub digit : ℕ → ℕ → ℕ
digit zero t = t % 4
digit (suc k) t = digit k (t / 4)

two_suc : (k : ℕ) → 2 * suc k ≡ 2 + 2 * k
two_suc k = omega arith

pub quarter : (k : ℕ) → 2 ^ (2 * suc k) ≡ 4 * 2 ^ (2 * k)
quarter k =
    let e : 2 * suc k ≡ suc (suc (2 * k)) = omega arith in
    ap (λ (x : ℕ). 2 ^ x) e ∙ omega (arith, pow-suc 2 (suc (2 * k)), pow-suc 2 (2 * k))

pub digit_is : (k t : ℕ) → t / 2 ^ (2 * k) % 4 ≡ digit k t
unfolding digit
digit_is zero t = omega (arith, pow-zero 2)
digit_is (suc k) t =
    ap (λ (x : ℕ). t / 2 ^ x % 4) (two_suc k) ∙ ap (λ (x : ℕ). x % 4) (sym (shr-shr t 2 (2 * k))) ∙ digit_is k (t / 4)

-- a quarter of the sum is the sum of a quarter
module _ (k t : ℕ) where
  pub quarter_sum : (t + 2 ^ (2 * suc k)) / 4 ≡ t / 4 + 2 ^ (2 * k)
  quarter_sum = omega (arith, quarter k)

  pub quarter_rest : (t + 2 ^ (2 * suc k)) % 4 ≡ t % 4
  quarter_rest = omega (arith, quarter k)

pub digit_same : (k t : ℕ) → digit k t < 3 → digit k (t + 2 ^ (2 * k)) ≡ digit k t + 1
unfolding digit
digit_same zero t h = omega (arith, pow-zero 2)
digit_same (suc k) t h = ap (digit k) (quarter_sum k t) ∙ digit_same k (t / 4) h

pub digit_other : (k j t : ℕ) → digit k t < 3 → (j ≡ k → ⊥) → digit j (t + 2 ^ (2 * k)) ≡ digit j t
unfolding digit
digit_other zero zero t h n = absurd (n refl)
digit_other zero (suc j) t h n =
    let e : (t + 2 ^ (2 * 0)) / 4 ≡ t / 4 = omega (arith, pow-zero 2) in
    ap (digit j) e
digit_other (suc k) zero t h n = quarter_rest k t
digit_other (suc k) (suc j) t h n = ap (digit j) (quarter_sum k t) ∙ digit_other k j (t / 4) h (λ q. n (ap suc q))

-- it stays below
pub digit_below : (n k t : ℕ) → t < 2 ^ (2 * n) → k < n → digit k t < 3 → t + 2 ^ (2 * k) < 2 ^ (2 * n)
unfolding digit
digit_below zero k t h l e = absurd (omega arith)
digit_below (suc n) zero t h l e = omega (arith, quarter n, pow-zero 2)
digit_below (suc n) (suc k) t h l e =
    let q = quarter n in
    let b = digit_below n k (t / 4) (omega arith) (omega arith) e in
    omega (arith, quarter k)
