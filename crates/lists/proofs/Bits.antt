-- Bits of a number: what adding a power of two does where its bit is 0.
use Prim.Native.Nat.{ℕ, zero, suc, ◌+◌, ◌/◌, ◌%◌, ◌^◌, ◌≤◌, ◌<◌}
use mathlib.Core.Path.{◌≡◌, refl, sym, ap, ◌∙◌}
use native.Mathlib.Omega.{arith}
use native.Mathlib.Nat.{pow-suc, pow-zero}
use native.Mathlib.Numerals.{one-add}
use lib.Pow.{shr-shr, pow_pos}

-- bit k, by halves
unfoldable pub bit : ℕ → ℕ → ℕ
bit zero b = b % 2
bit (suc k) b = bit k (b / 2)

pub bit_is : (k b : ℕ) → b / 2 ^ k % 2 ≡ bit k b
unfolding bit
bit_is zero b = omega (arith, pow-zero 2)
bit_is (suc k) b = ap (λ (x : ℕ). b / 2 ^ x % 2) (sym (one-add k)) ∙ ap (λ (x : ℕ). x % 2) (sym (shr-shr b 1 k)) ∙ bit_is k (b / 2)

pub bit_most : (k b : ℕ) → bit k b ≤ 1
unfolding bit
bit_most zero b = omega arith
bit_most (suc k) b = bit_most k (b / 2)

-- one bit more
pub bit_same : (k b : ℕ) → bit k b ≡ 0 → bit k (b + 2 ^ k) ≡ 1
unfolding bit
bit_same zero b e = omega (arith, pow-zero 2)
bit_same (suc k) b e =
    let h : (b + 2 ^ suc k) / 2 ≡ b / 2 + 2 ^ k = omega (arith, pow-suc 2 k) in
    ap (bit k) h ∙ bit_same k (b / 2) e

pub bit_other : (k j b : ℕ) → bit k b ≡ 0 → (j ≡ k → ⊥) → bit j (b + 2 ^ k) ≡ bit j b
unfolding bit
bit_other zero zero b e n = absurd (n refl)
bit_other zero (suc j) b e n =
    let h : (b + 2 ^ 0) / 2 ≡ b / 2 = omega (arith, pow-zero 2) in
    ap (bit j) h
bit_other (suc k) zero b e n = omega (arith, pow-suc 2 k)
bit_other (suc k) (suc j) b e n =
    let h : (b + 2 ^ suc k) / 2 ≡ b / 2 + 2 ^ k = omega (arith, pow-suc 2 k) in
    ap (bit j) h ∙ bit_other k j (b / 2) e (λ q. n (ap suc q))

-- it stays below
pub bit_below : (n k b : ℕ) → b < 2 ^ n → k < n → bit k b ≡ 0 → b + 2 ^ k < 2 ^ n
unfolding bit
bit_below zero k b h l e = absurd (omega arith)
bit_below (suc n) zero b h l e = omega (arith, pow-suc 2 n, pow-zero 2)
bit_below (suc n) (suc k) b h l e =
    let p = pow-suc 2 n in
    let q = bit_below n k (b / 2) (omega arith) (omega arith) e in
    omega (arith, pow-suc 2 k)

-- all bits of n
pub bit_ones : (n b : ℕ) → b < 2 ^ n → ((k : ℕ) → k < n → bit k b ≡ 1) → b + 1 ≡ 2 ^ n
unfolding bit
bit_ones zero b h f = omega (arith, pow-zero 2)
bit_ones (suc n) b h f =
    let p = pow-suc 2 n in
    let q = bit_ones n (b / 2) (omega arith) (λ k l. f (suc k) (omega arith)) in
    omega (arith, f 0 (omega arith))

pub ones_bit : (n b k : ℕ) → b + 1 ≡ 2 ^ n → k < n → bit k b ≡ 1
unfolding bit
ones_bit zero b k e l = absurd (omega arith)
ones_bit (suc n) b zero e l = omega (arith, pow-suc 2 n, pow_pos n)
ones_bit (suc n) b (suc k) e l = ones_bit n (b / 2) k (omega (arith, pow-suc 2 n, pow_pos n)) (omega arith)

-- numbers of n bits that have the same bits
pub bit_same_all : (n a b : ℕ) → a < 2 ^ n → b < 2 ^ n → ((k : ℕ) → k < n → bit k a ≡ bit k b) → a ≡ b
unfolding bit
bit_same_all zero a b h l f = omega (arith, pow-zero 2)
bit_same_all (suc n) a b h l f =
    let p = pow-suc 2 n in
    let q = bit_same_all n (a / 2) (b / 2) (omega arith) (omega arith) (λ k y. f (suc k) (omega arith)) in
    omega (arith, f 0 (omega arith))

-- how many of n bits are 1: at most all, and one bit more
unfoldable pub ones : ℕ → ℕ → ℕ
ones zero b = 0
ones (suc n) b = b % 2 + ones n (b / 2)

pub ones_most : (n b : ℕ) → ones n b ≤ n
unfolding ones
ones_most zero b = omega arith
ones_most (suc n) b = omega (arith, ones_most n (b / 2))

pub ones_more : (n k b : ℕ) → k < n → bit k b ≡ 0 → ones n (b + 2 ^ k) ≡ ones n b + 1
unfolding ones bit
ones_more zero k b l e = absurd (omega arith)
ones_more (suc n) zero b l e =
    let h : (b + 2 ^ 0) / 2 ≡ b / 2 = omega (arith, pow-zero 2) in
    omega (arith, pow-zero 2, ap (ones n) h)
ones_more (suc n) (suc k) b l e =
    let h : (b + 2 ^ suc k) / 2 ≡ b / 2 + 2 ^ k = omega (arith, pow-suc 2 k) in
    let r : (b + 2 ^ suc k) % 2 ≡ b % 2 = omega (arith, pow-suc 2 k) in
    omega (arith, r, ap (ones n) h, ones_more n k (b / 2) (omega arith) e)
