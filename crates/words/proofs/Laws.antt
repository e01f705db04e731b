-- What the loops over words come to: a chain that tests, a turn of the loop that copies, and what is left of a memory of which a part was filled.
use Prim.Native.Nat.{ℕ, zero, suc, ◌+◌, ◌-◌, ◌≤◌, ◌<◌}
use mathlib.Core.Path.{◌≡◌, refl, sym, ap, ◌∙◌}
use mathlib.Core.Bool.{Bool, true, false, not}
use mathlib.Core.List.{List, [], ◌∷◌, ◌++◌}
use native.Mathlib.Omega.{arith}
use Rattle.std.specs.List.{list_all, range_with_len}
use Rattle.std.specs.Prelude.{◌&&◌, take, drop, length, set, replicate}
use Rattle.std.proofs.Common.{length-set}
use Rattle.std.proofs.Math.Nat.{mod-eq_of_lt}
use Rattle.std.proofs.lemmas.List.{take-set-le, drop-set, drop-drop, take-append-drop}
use Rattle.std.proofs.lemmas.List.Folds.{list_all-append}
use borrow.Rule.Slice.PartMut.{put_mid}
use Rattle.model.specs.Address as Address
use Rattle.model.specs.Address.{wrapped, guarded, clear}
use Rattle.model.specs.Bytes.{Memory, at, write, copy, zeroed}

-- the first n + 1 numbers from a on are the first n and a + n
more_numbers : (a n b : ℕ) → b ≡ a + n → range_with_len a (suc n) ≡ range_with_len a n ++ b ∷ []
more_numbers a zero b e = let s : b ≡ a = omega arith in rw s
more_numbers a (suc n) b e = ap (λ xs. a ∷ xs) (more_numbers (a + 1) n b (omega arith))

abbrev pub free : ℕ → ℕ → Bool
free a i = not (guarded (wrapped a i))

both_ways : (b c : Bool) → (c && (not b && true)) ≡ elim b [ true ↦ false | false ↦ c ]
both_ways true true = refl
both_ways true false = refl
both_ways false true = refl
both_ways false false = refl

clear_list : (n a : ℕ) → list_all (free a) (range_with_len 0 n) ≡ clear n a
unfolding Address.clear
clear_list zero a = refl
clear_list (suc n) a =
    ap (list_all (free a)) (more_numbers 0 n n (omega arith))
    ∙ list_all-append (free a) (range_with_len 0 n) (n ∷ [])
    ∙ ap (λ c. c && (not (guarded (wrapped a n)) && true)) (clear_list n a)
    ∙ both_ways (guarded (wrapped a n)) (clear n a)

pub clear_all : (n a : ℕ) (r : Bool) → r ≡ list_all (free a) (range_with_len 0 n) → r ≡ clear n a
clear_all n a r e = e ∙ clear_list n a

copy_more : (i j : ℕ) (m : Memory) (a b : ℕ) → i ≡ j + 1 → copy i m a b ≡ copy j (write m b (at m a)) (wrapped a 1) (wrapped b 1)
unfolding Address.copy
copy_more zero j m a b e = absurd (omega arith)
copy_more (suc i) j m a b e = let s : i ≡ j = omega arith in rw s

copy_none : (n : ℕ) (m : Memory) (a b : ℕ) → n ≡ 0 → m ≡ copy n m a b
unfolding Address.copy
copy_none zero m a b e = refl
copy_none (suc n) m a b e = absurd (omega arith)

-- a turn of the loop that copies, and its end: k words are copied
pub copy_on : (n k : ℕ) (m m₁ r : Memory) (a b v a₁ b₁ : ℕ) → copy (n - k) m a b ≡ r → k < n → v ≡ at m a → m₁ ≡ write m b v → a₁ ≡ wrapped a 1
    → b₁ ≡ wrapped b 1
    → copy (n - (k + 1)) m₁ a₁ b₁ ≡ r
copy_on n k m m₁ r a b v a₁ b₁ e l ev e₁ ea eb = rw (e₁, ev, ea, eb) (sym (copy_more (n - k) (n - (k + 1)) m a b (omega arith)) ∙ e)

pub copy_end : (n k : ℕ) (m r : Memory) (a b : ℕ) → copy (n - k) m a b ≡ r → n ≤ k → m ≡ r
copy_end n k m r a b e l = copy_none (n - k) m a b (omega arith) ∙ e

pub ruleset copied = (copy_on, copy_end)

zeros_on : (n : ℕ) (xs : List ℕ) → replicate n 0 ++ 0 ∷ xs ≡ 0 ∷ (replicate n 0 ++ xs)
zeros_on zero xs = refl
zeros_on (suc n) xs = ap (λ ys. 0 ∷ ys) (zeros_on n xs)

-- zeros in the place of a part
pub filled : (n : ℕ) (m : Memory) (a : ℕ) → a + n ≤ length m → length m ≡ 8192 → put_mid a n m (replicate n 0) ≡ zeroed n m a
unfolding Address.zeroed
filled zero m a l e = take-append-drop a m
filled (suc n) m a l e =
    let w : wrapped a n ≡ a + n = mod-eq_of_lt (omega arith) in
    let h : a + n < length m = omega arith in
    let front : take a (set m (a + n) 0) ≡ take a m = take-set-le a m (a + n) 0 (omega arith) in
    let next : drop (a + n + 1) m ≡ drop (suc n) (drop a m) =
    let k : a + n + 1 ≡ a + suc n = omega arith in ap (λ i. drop i m) k ∙ sym (drop-drop (suc n) a m) in
    let back : drop n (drop a (set m (a + n) 0)) ≡ 0 ∷ drop (suc n) (drop a m) =
    drop-drop n a (set m (a + n) 0) ∙ drop-set m (a + n) 0 h ∙ ap (λ xs. 0 ∷ xs) next in
    let left : put_mid a n (set m (a + n) 0) (replicate n 0) ≡ put_mid a (suc n) m (replicate (suc n) 0) =
    rw (front, back) (ap (λ xs. take a m ++ xs) (zeros_on n (drop (suc n) (drop a m)))) in
    sym left ∙ filled n (set m (a + n) 0) a (rw length-set (omega arith)) (rw length-set e) ∙ rw w
