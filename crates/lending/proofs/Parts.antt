-- Laws of the parts that `settings` and `write` copy, a law for each way through the code.
use Prim.Native.Nat.{ℕ, ◌+◌, ◌-◌, ◌≤◌}
use native.Mathlib.Omega.{arith}
use mathlib.Core.Path.{◌≡◌}
use mathlib.Core.List.{List, ◌++◌}
use lib.ListN.{length, take, drop, length-drop}
use lib.Seq.{length-take-le, take-length, take_at}
use Rattle.model.specs.Told.{Answer}
use Rattle.model.specs.Told.{Writing}
use Rattle.model.specs.Answer.Outcome.{gives}
use Rattle.model.specs.Settings.{write_settings}
use Rattle.model.specs.Bytes.{from_settings}
use Rattle.lending.specs.Parts as Parts
use Rattle.lending.specs.Parts.{part, fresh_from, back, written_in}

part_long : (m : List ℕ) (a n : ℕ) → a + n ≤ length m → length (part m a n) ≡ n
part_long m a n h = length-take-le n (drop a m) (omega (arith, length-drop a m))

pub out_is : (m l l₁ : List ℕ) (a n : ℕ) → a + n ≤ length m
    → l₁ ≡ take (length (part m a (a + n - a))) (part m a (a + n - a)) ++ drop (length (part m a (a + n - a))) l
    → l₁ ≡ part m a n ++ drop n l
out_is m l l₁ a n h e =
    let z : a + n - a ≡ n = omega arith in
    let f = rw z at e in
    rw (take-length (part m a n), part_long m a n h) at f

-- a part that was copied to the front of l, and is lent from there
front_is : (m l f : List ℕ) (a n : ℕ) → a + n ≤ length m → f ≡ part m a n ++ drop n l → take (n - 0) (drop 0 f) ≡ part m a n
front_is m l f a n h e =
    let z : n - 0 ≡ n = omega arith in
    rw (z, e) (take_at (part m a n) (drop n l) n (part_long m a n h))

-- the first k words are lent: x is what becomes of them
pub fresh_is : (m l f x : List ℕ) (k a n : ℕ) (r : Answer) → a + n ≤ length m → f ≡ part m a n ++ drop n l
    → gives r x ≡ from_settings (take (k - 0) (drop 0 m)) (take (n - 0) (drop 0 f))
    → gives r (take 0 m ++ (x ++ drop (k - 0) (drop 0 m))) ≡ fresh_from m k a n
unfolding Parts.fresh_from
fresh_is m l f x k a n r h ef e =
    let z : k - 0 ≡ k = omega arith in
    let g = rw (z, front_is m l f a n h ef) at e in
    rw (z, ← g)

-- the buffer l becomes l₁, which is copied back
back_is : (m m₁ l l₁ : List ℕ) (a u b n : ℕ) (r : Writing) → gives r l₁ ≡ write_settings l u (part m b (b + n - b)) → m₁ ≡ Parts.with_part m a l₁
    → gives r m₁ ≡ back m a (write_settings l u (part m b n))
unfolding Parts.back
back_is m m₁ l l₁ a u b n r e e₁ =
    let z : b + n - b ≡ n = omega arith in
    let g = rw z at e in
    rw (← g, e₁)

written_in_lem : (m m₁ l f : List ℕ) (a k u b n : ℕ) (r : Writing) → a + k ≤ length m → f ≡ part m a k ++ drop k l
    → gives r m₁ ≡ back m a (write_settings (take (k - 0) (drop 0 f)) u (part m b n))
    → gives r m₁ ≡ written_in m a k u b n
unfolding Parts.written_in
written_in_lem m m₁ l f a k u b n r h ef e = rw (front_is m l f a k h ef) at e

pub written_is : (m m₁ l f l₁ : List ℕ) (a k u b n : ℕ) (r : Writing) → a + k ≤ length m → f ≡ part m a k ++ drop k l
    → gives r l₁ ≡ write_settings (take (k - 0) (drop 0 f)) u (part m b (b + n - b)) → m₁ ≡ Parts.with_part m a l₁ → gives r m₁ ≡ written_in m a k u b n
written_is m m₁ l f l₁ a k u b n r h ef e e₁ = written_in_lem m m₁ l f a k u b n r h ef (back_is m m₁ (take (k - 0) (drop 0 f)) l₁ a u b n r e e₁)

pub ruleset parts = (out_is, fresh_is, written_is)
