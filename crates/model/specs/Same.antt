-- `trees` is `bytes`: what is computed of the one holds of the other. By univalence: one path between the two records, and no
-- lemma for any function of the model. Assumes nothing.
use Rattle.std.specs.Prelude.{◌≡◌, refl, ◌⊎◌, Bool, true, false, List, [], ◌∷◌, ◌++◌, ℕ, zero, suc, ◌+◌, ◌-◌, ◌^◌, ◌≤◌, get_or, set, replicate, length, take, drop, ltb}
use Rattle.std.proofs.Common.{sym, ap, ◌∙◌, subst, inl, inr, suc-add, zero-add, arith, length-append, length-take, length-drop, take-append-drop, get_or-append-add, take_at, drop_at, ltb-true, ltb-false}
use Rattle.std.proofs.Math.Decide.{ℕ_discrete}
use Rattle.std.proofs.Math.ListN.{get_or-append}
use Rattle.std.proofs.lemmas.List.{replicate-append-replicate, set-append_left}
use std.Equiv.{◌≃◌, iso_to_equiv, id_equiv}
use std.Univalence.{equiv_j}
use Rattle.model.specs.Store.{Store, bytes, Tree, tget, tput, tzero, Odd, get_t, put_t, size_t, trees}

-- ---- any two stores that a map identifies are one
abbrev Alike : (A B : Store) → (A.M → B.M) → Type 0
Alike A B f = ((x : A.M) (a : ℕ) → A.get x a ≡ B.get (f x) a)
    × ((x : A.M) (a v : ℕ) → f (A.put x a v) ≡ B.put (f x) a v)
    × ((x : A.M) → A.size x ≡ B.size (f x))
    × (f A.zeros ≡ B.zeros)

abbrev Same : (B : Store) (X : Type 0) → X ≃ B.M → Type 1
Same B X e = (g : X → ℕ → ℕ) (p : X → ℕ → ℕ → X) (s : X → ℕ) (z : X)
    → Alike (record { M = X; get = g; put = p; size = s; zeros = z }) B e.0
    → ◌≡◌ {A = Store} (record { M = X; get = g; put = p; size = s; zeros = z }) B

same : (B : Store) {X : Type 0} (e : X ≃ B.M) → Same B X e
unfolding id_equiv
same B e =
    equiv_j (Same B) (λ g p s z h. λ i. record {
      M = B.M;
      get = λ x a. h.0 x a i;
      put = λ x a v. h.1 x a v i;
      size = λ x. h.2 x i;
      zeros = h.3 i;
    }) e

-- ---- a tree and its words
flat : (n : ℕ) → Tree n → List ℕ
flat zero x = x ∷ []
flat (suc n) t = flat n t.0 ++ flat n t.1

grow : (n : ℕ) → List ℕ → Tree n
grow zero l = get_or l 0 0
grow (suc n) l = (grow n (take (2 ^ n) l), grow n (drop (2 ^ n) l))

length_flat : (n : ℕ) (t : Tree n) → length (flat n t) ≡ 2 ^ n
unfolding flat
length_flat zero x = refl
length_flat (suc n) t = rw (length-append, length_flat n t.0, length_flat n t.1) (omega arith)

flat_grow : (n : ℕ) (l : List ℕ) → length l ≡ 2 ^ n → flat n (grow n l) ≡ l
unfolding flat grow
flat_grow zero [] h = absurd (omega arith)
flat_grow zero (x ∷ []) h = refl
flat_grow zero (x ∷ y ∷ l) h = absurd (omega arith)
flat_grow (suc n) l h =
    rw (flat_grow n (take (2 ^ n) l) (rw length-take (omega arith)), flat_grow n (drop (2 ^ n) l) (rw length-drop (omega arith)))
    (take-append-drop (2 ^ n) l)

grow_flat : (n : ℕ) (t : Tree n) → grow n (flat n t) ≡ t
unfolding flat grow
grow_flat zero x = refl
grow_flat (suc n) t =
    rw (
      take_at (flat n t.0) (flat n t.1) (2 ^ n) (length_flat n t.0),
      drop_at (flat n t.0) (flat n t.1) (2 ^ n) (length_flat n t.0),
      grow_flat n t.0,
      grow_flat n t.1,
    )

set_append_add : (xs ys : List ℕ) (n v : ℕ) → set (xs ++ ys) (length xs + n) v ≡ xs ++ set ys n v
set_append_add [] ys n v = rw zero-add
set_append_add (x ∷ xs) ys n v = rw (suc-add, set_append_add xs ys n v)

-- what lies behind the first half
get_d_past : (xs ys : List ℕ) (k a : ℕ) → length xs ≡ k → k ≤ a → get_or (xs ++ ys) a 0 ≡ get_or ys (a - k) 0
get_d_past xs ys k a e h = ap (λ (i : ℕ). get_or (xs ++ ys) i 0) (omega arith) ∙ get_or-append-add xs ys (a - k) 0

set_past : (xs ys : List ℕ) (k a v : ℕ) → length xs ≡ k → k ≤ a → set (xs ++ ys) a v ≡ xs ++ set ys (a - k) v
set_past xs ys k a v e h = ap (λ (i : ℕ). set (xs ++ ys) i v) (omega arith) ∙ set_append_add xs ys (a - k) v

tget_is : (n : ℕ) (t : Tree n) (a : ℕ) → tget n t a ≡ get_or (flat n t) a 0
unfolding tget flat
tget_is zero x zero = refl
tget_is zero x (suc a) = refl
tget_is (suc n) t a = go (ltb a (2 ^ n)) refl (tget_is n t.0 a) (tget_is n t.1 (a - 2 ^ n))
  where
    go : (b : Bool) → ltb a (2 ^ n) ≡ b → tget n t.0 a ≡ get_or (flat n t.0) a 0
        → tget n t.1 (a - 2 ^ n) ≡ get_or (flat n t.1) (a - 2 ^ n) 0
        → tget (suc n) t a ≡ get_or (flat n t.0 ++ flat n t.1) a 0
    go true e l r = rw (e, tget, get_or-append (flat n t.0) (flat n t.1) 0 a (omega (arith, ltb-true, length_flat n t.0))) l
    go false e l r = rw (e, tget, get_d_past (flat n t.0) (flat n t.1) (2 ^ n) a (length_flat n t.0) (ltb-false _ _ e)) r

tput_is : (n : ℕ) (t : Tree n) (a v : ℕ) → flat n (tput n t a v) ≡ set (flat n t) a v
unfolding tput flat
tput_is zero x zero v = refl
tput_is zero x (suc a) v = refl
tput_is (suc n) t a v = go (ltb a (2 ^ n)) refl (tput_is n t.0 a v) (tput_is n t.1 (a - 2 ^ n) v)
  where
    go : (b : Bool) → ltb a (2 ^ n) ≡ b → flat n (tput n t.0 a v) ≡ set (flat n t.0) a v
        → flat n (tput n t.1 (a - 2 ^ n) v) ≡ set (flat n t.1) (a - 2 ^ n) v
        → flat (suc n) (tput (suc n) t a v) ≡ set (flat n t.0 ++ flat n t.1) a v
    go true e l r = rw (e, tput, set-append_left (flat n t.0) (flat n t.1) a v (omega (arith, ltb-true, length_flat n t.0)), l)
    go false e l r = rw (e, tput, set_past (flat n t.0) (flat n t.1) (2 ^ n) a v (length_flat n t.0) (ltb-false _ _ e), r)

tzero_is : (n : ℕ) → flat n (tzero n) ≡ replicate (2 ^ n) 0
unfolding tzero flat
tzero_is zero = refl
tzero_is (suc n) = rw (tzero_is n, replicate-append-replicate) (let d : 2 ^ n + 2 ^ n ≡ 2 ^ suc n = omega arith in ap (λ (k : ℕ). replicate k 0) d)

-- ---- the two stores
back : Tree 13 ⊎ Odd → List ℕ
back (inl t) = flat 13 t
back (inr o) = o.0

forth_by : (l : List ℕ) → Dec (length l ≡ 8192) → Tree 13 ⊎ Odd
forth_by l (yes e) = inl (grow 13 l)
forth_by l (no n) = inr (l, n)

back_forth : (l : List ℕ) (d : Dec (length l ≡ 8192)) → back (forth_by l d) ≡ l
unfolding back forth_by
back_forth l (yes e) = flat_grow 13 l e
back_forth l (no n) = refl

forth_back : (x : Tree 13 ⊎ Odd) (d : Dec (length (back x) ≡ 8192)) → forth_by (back x) d ≡ x
unfolding back forth_by
forth_back (inl t) (yes e) = ap inl (grow_flat 13 t)
forth_back (inl t) (no n) = absurd (n (length_flat 13 t))
forth_back (inr o) (yes e) = absurd (o.1 e)
forth_back (inr o) (no n) = λ i. inr (o.0, λ e. absurd {A = n e ≡ o.1 e} (n e) i)

words : (Tree 13 ⊎ Odd) ≃ List ℕ
words = iso_to_equiv record { fun = back; inv = λ l. forth_by l (ℕ_discrete (length l) 8192); rinv = λ l. back_forth l _; linv = λ x. forth_back x _ }

alike_get : (x : Tree 13 ⊎ Odd) (a : ℕ) → get_t x a ≡ get_or (back x) a 0
unfolding get_t back
alike_get (inl t) a = tget_is 13 t a
alike_get (inr o) a = refl

alike_put : (x : Tree 13 ⊎ Odd) (a v : ℕ) → back (put_t x a v) ≡ set (back x) a v
unfolding put_t back
alike_put (inl t) a v = tput_is 13 t a v
alike_put (inr o) a v = refl

alike_size : (x : Tree 13 ⊎ Odd) → size_t x ≡ length (back x)
unfolding size_t back
alike_size (inl t) = sym (length_flat 13 t)
alike_size (inr o) = refl

alike_zeros : back (inl (tzero 13)) ≡ replicate 8192 0
unfolding back
alike_zeros = tzero_is 13

pub trees_is_bytes : trees ≡ bytes
unfolding trees words
trees_is_bytes = same bytes words get_t put_t size_t (inl (tzero 13)) (alike_get, alike_put, alike_size, alike_zeros)

-- a test that passes at `trees` passes at `bytes`
pub by_trees : (f : Store → Bool) → f trees ≡ true → f bytes ≡ true
by_trees f h = subst (λ (S : Store). f S ≡ true) trees_is_bytes h
