-- Well-formed: what a rule of the judge says, and that it holds exactly if that is true. Assumes nothing.
use Rattle.std.specs.Prelude.{◌≡◌, refl, ◌≢◌, ◌⊎◌, Bool, true, false, not, List, [], ◌∷◌, ℕ, zero, suc, ◌≤◌, ◌<◌, eqb, leb}
use Rattle.std.proofs.Common.{sym, ◌∙◌, inl, inr, arith, eqb-true, eq-eqb, ne_eqb, leb-true, le-leb}
use Rattle.std.proofs.lemmas.Bool.{eqb-false}
use Rattle.model.specs.Rule.{Rule, same, most, never, both, each, below, when_same, unless_same, when_most, all, every, holds}
use Rattle.model.specs.Lists.{count}
use Rattle.laws.specs.Count.{hit_self, hit_other, hit_or}

abbrev pub Meant : Rule → Type 0
Meant (same x y) = x ≡ y
Meant (most x y) = x ≤ y
Meant (never b) = b ≡ false
Meant (both r s) = Meant r × Meant s
Meant (each xs f) = (z : ℕ) → 1 ≤ count z xs → Meant (f z)
Meant (below n f) = (i : ℕ) → i < n → Meant (f i)
Meant (when_same x y r) = x ≡ y → Meant r
Meant (unless_same x y r) = x ≢ y → Meant r
Meant (when_most x y r) = x ≤ y → Meant r

-- ---- the tests over lists and ranges
all_on : (f : ℕ → Bool) (x : ℕ) (xs : List ℕ) → f x ≡ true → all f (x ∷ xs) ≡ all f xs
unfolding all
all_on f x xs h = rw (h, all)

all_off : (f : ℕ → Bool) (x : ℕ) (xs : List ℕ) → f x ≡ false → all f (x ∷ xs) ≡ false
unfolding all
all_off f x xs h = rw (h, all)

all_head : (f : ℕ → Bool) (x : ℕ) (xs : List ℕ) → all f (x ∷ xs) ≡ true → (f x ≡ true) × (all f xs ≡ true)
all_head f x xs e = go (f x) refl
  where
    go : (b : Bool) → f x ≡ b → (f x ≡ true) × (all f xs ≡ true)
    go true h = (h, sym (all_on f x xs h) ∙ e)
    go false h = let z : true ≡ false = sym e ∙ all_off f x xs h in (cc, cc)

pub all_at : (f : ℕ → Bool) (xs : List ℕ) → all f xs ≡ true → (z : ℕ) → 1 ≤ count z xs → f z ≡ true
all_at f [] e z h = absurd (omega arith)
all_at f (x ∷ xs) e z h = let p = all_head f x xs e in go (hit_or z x) (all_at f xs p.1 z)
  where
    go : (z ≡ x) ⊎ (z ≢ x) → (1 ≤ count z xs → f z ≡ true) → f z ≡ true
    go (inl q) ih = rw q (all_head f x xs e).0
    go (inr n) ih = ih (omega (arith, hit_other z x n))

all_nil : (f : ℕ → Bool) → all f [] ≡ true
unfolding all
all_nil f = refl

pub all_of : (f : ℕ → Bool) (xs : List ℕ) → ((z : ℕ) → 1 ≤ count z xs → f z ≡ true) → all f xs ≡ true
all_of f [] h = all_nil f
all_of f (x ∷ xs) h = all_on f x xs (h x (omega (arith, hit_self x))) ∙ all_of f xs (λ z i. h z (omega arith))

every_on : (f : ℕ → Bool) (n : ℕ) → f n ≡ true → every f (suc n) ≡ every f n
unfolding every
every_on f n h = rw (h, every)

every_off : (f : ℕ → Bool) (n : ℕ) → f n ≡ false → every f (suc n) ≡ false
unfolding every
every_off f n h = rw (h, every)

every_head : (f : ℕ → Bool) (n : ℕ) → every f (suc n) ≡ true → (f n ≡ true) × (every f n ≡ true)
every_head f n e = go (f n) refl
  where
    go : (b : Bool) → f n ≡ b → (f n ≡ true) × (every f n ≡ true)
    go true h = (h, sym (every_on f n h) ∙ e)
    go false h = let z : true ≡ false = sym e ∙ every_off f n h in (cc, cc)

pub every_at : (f : ℕ → Bool) (n : ℕ) → every f n ≡ true → (i : ℕ) → i < n → f i ≡ true
every_at f zero e i h = absurd (omega arith)
every_at f (suc n) e i h = let p = every_head f n e in go (hit_or i n) (every_at f n p.1 i)
  where
    go : (i ≡ n) ⊎ (i ≢ n) → (i < n → f i ≡ true) → f i ≡ true
    go (inl q) ih = rw q (every_head f n e).0
    go (inr d) ih = ih (omega arith)

every_zero : (f : ℕ → Bool) → every f 0 ≡ true
unfolding every
every_zero f = refl

pub every_of : (f : ℕ → Bool) (n : ℕ) → ((i : ℕ) → i < n → f i ≡ true) → every f n ≡ true
every_of f zero h = every_zero f
every_of f (suc n) h = every_on f n (h n (omega arith)) ∙ every_of f n (λ i l. h i (omega arith))

-- ---- a rule that holds is true
not_true : (b : Bool) → not b ≡ true → b ≡ false
not_true true e = cc
not_true false e = refl

not_false : (b : Bool) → b ≡ false → not b ≡ true
not_false true e = cc
not_false false e = refl

-- the two arms of a test
if_true : (b c : Bool) → elim b [ true ↦ c | false ↦ false ] ≡ true → (b ≡ true) × (c ≡ true)
if_true true c e = (refl, e)
if_true false c e = (cc, cc)

true_if : (b c : Bool) → b ≡ true → c ≡ true → elim b [ true ↦ c | false ↦ false ] ≡ true
true_if true c e f = f
true_if false c e f = cc

then_true : (b c : Bool) → elim b [ true ↦ c | false ↦ true ] ≡ true → b ≡ true → c ≡ true
then_true true c e h = e
then_true false c e h = cc

true_then : (b c : Bool) → (b ≡ true → c ≡ true) → elim b [ true ↦ c | false ↦ true ] ≡ true
true_then true c h = h refl
true_then false c h = refl

else_true : (b c : Bool) → elim b [ true ↦ true | false ↦ c ] ≡ true → b ≡ false → c ≡ true
else_true true c e h = cc
else_true false c e h = e

true_else : (b c : Bool) → (b ≡ false → c ≡ true) → elim b [ true ↦ true | false ↦ c ] ≡ true
true_else true c h = refl
true_else false c h = h refl

pub sound : (r : Rule) → holds r ≡ true → Meant r
unfolding holds
sound (same x y) e = eqb-true x y e
sound (most x y) e = leb-true x y e
sound (never b) e = not_true b e
sound (both r s) e = let p = if_true (holds r) (holds s) e in (sound r p.0, sound s p.1)
sound (each xs f) e = λ z h. sound (f z) (all_at (λ z. holds (f z)) xs e z h)
sound (below n f) e = λ i h. sound (f i) (every_at (λ i. holds (f i)) n e i h)
sound (when_same x y r) e = λ h. sound r (then_true (eqb x y) (holds r) e (eq-eqb x y h))
sound (unless_same x y r) e = λ h. sound r (else_true (eqb x y) (holds r) e (ne_eqb x y h))
sound (when_most x y r) e = λ h. sound r (then_true (leb x y) (holds r) e (le-leb x y h))

pub complete : (r : Rule) → Meant r → holds r ≡ true
unfolding holds
complete (same x y) t = eq-eqb x y t
complete (most x y) t = le-leb x y t
complete (never b) t = not_false b t
complete (both r s) t = true_if (holds r) (holds s) (complete r t.0) (complete s t.1)
complete (each xs f) t = all_of (λ z. holds (f z)) xs (λ z h. complete (f z) (t z h))
complete (below n f) t = every_of (λ i. holds (f i)) n (λ i h. complete (f i) (t i h))
complete (when_same x y r) t = true_then (eqb x y) (holds r) (λ e. complete r (t (eqb-true x y e)))
complete (unless_same x y r) t = true_else (eqb x y) (holds r) (λ e. complete r (t (eqb-false x y e)))
complete (when_most x y r) t = true_then (leb x y) (holds r) (λ e. complete r (t (leb-true x y e)))
