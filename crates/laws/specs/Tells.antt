-- Say what is broken: once over all rows. A class has no offending address exactly if its rules hold; the address told offends, and none lower does.
-- Assumes nothing.
use Rattle.std.specs.Prelude.{◌≡◌, refl, ◌≢◌, ◌⊎◌, Bool, true, false, List, [], ◌∷◌, ◌++◌, ℕ, min, ◌≤◌}
use Rattle.std.proofs.Common.{◌∙◌, inl, inr, arith}
use Rattle.model.specs.Rule.{Rule, holds}
use Rattle.model.specs.Lists.{count}
use Rattle.model.specs.Tell.{Row, broken, offending, offending_in, least, Class, tell, first}
use Rattle.model.specs.Tell.Row.{tells}
use Rattle.model.specs.Told.{Finding}
use Rattle.model.specs.Told.Finding.{Nothing, WrongLength, Broken}
use Rattle.model.specs.Tell.Class.{class}
use Rattle.laws.specs.Count.{hit_self, hit_other, hit_or}
use Rattle.laws.specs.Rules.{Meant, sound, complete}

-- what a class says
abbrev pub Means : List Row → Type 0
Means [] = Unit {0}
Means (tells xs a r ∷ t) = ((z : ℕ) → 1 ≤ count z xs → Meant (r z)) × Means t

-- ---- one row
broken_on : (a : ℕ → ℕ) (r : ℕ → Rule) (x : ℕ) (xs : List ℕ) → holds (r x) ≡ true → broken a r (x ∷ xs) ≡ broken a r xs
unfolding broken
broken_on a r x xs h = rw (h, broken)

broken_off : (a : ℕ → ℕ) (r : ℕ → Rule) (x : ℕ) (xs : List ℕ) → holds (r x) ≡ false → broken a r (x ∷ xs) ≡ a x ∷ broken a r xs
unfolding broken
broken_off a r x xs h = rw (h, broken)

broken_nil : (a : ℕ → ℕ) (r : ℕ → Rule) → broken a r [] ≡ []
unfolding broken
broken_nil a r = refl

-- who breaks the rule, and tells b
pub record Breaks (a : ℕ → ℕ) (r : ℕ → Rule) (xs : List ℕ) (b : ℕ) : Type 0 where
  pub who : ℕ
  pub here : 1 ≤ count who xs
  pub fails : holds (r who) ≡ false
  pub tells : b ≡ a who

pub breaks_of : (a : ℕ → ℕ) (r : ℕ → Rule) (xs : List ℕ) (b : ℕ) → 1 ≤ count b (broken a r xs) → Breaks a r xs b
breaks_of a r [] b h = absurd (let e = rw (broken_nil a r) at h in omega arith)
breaks_of a r (x ∷ xs) b h = go (holds (r x)) refl (breaks_of a r xs b)
  where
    up : Breaks a r xs b → Breaks a r (x ∷ xs) b
    up t = record { who = t.who; here = omega (arith, t.here); fails = t.fails; tells = t.tells }

    go : (c : Bool) → holds (r x) ≡ c → (1 ≤ count b (broken a r xs) → Breaks a r xs b) → Breaks a r (x ∷ xs) b
    go true e ih = up (ih (rw (broken_on a r x xs e) at h))
    go false e ih = pick (hit_or b (a x)) (rw (broken_off a r x xs e) at h)
      where
        pick : (b ≡ a x) ⊎ (b ≢ a x) → 1 ≤ count b (a x ∷ broken a r xs) → Breaks a r (x ∷ xs) b
        pick (inl q) j = record { who = x; here = omega (arith, hit_self x); fails = e; tells = q }
        pick (inr n) j = up (ih (omega (arith, hit_other b (a x) n)))

pub of_breaks : (a : ℕ → ℕ) (r : ℕ → Rule) (xs : List ℕ) (b : ℕ) → Breaks a r xs b → 1 ≤ count b (broken a r xs)
of_breaks a r [] b t = absurd (omega (arith, t.here))
of_breaks a r (x ∷ xs) b t = go (holds (r x)) refl (hit_or t.who x) (of_breaks a r xs b)
  where
    down : t.who ≢ x → Breaks a r xs b
    down n = record { who = t.who; here = omega (arith, t.here, hit_other t.who x n); fails = t.fails; tells = t.tells }

    go : (c : Bool) → holds (r x) ≡ c → (t.who ≡ x) ⊎ (t.who ≢ x) → (Breaks a r xs b → 1 ≤ count b (broken a r xs)) → 1 ≤ count b (broken a r (x ∷ xs))
    go true e (inl q) ih = let f = rw q at t.fails in let z : ◌≡◌ {A = ℕ} 0 1 = cc in absurd (omega arith)
    go true e (inr n) ih = rw (broken_on a r x xs e) (ih (down n))
    go false e (inl q) ih = let f : b ≡ a x = rw q at t.tells in rw (broken_off a r x xs e, f) (omega (arith, hit_self (a x)))
    go false e (inr n) ih = rw (broken_off a r x xs e) (omega (arith, ih (down n)))

no_first : (x : ℕ) (xs : List ℕ) → x ∷ xs ≡ [] → ⊥
no_first x xs e = let z : ◌≡◌ {A = ℕ} 0 1 = cc in omega arith

row_means : (a : ℕ → ℕ) (r : ℕ → Rule) (xs : List ℕ) → broken a r xs ≡ [] → (z : ℕ) → 1 ≤ count z xs → Meant (r z)
row_means a r xs e z h = go (holds (r z)) refl
  where
    go : (c : Bool) → holds (r z) ≡ c → Meant (r z)
    go true f = sound (r z) f
    go false f =
        let i = of_breaks a r xs (a z) (record { who = z; here = h; fails = f; tells = refl }) in
        let j = rw e at i in absurd (omega arith)

means_row : (a : ℕ → ℕ) (r : ℕ → Rule) (xs : List ℕ) → ((z : ℕ) → 1 ≤ count z xs → Meant (r z)) → broken a r xs ≡ []
means_row a r [] h = broken_nil a r
means_row a r (x ∷ xs) h = broken_on a r x xs (complete (r x) (h x (omega (arith, hit_self x)))) ∙ means_row a r xs (λ z i. h z (omega arith))

-- ---- a class
append_nil : (xs ys : List ℕ) → xs ++ ys ≡ [] → (xs ≡ []) × (ys ≡ [])
append_nil [] ys e = (refl, e)
append_nil (x ∷ xs) ys e = absurd (no_first x (xs ++ ys) e)

pub clear_means : (t : List Row) → offending t ≡ [] → Means t
unfolding offending
clear_means [] e = tt
clear_means (tells xs a r ∷ t) e = let p = append_nil (broken a r xs) (offending t) e in (row_means a r xs p.0, clear_means t p.1)

pub means_clear : (t : List Row) → Means t → offending t ≡ []
unfolding offending
means_clear [] h = refl
means_clear (tells xs a r ∷ t) h = rw (means_row a r xs h.0, means_clear t h.1)

-- a class is sentences
abbrev pub MeansIn : List (List Row) → Type 0
MeansIn [] = Unit {0}
MeansIn (s ∷ ss) = Means s × MeansIn ss

pub clear_means_in : (ss : List (List Row)) → offending_in ss ≡ [] → MeansIn ss
unfolding offending_in
clear_means_in [] e = tt
clear_means_in (s ∷ ss) e = let p = append_nil (offending s) (offending_in ss) e in (clear_means s p.0, clear_means_in ss p.1)

pub means_clear_in : (ss : List (List Row)) → MeansIn ss → offending_in ss ≡ []
unfolding offending_in
means_clear_in [] h = refl
means_clear_in (s ∷ ss) h = rw (means_clear s h.0, means_clear_in ss h.1)

-- ---- the lowest
pub least_low : (a : ℕ) (bs : List ℕ) → least a bs ≤ a
unfolding least
least_low a [] = omega arith
least_low a (b ∷ bs) = omega (arith, least_low (min a b) bs)

pub least_none : (a : ℕ) (bs : List ℕ) (c : ℕ) → 1 ≤ count c (a ∷ bs) → least a bs ≤ c
unfolding least
least_none a [] c h = go (hit_or c a)
  where
    go : (c ≡ a) ⊎ (c ≢ a) → a ≤ c
    go (inl e) = omega arith
    go (inr n) = absurd (omega (arith, hit_other c a n))
least_none a (b ∷ bs) c h = go (hit_or c a) (hit_or c b) (least_none (min a b) bs c)
  where
    go : (c ≡ a) ⊎ (c ≢ a) → (c ≡ b) ⊎ (c ≢ b) → (1 ≤ count c (min a b ∷ bs) → least (min a b) bs ≤ c) → least (min a b) bs ≤ c
    go (inl e) f ih = omega (arith, least_low (min a b) bs)
    go (inr e) (inl f) ih = omega (arith, least_low (min a b) bs)
    go (inr e) (inr f) ih = ih (omega (arith, hit_other c a e, hit_other c b f))

pub least_in : (a : ℕ) (bs : List ℕ) → 1 ≤ count (least a bs) (a ∷ bs)
unfolding least
least_in a [] = omega (arith, hit_self a)
least_in a (b ∷ bs) = go (hit_or (least (min a b) bs) (min a b)) (hit_or (min a b) a) (least_in (min a b) bs)
  where
    go : (least (min a b) bs ≡ min a b) ⊎ (least (min a b) bs ≢ min a b) → (min a b ≡ a) ⊎ (min a b ≢ a)
        → 1 ≤ count (least (min a b) bs) (min a b ∷ bs) → 1 ≤ count (least (min a b) bs) (a ∷ b ∷ bs)
    go (inl e) (inl f) i = let g : least (min a b) bs ≡ a = e ∙ f in rw g (omega (arith, hit_self a))
    go (inl e) (inr f) i = let g : least (min a b) bs ≡ b = omega arith in rw g (omega (arith, hit_self b))
    go (inr e) f i = omega (arith, hit_other (least (min a b) bs) (min a b) e)

-- ---- what is told: its class has it, and nothing lower, and the classes before have nothing
pub data Tells : List Class → ℕ → ℕ → Type 0 where
  now : {n a : ℕ} {ss : List (List Row)} {cs : List Class} → 1 ≤ count a (offending_in ss)
      → ((b : ℕ) → 1 ≤ count b (offending_in ss) → a ≤ b) → Tells (class n ss ∷ cs) n a
  later : {n a k : ℕ} {ss : List (List Row)} {cs : List Class} → offending_in ss ≡ [] → Tells cs n a → Tells (class k ss ∷ cs) n a

abbrev pub Clear : List Class → Type 0
Clear [] = Unit {0}
Clear (class n ss ∷ cs) = (offending_in ss ≡ []) × Clear cs

tell_nil : (n : ℕ) (t : Finding) (l : List ℕ) → l ≡ [] → tell n l t ≡ t
unfolding tell
tell_nil n t [] e = refl
tell_nil n t (a ∷ bs) e = absurd (no_first a bs e)

tell_cons : (n a : ℕ) (bs : List ℕ) (t : Finding) (l : List ℕ) → l ≡ a ∷ bs → tell n l t ≡ Broken n (least a bs)
unfolding tell
tell_cons n a bs t l e = rw e

-- exactly one of the two
pub data Said (cs : List Class) : Finding → Type 0 where
  clear : Clear cs → Said cs Nothing
  says : {n a : ℕ} → Tells cs n a → Said cs (Broken n a)

pub first_said : (cs : List Class) → Said cs (first cs)
unfolding first
first_said [] = clear tt
first_said (class n ss ∷ cs) = go (offending_in ss) refl (first_said cs)
  where
    up : {o : Finding} → offending_in ss ≡ [] → Said cs o → Said (class n ss ∷ cs) o
    up e (clear c) = clear (e, c)
    up e (says x) = says (later e x)

    go : (l : List ℕ) → offending_in ss ≡ l → Said cs (first cs) → Said (class n ss ∷ cs) (tell n (offending_in ss) (first cs))
    go [] e s = rw (tell_nil n (first cs) (offending_in ss) e) (up e s)
    go (a ∷ bs) e s =
        rw (tell_cons n a bs (first cs) (offending_in ss) e)
        (says (now {a = least a bs} {ss = ss} (rw e (least_in a bs)) (λ b i. least_none a bs b (rw e at i))))

pub first_clear : (cs : List Class) → Clear cs → first cs ≡ Nothing
unfolding first
first_clear [] c = refl
first_clear (class n ss ∷ cs) c = tell_nil n (first cs) (offending_in ss) c.0 ∙ first_clear cs c.1

pub clear_first : (cs : List Class) → first cs ≡ Nothing → Clear cs
clear_first cs e = go (first cs) e (first_said cs)
  where
    go : (o : Finding) → o ≡ Nothing → Said cs o → Clear cs
    go Nothing e (clear c) = c
    go WrongLength e s = elim s [ ]
    go (Broken n a) e s = let z : ◌≡◌ {A = ℕ} 0 1 = cc in absurd (omega arith)
