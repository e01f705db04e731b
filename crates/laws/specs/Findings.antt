-- Say what is broken: what is found of a memory, of whatever length and whatever it holds. "Together the five are given exactly where 21 was." Assumes nothing.
use Rattle.std.specs.Prelude.{◌≡◌, refl, ◌≢◌, ◌⊎◌, Bool, true, false, cond, List, [], ◌∷◌, ℕ, ◌≤◌, ◌<◌, length, eqb}
use Rattle.std.proofs.Common.{inl, inr, arith, eqb-true}
use Rattle.std.proofs.lemmas.Bool.{eqb-false}
use Rattle.model.specs.Told.{Finding}
use Rattle.model.specs.Told.Finding.{Nothing, WrongLength, Broken}
use Rattle.model.specs.Map.{memory_size, processor_list}
use Rattle.model.specs.Store.{bytes}
use Rattle.model.specs.Answer.{broken_pages, broken_waits, broken_records, broken_tables, broken_counters}
use Rattle.model.specs.Lists.{count}
use Rattle.model.specs.Tell.{Row, Class, offending_in}
use Rattle.model.specs.Tell.Class.{class}
use Rattle.model.specs.Classes as Classes
use Rattle.model.specs.Call as Call
use Rattle.model.specs.Bytes.{judged, finding, told_of}
use Rattle.laws.specs.Count.{hit_or}
use Rattle.laws.specs.Judged.{WellFormed}
use Rattle.laws.specs.Tells.{Tells, Said, first_said}
use Rattle.laws.specs.Tells.Said.{clear, says}
use Rattle.laws.specs.Tells.Tells.{now, later}
use Rattle.laws.specs.Met.{met}
use Rattle.laws.specs.Exactly.{judged_nothing, nothing_judged}
use Rattle.laws.specs.Addresses.{told_low}

-- the table of a memory, and the addresses that offend in the class of a number
abbrev pub table : List ℕ → List Class
table m = Classes.classes bytes m (met m processor_list) (met m)

abbrev pub sentences_of : ℕ → List Class → List (List Row)
sentences_of k [] = []
sentences_of k (class n ss ∷ cs) = cond (eqb k n) ss (sentences_of k cs)

abbrev pub offends_in : List ℕ → ℕ → List ℕ
offends_in m k = offending_in (sentences_of k (table m))

-- class k is told with address a
pub record Offends (m : List ℕ) (k a : ℕ) : Type 0 where
  -- it is one of five, and the address a word of the memory
  pub from : broken_pages ≤ k
  pub to : k ≤ broken_counters
  pub low : a < memory_size
  -- "the lowest offending address"
  pub here : 1 ≤ count a (offends_in m k)
  pub lowest : (b : ℕ) → 1 ≤ count b (offends_in m k) → a ≤ b
  -- "The classes are tried in that order"
  pub before : (j : ℕ) → broken_pages ≤ j → j < k → offends_in m j ≡ []

-- a class before another is one of four
before_last : (P : ℕ → Type 0) (j : ℕ) → broken_pages ≤ j → j < broken_counters → (j ≡ broken_pages → P broken_pages) → (j ≡ broken_waits → P broken_waits)
    → (j ≡ broken_records → P broken_records) → (j ≡ broken_tables → P broken_tables) → P j
before_last P j l u a b c d = go (hit_or j broken_pages) (hit_or j broken_waits) (hit_or j broken_records)
  where
    go : (j ≡ broken_pages) ⊎ (j ≢ broken_pages) → (j ≡ broken_waits) ⊎ (j ≢ broken_waits) → (j ≡ broken_records) ⊎ (j ≢ broken_records) → P j
    go (inl e) f g = rw e (a e)
    go (inr e) (inl f) g = rw f (b f)
    go (inr e) (inr f) (inl g) = rw g (c g)
    go (inr e) (inr f) (inr g) = let h : j ≡ broken_tables = omega arith in rw h (d h)

module _ (m : List ℕ) where
  abbrev none : ℕ → Type 0
  none j = offends_in m j ≡ []

  offends : {k a : ℕ} → a < memory_size → Tells (table m) k a → Offends m k a
  unfolding Classes.classes
  offends l (now i f) = record { from = omega arith; to = omega arith; low = l; here = i; lowest = f; before = λ j u v. absurd (omega arith) }
  offends l (later e (now i f)) = record {
    from = omega arith;
    to = omega arith;
    low = l;
    here = i;
    lowest = f;
    before = λ j u v. before_last none j u (omega arith) (λ w. e) (λ w. absurd (omega arith)) (λ w. absurd (omega arith)) (λ w. absurd (omega arith));
  }
  offends l (later e (later e1 (now i f))) = record {
    from = omega arith;
    to = omega arith;
    low = l;
    here = i;
    lowest = f;
    before = λ j u v. before_last none j u (omega arith) (λ w. e) (λ w. e1) (λ w. absurd (omega arith)) (λ w. absurd (omega arith));
  }
  offends l (later e (later e1 (later e2 (now i f)))) = record {
    from = omega arith;
    to = omega arith;
    low = l;
    here = i;
    lowest = f;
    before = λ j u v. before_last none j u (omega arith) (λ w. e) (λ w. e1) (λ w. e2) (λ w. absurd (omega arith));
  }
  offends l (later e (later e1 (later e2 (later e3 (now i f))))) = record {
    from = omega arith;
    to = omega arith;
    low = l;
    here = i;
    lowest = f;
    before = λ j u v. before_last none j u (omega arith) (λ w. e) (λ w. e1) (λ w. e2) (λ w. e3);
  }
  offends l (later e (later e1 (later e2 (later e3 (later e4 t))))) = elim t [ ]

-- ---- what is found, and what then is so
pub data Found (m : List ℕ) : Finding → Type 0 where
  nothing : WellFormed m → Found m Nothing
  wrong_length : length m ≢ memory_size → Found m WrongLength
  broken : (k a : ℕ) → length m ≡ memory_size → judged m ≡ false → Offends m k a → Found m (Broken k a)

said : (m : List ℕ) → Said (table m) (told_of m)
unfolding Classes.told_of
said m = first_said (table m)

sized : (m : List ℕ) → length m ≡ memory_size → Found m (told_of m)
sized m s = go (told_of m) refl (judged m) refl (said m)
  where
    go : (o : Finding) → told_of m ≡ o → (b : Bool) → judged m ≡ b → Said (table m) o → Found m o
    go Nothing e true j (clear t) = nothing (record { size = s; accepted = j })
    go Nothing e false j (clear t) = let g = nothing_judged m s e in let z : ◌≡◌ {A = ℕ} 0 1 = cc in absurd (omega arith)
    go WrongLength e b j t = elim t [ ]
    go (Broken k a) e true j (says t) = let g = judged_nothing m s j in let z : ◌≡◌ {A = ℕ} 0 1 = cc in absurd (omega arith)
    go (Broken k a) e false j (says t) = broken k a s j (offends m (told_low m k a e) t)

pub found : (m : List ℕ) → Found m (finding m)
unfolding Call.finding
found m = go (eqb (length m) memory_size) refl
  where
    go : (b : Bool) → eqb (length m) memory_size ≡ b → Found m (cond b (told_of m) WrongLength)
    go true e = sized m (eqb-true (length m) memory_size e)
    go false e = wrong_length (eqb-false (length m) memory_size e)

-- on a well-formed memory a call goes on
pub well_found : {m : List ℕ} → WellFormed m → finding m ≡ Nothing
well_found {m} w = go (finding m) (found m)
  where
    go : (o : Finding) → Found m o → o ≡ Nothing
    go Nothing (nothing v) = refl
    go WrongLength (wrong_length d) = absurd (d w.size)
    go (Broken k a) (broken _ _ s j t) = let f = w.accepted in let z : ◌≡◌ {A = ℕ} 0 1 = cc in absurd (omega arith)

-- and where a call goes on the memory is
pub found_well : {m : List ℕ} → finding m ≡ Nothing → WellFormed m
found_well {m} e = go (finding m) e (found m)
  where
    go : (o : Finding) → o ≡ Nothing → Found m o → WellFormed m
    go Nothing q (nothing w) = w
    go WrongLength q t = let z : ◌≡◌ {A = ℕ} 0 1 = cc in absurd (omega arith)
    go (Broken k a) q t = let z : ◌≡◌ {A = ℕ} 0 1 = cc in absurd (omega arith)

-- what is told is so
pub found_broken : {m : List ℕ} {k a : ℕ} → finding m ≡ Broken k a → (length m ≡ memory_size) × (judged m ≡ false) × Offends m k a
found_broken {m} {k} {a} e = go (finding m) e (found m)
  where
    go : (o : Finding) → o ≡ Broken k a → Found m o → (length m ≡ memory_size) × (judged m ≡ false) × Offends m k a
    go Nothing q t = let z : ◌≡◌ {A = ℕ} 0 1 = cc in absurd (omega arith)
    go WrongLength q t = let z : ◌≡◌ {A = ℕ} 0 1 = cc in absurd (omega arith)
    go (Broken j b) q (broken _ _ s f t) = let x : j ≡ k = cc in let y : b ≡ a = cc in (s, f, rw (x, y) at t)
