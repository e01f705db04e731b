-- Who runs: "On a change page 0's words are saved to the old page, then loaded from the new." What every word of the memory is afterwards. Assumes nothing.
use Rattle.std.specs.Prelude.{◌≡◌, ◌≢◌, ◌⊎◌, Bool, cond, ℕ, zero, suc, ◌+◌, ◌≤◌, ◌<◌, get_or, set, ltb}
use Rattle.std.proofs.Math.Path.{refl}
use Rattle.std.proofs.Common.{◌∙◌, inl, inr, arith, length-set, get_or-set_same, eq-eqb, ne_eqb, ltb-true, ltb-false}
use Rattle.std.proofs.Math.Bool.{true, false}
use mathlib.Core.List.{List, [], ◌∷◌}
use Rattle.std.proofs.Math.ListN.{length}
use Rattle.std.proofs.Math.Dec.{eqb}
use Rattle.std.proofs.lemmas.Bool.{eqb-false}
use Rattle.model.specs.Map as Map
use Rattle.model.specs.Map.{keeps, kept_count, memory_size, page_size, place, running_label, running_page, word_values, zero_place}
use Rattle.model.specs.Turn as Turn
use Rattle.model.specs.Turn.{nineteen}
use Rattle.model.specs.Bytes.{at, word, running, chosen, switch, who_runs, save, load, on_page0, kept_on, kept, restored}
use Rattle.laws.specs.Count.{hit_or}
use Rattle.laws.specs.Chain.{Page}
use Rattle.laws.specs.Frames.{other}
use Rattle.laws.specs.Words.{either}
use Rattle.laws.specs.Who.{zero_low, kept_size, restored_size, kept_frame, restored_frame}

-- ---- from m to m' the processor of page t runs in the place of that of page r; 0: nobody
pub record Turned (m m' : List ℕ) (r t : ℕ) : Type 0 where
  -- "24 running page (0: idle), 25 running priority and name (0: idle)"
  pub page : at m' running_page ≡ t
  pub tag : at m' running_label ≡ cond (eqb t 0) 0 (word m t Map.label)
  -- "page 0's words are saved to the old page"
  pub saved : r ≢ 0 → (i : ℕ) → i < kept_count → word m' r (keeps i) ≡ at m (zero_place i)
  -- "then loaded from the new"
  pub loaded : t ≢ 0 → (i : ℕ) → i < kept_count → at m' (zero_place i) ≡ word m t (keeps i)
  -- every other word is as it was
  pub others : (a : ℕ) → a ≢ running_page → a ≢ running_label → (r ≢ 0 → (i : ℕ) → i < kept_count → a ≢ place r (keeps i))
      → (t ≢ 0 → (i : ℕ) → i < kept_count → a ≢ zero_place i) → at m' a ≡ at m a

-- ---- nineteen words, each where it is said
pub kept_at : (n : ℕ) (m : List ℕ) (p : ℕ) (w : List ℕ) → length m ≡ memory_size → p < word_values → n ≤ kept_count → (i : ℕ) → i < n
    → word (kept n m p w) p (keeps i) ≡ get_or w i 0
unfolding Turn.kept
kept_at zero m p w z l u i h = absurd (omega arith)
kept_at (suc n) m p w z l u i h = go (hit_or i n) (kept_at n (set m (place p (keeps n)) (get_or w n 0)) p w (simp length-set z) l (omega arith) i)
  where
    go : (i ≡ n) ⊎ (i ≢ n) → (i < n → word (kept n (set m (place p (keeps n)) (get_or w n 0)) p w) p (keeps i) ≡ get_or w i 0)
        → word (kept n (set m (place p (keeps n)) (get_or w n 0)) p w) p (keeps i) ≡ get_or w i 0
    go (inl e) ih =
        rw e (kept_frame n (set m (place p (keeps n)) (get_or w n 0)) p w (place p (keeps n)) (λ j k. omega arith)
        ∙ get_or-set_same m (place p (keeps n)) (get_or w n 0) 0 (omega arith))
    go (inr e) ih = ih (omega arith)

zero_apart : (i j : ℕ) → i < j → zero_place j ≢ zero_place i
zero_apart i j h = go (ltb i 3) (ltb j 3) refl refl
  where
    go : (x y : Bool) → ltb i 3 ≡ x → ltb j 3 ≡ y → zero_place j ≢ zero_place i
    go true true e f = rw (e, f) (omega arith)
    go true false e f = let l = ltb-true i 3 e in let g = ltb-false j 3 f in rw (e, f) (omega arith)
    go false true e f = let l = ltb-false i 3 e in let g = ltb-true j 3 f in absurd (omega arith)
    go false false e f = rw (e, f) (omega arith)

restored_at : (n : ℕ) (m : List ℕ) (w : List ℕ) → length m ≡ memory_size → n ≤ kept_count → (i : ℕ) → i < n → at (restored n m w) (zero_place i) ≡ get_or w i 0
unfolding Turn.restored
restored_at zero m w z u i h = absurd (omega arith)
restored_at (suc n) m w z u i h = go (hit_or i n) (restored_at n (set m (zero_place n) (get_or w n 0)) w (simp length-set z) (omega arith) i)
  where
    go : (i ≡ n) ⊎ (i ≢ n) → (i < n → at (restored n (set m (zero_place n) (get_or w n 0)) w) (zero_place i) ≡ get_or w i 0)
        → at (restored n (set m (zero_place n) (get_or w n 0)) w) (zero_place i) ≡ get_or w i 0
    go (inl e) ih =
        let l = zero_low n (omega arith) in
        rw e (restored_frame n (set m (zero_place n) (get_or w n 0)) w (zero_place n) (λ j k. zero_apart j n k)
        ∙ get_or-set_same m (zero_place n) (get_or w n 0) 0 (omega arith))
    go (inr e) ih = ih (omega arith)

-- a list is f k, f (k + 1) and so on
abbrev Tabled : (ℕ → ℕ) → ℕ → List ℕ → Type 0
Tabled f k [] = Unit {0}
Tabled f k (x ∷ xs) = (x ≡ f k) × Tabled f (k + 1) xs

tabled_at : (f : ℕ → ℕ) (k : ℕ) (xs : List ℕ) → Tabled f k xs → (i : ℕ) → i < length xs → get_or xs i 0 ≡ f (k + i)
tabled_at f k [] t i h = absurd (omega arith)
tabled_at f k (x ∷ xs) t zero h = let e : k + 0 ≡ k = omega arith in rw e t.0
tabled_at f k (x ∷ xs) t (suc i) h =
    let e : k + 1 + i ≡ k + suc i = omega arith in
    rw e at (tabled_at f (k + 1) xs t.1 i (omega arith))

pub nineteen_at : (f : ℕ → ℕ) (i : ℕ) → i < kept_count → get_or (nineteen f) i 0 ≡ f i
nineteen_at f i h =
    let e : 0 + i ≡ i = omega arith in
    rw e at (tabled_at f 0 (nineteen f)
    (refl, (refl, (refl, (refl, (refl, (refl, (refl, (refl, (refl, (refl, (refl, (refl, (refl, (refl, (refl, (refl, (refl, (refl, (refl, tt)))))))))))))))))))
    i h)

-- ---- another runs, in the place of the processor of page r
module _ (m : List ℕ) (z : length m ≡ memory_size) (r t : ℕ) (old : r ≢ 0 → Page r) where
  abbrev m1 : List ℕ
  m1 = save m r

  abbrev m2 : List ℕ
  m2 = load m1 t

  abbrev tagged : ℕ
  tagged = cond (eqb t 0) 0 (word m2 t Map.label)

  abbrev pub turned_to : List ℕ
  turned_to = set (set m2 running_page t) running_label tagged

  size1 : length m1 ≡ memory_size
  unfolding Turn.save
  size1 = either (λ (x : List ℕ). length x ≡ memory_size) (eqb r 0) z (kept_size kept_count m r (on_page0 m) ∙ z)

  size2 : length m2 ≡ memory_size
  unfolding Turn.load
  size2 = either (λ (x : List ℕ). length x ≡ memory_size) (eqb t 0) size1 (restored_size kept_count m1 (kept_on m1 t) ∙ size1)

  -- a word that is not saved to, one that is not loaded to
  save_else : (a : ℕ) → (r ≢ 0 → (i : ℕ) → i < kept_count → a ≢ place r (keeps i)) → at m1 a ≡ at m a
  unfolding Turn.save
  save_else a f = go (eqb r 0) refl
    where
      go : (x : Bool) → eqb r 0 ≡ x → at (save m r) a ≡ at m a
      go true e = rw e
      go false e = rw e (kept_frame kept_count m r (on_page0 m) a (f (eqb-false r 0 e)))

  load_else : (a : ℕ) → (t ≢ 0 → (i : ℕ) → i < kept_count → a ≢ zero_place i) → at m2 a ≡ at m1 a
  unfolding Turn.load
  load_else a f = go (eqb t 0) refl
    where
      go : (x : Bool) → eqb t 0 ≡ x → at (load (save m r) t) a ≡ at (save m r) a
      go true e = rw e
      go false e = rw e (restored_frame kept_count (save m r) (kept_on (save m r) t) a (f (eqb-false t 0 e)))

  pub turned_page : at turned_to running_page ≡ t
  turned_page = other (set m2 running_page t) running_label tagged running_page (omega arith) ∙ get_or-set_same m2 running_page t 0 (omega (arith, size2))

  pub turned_saved : r ≢ 0 → (i : ℕ) → i < kept_count → word turned_to r (keeps i) ≡ at m (zero_place i)
  unfolding Turn.save Turn.on_page0
  turned_saved d i h =
      other (set m2 running_page t) running_label tagged (place r (keeps i)) (omega (arith, old d))
      ∙ other m2 running_page t (place r (keeps i)) (omega (arith, old d))
      ∙ load_else (place r (keeps i)) (λ c j k. omega (arith, old d, zero_low j k))
      ∙ rw (ne_eqb r 0 d) (kept_at kept_count m r (on_page0 m) z (omega (arith, old d)) (omega arith) i h ∙ nineteen_at (λ j. at m (zero_place j)) i h)

  pub turned_others : (a : ℕ) → a ≢ running_page → a ≢ running_label → (r ≢ 0 → (i : ℕ) → i < kept_count → a ≢ place r (keeps i))
      → (t ≢ 0 → (i : ℕ) → i < kept_count → a ≢ zero_place i) → at turned_to a ≡ at m a
  turned_others a n8 n9 f g =
      other (set m2 running_page t) running_label tagged a n9 ∙ other m2 running_page t a n8 ∙ load_else a g ∙ save_else a f

  module _ (new : t ≢ 0 → Page t) where
    -- a word of the new page
    new_word : t ≢ 0 → (k : ℕ) → k < page_size → (r ≢ 0 → (i : ℕ) → i < kept_count → place t k ≢ place r (keeps i)) → word m1 t k ≡ word m t k
    new_word d k l f = save_else (place t k) f

    turned_tag : at turned_to running_label ≡ cond (eqb t 0) 0 (word m t Map.label)
    turned_tag =
        get_or-set_same (set m2 running_page t) running_label tagged 0 (simp length-set (omega (arith, size2))) ∙ go (eqb t 0) refl
      where
        go : (x : Bool) → eqb t 0 ≡ x → cond x 0 (word m2 t Map.label) ≡ cond x 0 (word m t Map.label)
        go true e = refl
        go false e =
            let d = eqb-false t 0 e in
            load_else (place t Map.label) (λ c i h. omega (arith, new d, zero_low i h)) ∙ new_word d Map.label (omega arith) (λ c i h. omega arith)

    turned_loaded : r ≢ t → t ≢ 0 → (i : ℕ) → i < kept_count → at turned_to (zero_place i) ≡ word m t (keeps i)
    unfolding Turn.load Turn.kept_on
    turned_loaded apart d i h =
        let l = zero_low i h in
        other (set m2 running_page t) running_label tagged (zero_place i) (omega arith) ∙ other m2 running_page t (zero_place i) (omega arith)
        ∙ rw (ne_eqb t 0 d) (restored_at kept_count m1 (kept_on m1 t) size1 (omega arith) i h ∙ nineteen_at (λ j. word m1 t (keeps j)) i h)
        ∙ new_word d (keeps i) (omega arith) (λ c j k. omega arith)

    pub switch_turns : r ≢ t → Turned m (switch m r t) r t
    unfolding Turn.switch Turn.runs
    switch_turns apart = rw (ne_eqb r t apart) (record {
      page = turned_page;
      tag = turned_tag;
      saved = turned_saved;
      loaded = turned_loaded apart;
      others = turned_others;
    })

-- ---- "the running one stays": then nothing changes; else another runs
pub who_turns : (m : List ℕ) → length m ≡ memory_size → (running m ≢ 0 → Page (running m)) → (chosen m ≢ 0 → Page (chosen m))
    → (running m ≡ chosen m → who_runs m ≡ m) × (running m ≢ chosen m → Turned m (who_runs m) (running m) (chosen m))
unfolding Turn.who_runs Turn.switch
who_turns m z old new = (λ e. rw (eq-eqb (running m) (chosen m) e), λ d. switch_turns m z (running m) (chosen m) old new d)
