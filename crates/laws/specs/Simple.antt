-- Instructions: CVI, DVI, ST1, STP, ST2 and code 13 leave a well-formed memory, and so does setting registers. Before them the tests that instructions share:
-- a case picked from a list, the first that a test picks, a word that is not protected. Assumes nothing.
use Rattle.std.specs.Prelude.{◌≡◌, refl, ◌≢◌, ◌⊎◌, Bool, true, false, List, [], ◌∷◌, get_or, eqb, ltb, leb}
use Rattle.std.proofs.Common.{sym, ap, ◌∙◌, inl, inr, arith, eqb-true, ltb-true, ltb-false, leb-false, subst}
use Prim.Native.Nat.{ℕ, zero, suc, ◌+◌, ◌≤◌, ◌<◌}
use Rattle.model.specs.Map as Map
use Rattle.model.specs.Map.{all_codes, built_in_codes, code_word, guarded_end, guarded_from, guarded_last, guarded_to, high, high_lr, label, last_fault, low}
use Rattle.model.specs.Map.{low_lr, place, return_high, return_low, three_flags, topped, w_set, wait_bit, wait_in, word_a, word_s, zeros_in}
use Rattle.model.specs.Bytes.{running, store, word, page_of, is_named, set_code, set_registers_of}
use Rattle.model.specs.declared.Registers.{Registers}
use Rattle.model.specs.Address as Address
use Rattle.model.specs.Address.{guarded}
use Rattle.model.specs.Queue as Queue
use Rattle.model.specs.Queue.{first}
use Rattle.model.specs.Processor as Processor
use Rattle.model.specs.Instruction as Instruction
use Rattle.model.specs.Instruction.{absent, built_in, first_going, own}
use Rattle.model.specs.Operate as Operate
use Rattle.model.specs.Bytes as Model
use Rattle.model.specs.Lists.{count, Lists}
use Rattle.laws.specs.Count.{hit_self, hit_or}
use Rattle.laws.specs.Uses.{proc_page}
use Rattle.laws.specs.Inv.{View, Codes, Base}
use Rattle.laws.specs.Judged.{WellFormed, well_formed_lem, invariant}
use Rattle.laws.specs.Frames.{Kept, kept_refl, kept_set, base_kept, Quiet, quiet_low}
use Rattle.laws.specs.Views.{put1, put1_same, put1_other, with_code}
use Rattle.laws.specs.Stores.{code_mem}
use Rattle.laws.specs.Changes.{facts_code}
use Rattle.laws.specs.Who.{listed, busy}
use Rattle.laws.specs.Ways.{Faults, cvi_each, dvi_each, st2_each, thirteen_each, reaches_each}
use Rattle.laws.specs.Ends.{Fine, start_base, state_base, lr_kept, quiet_run, run_page, done_fine, jumps_fine, fault_fine}

-- ---- one of a list of things, by its number
abbrev pub Each : {A : Type 0} → (A → Type 0) → ℕ → ℕ → List A → Type 0
Each P c i [] = Unit {0}
Each P c i (x ∷ xs) = (c ≡ i → P x) × Each P c (suc i) xs

pub pick : {A : Type 0} (P : A → Type 0) (xs : List A) (d : A) (k c i : ℕ) → c ≡ i + k → Each P c i xs → P d → P (get_or xs k d)
pick P [] d k c i e h z = z
pick P (x ∷ xs) d zero c i e h z = h.0 (omega arith)
pick P (x ∷ xs) d (suc k) c i e h z = pick P xs d k c (suc i) (omega arith) h.1 z

-- ---- the first that a test picks, and a name on the list
pub first_yes : (f : ℕ → Bool) (z : ℕ) (zs : List ℕ) → f z ≡ true → first f (z ∷ zs) ≡ z
unfolding Queue.first
first_yes f z zs e = rw (e, Queue.first)

pub first_no : (f : ℕ → Bool) (z : ℕ) (zs : List ℕ) → f z ≡ false → first f (z ∷ zs) ≡ first f zs
unfolding Queue.first
first_no f z zs e = rw (e, Queue.first)

first_nil : (f : ℕ → Bool) → first f [] ≡ 0
unfolding Queue.first
first_nil f = refl

first_same : (f g : ℕ → Bool) (zs : List ℕ) → ((z : ℕ) → 1 ≤ count z zs → f z ≡ g z) → first f zs ≡ first g zs
first_same f g [] h = first_nil f ∙ sym (first_nil g)
first_same f g (z ∷ zs) h = go (g z) refl (h z (omega (arith, hit_self z))) (first_same f g zs (λ y i. h y (omega arith)))
  where
    go : (c : Bool) → g z ≡ c → f z ≡ g z → first f zs ≡ first g zs → first f (z ∷ zs) ≡ first g (z ∷ zs)
    go true e d ih = first_yes f z zs (d ∙ e) ∙ sym (first_yes g z zs e)
    go false e d ih = first_no f z zs (d ∙ e) ∙ ih ∙ sym (first_no g z zs e)

pub named_same : (m m1 : List ℕ) (n : ℕ) (zs : List ℕ) → ((z : ℕ) → 1 ≤ count z zs → word m1 z label ≡ word m z label)
    → first (is_named m1 n) zs ≡ first (is_named m n) zs
unfolding Processor.is_named
named_same m m1 n zs h = first_same (is_named m1 n) (is_named m n) zs (λ z i. rw (h z i))

pub first_in : (f : ℕ → Bool) (xs : List ℕ) → first f xs ≢ 0 → (1 ≤ count (first f xs) xs) × (f (first f xs) ≡ true)
unfolding Queue.first
first_in f [] n = absurd (n refl)
first_in f (x ∷ xs) n = go (f x) refl (first_in f xs)
  where
    go : (b : Bool) → f x ≡ b → (first f xs ≢ 0 → (1 ≤ count (first f xs) xs) × (f (first f xs) ≡ true))
        → (1 ≤ count (first f (x ∷ xs)) (x ∷ xs)) × (f (first f (x ∷ xs)) ≡ true)
    go true e ih = let k : first f (x ∷ xs) ≡ x = rw (e, Queue.first) in rw k (omega (arith, hit_self x), e)
    go false e ih =
        let k : first f (x ∷ xs) ≡ first f xs = rw (e, Queue.first) in
        let t = ih (rw k at n) in
        let P : ℕ → Type 0 = λ y. (1 ≤ count y (x ∷ xs)) × (f y ≡ true) in
        subst P (sym k) (omega (arith, t.0), t.1)

module _ {m : List ℕ} {ps : List ℕ} {L : Lists} {W : View} {hs : List ℕ} {g : ℕ} (b : Base m ps L W hs g) where
  pub named_in : (n : ℕ) → page_of m n ≢ 0 → 1 ≤ count (page_of m n) ps
  named_in n h = let l = listed b in rw l (first_in (is_named m n) ps (rw l at h)).0

-- ---- what an instruction may write
-- where an unprotected word stands
pub record Open (a : ℕ) : Type 0 where
  pub above : guarded_end ≤ a
  pub below : a < guarded_last
  pub between : (b : ℕ) → guarded_from ≤ b → b < guarded_to → a ≢ b

pub clear_open : (a : ℕ) → guarded a ≡ false → Open a
unfolding Address.guarded
clear_open a h = go (ltb a guarded_end) (ltb a guarded_from) (ltb a guarded_to) (leb guarded_last a) refl refl refl refl
  where
    go : (x y z t : Bool) → ltb a guarded_end ≡ x → ltb a guarded_from ≡ y → ltb a guarded_to ≡ z → leb guarded_last a ≡ t → Open a
    go true y z t e f i j = let c = rw e at h in let k : ◌≡◌ {A = ℕ} 0 1 = cc in absurd (omega arith)
    go false true z t e f i j =
        let l = ltb-false a guarded_end e in
        let u = ltb-true a guarded_from f in
        record { above = omega arith; below = omega arith; between = λ b c d. omega arith }
    go false false true t e f i j = let c = rw (e, f, i) at h in let k : ◌≡◌ {A = ℕ} 0 1 = cc in absurd (omega arith)
    go false false false true e f i j = let c = rw (e, f, i, j) at h in let k : ◌≡◌ {A = ℕ} 0 1 = cc in absurd (omega arith)
    go false false false false e f i j =
        let l = ltb-false a guarded_to i in
        let u = leb-false guarded_last a j in
        record { above = omega arith; below = omega arith; between = λ b c d. omega arith }

pub quiet_clear : (a : ℕ) → guarded a ≡ false → Quiet a
quiet_clear a h = let o = clear_open a h in record {
  fixed = λ b i j e. o.between b i j (sym e);
  words = λ p j k i. omega (arith, o.below);
  state = λ p k. omega (arith, o.below);
}

-- ---- page 8
codes_put : (c : ℕ → ℕ) (k v : ℕ) → first_going ≤ k → Map.top v ≤ own → Map.top v ≢ built_in → Codes c → Codes (put1 c k v)
codes_put c k v l u n h = record {
  kinds = λ i j. kinds i j (hit_or i k);
  zero = rw (put1_other c k v 0 (omega arith)) h.zero;
  one = rw (put1_other c k v 1 (omega arith)) h.one;
  last = last (hit_or built_in_codes k);
}
  where
    kinds : (i : ℕ) → i < all_codes → (i ≡ k) ⊎ (i ≢ k) → Map.top (put1 c k v i) ≤ own
    kinds i j (inl e) = rw (put1_same c k v i e) u
    kinds i j (inr d) = rw (put1_other c k v i d) (h.kinds i j)

    no : (x : ℕ) → x ≢ 1 → eqb x 1 ≡ false
    no x d = go (eqb x 1) refl
      where
        go : (b : Bool) → eqb x 1 ≡ b → eqb x 1 ≡ false
        go true e = absurd (d (eqb-true x 1 e))
        go false e = e

    last : (built_in_codes ≡ k) ⊎ (built_in_codes ≢ k) → eqb (Map.top (put1 c k v built_in_codes)) built_in ≡ false
    last (inl e) = rw (put1_same c k v built_in_codes e) (no (Map.top v) n)
    last (inr d) = rw (put1_other c k v built_in_codes d) h.last

pub code_base : {m : List ℕ} {ps : List ℕ} {L : Lists} {W : View} {hs : List ℕ} {g : ℕ} (c k a : ℕ) → first_going ≤ c → c < all_codes → (k ≡ absent) ⊎ (k ≡ own)
    → Base m ps L W hs g → Base (set_code m c k a) ps L (with_code W (put1 W.code c (topped k (high a)))) hs g
unfolding Instruction.set_code
code_base {W = W} c k a l u o b = record {
  mem = code_mem b.facts.sep b.mem c (topped k (high a)) (low a) u;
  facts = facts_code (put1 W.code c (topped k (high a))) (codes_put W.code c (topped k (high a)) l (top o) (kind o) b.facts.codes) b.facts;
  all = b.all;
}
  where
    top : (k ≡ absent) ⊎ (k ≡ own) → Map.top (topped k (high a)) ≤ own
    top (inl e) = omega arith
    top (inr e) = omega arith

    kind : (k ≡ absent) ⊎ (k ≡ own) → Map.top (topped k (high a)) ≢ built_in
    kind (inl e) = omega arith
    kind (inr e) = omega arith

-- ---- the instructions, of a well-formed memory where someone runs
module _ {m : List ℕ} (w : WellFormed m) (d : running m ≢ 0) where
  open busy w d use {base as b, runs as hr, ready}

  pub fails : (f : ℕ) → 1 ≤ f → f ≤ last_fault → Fine (Model.fault m f)
  fails f h j = fault_fine b f d h j

  pub bad : Faults m Fine
  bad = record { all = fails }

  -- what is quiet may change before the end
  pub kept_done : {m' : List ℕ} (n : ℕ) → Kept m m' → Fine (Model.done m' n)
  kept_done n k = done_fine (base_kept k b) n

  pub cvi_fine : (c a n : ℕ) → c < all_codes → Fine (Model.cvi m c a n)
  cvi_fine c a n l = cvi_each bad c a n (λ z.
      let k = b.facts.codes in
      let n0 : c ≢ 0 = λ q. (let t = ap (λ (y : ℕ). Map.top (get_or m (code_word y) 0)) q in omega (arith, k.zero)) in
      let n1 : c ≢ 1 = λ q. (let t = ap (λ (y : ℕ). Map.top (get_or m (code_word y) 0)) q in omega (arith, k.one)) in
      done_fine (code_base c own a (omega arith) l (inr refl) b) n)

  pub dvi_fine : (c n : ℕ) → c < all_codes → Fine (Model.dvi m c n)
  dvi_fine c n l = dvi_each bad c n (λ h. done_fine (code_base c 0 0 h l (inl refl) b) n)

  pub st2_fine : (n a len : ℕ) → Fine (Model.st2 m n a len)
  st2_fine n a len = st2_each bad n a len (λ g.
      let p = page_of m n in
      let h = named_in b n g.found in
      done_fine (start_base (base_kept (lr_kept m p a (λ z. proc_page b.facts.sep p h)) b) p h) len)

  -- ---- code 13
  reg : (k v : ℕ) (m' : List ℕ) → word_a ≤ k → k < Map.state → Kept m m' → Kept m (store m' (running m) k v)
  reg k v m' l u h = kept_set (place (running m) k) v (quiet_run (running m) k (run_page b) l (omega arith) (omega arith)) h

  worked_kept : (o a : ℕ) → guarded a ≡ false → Kept m (Model.worked m o a)
  unfolding Operate.worked Operate.adds Operate.stores_a Operate.ands Operate.increments
  worked_kept o a h =
      let q = quiet_clear a h in
      let k = kept_refl m in
      pick (Kept m) (Model.adds m a ∷ Model.stores_a m a ∷ Model.ands m a ∷ Model.increments m a ∷ []) m o o 0 (omega arith) (
        (λ e. reg high_lr _ _ (omega arith) (omega arith) (reg word_a _ m (omega arith) (omega arith) k)),
        (
          (λ e. reg word_a 0 _ (omega arith) (omega arith) (kept_set a _ q k)),
          ((λ e. reg word_a _ m (omega arith) (omega arith) k), ((λ e. kept_set a _ q k), tt)),
        ),
      ) k

  returns_kept : (n : ℕ) → Kept m (Model.return_to m n)
  unfolding Operate.return_to
  returns_kept n = kept_set return_low _ (quiet_low return_low (omega arith)) (kept_set return_high _ (quiet_low return_high (omega arith)) (kept_refl m))

  pub thirteen_fine : (x o a n : ℕ) → Fine (Model.thirteen m x o a n)
  thirteen_fine x o a n = thirteen_each bad x o a n (λ e.
      reaches_each bad o e n (jumps_fine (base_kept (returns_kept _) b) e) (jumps_fine b e) (λ g. kept_done n (worked_kept o e g)))

  -- ---- setting registers: the running one stays ready
  low_bits : (u x : ℕ) → zeros_in u ≡ 0 → (wait_in (w_set u x) ≡ wait_in u) × (zeros_in (w_set u x) ≡ 0)
  low_bits u x h = (omega arith, omega arith)

  pub registers_well : (r : Registers) → WellFormed (set_registers_of m (running m) r)
  unfolding Processor.set_registers_of Processor.set_flags_lr
  registers_well r =
      let p = running m in
      let m2 = store (store m p word_a (low r.a)) p word_s (low r.s) in
      let m3 = store m2 p high_lr (three_flags r.p r.z r.ci + high r.lr) in
      let k : Kept m (store m3 p low_lr (low r.lr)) =
      reg low_lr (low r.lr) m3 (omega arith) (omega arith) (reg high_lr (three_flags r.p r.z r.ci + high r.lr) m2 (omega arith) (omega arith)
      (reg word_s (low r.s) (store m p word_a (low r.a)) (omega arith) (omega arith)
      (reg word_a (low r.a) m (omega arith) (omega arith) (kept_refl m)))) in
      let v = w_set (word m p Map.state) r.w in
      rw (k.state p (run_page b d)) (well_formed_lem (record {
        base = state_base p v hr (low_bits (word m p Map.state) r.w (b.facts.seats.zeros p hr)) (base_kept k b);
        best = record {
          ready = λ n. rw (put1_same (λ y. word m y Map.state) p v p refl) (omega (arith, ready));
          top = λ y j c. (invariant w).best.top y j (still y c (hit_or y p));
        };
      }))
    where
      still : (y : ℕ) → suc (put1 (λ z. word m z Map.state) (running m) (w_set (word m (running m) Map.state) r.w) y) ≤ wait_bit
          → (y ≡ running m) ⊎ (y ≢ running m) → suc (word m y Map.state) ≤ wait_bit
      still y c (inl e) = rw e (omega (arith, ready))
      still y c (inr n) =
          rw (put1_other (λ z. word m z Map.state) (running m) (w_set (word m (running m) Map.state) r.w) y n) at c
