-- Settings that survive a box swap: "creation of the entries in order, processor 1's LR staying". What an entry makes is what CRP leaves behind its tests, when
-- it is done, with the LR of the one that runs put back: so the memory is well-formed, and one processor more is on the list, stopped. Of CRP's tests it is
-- only that of its own priority which an entry need not pass: "A fresh start from settings isn't bound by this rule." Assumes nothing.
use Rattle.std.specs.Prelude.{◌≡◌, ◌≢◌, ◌⊎◌, List, [], ◌∷◌, ◌++◌, ℕ, suc, ◌≤◌, ◌<◌, length, get_or, set}
use Rattle.std.proofs.Common.{sym, ap, ◌∙◌, inl, inr, arith, get_or-set_same, set-set}
use Rattle.std.proofs.lemmas.List.{set-get_or, set_comm}
use borrow.Author.Tests.{ne_eqb}
use Rattle.model.specs.Map as Map
use Rattle.model.specs.Map.{ci_in, flags_kept, four_bits, free_list, guarded_last, high, high_lr, joined, keeps, kept_count, last_address, list_link, low, lower}
use Rattle.model.specs.Map.{low_lr, memory_size, one_bit, page_size, pair, p_in, place, processor_list, q1, q2, running_label, running_page, stop_in, stop_set, upper}
use Rattle.model.specs.Map.{wait_bit, word_a, word_s, word_values, z_in}
use Rattle.model.specs.Told.Answer.{Done}
use Rattle.model.specs.declared.Entry.{Entry}
use Rattle.model.specs.declared.Registers.{Registers}
use Rattle.model.specs.Address.{wrapped}
use Rattle.model.specs.Processor as Processor
use Rattle.model.specs.Processor.{starting_at, stopped_once}
use Rattle.model.specs.Turn as Turn
use Rattle.model.specs.Turn.{nineteen}
use Rattle.model.specs.Page.Taken.{took}
use Rattle.model.specs.Operate as Operate
use Rattle.model.specs.Answer as Answer
use Rattle.model.specs.Answer.Outcome.{gives}
use Rattle.model.specs.Settings as Settings
use Rattle.model.specs.Bytes as Model
use Rattle.model.specs.Bytes.{word, store, lists, processors, running, page_of, take_page, created, crp_page, lr, lr_of, set_lr, advance, registers_of, kept_on}
use Rattle.model.specs.Lists.{count, Lists}
use Rattle.laws.specs.Count.{hit_self, hit_other, hit_or, count_append}
use Rattle.laws.specs.Chain.{Page}
use Rattle.laws.specs.Uses.{proc_page}
use Rattle.laws.specs.Places.{in_free}
use Rattle.laws.specs.Inv.{Base, Best, Inv, View, bearers, no_one, view}
use Rattle.laws.specs.Judged.{WellFormed, well_formed_lem, walked, invariant}
use Rattle.laws.specs.Frames.{other, kept_keeps}
use Rattle.laws.specs.Stores.{only_word}
use Rattle.laws.specs.Changes.{hand_page, hand_out}
use Rattle.laws.specs.Hands.{in_hand}
use Rattle.laws.specs.Grants.{Takes, take_page_lem, taken_word}
use Rattle.laws.specs.Grants.Takes.{gets, lacks}
use Rattle.laws.specs.Who.{listed, running_at, running_in, state_at, who_stays}
use Rattle.laws.specs.Words.{Small}
use Rattle.laws.specs.Ends.{lr_kept}
use Rattle.laws.specs.Fits.{Fields}
use Rattle.laws.specs.Create.{made, only, below, beyond, label_is, a_is, s_is, high_is, low_is, state_is, Grown, created_base, created_word, nobody}

-- ---- LR put back
put_back : (x : List ℕ) (h l a b : ℕ) → h ≢ l → set (set (set (set x h a) l b) h (get_or x h 0)) l (get_or x l 0) ≡ x
put_back x h l a b d =
    rw (
      set_comm (set x h a) l h b (get_or x h 0) (λ e. d (sym e)),
      set-set x h a (get_or x h 0),
      set-get_or x h 0,
      set-set x l b (get_or x l 0),
      set-get_or x l 0,
    )

-- the two words of LR hold LR again
high_back : (h l v : ℕ) → l < word_values → flags_kept (flags_kept h (high v)) (high (joined h l)) ≡ h
high_back h l v u = omega arith

low_back : (h l : ℕ) → l < word_values → low (joined h l) ≡ l
low_back h l u = omega arith

lr_back : (x : List ℕ) (p v : ℕ) → length x ≡ memory_size → p < word_values → word x p low_lr < word_values → set_lr (set_lr x p v) p (lr_of x p) ≡ x
unfolding Processor.set_lr
lr_back x p v z u s =
    let h = word x p high_lr in
    let l = word x p low_lr in
    let x1 = store x p high_lr (flags_kept (word x p high_lr) (high v)) in
    let again : word (store (store x p high_lr (flags_kept (word x p high_lr) (high v))) p low_lr (low v)) p high_lr ≡ flags_kept (word x p high_lr) (high v) =
    other x1 (place p low_lr) (low v) (place p high_lr) (omega arith) ∙ get_or-set_same x (place p high_lr) (flags_kept h (high v)) 0 (omega arith) in
    rw (again, high_back h l v s, low_back h l s)
    (put_back x (place p high_lr) (place p low_lr) (flags_kept h (high v)) (low v) (omega arith))

-- ---- a processor as it begins: its label, its registers r, the nineteen words that it keeps, and nothing in Q1 and Q2
pub record Stands (m : List ℕ) (p priority name : ℕ) (r : Registers) : Type 0 where
  pub label : word m p Map.label ≡ pair priority name
  pub registers : registers_of m p ≡ r
  pub kept : kept_on m p ≡ nineteen (λ i. 0)
  pub mail : (j : ℕ) → q1 ≤ j → j ≤ q2 → word m p j ≡ 0

-- "name, priority, W, address": stopped, LR and W its own, all else zero
abbrev pub AsSet : List ℕ → ℕ → Entry → Type 0
AsSet m p e = Stands m p e.priority e.name (stopped_once (starting_at e.address e.w))

-- the words that say so
registers_same : (m m' : List ℕ) (p : ℕ) → ((j : ℕ) → word_a ≤ j → j ≤ Map.state → word m' p j ≡ word m p j) → registers_of m' p ≡ registers_of m p
unfolding Processor.registers_of
registers_same m m' p f =
    rw (
      f word_a (omega arith) (omega arith),
      f word_s (omega arith) (omega arith),
      f high_lr (omega arith) (omega arith),
      f low_lr (omega arith) (omega arith),
      f Map.state (omega arith) (omega arith),
    )

registers_are : (m : List ℕ) (p a w : ℕ) → a ≤ last_address → w ≤ four_bits → word m p word_a ≡ 0 → word m p word_s ≡ 0 → word m p high_lr ≡ high a
    → word m p low_lr ≡ low a → word m p Map.state ≡ stop_set (lower w) → registers_of m p ≡ stopped_once (starting_at a w)
unfolding Processor.registers_of
registers_are m p a w la lw e8 e9 e10 e11 e12 =
    let p0 : p_in (high a) ≡ 0 = omega arith in
    let z0 : z_in (high a) ≡ 0 = omega arith in
    let i0 : ci_in (high a) ≡ 0 = omega arith in
    let is : joined (high a) (low a) ≡ a = omega arith in
    let own : lower (stop_set (lower w)) ≡ w = omega arith in
    let one : stop_in (stop_set (lower w)) ≡ one_bit = omega arith in
    rw (e8, e9, e10, e11, e12, p0, z0, i0, is, own, one)

nineteen_same : (f g : ℕ → ℕ) → ((i : ℕ) → i < kept_count → f i ≡ g i) → nineteen f ≡ nineteen g
nineteen_same f g h =
    rw (
      h 0 (omega arith),
      h 1 (omega arith),
      h 2 (omega arith),
      h 3 (omega arith),
      h 4 (omega arith),
      h 5 (omega arith),
      h 6 (omega arith),
      h 7 (omega arith),
      h 8 (omega arith),
      h 9 (omega arith),
      h 10 (omega arith),
      h 11 (omega arith),
      h 12 (omega arith),
      h 13 (omega arith),
      h 14 (omega arith),
      h 15 (omega arith),
      h 16 (omega arith),
      h 17 (omega arith),
      h 18 (omega arith),
    )

pub stands_on : {m m' : List ℕ} {p b n : ℕ} {r : Registers} → ((j : ℕ) → list_link < j → j < page_size → word m' p j ≡ word m p j) → Stands m p b n r
    → Stands m' p b n r
unfolding Turn.kept_on
stands_on {m} {m'} {p} f s = record {
  label = f Map.label (omega arith) (omega arith) ∙ s.label;
  registers = registers_same m m' p (λ j l u. f j (omega arith) (omega arith)) ∙ s.registers;
  kept = nineteen_same (λ i. word m' p (keeps i)) (λ i. word m p (keeps i)) (λ i l. f (keeps i) (omega arith) (omega arith)) ∙ s.kept;
  mail = λ j l u. f j (omega arith) (omega arith) ∙ s.mail j l u;
}

-- what CRP asks of name and priority, but that the one that runs has as high a one
pub record Unbound (m : List ℕ) (e : Entry) : Type 0 where
  pub name : 1 ≤ e.name
  pub priority : 1 ≤ e.priority
  pub unnamed : page_of m e.name ≡ 0

-- what CRP leaves behind its tests when it is done, with LR of the one that runs put back, is m'
pub record ByCrp (len : ℕ) (m : List ℕ) (e : Entry) (m' : List ℕ) : Type 0 where
  pub tests : Unbound m e
  pub left : List ℕ
  pub done : crp_page m e.name e.priority e.w e.address len ≡ gives Done left
  pub back : set_lr left (running left) (lr m) ≡ m'

-- ---- from a well-formed memory, with page q taken and the memory m1 left: that page becomes a processor
module _ {m : List ℕ} (w : WellFormed m) where
  i : Inv m (lists m processor_list) (lists m) (view m)
  i = invariant w

  abbrev ps : List ℕ
  ps = lists m processor_list

  -- what is known of a page taken
  pub record Given (q : ℕ) (m1 : List ℕ) : Type 0 where
    pub lists : Lists
    pub view : View
    pub base : Base m1 ps lists view (q ∷ []) no_one
    pub low : view.low ≡ (λ a. get_or m a 0)
    pub labels : view.label ≡ (λ p. word m p Map.label)
    pub stays : (p j : ℕ) → 1 ≤ count p ps → list_link ≤ j → j < page_size → word m1 p j ≡ word m p j

  module _ {q : ℕ} {m1 : List ℕ} (t : Given q m1) (e : Entry) (f : Fields e) (free : page_of m e.name ≡ 0) where
    pg : Page q
    pg = hand_page t.base q (in_hand t.base)

    not_q : (p : ℕ) → 1 ≤ count p ps → p ≢ q
    not_q p h d = omega (arith, ap (λ (y : ℕ). count y ps) d, hand_out t.base q (in_hand t.base))

    unborne : bearers t.view.label ps e.name ≡ 0
    unborne = rw t.labels (nobody i.base e.name free)

    abbrev m2 : List ℕ
    m2 = created m1 q e.name e.priority e.w e.address

    grown : Grown m2 ps t.lists t.view q [] no_one
    grown = created_base t.base e.name e.priority e.w e.address f.name f.names f.priority f.priorities unborne

    more : (p : ℕ) → 1 ≤ count p (ps ++ q ∷ []) → (1 ≤ count p ps) ⊎ (p ≡ q)
    more p h = go (hit_or p q)
      where
        go : (p ≡ q) ⊎ (p ≢ q) → (1 ≤ count p ps) ⊎ (p ≡ q)
        go (inl d) = inr d
        go (inr d) = inl (omega (arith, count_append p ps (q ∷ []), hit_other p q d))

    abbrev x : List ℕ
    x = made t.base e.name e.priority e.w e.address

    new_word : (c : ℕ) → c ≢ processor_list → c ≢ place q list_link → ((y : ℕ) → 1 ≤ count y ps → c ≢ place y list_link) → get_or m2 c 0 ≡ get_or x c 0
    new_word = created_word t.base e.name e.priority e.w e.address f.name f.names f.priority f.priorities unborne

    -- a word of a processor that was there, but the links; one below the control pages, but the head of the processor list
    pub made_stays : (p j : ℕ) → 1 ≤ count p ps → list_link < j → j < page_size → word m2 p j ≡ word m p j
    made_stays p j h l u =
        let pp = proc_page i.base.facts.sep p h in
        new_word (place p j) (omega arith) (omega arith) (λ y k. omega arith)
        ∙ only_word (only t.base e.name e.priority e.w e.address) p j (not_q p h) u ∙ t.stays p j h (omega arith) u

    pub made_low : (c : ℕ) → c < guarded_last → c ≢ processor_list → get_or m2 c 0 ≡ get_or m1 c 0
    made_low c l d =
        new_word c d (omega (arith, pg)) (λ y k. let pp = proc_page i.base.facts.sep y k in omega arith)
        ∙ (only t.base e.name e.priority e.w e.address).below c (omega (arith, pg))

    -- the new one
    new_own : (j : ℕ) → list_link < j → j < page_size → word m2 q j ≡ word x q j
    new_own j l u = new_word (place q j) (omega (arith, pg)) (omega arith) (λ y k. omega arith)

    pub made_stands : AsSet m2 q e
    unfolding Turn.kept_on
    made_stands =
        let b = t.base in
        let n = e.name in
        let r = e.priority in
        let a = e.address in
        record {
          label = new_own Map.label (omega arith) (omega arith) ∙ label_is b n r e.w a;
          registers = registers_are m2 q a e.w f.address f.w (new_own word_a (omega arith) (omega arith) ∙ a_is b n r e.w a)
              (new_own word_s (omega arith) (omega arith) ∙ s_is b n r e.w a) (new_own high_lr (omega arith) (omega arith) ∙ high_is b n r e.w a)
              (new_own low_lr (omega arith) (omega arith) ∙ low_is b n r e.w a) (new_own Map.state (omega arith) (omega arith) ∙ state_is b n r e.w a);
          kept = nineteen_same (λ i. word m2 q (keeps i)) (λ i. 0) (λ i l.
              new_own (keeps i) (omega arith) (omega arith) ∙ beyond b n r e.w a (keeps i) (omega arith) (omega arith));
          mail = λ j l u. new_own j (omega arith) (omega arith) ∙ below b n r e.w a j (omega arith);
        }

    made_state : (p : ℕ) → 1 ≤ count p ps → grown.view.state p ≡ word m p Map.state
    made_state p h =
        sym (state_at grown.base p (omega (arith, count_append p ps (q ∷ [])))) ∙ made_stays p Map.state h (omega arith) (omega arith)

    same_low : grown.view.low ≡ (λ c. get_or m c 0)
    same_low = grown.low ∙ t.low

    stopped : wait_bit ≤ grown.view.state q
    stopped =
        omega (
          arith,
          state_at grown.base q (omega (arith, count_append q ps (q ∷ []), hit_self q)),
          new_own Map.state (omega arith) (omega arith),
          state_is t.base e.name e.priority e.w e.address,
        )

    -- the new one is not ready, so the one that runs stays
    best : Best (ps ++ q ∷ []) grown.view
    best = record { ready = rw same_low (λ d. rw (made_state (running m) (running_in i.base d)) (i.best.ready d)); top = λ p h. top p (more p h) }
      where
        top : (p : ℕ) → (1 ≤ count p ps) ⊎ (p ≡ q) → suc (grown.view.state p) ≤ wait_bit → upper (grown.view.label p) ≤ upper (grown.view.low running_label)
        top p (inl h) c = rw (same_low, grown.label p (not_q p h), t.labels) (i.best.top p h (rw (made_state p h) at c))
        top p (inr d) c = let k = rw d at c in absurd (omega (arith, stopped))

    pub made_well : WellFormed m2
    made_well = well_formed_lem (record { base = grown.base; best = best })

    pub made_procs : processors m2 ≡ processors m ++ q ∷ []
    made_procs = listed grown.base ∙ ap (λ (l : List ℕ). l ++ q ∷ []) (sym (listed i.base))

    pub made_free : Model.lists m2 free_list ≡ t.lists free_list
    made_free = walked grown.base free_list (in_free (ps ++ q ∷ [])) ∙ grown.others free_list (in_free ps) (omega arith)

    pub made_is : take_page m (running m) ≡ took q m1 → Model.made m e ≡ m2
    unfolding Settings.made
    made_is k = rw k

    -- ---- it is CRP's
    module _ (s : Small m) (d : running m ≢ 0) (k : take_page m (running m) ≡ took q m1) (len : ℕ) where
      abbrev r : ℕ
      r = running m

      hr : 1 ≤ count (running m) ps
      hr = running_in i.base d

      made_runs : running m2 ≡ running m
      made_runs = running_at grown.base ∙ ap (λ (l : ℕ → ℕ). l running_page) same_low

      lr_same : lr_of m2 (running m) ≡ lr_of m (running m)
      lr_same = rw (made_stays r high_lr hr (omega arith) (omega arith), made_stays r low_lr hr (omega arith) (omega arith))

      advanced : List ℕ
      advanced = set_lr m2 (running m) (wrapped (lr m) len)

      advance_is : advance m2 len ≡ advanced
      unfolding Processor.advance advanced
      advance_is = rw (made_runs, lr_same)

      advanced_runs : running advanced ≡ running m
      unfolding Processor.set_lr advanced
      advanced_runs =
          let v = flags_kept (word m2 (running m) high_lr) (high (wrapped (lr m) len)) in
          other (store m2 r high_lr v) (place r low_lr) (low (wrapped (lr m) len)) running_page (omega arith)
          ∙ other m2 (place r high_lr) v running_page (omega arith) ∙ made_runs

      page_r : Page (running m)
      page_r = proc_page i.base.facts.sep r hr

      advanced_well : WellFormed advanced
      unfolding advanced
      advanced_well = kept_keeps (lr_kept m2 r (wrapped (lr m) len) (λ z. page_r)) made_well

      crp_goes : crp_page m e.name e.priority e.w e.address len ≡ Model.done m2 len
      unfolding Operate.crp_page Operate.with_page
      crp_goes = rw (k, ne_eqb q 0 (omega (arith, pg)))

      crp_done : crp_page m e.name e.priority e.w e.address len ≡ gives Done advanced
      unfolding Answer.done
      crp_done = crp_goes ∙ rw (advance_is, who_stays advanced_well)

      lr_stays : set_lr advanced (running advanced) (lr m) ≡ m2
      unfolding advanced
      lr_stays =
          rw advanced_runs (ap (λ (a : ℕ). set_lr (set_lr m2 (running m) (wrapped (lr m) len)) (running m) a) (sym lr_same)
          ∙ lr_back m2 r (wrapped (lr m) len) made_well.size (omega (arith, page_r))
          (rw (made_stays r low_lr hr (omega arith) (omega arith)) (s.at (place r low_lr))))

      pub given_by_crp : ByCrp len m e m2
      given_by_crp = record {
        tests = record { name = f.name; priority = f.priority; unnamed = free };
        left = advanced;
        done = crp_done;
        back = lr_stays;
      }

  -- "SME and CRP use the page granted to them, else the first free one"
  given : (d : running m ≢ 0) (q : ℕ) (m1 : List ℕ) → take_page m (running m) ≡ took q m1 → q ≢ 0 → Given q m1
  given d q m1 k z = go (take_page_lem (running m) (running_in i.base d) i.base)
    where
      go : Takes m (running m) ps (lists m) (view m) [] no_one → Given q m1
      go (lacks e f2 g2) = let y : q ≡ 0 = cc in absurd (z y)
      go (gets q' m' e z' t l) =
          let eq : q' ≡ q = cc in
          let em : m' ≡ m1 = cc in
          let x : Given q' m' = record {
            lists = t.lists;
            view = t.view;
            base = t.base;
            low = t.low;
            labels = l;
            stays = λ p j h a b.
                let pp = proc_page i.base.facts.sep p h in
                taken_word i.base (place p j) (record { low = λ c u v. omega arith; free = λ y u. omega arith; grant = λ c u. omega arith })
                (running m) q' m' e;
          } in rw (eq, em) at x

-- ---- on a well-formed memory where someone runs and a page is to be had: CRP behind its tests is done, and with its LR put back that is what the entry makes
pub crp_makes : {m : List ℕ} → WellFormed m → Small m → running m ≢ 0 → (q : ℕ) (m1 : List ℕ) → take_page m (running m) ≡ took q m1 → q ≢ 0 → (e : Entry)
    → Fields e → page_of m e.name ≡ 0 → (len : ℕ) → ByCrp len m e (Model.made m e) × WellFormed (Model.made m e)
crp_makes w s d q m1 k z e f free len =
    let t = given w d q m1 k z in
    rw (made_is w t e f free k) (given_by_crp w t e f free s d k len, made_well w t e f free)
