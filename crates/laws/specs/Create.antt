-- Instructions: CRP leaves a well-formed memory; which words of it are new. Assumes nothing.
use Rattle.std.specs.Prelude.{◌≡◌, ◌≢◌, List, [], ◌∷◌, ◌++◌, ℕ, ◌+◌, ◌≤◌, ◌<◌, length, get_or}
use Rattle.std.proofs.Math.Path.{refl}
use Rattle.std.proofs.Common.{sym, ap, ◌∙◌, arith, length-set, get_or-set_same}
use Rattle.std.proofs.lemmas.Bool.{eqb-false}
use Rattle.model.specs.Map as Map
use Rattle.model.specs.Map.{high_lr, last_name, last_priority, link, list_link, low_lr, lower, memory_size, own_semaphore, page_size, pair, place}
use Rattle.model.specs.Map.{processor_list, stop_put, stop_set, w_set, word_a, word_s}
use Rattle.model.specs.Bytes.{running, store, word, lists, page_of, is_named, zeroed, headed, created}
use Rattle.model.specs.Processor as Processor
use Rattle.model.specs.Operate as Operate
use Rattle.model.specs.Bytes as Model
use Rattle.model.specs.Lists.{count, Lists, each_of}
use Rattle.laws.specs.Count.{hit_self, hit_other}
use Rattle.laws.specs.Chain.{Page}
use Rattle.laws.specs.Uses.{Among, proc_page}
use Rattle.laws.specs.Inv.{Base, View, bearers, no_one, view}
use Rattle.laws.specs.Judged.{WellFormed, each_ext}
use Rattle.laws.specs.Frames.{other, Only, only_refl, only_set, only_zeroed}
use Rattle.laws.specs.Views.{put1, put1_same, put1_other, retold, with_sem}
use Rattle.laws.specs.Changes.{hand_page, hand_out}
use Rattle.laws.specs.Hands.{hand_base, in_hand}
use Rattle.laws.specs.Grants.{Takes, take_page_lem}
use Rattle.laws.specs.Grants.Takes.{gets, lacks}
use Rattle.laws.specs.Grow.{New, grow_base, grown, grown_same, grown_word}
use Rattle.laws.specs.Start.{zeroed_size, zeroed_in}
use Rattle.laws.specs.Who.{listed, busy}
use Rattle.laws.specs.Ends.{Fine, done_fine}
use Rattle.laws.specs.Ways.{crp_each, crp_page_each}
use Rattle.laws.specs.Simple.{bad}
use Rattle.laws.specs.Mails.{first_none, waits_for_page_lem}

-- ---- a name that nobody bears
each_none : (f : ℕ → ℕ) (n : ℕ) (ps : List ℕ) → ((y : ℕ) → 1 ≤ count y ps → f y ≢ n) → count n (each_of f ps) ≡ 0
each_none f n [] h = refl
each_none f n (y ∷ ps) h =
    omega (arith, hit_other n (f y) (λ e. h y (omega (arith, hit_self y)) (sym e)), each_none f n ps (λ x i. h x (omega arith)))

pub nobody : {m : List ℕ} {ps : List ℕ} {L : Lists} {W : View} {hs : List ℕ} {g : ℕ} → Base m ps L W hs g → (n : ℕ) → page_of m n ≡ 0
    → bearers W.label ps n ≡ 0
unfolding Processor.is_named
nobody {m} {ps} {W = W} b n e =
    each_none (λ p. lower (W.label p)) n ps (λ y h.
    let t = proc_page b.facts.sep y h in
    let c = first_none (is_named m n) ps (λ x i. let u = proc_page b.facts.sep x i in omega arith) (rw (listed b) at e) y h in
    rw (← b.mem.reads.words.label y t) (eqb-false (Model.name m y) n c))

-- ---- page q in hand has become a processor, the last of the list: the lists and the judged words then
pub record Grown (m : List ℕ) (ps : List ℕ) (L : Lists) (W : View) (q : ℕ) (hs : List ℕ) (g : ℕ) : Type 0 where
  pub lists : Lists
  pub view : View
  pub base : Base m (ps ++ q ∷ []) lists view hs g
  pub low : view.low ≡ W.low
  pub label : (p : ℕ) → p ≢ q → view.label p ≡ W.label p
  pub state : (p : ℕ) → p ≢ q → view.state p ≡ W.state p
  pub others : (c : ℕ) → Among ps c → c ≢ processor_list → lists c ≡ L c

-- ---- the page as CRP writes it
module _ {m : List ℕ} {ps : List ℕ} {L : Lists} {W : View} {hs : List ℕ} {g q : ℕ} (b : Base m ps L W (q ∷ hs) g) (n r w a : ℕ) where
  pg : Page q
  pg = hand_page b q (in_hand b)

  abbrev z : List ℕ
  z = zeroed page_size m (place q link)

  abbrev z7 : List ℕ
  z7 = store z q Map.label (pair r n)

  abbrev z8 : List ℕ
  z8 = store z7 q word_a 0

  abbrev z9 : List ℕ
  z9 = store z8 q word_s 0

  abbrev z10 : List ℕ
  z10 = store z9 q high_lr (0 + Map.high a)

  abbrev z11 : List ℕ
  z11 = store z10 q low_lr (Map.low a)

  abbrev z12 : List ℕ
  z12 = store z11 q Map.state (w_set (word z11 q Map.state) w)

  abbrev pub made : List ℕ
  made = store z12 q Map.state (stop_put (word z12 q Map.state) 1)

  headed_is : headed z q n r w a ≡ made
  unfolding Operate.headed Processor.hand_back Processor.set_registers_of Processor.set_flags_lr
  headed_is = refl

  size_z : length z ≡ memory_size
  size_z = zeroed_size page_size m (place q link) ∙ b.mem.size

  nought : (j : ℕ) → j < page_size → word z q j ≡ 0
  nought j l = zeroed_in page_size m (place q link) (place q j) (omega (arith, pg)) (omega arith) (omega arith) (omega (arith, pg, b.mem.size))

  -- word j, after it was written
  not_12 : (j : ℕ) → j ≢ Map.state → word made q j ≡ word z11 q j
  not_12 j d =
      other z12 (place q Map.state) (stop_put (word z12 q Map.state) 1) (place q j) (omega arith)
      ∙ other z11 (place q Map.state) (w_set (word z11 q Map.state) w) (place q j) (omega arith)

  not_11 : (j : ℕ) → j ≢ high_lr → j ≢ low_lr → word z11 q j ≡ word z9 q j
  not_11 j d e = other z10 (place q low_lr) (Map.low a) (place q j) (omega arith) ∙ other z9 (place q high_lr) (0 + Map.high a) (place q j) (omega arith)

  not_9 : (j : ℕ) → j ≢ word_a → j ≢ word_s → word z9 q j ≡ word z7 q j
  not_9 j d e = other z8 (place q word_s) 0 (place q j) (omega arith) ∙ other z7 (place q word_a) 0 (place q j) (omega arith)

  size7 : length z7 ≡ memory_size
  size7 = simp length-set size_z

  size8 : length z8 ≡ memory_size
  size8 = simp length-set size_z

  size9 : length z9 ≡ memory_size
  size9 = simp length-set size_z

  size10 : length z10 ≡ memory_size
  size10 = simp length-set size_z

  size11 : length z11 ≡ memory_size
  size11 = simp length-set size_z

  size12 : length z12 ≡ memory_size
  size12 = simp length-set size_z

  -- its words: "created stopped, all else zero"
  unwritten : (j : ℕ) → j < page_size → j ≢ Map.label → (word_a ≤ j → Map.state ≤ j) → word z11 q j ≡ 0
  unwritten j l d f =
      not_11 j (λ e. absurd (omega (arith, f (omega arith)))) (λ e. absurd (omega (arith, f (omega arith))))
      ∙ not_9 j (λ e. absurd (omega (arith, f (omega arith)))) (λ e. absurd (omega (arith, f (omega arith))))
      ∙ other z (place q Map.label) (pair r n) (place q j) (omega arith) ∙ nought j l

  pub below : (j : ℕ) → j < Map.label → word made q j ≡ 0
  below j l = not_12 j (omega arith) ∙ unwritten j (omega arith) (omega arith) (λ i. absurd (omega arith))

  pub beyond : (j : ℕ) → Map.state < j → j < page_size → word made q j ≡ 0
  beyond j l u = not_12 j (omega arith) ∙ unwritten j u (omega arith) (λ i. omega arith)

  pub label_is : word made q Map.label ≡ pair r n
  label_is =
      not_12 Map.label (omega arith) ∙ not_11 Map.label (omega arith) (omega arith) ∙ not_9 Map.label (omega arith) (omega arith)
      ∙ get_or-set_same z (place q Map.label) (pair r n) 0 (omega (arith, pg, size_z))

  pub a_is : word made q word_a ≡ 0
  a_is =
      not_12 word_a (omega arith) ∙ not_11 word_a (omega arith) (omega arith) ∙ other z8 (place q word_s) 0 (place q word_a) (omega arith)
      ∙ get_or-set_same z7 (place q word_a) 0 0 (omega (arith, pg, size7))

  pub s_is : word made q word_s ≡ 0
  s_is =
      not_12 word_s (omega arith) ∙ not_11 word_s (omega arith) (omega arith) ∙ get_or-set_same z8 (place q word_s) 0 0 (omega (arith, pg, size8))

  pub high_is : word made q high_lr ≡ Map.high a
  high_is =
      not_12 high_lr (omega arith) ∙ other z10 (place q low_lr) (Map.low a) (place q high_lr) (omega arith)
      ∙ get_or-set_same z9 (place q high_lr) (0 + Map.high a) 0 (omega (arith, pg, size9)) ∙ omega arith

  pub low_is : word made q low_lr ≡ Map.low a
  low_is = not_12 low_lr (omega arith) ∙ get_or-set_same z10 (place q low_lr) (Map.low a) 0 (omega (arith, pg, size10))

  pub state_is : word made q Map.state ≡ stop_set (lower w)
  state_is =
      let s12 : word z12 q Map.state ≡ w_set (word z11 q Map.state) w =
      get_or-set_same z11 (place q Map.state) (w_set (word z11 q Map.state) w) 0 (omega (arith, pg, size11)) in
      get_or-set_same z12 (place q Map.state) (stop_put (word z12 q Map.state) 1) 0 (omega (arith, pg, size12))
      ∙ omega (arith, s12, unwritten Map.state (omega arith) (omega arith) (λ i. omega arith))

  pub only : Only q m made
  only =
      only_set (place q Map.state) (stop_put (word z12 q Map.state) 1) (omega arith) (omega arith)
      (only_set (place q Map.state) (w_set (word z11 q Map.state) w) (omega arith) (omega arith)
      (only_set (place q low_lr) (Map.low a) (omega arith) (omega arith) (only_set (place q high_lr) (0 + Map.high a) (omega arith) (omega arith)
      (only_set (place q word_s) 0 (omega arith) (omega arith) (only_set (place q word_a) 0 (omega arith) (omega arith)
      (only_set (place q Map.label) (pair r n) (omega arith) (omega arith) (only_zeroed page_size m (omega (arith, pg)) (omega arith) (only_refl q m))))))))

  -- ---- it joins the processor list
  module _ (n1 : 1 ≤ n) (n2 : n ≤ last_name) (r1 : 1 ≤ r) (r2 : r ≤ last_priority) (free : bearers W.label ps n ≡ 0) where
    abbrev X : View
    X = retold made W q

    b2 : Base made ps L X (q ∷ hs) g
    b2 = hand_base q (in_hand b) only b

    new : New made ps X q
    new =
        let lq : X.label q ≡ pair r n = put1_same W.label q (word made q Map.label) q refl ∙ label_is in
        let tq : X.state q ≡ stop_set (lower w) = put1_same W.state q (word made q Map.state) q refl ∙ state_is in
        let off : (p : ℕ) → 1 ≤ count p ps → lower (X.label p) ≡ lower (W.label p) = λ p h.
        ap (λ (x : ℕ). lower x) (put1_other W.label q (word made q Map.label) p (λ e.
        omega (arith, ap (λ (y : ℕ). count y ps) e, hand_out b q (in_hand b)))) in
        let nm : lower (pair r n) ≡ n = omega arith in
        record {
          empty = λ j l u. below j (omega arith);
          label = rw lq (record { name = omega arith; low = omega arith; high = omega arith });
          unnamed = rw (lq, nm) (ap (count n) (each_ext (λ p. lower (X.label p)) (λ p. lower (W.label p)) ps off) ∙ free);
          bit = rw tq (omega arith);
          zeros = rw tq (omega arith);
          reason = put1_same W.reason q (word made q Map.reason) q refl ∙ below Map.reason (omega arith);
        }

    pub created_base : Grown (created m q n r w a) ps L W q hs g
    unfolding Operate.created
    created_base = rw headed_is (record {
      lists = grown q b2 new;
      view = with_sem X (put1 W.sem (place q own_semaphore) 0);
      base = grow_base q b2 new;
      low = refl;
      label = λ p d. put1_other W.label q (word made q Map.label) p d;
      state = λ p d. put1_other W.state q (word made q Map.state) p d;
      others = grown_same q b2 new;
    })

    -- a word that is neither the head of the processor list nor a link of it
    pub created_word : (c : ℕ) → c ≢ processor_list → c ≢ place q list_link → ((y : ℕ) → 1 ≤ count y ps → c ≢ place y list_link)
        → get_or (created m q n r w a) c 0 ≡ get_or made c 0
    unfolding Operate.created
    created_word c d1 d2 f = rw headed_is (grown_word q b2 new c d2 d1 f)

-- ---- the instruction
module _ {m : List ℕ} (w : WellFormed m) (d : running m ≢ 0) where
  open busy w d use {base as b, runs as hr}

  crp_page_lem : (n r v a len : ℕ) → 1 ≤ n → n ≤ last_name → 1 ≤ r → r ≤ last_priority → page_of m n ≡ 0 → Fine (Model.crp_page m n r v a len)
  crp_page_lem n r v a len n1 n2 r1 r2 free = go (take_page_lem (running m) hr b)
    where
      go : Takes m (running m) (lists m processor_list) (lists m) (view m) [] no_one → Fine (Model.crp_page m n r v a len)
      go (gets q m1 e z t k) =
          let c = created_base t.base n r v a n1 n2 r1 r2 (rw k (nobody b n free)) in
          crp_page_each m Fine e n r v a len (λ y. absurd (z y)) (λ y. done_fine c.base len)
      go (lacks e f2 g2) = crp_page_each m Fine e n r v a len (λ y. waits_for_page_lem w d f2 g2) (λ y. absurd (y refl))

  pub crp_fine : (n r v a len : ℕ) → n < 16 → r < 16 → Fine (Model.crp m n r v a len)
  crp_fine n r v a len hn hr = crp_each (bad w d) n r v a len (λ g. crp_page_lem n r v a len g.name (omega arith) g.priority (omega arith) g.unnamed)
