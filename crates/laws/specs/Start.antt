-- Fresh start: "Fresh takes clock line and divider, clears page 0, pages 4-10 and 236-255, then: .." A fresh memory is well-formed, whatever it was
-- before. The rules are computed once, with line and divider open; what was in the memory before does not reach a judged word. Assumes nothing.
use Rattle.std.specs.Prelude.{◌≡◌, refl, ◌≢◌, ◌⊎◌, Bool, true, false, List, [], ◌∷◌, ℕ, zero, suc, ◌+◌, ◌-◌, ◌*◌, ◌≤◌, ◌<◌, length, get_or, set, eqb, ltb}
use Rattle.std.proofs.Common.{sym, ap, ◌∙◌, subst, inl, inr, arith, length-set, get_or-set_same, get_or-set_other, ltb-false}
use Rattle.std.proofs.lemmas.List.{length-replicate}
use Rattle.std.proofs.lemmas.Bool.{eqb-false}
use Rattle.model.specs.Map as Map
use Rattle.model.specs.Map.{a_word, built_in_codes, c0, c1, c2, c3, clock_line, code_word, control_pages, first_control, first_name, first_outer}
use Rattle.model.specs.Map.{first_priority, first_unused, free_list, free_semaphore, grant_for, guarded_from, guarded_last, guarded_to, high, high_lr}
use Rattle.model.specs.Map.{interrupt_page, kernel_pages, last_line, link, low, low_lr, memory_size, page_queue, page_size, pair, place, processor_list, q1, q2}
use Rattle.model.specs.Map.{running_label, running_page, start_address, stop_put, topped, w_set, word_a, word_s}
use Rattle.model.specs.Address.{wrapped}
use Rattle.model.specs.Bytes.{store, lists, zeroed, cleared, first_processor, chained, all_built_in, started}
use Rattle.model.specs.Store.{Store, bytes, trees, tget, tput, tzero, get_t, put_t, size_t}
use Rattle.model.specs.Same.{trees_is_bytes}
use Rattle.model.specs.Rule.{Rule, most, holds, all, every}
use Rattle.model.specs.Address as Address
use Rattle.model.specs.Queue as Queue
use Rattle.model.specs.Processor as Processor
use Rattle.model.specs.Processor.{starting_at}
use Rattle.model.specs.Turn as Turn
use Rattle.model.specs.Turn.{nineteen}
use Rattle.model.specs.Mail as Mail
use Rattle.model.specs.Lists as Lists
use Rattle.model.specs.Judge as Judge
use Rattle.model.specs.Fresh as Fresh
use Rattle.model.specs.Fresh.{startable}
use Rattle.model.specs.Instruction.{built_in}
use Rattle.laws.specs.Count.{hit_or}
use Rattle.laws.specs.Rules.{sound, complete}
use Rattle.laws.specs.Sentences.{rules, sentences, together}
use Rattle.laws.specs.Judged.{WellFormed}
use Rattle.laws.specs.Frames.{Kept, kept_keeps}

-- the judge's rules, but for the clock's
abbrev other : Rule
other = most 0 0

rest : (S : Store) → S.M → Rule
rest S m = rules S other m (Lists.lists S m processor_list) (Lists.lists S m)

-- what is computed, with the line and the divider open
pub record Computed (line divider : ℕ) (S : Store) : Type 0 where
  rules : holds (rest S (Fresh.started S S.zeros line divider)) ≡ true
  size : S.size (Fresh.started S S.zeros line divider) ≡ memory_size
  at239 : S.get (Fresh.started S S.zeros line divider) clock_line ≡ line
  at240 : S.get (Fresh.started S S.zeros line divider) c0 ≡ 0
  at241 : S.get (Fresh.started S S.zeros line divider) c1 ≡ 0
  at242 : S.get (Fresh.started S S.zeros line divider) c2 ≡ 0
  at243 : S.get (Fresh.started S S.zeros line divider) c3 ≡ 0
  at251 : S.get (Fresh.started S S.zeros line divider) Map.divider ≡ divider
  pub first_free : S.get (Fresh.started S S.zeros line divider) free_list ≡ first_control + 1
  pub asks : S.get (Fresh.started S S.zeros line divider) page_queue ≡ 0
  pub runs : S.get (Fresh.started S S.zeros line divider) running_page ≡ first_control
  pub grant : S.get (Fresh.started S S.zeros line divider) (grant_for first_name) ≡ 0
  pub label : S.get (Fresh.started S S.zeros line divider) (place first_control Map.label) ≡ pair first_priority first_name
  pub registers : Processor.registers_of S (Fresh.started S S.zeros line divider) first_control ≡ starting_at start_address 0
  pub kept : Turn.kept_on S (Fresh.started S S.zeros line divider) first_control ≡ nineteen (λ i. 0)
  pub mail1 : S.get (Fresh.started S S.zeros line divider) (place first_control q1) ≡ 0
  pub mail2 : S.get (Fresh.started S S.zeros line divider) (place first_control q2) ≡ 0
  pub procs : Queue.processors S (Fresh.started S S.zeros line divider) ≡ first_control ∷ []
  pub free : Lists.lists S (Fresh.started S S.zeros line divider) free_list ≡ Lists.range (control_pages - 1) 1 (first_control + 1)

at_trees : (line divider : ℕ) → Computed line divider trees
unfolding trees tget tput tzero get_t put_t size_t rest all every holds Lists.range Lists.link_of Lists.is_grant Queue.walk Lists.lists Address.zeroed
    Processor.registers_of Processor.set_flags_lr Processor.set_registers_of Processor.hand_back Turn.kept_on Turn.runs Fresh.cleared Fresh.timed
    Fresh.first_processor Fresh.chained Fresh.freed Fresh.all_built_in Fresh.started Mail.asks Mail.fits Judge.page Judge.list Judge.listed Judge.once
    Judge.used_once Judge.label Judge.names Judge.bit Judge.waiter Judge.waiting_bits Judge.reasoned Judge.reasonless Judge.served Judge.quiet
    Judge.reasons Judge.unasked Judge.owner Judge.message_wait Judge.message_waits Judge.interrupt_semaphore Judge.message_semaphore Judge.page_semaphore
    Judge.semaphores Judge.page_wait Judge.page_waits Judge.grant Judge.granted Judge.sized Judge.message Judge.mail Judge.messages Judge.runner
    Judge.not_higher Judge.running Judge.kind Judge.codes Judge.counters Judge.clock Judge.used Judge.entry Judge.faults Judge.zero_bits Judge.zeros
    Judge.well_formed
at_trees line divider = record {
  rules = refl;
  size = refl;
  at239 = refl;
  at240 = refl;
  at241 = refl;
  at242 = refl;
  at243 = refl;
  at251 = refl;
  first_free = refl;
  asks = refl;
  grant = refl;
  label = refl;
  runs = refl;
  registers = refl;
  kept = refl;
  mail1 = refl;
  mail2 = refl;
  procs = refl;
  free = refl;
}

pub computed : (line divider : ℕ) → Computed line divider bytes
computed line divider = subst (λ (S : Store). Computed line divider S) trees_is_bytes (at_trees line divider)

-- "divider 1-255, line 16-47"
abbrev pub Args : ℕ → ℕ → Type 0
Args line divider = (first_outer ≤ line) × (line ≤ last_line) × (1 ≤ divider) × (divider ≤ a_word)

pub args_of : (line d : ℕ) → startable line d ≡ true → Args line d
unfolding Fresh.startable
args_of line d h = go (ltb line first_outer) (ltb last_line line) (eqb d 0) (ltb a_word d) refl refl refl refl
  where
    go : (x y z t : Bool) → ltb line first_outer ≡ x → ltb last_line line ≡ y → eqb d 0 ≡ z → ltb a_word d ≡ t → Args line d
    go true y z t e f i j = let c = rw e at h in let k : ◌≡◌ {A = ℕ} 0 1 = cc in absurd (omega arith)
    go false true z t e f i j = let c = rw (e, f) at h in let k : ◌≡◌ {A = ℕ} 0 1 = cc in absurd (omega arith)
    go false false true t e f i j = let c = rw (e, f, i) at h in let k : ◌≡◌ {A = ℕ} 0 1 = cc in absurd (omega arith)
    go false false false true e f i j = let c = rw (e, f, i, j) at h in let k : ◌≡◌ {A = ℕ} 0 1 = cc in absurd (omega arith)
    go false false false false e f i j =
        let a = ltb-false line first_outer e in
        let b = ltb-false last_line line f in
        let c = eqb-false d 0 i in
        let k = ltb-false a_word d j in
        (omega arith, omega arith, omega arith, omega arith)

pub zeros_fresh : (line divider : ℕ) → Args line divider → WellFormed (started bytes.zeros line divider)
unfolding Judge.judged Judge.well_formed Judge.clock Judge.counters rest
zeros_fresh line divider h =
    let c = computed line divider in
    let m = started bytes.zeros line divider in
    let L = lists m in
    let t = (sentences other m (L processor_list) L (sound (rest bytes m) c.rules)).0 in
    record {
      size = c.size;
      accepted = complete (Judge.well_formed bytes m (L processor_list) L) (together (Judge.clock bytes m (L processor_list) L) m (L processor_list) L t (
        (omega (arith, c.at240, c.at251), (omega (arith, c.at241), (omega (arith, c.at242), omega (arith, c.at243)))),
        ((omega (arith, c.at251), omega (arith, c.at251)), (omega (arith, c.at239), omega (arith, c.at239))),
      ));
    }

-- ---- two memories that hold the same where the judge looks
abbrev Told : ℕ → Type 0
Told a = ((guarded_from ≤ a) × (a < guarded_to)) ⊎ ((guarded_last ≤ a) × (a < memory_size))

pub record Agree (m m' : List ℕ) : Type 0 where
  size : length m ≡ memory_size
  size' : length m' ≡ memory_size
  told : (a : ℕ) → Told a → get_or m' a 0 ≡ get_or m a 0

told_fits : (a : ℕ) → Told a → a < memory_size
told_fits a (inl h) = omega arith
told_fits a (inr h) = omega arith

agree_put : {m m' : List ℕ} (b v v' : ℕ) → v' ≡ v → Agree m m' → Agree (set m b v) (set m' b v')
agree_put {m} {m'} b v v' q g = rw q (record { size = simp length-set g.size; size' = simp length-set g.size'; told = λ a t. go a t (hit_or a b) })
  where
    go : (a : ℕ) → Told a → (a ≡ b) ⊎ (a ≢ b) → get_or (set m' b v) a 0 ≡ get_or (set m b v) a 0
    go a t (inl e) =
        let f = told_fits a t in
        rw e (get_or-set_same m' b v 0 (omega (arith, g.size')) ∙ sym (get_or-set_same m b v 0 (omega (arith, g.size))))
    go a t (inr n) = get_or-set_other m' b a v 0 (omega arith) ∙ g.told a t ∙ sym (get_or-set_other m b a v 0 (omega arith))

agree_set : {m m' : List ℕ} (b v : ℕ) → Agree m m' → Agree (set m b v) (set m' b v)
agree_set b v g = agree_put b v v refl g

-- ---- clearing
pub zeroed_size : (n : ℕ) (m : List ℕ) (a : ℕ) → length (zeroed n m a) ≡ length m
unfolding Address.zeroed
zeroed_size zero m a = refl
zeroed_size (suc n) m a = zeroed_size n (set m (wrapped a n) 0) a ∙ simp length-set

zeroed_out : (n : ℕ) (m : List ℕ) (a i : ℕ) → a + n ≤ memory_size → (i < a) ⊎ (a + n ≤ i) → get_or (zeroed n m a) i 0 ≡ get_or m i 0
unfolding Address.zeroed
zeroed_out zero m a i f h = refl
zeroed_out (suc n) m a i f (inl h) =
    zeroed_out n (set m (wrapped a n) 0) a i (omega arith) (inl h) ∙ get_or-set_other m (wrapped a n) i 0 0 (omega arith)
zeroed_out (suc n) m a i f (inr h) =
    let w : wrapped a n ≡ a + n = omega arith in
    zeroed_out n (set m (wrapped a n) 0) a i (omega arith) (inr (omega arith)) ∙ get_or-set_other m (wrapped a n) i 0 0 (omega arith)

-- a word that is 0 stays 0
zeroed_still : (n : ℕ) (m : List ℕ) (a i : ℕ) → get_or m i 0 ≡ 0 → i < length m → get_or (zeroed n m a) i 0 ≡ 0
unfolding Address.zeroed
zeroed_still zero m a i e l = e
zeroed_still (suc n) m a i e l = zeroed_still n (set m (wrapped a n) 0) a i (go (hit_or i (wrapped a n))) (simp length-set l)
  where
    go : (i ≡ wrapped a n) ⊎ (i ≢ wrapped a n) → get_or (set m (wrapped a n) 0) i 0 ≡ 0
    go (inl d) = rw d (get_or-set_same m (wrapped a n) 0 0 (omega arith))
    go (inr d) = get_or-set_other m (wrapped a n) i 0 0 (omega arith) ∙ e

zeroed_step : (n : ℕ) (m : List ℕ) (a i : ℕ) → get_or (zeroed (suc n) m a) i 0 ≡ get_or (zeroed n (set m (wrapped a n) 0) a) i 0
unfolding Address.zeroed
zeroed_step n m a i = refl

pub zeroed_in : (n : ℕ) (m : List ℕ) (a i : ℕ) → a + n ≤ memory_size → a ≤ i → i < a + n → i < length m → get_or (zeroed n m a) i 0 ≡ 0
zeroed_in zero m a i f h l r = absurd (omega arith)
zeroed_in (suc n) m a i f h l r = zeroed_step n m a i ∙ go (hit_or i (a + n)) (zeroed_in n (set m (wrapped a n) 0) a i (omega arith) h)
  where
    go : (i ≡ a + n) ⊎ (i ≢ a + n) → (i < a + n → i < length (set m (wrapped a n) 0) → get_or (zeroed n (set m (wrapped a n) 0) a) i 0 ≡ 0)
        → get_or (zeroed n (set m (wrapped a n) 0) a) i 0 ≡ 0
    go (inl e) ih =
        let w : wrapped a n ≡ i = omega arith in
        zeroed_still n (set m (wrapped a n) 0) a i (rw w (get_or-set_same m i 0 0 r)) (simp length-set r)
    go (inr d) ih = ih (omega arith) (simp length-set r)

cleared_zero : (m : List ℕ) → length m ≡ memory_size → (a : ℕ) → Told a → get_or (cleared m) a 0 ≡ 0
unfolding Fresh.cleared
cleared_zero m s a (inl h) =
    let m1 = zeroed page_size m 0 in
    zeroed_out (control_pages * page_size) (zeroed (kernel_pages * page_size) m1 (place interrupt_page 0)) guarded_last a (omega arith) (inl (omega arith))
    ∙ zeroed_in (kernel_pages * page_size) m1 (place interrupt_page 0) a (omega arith) h.0 (omega arith) (omega (arith, zeroed_size page_size m 0))
cleared_zero m s a (inr h) =
    let m1 = zeroed page_size m 0 in
    let m2 = zeroed (kernel_pages * page_size) m1 (place interrupt_page 0) in
    zeroed_in (control_pages * page_size) m2 guarded_last a (omega arith) h.0 (omega arith)
    (omega (arith, zeroed_size page_size m 0, zeroed_size (kernel_pages * page_size) m1 (place interrupt_page 0)))

cleared_size : (m : List ℕ) → length (cleared m) ≡ length m
unfolding Fresh.cleared
cleared_size m =
    let m1 = zeroed page_size m 0 in
    let m2 = zeroed (kernel_pages * page_size) m1 (place interrupt_page 0) in
    zeroed_size (control_pages * page_size) m2 guarded_last ∙ zeroed_size (kernel_pages * page_size) m1 (place interrupt_page 0) ∙ zeroed_size page_size m 0

-- ---- the steps of a fresh start
agree_chained : (n : ℕ) (m m' : List ℕ) (p : ℕ) → Agree m m' → Agree (chained n m p) (chained n m' p)
unfolding Fresh.chained
agree_chained zero m m' p g = g
agree_chained (suc n) m m' p g =
    agree_chained n (store m p link (p + 1)) (store m' p link (p + 1)) (p + 1) (agree_set (place p link) (p + 1) g)

agree_built : (n : ℕ) (m m' : List ℕ) → Agree m m' → Agree (all_built_in n m) (all_built_in n m')
unfolding Fresh.all_built_in
agree_built zero m m' g = g
agree_built (suc n) m m' g =
    let v = topped built_in 0 in
    agree_built n (set m (code_word n) v) (set m' (code_word n) v) (agree_set (code_word n) v g)

agree_first : {m m' : List ℕ} → Agree m m' → Agree (first_processor m) (first_processor m')
unfolding Fresh.first_processor Processor.hand_back Processor.set_registers_of Processor.set_flags_lr Turn.runs
agree_first g =
    let g1 = agree_set (place first_control Map.label) (pair first_priority first_name) g in
    let g2 = agree_set (place first_control word_s) 0 (agree_set (place first_control word_a) 0 g1) in
    let g3 = agree_set (place first_control low_lr) (low start_address) (agree_set (place first_control high_lr) (high start_address) g2) in
    let t = place first_control Map.state in
    let g4 = agree_put t _ _ (ap (λ (w : ℕ). w_set w 0) (g3.told t (inr (omega arith, omega arith)))) g3 in
    let g5 = agree_put t _ _ (ap (λ (w : ℕ). stop_put w 0) (g4.told t (inr (omega arith, omega arith)))) g4 in
    let g6 = agree_set processor_list first_control g5 in
    agree_put running_label _ _ (g6.told (place first_control Map.label) (inr (omega arith, omega arith))) (agree_set running_page first_control g6)

pub agree_started : (m m' : List ℕ) (line d : ℕ) → length m ≡ memory_size → length m' ≡ memory_size → Agree (started m line d) (started m' line d)
unfolding Fresh.started Fresh.freed Fresh.timed
agree_started m m' line d s s' =
    let g : Agree (cleared m) (cleared m') = record {
      size = cleared_size m ∙ s;
      size' = cleared_size m' ∙ s';
      told = λ a t. cleared_zero m' s' a t ∙ sym (cleared_zero m s a t);
    } in
    let g1 = agree_first (agree_set Map.divider d (agree_set clock_line line g)) in
    let g2 = agree_set free_semaphore (control_pages - 1) (agree_set free_list (first_control + 1) g1) in
    agree_set first_unused 1 (agree_built built_in_codes _ _ (agree_chained (control_pages - 2) _ _ (first_control + 1) g2))

pub agree_kept : {m m' : List ℕ} → Agree m m' → Kept m m'
agree_kept g = record {
  size = g.size' ∙ sym g.size;
  fixed = λ a i j. g.told a (inl (i, j));
  words = λ p j h i. g.told (place p j) (inr (omega arith, omega arith));
  state = λ p h. g.told (place p Map.state) (inr (omega arith, omega arith));
}

-- a word of a control page, whatever the memory held before
pub started_word : (m m' : List ℕ) (line d : ℕ) → length m ≡ memory_size → length m' ≡ memory_size → (a : ℕ) → guarded_last ≤ a → a < memory_size
    → get_or (started m' line d) a 0 ≡ get_or (started m line d) a 0
started_word m m' line d s s' a l u = (agree_started m m' line d s s').told a (inr (l, u))

pub zeros_size : length bytes.zeros ≡ memory_size
zeros_size = length-replicate {A = ℕ} memory_size 0

pub started_well : (m : List ℕ) (line d : ℕ) → length m ≡ memory_size → Args line d → WellFormed (started m line d)
started_well m line d s h = kept_keeps (agree_kept (agree_started bytes.zeros m line d zeros_size s)) (zeros_fresh line d h)
