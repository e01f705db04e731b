-- That the premises of the laws can be met: there is a memory that is reached, where someone runs, where a page is in hand. Assumes nothing.
use Rattle.std.specs.Prelude.{◌≡◌, refl, ◌≢◌, Bool, true, false, List, [], ◌∷◌, ◌++◌, ℕ, ◌+◌, ◌≤◌, ◌<◌, length, get_or, ltb}
use Rattle.std.proofs.Common.{ap, ◌∙◌, arith, eq-eqb, ltb-true, ltb-false}
use Rattle.std.proofs.lemmas.List.{get_or-replicate}
use Rattle.std.proofs.Math.ListN.{get_or-eq_default}
use Rattle.model.specs.Map as Map
use Rattle.model.specs.Map.{first_control, first_name, first_priority, free_list, free_semaphore, grant_for, link, memory_size, page_queue, pair, place}
use Rattle.model.specs.Map.{processor_list, wait_in, word_values}
use Rattle.model.specs.Bytes.{fresh, lists, make_notice, name, put_to_wait, running, started, word}
use Rattle.model.specs.Store.{bytes}
use Rattle.model.specs.Fresh as Fresh
use Rattle.model.specs.Fresh.{startable}
use Rattle.model.specs.Call as Call
use Rattle.model.specs.Answer as Answer
use Rattle.model.specs.Answer.{memory_of}
use Rattle.model.specs.Lists.{count, Lists, some}
use Rattle.laws.specs.Chain.{Chain}
use Rattle.laws.specs.Queues.{upd, upd_same, upd_other}
use Rattle.laws.specs.Uses.{proc_page}
use Rattle.laws.specs.Places.{in_free, in_asking, grant_low}
use Rattle.laws.specs.Inv.{Base, Message, View, no_one, view}
use Rattle.laws.specs.Judged.{invariant, walked}
use Rattle.laws.specs.Views.{retold}
use Rattle.laws.specs.JoinLeave.{chain0}
use Rattle.laws.specs.Changes.{page_sem}
use Rattle.laws.specs.Waits.{waiting, wait_base}
use Rattle.laws.specs.Hands.{in_hand, hand_base, take_free_lem}
use Rattle.laws.specs.Post.{retold_letter, notice_only, notice_letter}
use Rattle.laws.specs.Who.{running_in}
use Rattle.laws.specs.Words.{Small}
use Rattle.laws.specs.Start.{computed, zeros_size}
use Rattle.laws.specs.Calls.{Sound, well, Host, Reached, reached_sound}
use Rattle.laws.specs.Calls.Reached.{start}

abbrev zeros : List ℕ
zeros = bytes.zeros

beyond : (a : ℕ) → memory_size ≤ a → ◌≡◌ {A = ℕ} (get_or zeros a 0) 0
beyond a l = let h : length zeros ≤ a = omega (arith, zeros_size) in get_or-eq_default {A = ℕ} zeros 0 h

pub zeros_small : Small zeros
zeros_small = record { at = λ a. go a (ltb a memory_size) refl }
  where
    go : (a : ℕ) (c : Bool) → ltb a memory_size ≡ c → get_or zeros a 0 < word_values
    go a true e = rw (get_or-replicate {A = ℕ} memory_size a 0 0 (ltb-true a memory_size e)) (omega arith)
    go a false e = rw (beyond a (ltb-false a memory_size e)) (omega arith)

-- a fresh start with line 16 and divider 5
abbrev pub example : List ℕ
example = memory_of (fresh bytes.zeros 16 5)

pub example_reached : Reached example
unfolding Fresh.startable
example_reached = start bytes.zeros 16 5 zeros_size zeros_small refl

pub example_sound : Sound example
example_sound = reached_sound example example_reached

pub fresh_is : (m : List ℕ) (line d : ℕ) → length m ≡ memory_size → startable line d ≡ true → memory_of (fresh m line d) ≡ started m line d
unfolding Call.fresh Answer.memory_of
fresh_is m line d l h = rw (eq-eqb (length m) memory_size l, h)

example_is : example ≡ started bytes.zeros 16 5
unfolding Fresh.startable
example_is = fresh_is bytes.zeros 16 5 zeros_size refl

-- someone runs
pub example_runs : running example ≡ first_control
example_runs = ap (λ (m : List ℕ). running m) example_is ∙ (computed 16 5).runs

-- the host may leave everything as it is
pub example_host : Host example example
example_host = record { size = refl; small = example_sound.small; same = λ a l g. refl }

-- a page in hand
pub record InHand : Type 0 where
  pub memory : List ℕ
  pub procs : List ℕ
  pub lists : Lists
  pub view : View
  pub page : ℕ
  pub rest : List ℕ
  pub base : Base memory procs lists view (page ∷ rest) no_one

example_base : Base example (lists example processor_list) (lists example) (view example) [] no_one
example_base = (invariant (well example_sound)).base

example_at : (a v : ℕ) → get_or (started bytes.zeros 16 5) a 0 ≡ v → get_or example a 0 ≡ v
example_at a v e = ap (λ (m : List ℕ). get_or m a 0) example_is ∙ e

-- all pages of the free list are taken
record Dry (ps : List ℕ) (L : Lists) (W : View) : Type 0 where
  hand : InHand
  procs : hand.procs ≡ ps
  none : hand.lists free_list ≡ []
  others : (a : ℕ) → a ≢ free_list → hand.lists a ≡ L a
  label : hand.view.label ≡ W.label
  state : hand.view.state ≡ W.state

dry : (fs : List ℕ) {m : List ℕ} {ps : List ℕ} {L : Lists} {W : View} (x : ℕ) (rest : List ℕ) → Base m ps L W (x ∷ rest) no_one → L free_list ≡ fs → Dry ps L W
dry [] {m} {ps} {L} {W} x rest b e = record {
  hand = record { memory = m; procs = ps; lists = L; view = W; page = x; rest = rest; base = b };
  procs = refl;
  none = e;
  others = λ a d. refl;
  label = refl;
  state = refl;
}
dry (f ∷ fs) {m} {ps} {L} {W} x rest b e =
    let t = dry fs f (x ∷ rest) (take_free_lem f fs b e) (upd_same L free_list fs) in
    record {
      hand = t.hand;
      procs = t.procs;
      none = t.none;
      others = λ a d. t.others a d ∙ upd_other L free_list a fs d;
      label = t.label;
      state = t.state;
    }

first_free_lem : (fs : List ℕ) → lists example free_list ≡ fs → Dry (lists example processor_list) (lists example) (view example)
first_free_lem [] e =
    let c = chain0 example_base.facts.sep example_base.mem free_list
    (in_free (lists example processor_list), grant_low free_list (omega arith)) (omega arith) in
    let z : get_or example free_list 0 ≡ 0 = rw e at c in
    absurd (omega (arith, z, example_at free_list (first_control + 1) (computed 16 5).first_free))
first_free_lem (f ∷ fs) e =
    let t = dry fs f [] (take_free_lem f fs example_base e) (upd_same (lists example) free_list fs) in
    record {
      hand = t.hand;
      procs = t.procs;
      none = t.none;
      others = λ a d. t.others a d ∙ upd_other (lists example) free_list a fs d;
      label = t.label;
      state = t.state;
    }

pub example_hand : InHand
example_hand = (first_free_lem (lists example free_list) refl).hand

-- a page in hand that is a message
pub record InHandMessage : Type 0 where
  pub hand : InHand
  pub mails : Message (hand.view.note hand.page) (hand.view.size hand.page)

pub example_message : InHandMessage
example_message =
    let h = example_hand in
    let b = h.base in
    let m2 = make_notice h.memory h.page 1 1 in
    let o = notice_only b 1 1 in
    record {
      hand = record {
        memory = m2;
        procs = h.procs;
        lists = h.lists;
        view = retold m2 h.view h.page;
        page = h.page;
        rest = h.rest;
        base = hand_base h.page (in_hand b) o b;
      };
      mails = retold_letter b o (notice_letter b 1 1 (omega arith) (omega arith) (omega arith) (omega arith));
    }

-- a page in hand while one waits for a page: the running one of the example, put to wait
pub record InHandAsked : Type 0 where
  pub hand : InHand
  pub waiter : ℕ
  pub asks : lists hand.memory page_queue ≡ waiter ∷ []

pub example_asked : InHandAsked
example_asked = go (first_free_lem (lists example free_list) refl)
  where
    r : 1 ≤ count first_control (lists example processor_list)
    r = rw example_runs at (running_in example_base (λ e. omega (arith, example_runs, e)))

    ready : wait_in (get_or example (place first_control Map.state) 0) ≡ 0
    ready = omega (arith, rw example_runs at ((invariant (well example_sound)).best.ready (λ e. omega (arith, example_runs, e))))

    empty : lists example page_queue ≡ []
    empty =
        nil (lists example page_queue) (chain0 example_base.facts.sep example_base.mem page_queue
        (in_asking (lists example processor_list), grant_low page_queue (omega arith)) (omega arith))
      where
        nil : (xs : List ℕ) → Chain example link page_queue xs → xs ≡ []
        nil [] c = refl
        nil (x ∷ xs) c = absurd (omega (arith, c.0, c.1, example_at page_queue 0 (computed 16 5).asks))

    bare : length (lists example (grant_for (name example first_control))) ≡ 0
    bare =
        let l : word example first_control Map.label ≡ pair first_priority first_name =
        example_at (place first_control Map.label) (pair first_priority first_name) (computed 16 5).label in
        rw l (ap length (example_base.mem.holds.grant first_name (omega arith))
        ∙ ap (λ (x : ℕ). length (some x)) (example_at (grant_for first_name) 0 (computed 16 5).grant))

    go : Dry (lists example processor_list) (lists example) (view example) → InHandAsked
    go t =
        let h = t.hand in
        let b = h.base in
        let hp : 1 ≤ count first_control h.procs = rw t.procs r in
        let b2 = wait_base free_semaphore first_control 0 b (page_sem h.procs) hp (rw t.state ready) (record {
          line = λ k i e. absurd (omega arith);
          page = λ e. (refl, ap length t.none, rw t.label (rw (t.others (grant_for (name example first_control)) (omega arith)) bare));
          own = λ y i e. let p = proc_page b.facts.sep y i in absurd (omega arith);
        }) in
        record {
          hand = record {
            memory = put_to_wait h.memory free_semaphore first_control 0;
            procs = h.procs;
            lists = upd h.lists page_queue (h.lists page_queue ++ first_control ∷ []);
            view = waiting h.view free_semaphore first_control 0;
            page = h.page;
            rest = h.rest;
            base = b2;
          };
          waiter = first_control;
          asks = walked b2 page_queue (in_asking h.procs) ∙ upd_same h.lists page_queue (h.lists page_queue ++ first_control ∷ [])
              ∙ ap (λ (l : List ℕ). l ++ first_control ∷ []) (t.others page_queue (omega arith) ∙ empty);
        }
