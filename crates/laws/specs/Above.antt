-- Document 02, 6/13: "CRP with a priority higher than that of the processor running it is now fault 13. It stands after 12 and before 9." Of the whole call,
-- direct and by EXI: for whom the CRP asks that is run, and what it is answered, test by test. Assumes nothing.
use Rattle.std.specs.Prelude.{◌≡◌, refl, ◌≢◌, ◌⊎◌, true, false, cond, List, [], ◌∷◌, ℕ, ◌-◌, ◌≤◌, ◌<◌, eqb}
use Rattle.std.proofs.Common.{inl, inr, arith, eq-eqb, ne_eqb, lt-ltb, le-ltb}
use Rattle.model.specs.declared.Arguments.{Arguments}
use Rattle.model.specs.Address.{guarded, clear, wrapped}
use Rattle.model.specs.Instruction.{built_in, crp_code, exi_code, first_word, length_for, shape_for}
use Rattle.model.specs.Operate as Operate
use Rattle.model.specs.Answer as Answer
use Rattle.model.specs.Answer.{answer_of, numbers, done_number, waits_number, bad_argument, above_itself, name_exists}
use Rattle.model.specs.Fault as Faults
use Rattle.model.specs.Call as Call
use Rattle.model.specs.Bytes.{Step, at, code_at, kind, direct, pointed, indexed, is_foreign, argument_fault, crp, crp_page, fault, fetched, instruction}
use Rattle.model.specs.Bytes.{lr, name, page_of, priority, running, take_page}
use Rattle.laws.specs.Words.{either}
use Rattle.laws.specs.Ways.{taken, crp_page_each}
use Rattle.laws.specs.Each.{fetched_tree, fetched_both}
use Rattle.laws.specs.Calls.{Sound, unrefused}

-- ---- for whom the CRP asks that the instruction at LR runs, direct or by EXI: one of that name and priority; nobody, if it is no CRP or faults before
pub data Asked : Type 0 where
  nobody : Asked
  one : ℕ → ℕ → Asked

abbrev pub asking : ℕ → Arguments → Asked
asking c x = cond (eqb c crp_code) (one x.field x.second) nobody

abbrev pub asked : List ℕ → Asked
asked m = fetched_tree nobody asking m (lr m)

-- so a CRP at LR asks for the one that its words say, where no test of the decoder applies
pub record AtLr (m : List ℕ) (c : ℕ) : Type 0 where
  pub first : guarded (lr m) ≡ false
  pub word : at m (lr m) ≡ first_word
  pub second : guarded (wrapped (lr m) 1) ≡ false
  pub code : code_at m (lr m) ≡ c
  pub kind : kind m c ≡ built_in
  pub rest : clear (length_for c - 2) (wrapped (lr m) 2) ≡ true

pub crp_asks : (m : List ℕ) → AtLr m crp_code → asked m ≡ one (direct m (lr m) (shape_for crp_code)).field (direct m (lr m) (shape_for crp_code)).second
crp_asks m t = rw (t.first, t.word, t.second, t.code, t.kind, t.rest)

-- and so does an EXI of CRP, whose arguments are at a
pub exi_asks : (m : List ℕ) → AtLr m exi_code → (a : ℕ) → (direct m (lr m) (shape_for exi_code)).field ≡ crp_code
    → indexed m (direct m (lr m) (shape_for exi_code)).second (direct m (lr m) (shape_for exi_code)).address ≡ a → is_foreign m crp_code ≡ false
    → argument_fault m crp_code a ≡ 0 → asked m ≡ one (pointed m a (shape_for crp_code)).field (pointed m a (shape_for crp_code)).second
exi_asks m t a c e f z = rw (t.first, t.word, t.second, t.code, t.kind, t.rest, c, e, f, z)

-- ---- what it is answered: 12, 13, 9, else it is done or waits for a page
abbrev pub Fails : List ℕ → Step → ℕ → Type 0
Fails m o f = numbers (answer_of o) ≡ f ∷ name m (running m) ∷ []

pub record InOrder (m : List ℕ) (o : Step) (n b : ℕ) : Type 0 where
  pub nameless : n ≡ 0 → Fails m o bad_argument
  pub lowest : b ≡ 0 → Fails m o bad_argument
  pub above : 1 ≤ n → priority m (running m) < b → Fails m o above_itself
  pub known : 1 ≤ n → 1 ≤ b → b ≤ priority m (running m) → page_of m n ≢ 0 → Fails m o name_exists
  pub allowed : 1 ≤ n → 1 ≤ b → b ≤ priority m (running m) → page_of m n ≡ 0
      → (numbers (answer_of o) ≡ done_number ∷ []) ⊎ (numbers (answer_of o) ≡ waits_number ∷ [])

abbrev Ordered : List ℕ → Step → Asked → Type 0
Ordered m o nobody = Unit {0}
Ordered m o (one n b) = InOrder m o n b

-- ---- CRP itself
fails : (m : List ℕ) (f : ℕ) → Fails m (fault m f) f
unfolding Faults.fault Answer.answer_of Answer.numbers
fails m f = refl

-- behind its tests it is done, or waits for a page
page_answers : (m : List ℕ) (n b w a len : ℕ) → (numbers (answer_of (crp_page m n b w a len)) ≡ done_number ∷ [])
    ⊎ (numbers (answer_of (crp_page m n b w a len)) ≡ waits_number ∷ [])
unfolding Operate.waits_for_page Answer.done Answer.waits Answer.answer_of Answer.numbers
page_answers m n b w a len =
    crp_page_each m (λ (o : Step). (numbers (answer_of o) ≡ done_number ∷ []) ⊎ (numbers (answer_of o) ≡ waits_number ∷ []))
    (taken (take_page m (running m))).2 n b w a len (λ z. inr refl) (λ z. inl refl)

-- where no test applies, what is behind them is what CRP does
pub crp_behind : (m : List ℕ) (n b w a len : ℕ) → 1 ≤ n → 1 ≤ b → b ≤ priority m (running m) → page_of m n ≡ 0
    → crp m n b w a len ≡ crp_page m n b w a len
unfolding Operate.crp
crp_behind m n b w a len n1 b1 u free =
    rw (ne_eqb n 0 (omega arith), ne_eqb b 0 (omega arith), le-ltb (priority m (running m)) b u, eq-eqb (page_of m n) 0 free)

pub crp_in_order : (m : List ℕ) (n b w a len : ℕ) → InOrder m (crp m n b w a len) n b
unfolding Operate.crp
crp_in_order m n b w a len = record {
  nameless = λ e. rw (eq-eqb n 0 e) (fails m bad_argument);
  lowest = λ e. rw (eq-eqb b 0 e) (either (λ (o : Step). Fails m o bad_argument) (eqb n 0) (fails m bad_argument) (fails m bad_argument));
  above = λ i u. rw (ne_eqb n 0 (omega arith), ne_eqb b 0 (omega arith), lt-ltb (priority m (running m)) b u) (fails m above_itself);
  known = λ i j u d.
      rw (ne_eqb n 0 (omega arith), ne_eqb b 0 (omega arith), le-ltb (priority m (running m)) b u, ne_eqb (page_of m n) 0 d) (fails m name_exists);
  allowed = λ i j u e. rw (crp_behind m n b w a len i j u e) (page_answers m n b w a len);
}

-- ---- whatever is executed, direct and by EXI
fetched_order : (m : List ℕ) (n : ℕ) → Ordered m (fetched m n) (fetched_tree nobody asking m n)
fetched_order m = fetched_both {B = λ c x. Unit {0}} {none = nobody} {leaf = asking} {P = Ordered m} (record {
  direct = λ n c. tt;
  pointed = λ c e. tt;
  fault = λ f i j. tt;
  handed = λ p a. tt;
  refused = tt;
  cvi = λ x len b. tt;
  dvi = λ x len b. tt;
  gin = λ x len b. tt;
  win = λ x len b. tt;
  sme = λ x len b. tt;
  wnm = λ x len b. tt;
  rme = λ x len b. tt;
  tme = λ x len b. tt;
  st1 = λ x len b. tt;
  stp = λ x len b. tt;
  st2 = λ x len b. tt;
  crp = λ x len b. crp_in_order m x.field x.second x.w x.address len;
  dep = λ x len b. tt;
  thirteen = λ x len b. tt;
})

-- ---- the call
pub asked_in_order : {m : List ℕ} → Sound m → running m ≢ 0 → (n b : ℕ) → asked m ≡ one n b → InOrder m (instruction m) n b
unfolding Call.head Call.instruction Call.instruction_judged
asked_in_order {m} k d n b e = rw (unrefused k, ne_eqb (running m) 0 d) (rw e at (fetched_order m (lr m)))
