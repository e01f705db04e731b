-- The head of a call, what a call comes to behind its refusals, and that a call allows one outcome only, by what is told and by the code's own result.
use Rattle.std.proofs.Common.{◌≡◌, ◌≢◌, ℕ, ◌-◌, List, [], ◌∷◌, length, get_or, cond, eqb, refl, sym, ap, ◌∙◌}
use Rattle.std.specs.Prelude.{Bool, true, false, Result, Ok, Err}
use Rattle.std.specs.Array.{IsWholeChunk}
use Rattle.std.specs.Result.{IsErrAnd}
use borrow.Author.Tests.{eq-eqb, ne_eqb}
use native.Mathlib.Omega.{arith}
use Rattle.model.specs.declared.Answer.{Answer as Answered}
use Rattle.model.specs.declared.Answer.TheVariants.{Done}
use Rattle.model.specs.declared.ControlPage.{ControlPage}
use Rattle.model.specs.declared.Registers.{Registers}
use Rattle.model.specs.declared.fault.Fault.{Fault as Faulted}
use Rattle.model.specs.declared.fault.NoFault.{NoFault}
use Rattle.model.specs.declared.refusal.Class.{Class}
use Rattle.model.specs.declared.refusal.Broken.{Broken as BrokenAt}
use Rattle.model.specs.declared.refusal.Refusal.{Refusal}
use Rattle.model.specs.Told.{Answer, Held, Verdict, Writing, Fit}
use Rattle.model.specs.Map.{memory_size, low}
use Rattle.model.specs.Answer.{Outcome, wrong_length, no_interrupt, wrong_class, too_new, broken_pages}
use Rattle.model.specs.Answer.Outcome.{gives}
use Rattle.model.specs.Coded as Coded
use Rattle.model.specs.Coded.{told, held_told, verdict_told, writing_told, fit_told, broken_told, fault_number, fault_of, class_number}
use Rattle.model.specs.Burst as Burst
use Rattle.model.specs.Burst.{is_list}
use Rattle.model.specs.Fresh.{startable}
use Rattle.model.specs.Call as Call
use Rattle.model.specs.Layout as Layout
use Rattle.model.specs.Layout.{is_good, newest, of_block, of_file}
use Rattle.model.specs.Settings as Settings
use Rattle.laws.specs.Calls.{args_of}
use Rattle.laws.specs.Fits.{ends_of}
use Rattle.kernel.specs.Spoken as Spoken
use Rattle.kernel.specs.Spoken.{spoken, idle_or}
use Rattle.model.specs.Processor.{in_range}
use Rattle.model.specs.Bytes as Model
use Rattle.model.specs.Bytes.{Memory, Step, told_of, head, running, lr, registers_of, set_registers_of, fetched, started, settled, from_settings, heeds_file}

-- ---- the head of a call but fresh: the length, then what is found. What the code has as a Result of X, the paper has as an A
pub record Way (A X : Type 0) : Type 0 where
  pub refuses : ℕ → A
  pub tells : ℕ → ℕ → A
  pub says : Result X Refusal → A
  pub err : (e : Refusal) → says (Err e) ≡ Coded.refusal refuses tells e

module _ {A X : Type 0} (w : Way A X) (goes : Memory → Outcome A Memory) where
  pub head_short : (m : Memory) → length m ≢ memory_size → gives (w.says (Err Refusal.WrongLength)) m ≡ head m w.refuses w.tells (goes m)
  unfolding Call.head Call.finding Coded.refusal
  head_short m d = rw (w.err Refusal.WrongLength, ne_eqb (length m) memory_size d)

  -- n is m, as an array
  module _ (m n : Memory) (h : IsWholeChunk m n memory_size) where
    pub head_broken : (b : BrokenAt) (r : Result X Refusal) → broken_told (Err b) ≡ told_of n → IsErrAnd r (λ e. e ≡ Refusal.Broken b)
        → gives (w.says r) n ≡ head m w.refuses w.tells (goes m)
    unfolding Call.head Call.finding Coded.refusal Coded.broken_told
    head_broken b (Ok a) x y = absurd y
    head_broken b (Err e) x y =
        let l = eq-eqb (length m) memory_size h.long in
        let z : broken_told (Err b) ≡ told_of m = rw h.same at x in
        rw (y, w.err (Refusal.Broken b), h.same, l, ← z)

    pub head_goes : (r : Result X Refusal) (k : Memory) → broken_told (Ok tt) ≡ told_of n → gives (w.says r) k ≡ goes n → gives (w.says r) k ≡ head m w.refuses w.tells (goes m)
    unfolding Call.head Call.finding Coded.broken_told
    head_goes r k x y =
        let l = eq-eqb (length m) memory_size h.long in
        let z : broken_told (Ok tt) ≡ told_of m = rw h.same at x in
        rw (l, ← z) (rw h.same at y)

    -- the same of a call that is only lent the memory to look at
    pub look_broken : (b : BrokenAt) (r : Result X Refusal) → broken_told (Err b) ≡ told_of n → IsErrAnd r (λ e. e ≡ Refusal.Broken b)
        → gives (w.says r) m ≡ head m w.refuses w.tells (goes m)
    look_broken b r x y = let e = head_broken b r x y in rw h.same at e

    pub look_goes : (r : Result X Refusal) → broken_told (Ok tt) ≡ told_of n → gives (w.says r) n ≡ goes n → gives (w.says r) m ≡ head m w.refuses w.tells (goes m)
    look_goes r x y = let e = head_goes r n x y in rw h.same at e

-- the same of the calls that answer as an instruction does, of reading registers and of judging
pub told_err : (e : Refusal) → told (Err e) ≡ Coded.refusal Answer.Refused Answer.RefusedAt e
unfolding Coded.told
told_err e = refl

pub held_err : (e : Refusal) → held_told (Err e) ≡ Coded.refusal Held.Refused Held.RefusedAt e
unfolding Coded.held_told
held_err e = refl

pub verdict_err : (e : Refusal) → verdict_told (Err e) ≡ Coded.refusal Verdict.Refused Verdict.RefusedAt e
unfolding Coded.verdict_told
verdict_err e = refl

abbrev pub step : Way Answer Answered
step = record { refuses = Answer.Refused; tells = Answer.RefusedAt; says = told; err = told_err }

abbrev pub held : Way Held Registers
held = record { refuses = Held.Refused; tells = Held.RefusedAt; says = held_told; err = held_err }

abbrev pub verdict : Way Verdict (Unit {0})
verdict = record { refuses = Verdict.Refused; tells = Verdict.RefusedAt; says = verdict_told; err = verdict_err }

-- ---- a wrong list, which is refused behind the head of a call and not before it: n is m, as an array. A control of the edit `list_before_memory` stands on it
module _ (m n : Memory) (h : IsWholeChunk m n memory_size) (l : List ℕ) (b : Bool) (eb : b ≡ is_list l) where
  pub list_wrong : b ≡ false → broken_told (Ok tt) ≡ told_of n → gives (told (Err Refusal.WrongList)) n ≡ Model.burst m l
  unfolding Burst.burst Burst.burst_judged Coded.told Coded.refusal
  list_wrong f x = head_goes step (λ k. Model.burst_judged k l) m n h (Err Refusal.WrongList) n x (rw (← eb, f))

-- ---- the fresh start; n is m, as an array
pub fresh_short : (m : Memory) (l d : ℕ) → length m ≢ memory_size → gives (told (Err Refusal.WrongLength)) m ≡ Model.fresh m l d
unfolding Call.fresh Coded.told Coded.refusal
fresh_short m l d h = rw (ne_eqb (length m) memory_size h)

module _ (m n : Memory) (h : IsWholeChunk m n memory_size) (l d : ℕ) (b : Bool) (eb : b ≡ startable l d) where
  pub fresh_wrong : b ≡ false → gives (told (Err Refusal.OutOfRange)) n ≡ Model.fresh m l d
  unfolding Call.fresh Coded.told Coded.refusal
  fresh_wrong f = rw (eq-eqb (length m) memory_size h.long, ← eb, f, h.same)

  -- v and w are line and divider as bytes
  pub fresh_done : (m₁ : Memory) (v w : ℕ) → b ≡ true → m₁ ≡ started n v w → v ≡ low l → w ≡ low d → gives (told (Ok Done)) m₁ ≡ Model.fresh m l d
  unfolding Call.fresh Coded.told Coded.answered
  fresh_done m₁ v w t e ev ew =
      let r = args_of l d (sym eb ∙ t) in
      let x : v ≡ l = omega (arith, r) in
      let y : w ≡ d = omega (arith, r) in
      rw (eq-eqb (length m) memory_size h.long, ← eb, t, e, x, y, h.same)

-- ---- 22, where nobody runs
module _ (m : Memory) (e : Refusal) (h : idle_or (running m) (Err e)) where
  pub idle_instruction : (r : Result Answered Refusal) → IsErrAnd r (λ x. x ≡ e) → gives (told r) m ≡ Model.instruction_judged m
  unfolding Call.instruction_judged Coded.told Coded.refusal
  idle_instruction (Ok a) y = absurd y
  idle_instruction (Err x) y = rw (y, h.0, eq-eqb (running m) 0 h.1)

  pub idle_read : (r : Result Registers Refusal) → IsErrAnd r (λ x. x ≡ e) → gives (held_told r) m ≡ Model.read_judged m
  unfolding Call.read_judged Coded.held_told Coded.refusal
  idle_read (Ok a) y = absurd y
  idle_read (Err x) y = rw (y, h.0, eq-eqb (running m) 0 h.1)

  pub idle_set : (r : Result Answered Refusal) (x : Registers) → IsErrAnd r (λ x. x ≡ e) → gives (told r) m ≡ Model.set_judged m x
  unfolding Call.set_judged Coded.told Coded.refusal
  idle_set (Ok a) x y = absurd y
  idle_set (Err z) x y = rw (y, h.0, eq-eqb (running m) 0 h.1)

-- what stands behind 22: p is the page of the one that runs
module _ (m : Memory) (p : ControlPage) (h : idle_or (running m) (Ok p)) where
  pub instruction_fetched : (r : Result Answered Refusal) (m₁ : Memory) (a : ℕ) → a ≡ lr m → gives (told r) m₁ ≡ fetched m a → gives (told r) m₁ ≡ Model.instruction_judged m
  unfolding Call.instruction_judged
  instruction_fetched r m₁ a ea e = rw (ne_eqb (running m) 0 h.1, ← ea) e

  pub registers_read : (r : Registers) → r ≡ registers_of m p.0 → gives (held_told (Ok r)) m ≡ Model.read_judged m
  unfolding Call.read_judged Coded.held_told
  registers_read r e = rw (ne_eqb (running m) 0 h.1, e, h.0)

  module _ (x : Registers) (b : Bool) (eb : b ≡ in_range x) where
    pub registers_wide : b ≡ false → gives (told (Err Refusal.OutOfRange)) m ≡ Model.set_judged m x
    unfolding Call.set_judged Coded.told Coded.refusal
    registers_wide f = rw (ne_eqb (running m) 0 h.1, ← eb, f)

    pub registers_set : (m₁ : Memory) → b ≡ true → m₁ ≡ set_registers_of m p.0 x → gives (told (Ok Done)) m₁ ≡ Model.set_judged m x
    unfolding Call.set_judged Coded.told Coded.answered
    registers_set m₁ t e = rw (ne_eqb (running m) 0 h.1, ← eb, t, e, h.0)

pub ruleset running_one = (idle_instruction, idle_read, idle_set, instruction_fetched, registers_read, registers_wide, registers_set)

-- ---- the fresh start from settings in the file f
pub settings_short : (m : Memory) (f : List ℕ) → length m ≢ memory_size → gives (told (Err Refusal.WrongLength)) m ≡ from_settings m f
unfolding Settings.from_settings Coded.told Coded.refusal
settings_short m f h = rw (ne_eqb (length m) memory_size h)

-- a refusal of the file is one of the call
file_heeded : (m : Memory) (f : List ℕ) (e : Refusal)
    → heeds_file (Coded.refusal Fit.Refused Fit.RefusedAt e) m f ≡ gives (Coded.refusal Answer.Refused Answer.RefusedAt e) m
unfolding Coded.refusal
file_heeded m f Refusal.WrongLength = refl
file_heeded m f Refusal.Idle = refl
file_heeded m f Refusal.NoInstruction = refl
file_heeded m f Refusal.NoInterrupt = refl
file_heeded m f (Refusal.NoInterruptAt i) = refl
file_heeded m f Refusal.WrongClass = refl
file_heeded m f (Refusal.WrongClassAt i) = refl
file_heeded m f Refusal.OutOfRange = refl
file_heeded m f Refusal.WrongList = refl
file_heeded m f Refusal.BrokenLayout = refl
file_heeded m f (Refusal.TooNew v) = refl
file_heeded m f (Refusal.Broken b) = refl
file_heeded m f Refusal.NoRoom = refl

module _ (f : List ℕ) where
  pub file_good : fit_told (Ok tt) ≡ of_file f → is_good (of_file f) ≡ true
  unfolding Layout.is_good Coded.fit_told
  file_good e = rw (← e)

  pub newest_good : (b : List ℕ) → fit_told (Ok tt) ≡ of_file f → b ≡ newest f → is_good (of_block b) ≡ true
  unfolding Layout.is_good Coded.fit_told
  newest_good b e eb = rw (eb, (ends_of f (sym e)).block)

  -- n is m, as an array
  module _ (m n : Memory) (h : IsWholeChunk m n memory_size) where
    pub settings_refused : (e : Refusal) (r : Result Answered Refusal) → fit_told (Err e) ≡ of_file f → IsErrAnd r (λ x. x ≡ e) → gives (told r) n ≡ from_settings m f
    unfolding Settings.from_settings Coded.told Coded.fit_told
    settings_refused e (Ok a) x y = absurd y
    settings_refused e (Err z) x y = rw (y, eq-eqb (length m) memory_size h.long, ← x, h.same) (sym (file_heeded m f e))

    pub settings_done : (b : List ℕ) (k : Memory) → fit_told (Ok tt) ≡ of_file f → b ≡ newest f → k ≡ settled n b → gives (told (Ok Done)) k ≡ from_settings m f
    unfolding Settings.from_settings Coded.told Coded.answered Coded.fit_told
    settings_done b k e eb ek = rw (eq-eqb (length m) memory_size h.long, ← e, ek, eb, h.same)

-- ---- two outcomes that one statement allows are equal, in answer and in memory: of each call, f being its outcome
pub one_outcome : {A : Type 0} (a b : A) (m n : Memory) (f : Outcome A Memory) → gives a m ≡ f → gives b n ≡ f → (a ≡ b) × (m ≡ n)
one_outcome a b m n f p q = let e : gives a m ≡ gives b n = p ∙ sym q in (cc, cc)

-- ---- what is told of a result, told back: the fault with a number, the refusal with a number alone, and that with one number beside it
fault_back : (f : Faulted) → fault_of (fault_number f) ≡ Ok f
unfolding Coded.fault_of Coded.fault_number
fault_back Faulted.AbsentCode = refl
fault_back Faulted.ExiOfExi = refl
fault_back Faulted.CodeExists = refl
fault_back Faulted.KeptCode = refl
fault_back Faulted.BadWait = refl
fault_back Faulted.NoMatch = refl
fault_back Faulted.NoName = refl
fault_back Faulted.NotStartable = refl
fault_back Faulted.NameExists = refl
fault_back Faulted.NotStopped = refl
fault_back Faulted.Protected = refl
fault_back Faulted.BadArgument = refl
fault_back Faulted.AboveItself = refl

abbrev faulted : Result Faulted NoFault → ℕ → Result Answered Refusal
faulted (Ok f) n = Ok (Answered.Fault f (record { 0 = n }))
faulted (Err e) n = Ok Answered.Done

-- no refusal has the number 21
abbrev bare : ℕ → Refusal
bare k =
    get_or
    (Refusal.WrongLength ∷ Refusal.WrongLength ∷ Refusal.Idle ∷ Refusal.NoInstruction ∷ Refusal.NoInterrupt ∷ Refusal.WrongClass ∷ Refusal.OutOfRange
    ∷ Refusal.WrongList ∷ Refusal.BrokenLayout ∷ [])
    (k - wrong_length)
    Refusal.NoRoom

abbrev class_of : ℕ → Class
class_of k = get_or (Class.Pages ∷ Class.Waits ∷ Class.Records ∷ Class.Tables ∷ []) (k - broken_pages) Class.Counters

class_back : (c : Class) → class_of (class_number c) ≡ c
unfolding Coded.class_number
class_back Class.Pages = refl
class_back Class.Waits = refl
class_back Class.Records = refl
class_back Class.Tables = refl
class_back Class.Counters = refl

abbrev broken_at : ℕ → ℕ → Refusal
broken_at k a = Refusal.Broken (record { class = class_of k; address = a })

abbrev placed : ℕ → ℕ → Refusal
placed k a =
    cond (eqb k no_interrupt) (Refusal.NoInterruptAt a)
    (cond (eqb k wrong_class) (Refusal.WrongClassAt a) (cond (eqb k too_new) (Refusal.TooNew a) (broken_at k a)))

placed_broken : (b : BrokenAt) → placed (class_number b.class) b.address ≡ Refusal.Broken b
unfolding Coded.class_number
placed_broken b = go b.class
  where
    go : (c : Class) → placed (class_number c) b.address ≡ Refusal.Broken (record { class = c; address = b.address })
    go Class.Pages = refl
    go Class.Waits = refl
    go Class.Records = refl
    go Class.Tables = refl
    go Class.Counters = refl

refusal_back : {A X : Type 0} (back : A → Result X Refusal) (refuses : ℕ → A) (tells : ℕ → ℕ → A) → ((k : ℕ) → back (refuses k) ≡ Err (bare k))
    → ((k a : ℕ) → back (tells k a) ≡ Err (placed k a)) → (e : Refusal) → back (Coded.refusal refuses tells e) ≡ Err e
unfolding Coded.refusal
refusal_back back refuses tells alone beside Refusal.WrongLength = alone 20
refusal_back back refuses tells alone beside Refusal.Idle = alone 22
refusal_back back refuses tells alone beside Refusal.NoInstruction = alone 23
refusal_back back refuses tells alone beside Refusal.NoInterrupt = alone 24
refusal_back back refuses tells alone beside (Refusal.NoInterruptAt i) = beside 24 i
refusal_back back refuses tells alone beside Refusal.WrongClass = alone 25
refusal_back back refuses tells alone beside (Refusal.WrongClassAt i) = beside 25 i
refusal_back back refuses tells alone beside Refusal.OutOfRange = alone 26
refusal_back back refuses tells alone beside Refusal.WrongList = alone 27
refusal_back back refuses tells alone beside Refusal.BrokenLayout = alone 28
refusal_back back refuses tells alone beside (Refusal.TooNew v) = beside 29 v
refusal_back back refuses tells alone beside (Refusal.Broken b) = rw placed_broken at (beside (class_number b.class) b.address)
refusal_back back refuses tells alone beside Refusal.NoRoom = alone 35

abbrev answer_back : Answer → Result Answered Refusal
answer_back Answer.Done = Ok Answered.Done
answer_back Answer.Waits = Ok Answered.Waits
answer_back (Answer.HandedOut p a) = Ok (Answered.HandedOut p a)
answer_back (Answer.Fault f n) = faulted (fault_of f) n
answer_back (Answer.Refused k) = Err (bare k)
answer_back (Answer.RefusedAt k a) = Err (placed k a)

told_back : (r : Result Answered Refusal) → answer_back (told r) ≡ r
unfolding Coded.told Coded.answered
told_back (Ok Answered.Done) = refl
told_back (Ok Answered.Waits) = refl
told_back (Ok (Answered.HandedOut p a)) = refl
told_back (Ok (Answered.Fault f n)) = ap (λ (q : Result Faulted NoFault). faulted q n.0) (fault_back f)
told_back (Err e) = refusal_back answer_back Answer.Refused Answer.RefusedAt (λ k. refl) (λ k a. refl) e

abbrev held_back : Held → Result Registers Refusal
held_back (Held.Has r) = Ok r
held_back (Held.Refused k) = Err (bare k)
held_back (Held.RefusedAt k a) = Err (placed k a)

held_told_back : (r : Result Registers Refusal) → held_back (held_told r) ≡ r
unfolding Coded.held_told
held_told_back (Ok r) = refl
held_told_back (Err e) = refusal_back held_back Held.Refused Held.RefusedAt (λ k. refl) (λ k a. refl) e

abbrev verdict_back : Verdict → Result (Unit {0}) Refusal
verdict_back Verdict.WellFormed = Ok tt
verdict_back (Verdict.Refused k) = Err (bare k)
verdict_back (Verdict.RefusedAt k a) = Err (placed k a)

verdict_told_back : (r : Result (Unit {0}) Refusal) → verdict_back (verdict_told r) ≡ r
unfolding Coded.verdict_told
verdict_told_back (Ok u) = refl
verdict_told_back (Err e) = refusal_back verdict_back Verdict.Refused Verdict.RefusedAt (λ k. refl) (λ k a. refl) e

abbrev writing_back : Writing → Result ℕ Refusal
writing_back (Writing.Written n) = Ok n
writing_back (Writing.Refused k) = Err (bare k)
writing_back (Writing.RefusedAt k a) = Err (placed k a)

writing_told_back : (r : Result ℕ Refusal) → writing_back (writing_told r) ≡ r
unfolding Coded.writing_told
writing_told_back (Ok n) = refl
writing_told_back (Err e) = refusal_back writing_back Writing.Refused Writing.RefusedAt (λ k. refl) (λ k a. refl) e

-- ---- so two results of which the same is told are one
once : {A R : Type 0} (tell : R → A) (back : A → R) → ((r : R) → back (tell r) ≡ r) → (r s : R) → tell r ≡ tell s → r ≡ s
once tell back h r s e = sym (h r) ∙ ap back e ∙ h s

pub told_once : (r s : Result Answered Refusal) → told r ≡ told s → r ≡ s
told_once = once told answer_back told_back

pub held_told_once : (r s : Result Registers Refusal) → held_told r ≡ held_told s → r ≡ s
held_told_once = once held_told held_back held_told_back

pub verdict_told_once : (r s : Result (Unit {0}) Refusal) → verdict_told r ≡ verdict_told s → r ≡ s
verdict_told_once = once verdict_told verdict_back verdict_told_back

pub writing_told_once : (r s : Result ℕ Refusal) → writing_told r ≡ writing_told s → r ≡ s
writing_told_once = once writing_told writing_back writing_told_back

-- ---- and two results and memories that one statement allows are equal: of each call, f being its outcome
one_of : {A R : Type 0} (tell : R → A) → ((r s : R) → tell r ≡ tell s → r ≡ s) → (r s : R) (m n : Memory) (f : Outcome A Memory) → gives (tell r) m ≡ f
    → gives (tell s) n ≡ f → (r ≡ s) × (m ≡ n)
one_of tell same r s m n f p q = let e = one_outcome (tell r) (tell s) m n f p q in (same r s e.0, e.1)

pub one_result : (r s : Result Answered Refusal) (m n : Memory) (f : Outcome Answer Memory) → gives (told r) m ≡ f → gives (told s) n ≡ f → (r ≡ s) × (m ≡ n)
one_result = one_of told told_once

pub one_held_result : (r s : Result Registers Refusal) (m n : Memory) (f : Outcome Held Memory) → gives (held_told r) m ≡ f → gives (held_told s) n ≡ f
    → (r ≡ s) × (m ≡ n)
one_held_result = one_of held_told held_told_once

pub one_verdict_result : (r s : Result (Unit {0}) Refusal) (m n : Memory) (f : Outcome Verdict Memory) → gives (verdict_told r) m ≡ f
    → gives (verdict_told s) n ≡ f → (r ≡ s) × (m ≡ n)
one_verdict_result = one_of verdict_told verdict_told_once

pub one_writing_result : (r s : Result ℕ Refusal) (m n : Memory) (f : Outcome Writing Memory) → gives (writing_told r) m ≡ f → gives (writing_told s) n ≡ f
    → (r ≡ s) × (m ≡ n)
one_writing_result = one_of writing_told writing_told_once

-- ---- the same by numbers
pub by_numbers : {A : Type 0} (ns : A → List ℕ) (a : A) (m : Memory) (o : Outcome A Memory) → gives a m ≡ o → gives (ns a) m ≡ spoken ns o
unfolding Spoken.spoken
by_numbers {A} ns a m o e = ap (λ (x : Outcome A Memory). spoken ns x) e
