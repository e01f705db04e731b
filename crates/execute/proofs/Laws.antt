-- A law for each way from the word at LR to an instruction, and through EXI.
use Prim.Native.Nat.{ℕ, zero, suc, ◌-◌, ◌≤◌}
use mathlib.Core.Path.{◌≡◌, refl, sym, ap, ◌∙◌}
use mathlib.Core.Bool.{Bool, true, false, cond, not, false≢true}
use borrow.Author.Tests.{eq-eqb, ne_eqb, eqb-true}
use lib.Dec.{eqb}
use lib.ListN.{get_or-eq_default}
use native.Mathlib.Numerals.{sub-one}
use native.Mathlib.Omega.{arith}
use Rattle.std.specs.Prelude.{Result, Ok, Err}
use Rattle.model.specs.Told.Answer.{HandedOut, Refused}
use Rattle.model.specs.declared.Arguments.{Arguments}
use Rattle.model.specs.declared.fault.Fault.{Fault}
use Rattle.model.specs.declared.fault.Fault.TheVariants.{AbsentCode, ExiOfExi, Protected, BadArgument}
use Rattle.model.specs.declared.instructions.Code.{Code}
use Rattle.model.specs.declared.instructions.Kind.TheVariants.{BuiltIn, Own}
use Rattle.model.specs.Coded.{fault_number, code_number, code_of, kind_number}
use Rattle.model.specs.Map.{upper}
use Rattle.model.specs.Address as Address
use Rattle.model.specs.Address.{wrapped, guarded, clear}
use Rattle.model.specs.Answer.Outcome.{gives}
use Rattle.model.specs.Answer.{no_instruction, protected, bad_argument}
use Rattle.model.specs.Instruction as Instruction
use Rattle.model.specs.Instruction.{first_word, length_for, count_for, shape_for, lengths, argument_counts, exi_code, built_in, own}
use Rattle.model.specs.Execute as Execute
use Rattle.model.specs.Bytes as Model
use Rattle.model.specs.Bytes.{Memory, Step, at, kind, program, indexed, within, fault, run, exi, argued, foreign, is_foreign}
use Rattle.model.specs.Bytes.{argument_fault, execute, taken, decoded, coded, fetched}
use Rattle.model.proofs.Codes.{by_code, number_of, no_code}
use Rattle.execute.specs.Given as Given
use Rattle.execute.specs.Given.{direct, pointed, direct_of, pointed_of}

-- ---- a code that is not built in
module _ (m : Memory) (c : ℕ) (b : Bool) where
  pub foreign_own : (a p : ℕ) → b ≡ eqb (kind m c) (kind_number Own) → b ≡ true → p ≡ program m c → gives (HandedOut p a) m ≡ foreign m c a
  unfolding Execute.foreign kind_number
  foreign_own a p e z ep = rw (← e, z, ← ep)

  pub foreign_absent : (o : Step) (a : ℕ) → b ≡ eqb (kind m c) (kind_number Own) → b ≡ false → o ≡ fault m (fault_number AbsentCode) → o ≡ foreign m c a
  unfolding Execute.foreign kind_number fault_number
  foreign_absent o a e z h = rw (← e, z) h

  pub foreign_not : (c ≡ exi_code → ⊥) → b ≡ eqb (kind m c) (kind_number BuiltIn) → not b ≡ is_foreign m c
  unfolding Execute.is_foreign kind_number
  foreign_not y e = rw (ne_eqb c exi_code y, ← e) (other b)
    where
      other : (b : Bool) → not b ≡ cond b false true
      other true = refl
      other false = refl

  pub foreign_exi : c ≡ exi_code → false ≡ is_foreign m c
  unfolding Execute.is_foreign
  foreign_exi z = rw (eq-eqb c exi_code z)

pub ruleset foreign_codes = (foreign_own, foreign_absent, foreign_not, foreign_exi)

-- ---- the instruction and what it is given
module _ (m : Memory) (c n : ℕ) (r : Result Code Fault) (er : r ≡ code_of c) where
  module _ (f : Fault) (e : r ≡ Err f) where
    pub direct_none : Err f ≡ direct m n c
    unfolding Given.direct
    direct_none = rw (← er, e)

    pub pointed_none : Err f ≡ pointed m c n
    unfolding Given.pointed
    pointed_none = rw (← er, e)

  module _ (k : Code) (b : ℕ) (v : Bool) (e : r ≡ Ok k) where
    module _ (l : ℕ) (el : l ≡ length_for (code_number k)) (eb : b ≡ wrapped n 2) (ev : v ≡ clear (l - 2) b) where
      pub direct_guarded : v ≡ false → Err Protected ≡ direct m n c
      unfolding Given.direct
      direct_guarded h = rw (← er, e, ← el, ← eb, ← ev, h)

      pub direct_given : (s : ℕ) (x : Arguments) → v ≡ true → s ≡ shape_for (code_number k) → x ≡ Model.direct m n s → Ok (k, x) ≡ direct m n c
      unfolding Given.direct
      direct_given s x h es ex = rw (← er, e, ← el, ← eb, ← ev, h, ← es, ← ex)

    module _ (eb : b ≡ count_for (code_number k)) (ev : v ≡ clear b n) where
      pub pointed_guarded : v ≡ false → Err Protected ≡ pointed m c n
      unfolding Given.pointed
      pointed_guarded h = rw (← er, e, ← eb, ← ev, h)

      module _ (d : Bool) (s : ℕ) (h : v ≡ true) (es : s ≡ shape_for (code_number k)) (ed : d ≡ within b m n s) where
        pub pointed_given : (x : Arguments) → d ≡ true → x ≡ Model.pointed m n s → Ok (k, x) ≡ pointed m c n
        unfolding Given.pointed
        pointed_given x g ex = rw (← er, e, ← eb, ← ev, h, ← es, ← ed, g, ← ex)

        pub pointed_bad : d ≡ false → Err BadArgument ≡ pointed m c n
        unfolding Given.pointed
        pointed_bad g = rw (← er, e, ← eb, ← ev, h, ← es, ← ed, g)

pub ruleset given = (direct_none, direct_given, direct_guarded, pointed_none, pointed_given, pointed_guarded, pointed_bad)

-- ---- what is run of it
abbrev pub ran : ℕ → Memory → ℕ → ℕ → Result (Code × Arguments) Fault → Step
ran d m c len (Ok t) = execute d m c t.1 len
ran d m c len (Err f) = fault m (fault_number f)

absent_run : (d : ℕ) (m : Memory) (c : ℕ) (x : Arguments) (len : ℕ) → 15 ≤ c → execute d m c x len ≡ fault m (fault_number AbsentCode)
unfolding Execute.run fault_number
absent_run d m c x len l = rw get_or-eq_default

-- what is run by the number: of a code, or the fault that there is none
module _ (m : Memory) (c : ℕ) (x : Arguments) (len d : ℕ) (o : Step) where
  pub run_code : (k : Code) → Ok k ≡ code_of c → o ≡ execute d m (code_number k) x len → o ≡ execute d m c x len
  run_code k e h = h ∙ ap (λ i. execute d m i x len) (number_of c k e)

  pub run_none : (f : Fault) → Err f ≡ code_of c → o ≡ fault m (fault_number f) → o ≡ execute d m c x len
  run_none f e h =
      let n : (15 ≤ c) × (f ≡ AbsentCode) = no_code c f e in
      h ∙ ap (λ i. fault m (fault_number i)) n.1 ∙ sym (absent_run d m c x len n.0)

pub ruleset numbers = (run_code, run_none)

-- "11 at other instruction words"
module _ (m : Memory) (n : ℕ) where
  taken_if : (k : Code) (v : Bool)
      → cond v (execute 1 m (code_number k) (Model.direct m n (shape_for (code_number k))) (length_for (code_number k))) (fault m protected)
      ≡ ran 1 m (code_number k) (length_for (code_number k)) (cond v (Ok (k, Model.direct m n (shape_for (code_number k)))) (Err Protected))
  unfolding fault_number
  taken_if k true = refl
  taken_if k false = refl

  taken_one : (k : Code) → taken m n (code_number k) ≡ ran 1 m (code_number k) (length_for (code_number k)) (direct_of m n (Ok k))
  unfolding Execute.taken
  taken_one k = taken_if k (clear (length_for (code_number k) - 2) (wrapped n 2))

  taken_none : (c : ℕ) → 15 ≤ c → taken m n c ≡ fault m (fault_number AbsentCode)
  unfolding Execute.taken Address.clear
  taken_none c l =
      let e : length_for c ≡ 2 = get_or-eq_default lengths 2 l in
      rw e (absent_run 1 m c (Model.direct m n (shape_for c)) 2 l)

  taken_by : (c : ℕ) → taken m n c ≡ ran 1 m c (length_for c) (direct m n c)
  unfolding Given.direct
  taken_by = by_code (λ c r. taken m n c ≡ ran 1 m c (length_for c) (direct_of m n r)) taken_one taken_none

-- EXI: "2, pointed code 1 or handed out, then 11; 12"
module _ (m : Memory) (d e : ℕ) where
  abbrev pub tested : ℕ → Step
  tested c =
      cond (eqb (argument_fault m c e) 0)
      (execute d m c (Model.pointed m e (shape_for c)) (length_for exi_code))
      (fault m (argument_fault m c e))

  tested_if : (k : Code) (b v w : Bool) → (b ≡ true → v ≡ true) → (b ≡ true → w ≡ true)
      → cond (eqb (cond b 0 (cond v (cond w 0 bad_argument) protected)) 0)
      (execute d m (code_number k) (Model.pointed m e (shape_for (code_number k))) (length_for exi_code))
      (fault m (cond b 0 (cond v (cond w 0 bad_argument) protected)))
      ≡ ran d m (code_number k) (length_for exi_code)
      (cond v (cond w (Ok (k, Model.pointed m e (shape_for (code_number k)))) (Err BadArgument)) (Err Protected))
  unfolding fault_number
  tested_if k true true true h g = refl
  tested_if k true true false h g = absurd (false≢true (g refl))
  tested_if k true false w h g = absurd (false≢true (h refl))
  tested_if k false true true h g = refl
  tested_if k false true false h g = refl
  tested_if k false false w h g = refl

  exi_clear : (c : ℕ) → eqb c exi_code ≡ true → clear (count_for c) e ≡ true
  unfolding Address.clear
  exi_clear c h = rw (eqb-true c exi_code h)

  exi_within : (c : ℕ) → eqb c exi_code ≡ true → within (count_for c) m e (shape_for c) ≡ true
  unfolding Instruction.within
  exi_within c h = rw (eqb-true c exi_code h)

  tested_one : (k : Code) → tested (code_number k) ≡ ran d m (code_number k) (length_for exi_code) (pointed_of m e (Ok k))
  unfolding Execute.argument_fault
  tested_one k =
      tested_if k (eqb (code_number k) exi_code) (clear (count_for (code_number k)) e) (within (count_for (code_number k)) m e (shape_for (code_number k)))
      (exi_clear (code_number k))
      (exi_within (code_number k))

  tested_none : (c : ℕ) → 15 ≤ c → tested c ≡ fault m (fault_number AbsentCode)
  unfolding Execute.argument_fault Address.clear Instruction.within
  tested_none c l =
      let y : count_for c ≡ 0 = get_or-eq_default argument_counts 0 l in
      rw (ne_eqb c exi_code (λ z. omega arith), y) (absent_run d m c (Model.pointed m e (shape_for c)) (length_for exi_code) l)

  tested_by : (c : ℕ) → tested c ≡ ran d m c (length_for exi_code) (pointed m c e)
  unfolding Given.pointed
  tested_by = by_code (λ c r. tested c ≡ ran d m c (length_for exi_code) (pointed_of m e r)) tested_one tested_none

-- ---- EXI by depth
module _ (m : Memory) (o : Step) (x : Arguments) where
  pub exi_none : (d : ℕ) → d ≡ 0 → o ≡ fault m (fault_number ExiOfExi) → o ≡ exi d m x
  unfolding Execute.exi fault_number
  exi_none zero z h = h
  exi_none (suc d) z h = absurd (omega arith)

  module _ (e : ℕ) (b : Bool) (ee : e ≡ indexed m x.second x.address) (eb : b ≡ is_foreign m x.field) where
    pub exi_foreign : (d : ℕ) → (d ≡ 0 → ⊥) → b ≡ true → o ≡ foreign m x.field e → o ≡ exi d m x
    unfolding Execute.exi Execute.argued
    exi_foreign zero y z h = absurd (y refl)
    exi_foreign (suc d) y z h = rw (← ee, ← eb, z) h

    pub exi_fault : (d : ℕ) (f : Fault) → (d ≡ 0 → ⊥) → b ≡ false → Err f ≡ pointed m x.field e → o ≡ fault m (fault_number f) → o ≡ exi d m x
    unfolding Execute.exi Execute.argued
    exi_fault zero f y z g h = absurd (y refl)
    exi_fault (suc d) f y z g h = rw (← ee, ← eb, z) (h ∙ ap (ran d m x.field (length_for exi_code)) g ∙ sym (tested_by m d e x.field))

    pub exi_runs : (d w : ℕ) (k : Code) (v : Arguments) → (d ≡ 0 → ⊥) → b ≡ false → Ok (k, v) ≡ pointed m x.field e → w ≡ length_for exi_code
        → o ≡ execute (d - 1) m x.field v w
        → o ≡ exi d m x
    unfolding Execute.exi Execute.argued
    exi_runs zero w k v y z g ew h = absurd (y refl)
    exi_runs (suc d) w k v y z g ew h =
        rw (← ee, ← eb, z) (rw ew at (simp sub-one at h) ∙ ap (ran d m x.field (length_for exi_code)) g ∙ sym (tested_by m d e x.field))

pub ruleset exis = (exi_none, exi_foreign, exi_fault, exi_runs)

-- ---- "11 at LR; 23; 11 at n+1; 1 or handed out; 11 at other instruction words"
module _ (m : Memory) (o : Step) (n : ℕ) where
  module _ (c : ℕ) where
    -- w is the length made wide
    pub taken_runs : (k : Code) (l w : ℕ) (x : Arguments) → Ok (k, x) ≡ direct m n c → l ≡ length_for c → w ≡ l → o ≡ execute 1 m c x w
        → o ≡ taken m n c
    taken_runs k l w x g el ew h = h ∙ ap (λ i. execute 1 m c x i) (ew ∙ el) ∙ ap (ran 1 m c (length_for c)) g ∙ sym (taken_by m n c)

    pub taken_fault : (f : Fault) → Err f ≡ direct m n c → o ≡ fault m (fault_number f) → o ≡ taken m n c
    taken_fault f g h = h ∙ ap (ran 1 m c (length_for c)) g ∙ sym (taken_by m n c)

    module _ (b : Bool) (eb : b ≡ eqb (kind m c) (kind_number BuiltIn)) where
      pub decoded_taken : b ≡ true → o ≡ taken m n c → o ≡ decoded m n c
      unfolding Execute.decoded kind_number
      decoded_taken z h = rw (← eb, z) h

      pub decoded_foreign : (a : ℕ) → b ≡ false → a ≡ wrapped n 1 → o ≡ foreign m c a → o ≡ decoded m n c
      unfolding Execute.decoded kind_number
      decoded_foreign a z ea h = rw (← eb, z, ← ea) h

  module _ (a : ℕ) (b : Bool) (ea : a ≡ wrapped n 1) (eb : b ≡ guarded a) where
    pub coded_guarded : b ≡ true → o ≡ fault m (fault_number Protected) → o ≡ coded m n
    unfolding Execute.coded fault_number
    coded_guarded h e = rw (← ea, ← eb, h) e

    pub coded_decoded : (w : ℕ) → b ≡ false → w ≡ at m a → o ≡ decoded m n (upper w) → o ≡ coded m n
    unfolding Execute.coded
    coded_decoded w h ew e = rw (← ea, ← eb, h, ← ew) e

  module _ (b : Bool) (eb : b ≡ guarded n) where
    pub fetched_guarded : b ≡ true → o ≡ fault m (fault_number Protected) → o ≡ fetched m n
    unfolding Execute.fetched fault_number
    fetched_guarded h e = rw (← eb, h) e

    pub fetched_coded : (w : ℕ) → b ≡ false → w ≡ at m n → w ≡ first_word → o ≡ coded m n → o ≡ fetched m n
    unfolding Execute.fetched
    fetched_coded w h ew z e = rw (← eb, h, ← ew, eq-eqb w first_word z) e

pub fetched_refused : (m : Memory) (n w : ℕ) (b : Bool) → b ≡ guarded n → b ≡ false → w ≡ at m n → (w ≡ first_word → ⊥)
    → gives (Refused no_instruction) m ≡ fetched m n
unfolding Execute.fetched
fetched_refused m n w b eb h ew z = rw (← eb, h, ← ew, ne_eqb w first_word z)

pub ruleset executing = (taken_runs, taken_fault, decoded_taken, decoded_foreign, coded_guarded, coded_decoded)

pub ruleset fetching = (fetched_guarded, fetched_coded, fetched_refused)
