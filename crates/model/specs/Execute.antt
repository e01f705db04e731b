-- Instructions: "EXI runs another instruction by the same rules". Refusals and faults: "Order", from the word at LR on.
use Rattle.std.specs.Prelude.{ℕ, zero, suc, ◌-◌, Bool, true, false, cond, [], ◌∷◌, eqb, get_or}
use Rattle.model.specs.declared.Arguments.{Arguments}
use Rattle.model.specs.Told.Answer.{HandedOut}
use Rattle.model.specs.Store.{Store}
use Rattle.model.specs.Address.{unless, at, wrapped, guarded, clear}
use Rattle.model.specs.Answer.{Step, refused, no_instruction, absent_code, exi_of_exi, protected, bad_argument}
use Rattle.model.specs.Answer.Outcome.{gives}
use Rattle.model.specs.Fault.{fault}
use Rattle.model.specs.Instruction.{first_word, length_for, count_for, shape_for, exi_code, st1_code, stp_code, dep_code, built_in, own, kind, program}
use Rattle.model.specs.Instruction.{indexed, code_at, direct, pointed, within}
use Rattle.model.specs.Operate.{cvi, dvi, gin, win, sme, wnm, rme, tme, named, st2, crp, thirteen}

module _ (S : Store) where
  -- the instruction with code c and arguments x, in the order of the codes; e is what EXI does
  unfoldable pub run : (S.M → Arguments → Step S) → S.M → ℕ → Arguments → ℕ → Step S
  run e m c x len =
      get_or
      (cvi S m x.field x.address len
      ∷ dvi S m x.field len
      ∷ gin S m len
      ∷ win S m x.interrupt x.count len
      ∷ sme S m x.field x.second x.address len
      ∷ wnm S m x.field x.second len
      ∷ rme S m x.field x.second x.address len
      ∷ tme S m x.field x.second x.address len
      ∷ named S m st1_code x.field len
      ∷ named S m stp_code x.field len
      ∷ st2 S m x.field x.address len
      ∷ crp S m x.field x.second x.w x.address len
      ∷ named S m dep_code x.field len
      ∷ thirteen S m x.field x.second x.address len
      ∷ e m x
      ∷ [])
      c
      (fault S m absent_code)

  -- "1 absent code"; "handed out (own code: program address, and the address n+1 or of the arguments; memory unchanged)": a is that address
  unfoldable pub foreign : S.M → ℕ → ℕ → Step S
  foreign m c a =
      unless (eqb (kind S m c) own) (fault S m absent_code)
      (gives (HandedOut (program S m c) a) m)

  -- ---- EXI: "2, pointed code 1 or handed out, then 11; 12". Code c with arguments at e; an EXI of EXI meets no test here, the depth answers it
  unfoldable pub is_foreign : S.M → ℕ → Bool
  is_foreign m c = cond (eqb c exi_code) false (cond (eqb (kind S m c) built_in) false true)

  -- the fault in its argument words; 0: none
  unfoldable pub argument_fault : S.M → ℕ → ℕ → ℕ
  argument_fault m c e =
      cond (eqb c exi_code) 0
      (unless (clear (count_for c) e) protected
      (unless (within S (count_for c) m e (shape_for c)) bad_argument
      0))

  unfoldable pub argued : (S.M → ℕ → Arguments → ℕ → Step S) → S.M → ℕ → ℕ → Step S
  argued r m c e =
      cond (is_foreign m c) (foreign m c e)
      (unless (eqb (argument_fault m c e) 0) (fault S m (argument_fault m c e))
      (r m c (pointed S m e (shape_for c)) (length_for exi_code)))

  -- "field CODE1; n+2 top bits X XN; runs CODE1 with arguments at A"; "it advances by 4". d more EXIs are allowed
  unfoldable pub exi : ℕ → S.M → Arguments → Step S
  exi zero m x = fault S m exi_of_exi
  exi (suc d) m x = argued (run (exi d)) m x.field (indexed S m x.second x.address)

  abbrev pub execute : ℕ → S.M → ℕ → Arguments → ℕ → Step S
  execute d m c x len = run (exi d) m c x len

  -- ---- "11 at other instruction words"
  unfoldable pub taken : S.M → ℕ → ℕ → Step S
  taken m n c =
      unless (clear (length_for c - 2) (wrapped n 2)) (fault S m protected)
      (execute 1 m c (direct S m n (shape_for c)) (length_for c))

  -- "1 or handed out"
  unfoldable pub decoded : S.M → ℕ → ℕ → Step S
  decoded m n c =
      unless (eqb (kind S m c) built_in) (foreign m c (wrapped n 1))
      (taken m n c)

  -- "11 at n+1"
  unfoldable pub coded : S.M → ℕ → Step S
  coded m n =
      cond (guarded (wrapped n 1)) (fault S m protected)
      (decoded m n (code_at S m n))

  -- "11 at LR; 23"
  unfoldable pub fetched : S.M → ℕ → Step S
  fetched m n =
      cond (guarded n) (fault S m protected)
      (unless (eqb (at S m n) first_word) (refused S m no_instruction)
      (coded m n))
