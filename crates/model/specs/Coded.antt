-- The code's own types in the paper's numbers: faults, refusals, answers, and pages by their numbers.
use Rattle.std.specs.Prelude.{ℕ, Option, Some, None, Result, Ok, Err, cond, eqb, [], ◌∷◌, get_or}
use Rattle.model.specs.declared.ControlPage.{ControlPage}
use Rattle.model.specs.declared.Registers.{Registers}
use Rattle.model.specs.declared.Answer.{Answer as Answered}
use Rattle.model.specs.declared.Answer.TheVariants as Coded
use Rattle.model.specs.declared.Line.{Line as CodedLine}
use Rattle.model.specs.declared.Said.{Said as CodedSaid}
use Rattle.model.specs.declared.fault.Fault.{Fault as Faulted}
use Rattle.model.specs.declared.fault.Fault.TheVariants as Fault
use Rattle.model.specs.declared.fault.NoFault.{NoFault}
use Rattle.model.specs.declared.refusal.Class.{Class}
use Rattle.model.specs.declared.refusal.Class.TheVariants.{Pages, Waits, Records, Tables, Counters}
use Rattle.model.specs.declared.refusal.Broken.{Broken as BrokenAt}
use Rattle.model.specs.declared.refusal.Refusal.{Refusal}
use Rattle.model.specs.declared.refusal.Refusal.TheVariants.{WrongLength, Idle, NoInstruction, NoInterrupt, NoInterruptAt, WrongClass, WrongClassAt, OutOfRange, WrongList, BrokenLayout, TooNew, Broken, NoRoom}
use Rattle.model.specs.declared.instructions.Code.{Code}
use Rattle.model.specs.declared.instructions.Code.TheVariants.{Cvi, Dvi, Gin, Win, Sme, Wnm, Rme, Tme, St1, Stp, St2, Crp, Dep, Thirteen, Exi}
use Rattle.model.specs.declared.instructions.Kind.{Kind}
use Rattle.model.specs.declared.instructions.Kind.TheVariants.{Absent, BuiltIn, Own}
use Rattle.model.specs.declared.instructions.NoKind.{NoKind}
use Rattle.model.specs.declared.instructions.Operation.{Operation}
use Rattle.model.specs.declared.instructions.Operation.TheVariants.{Add, Store, And, Increment, Jump, Vep}
use Rattle.model.specs.declared.instructions.Shape.{Shape}
use Rattle.model.specs.declared.instructions.Shape.TheVariants.{Bare, Plain, Addressed, Counted, Flagged, Complete, Creating}
use Rattle.model.specs.Instruction.{absent, built_in, own, sme_code, rme_code, st1_code, stp_code, crp_code, dep_code, exi_code}
use Rattle.model.specs.Instruction.{jump_operation, vep_operation}
use Rattle.model.specs.Instruction.{bare, plain, addressed, counted, flagged, complete, creating}
use Rattle.model.specs.Told.{Answer, Held, Verdict, Finding, Checked, Fit, Writing, Said, Line}
use Rattle.model.specs.Answer.{wrong_length, idle, no_instruction, no_interrupt, wrong_class, out_of_range, wrong_list, broken_layout, too_new, no_room}
use Rattle.model.specs.Answer.{broken_pages, broken_waits, broken_records, broken_tables, broken_counters}
use Rattle.model.specs.Answer.{absent_code, exi_of_exi, code_exists, kept_code, bad_wait, no_match, no_name, not_startable, name_exists, not_stopped, protected, bad_argument, above_itself}

-- ---- "0 ends", "0: idle": no control page has the number 0, so a number in memory names a page or none
unfoldable pub found : ℕ → Option ControlPage
found n = cond (eqb n 0) None (Some (record { 0 = n }))

-- ---- faults
unfoldable pub fault_number : Faulted → ℕ
fault_number Fault.AbsentCode = absent_code
fault_number Fault.ExiOfExi = exi_of_exi
fault_number Fault.CodeExists = code_exists
fault_number Fault.KeptCode = kept_code
fault_number Fault.BadWait = bad_wait
fault_number Fault.NoMatch = no_match
fault_number Fault.NoName = no_name
fault_number Fault.NotStartable = not_startable
fault_number Fault.NameExists = name_exists
fault_number Fault.NotStopped = not_stopped
fault_number Fault.Protected = protected
fault_number Fault.BadArgument = bad_argument
fault_number Fault.AboveItself = above_itself

-- the fault with a number, if there is one
unfoldable pub fault_of : ℕ → Result Faulted NoFault
fault_of n =
    get_or
    (Err (record { 0 = n }) ∷ Ok Fault.AbsentCode ∷ Ok Fault.ExiOfExi ∷ Ok Fault.CodeExists ∷ Ok Fault.KeptCode ∷ Ok Fault.BadWait
    ∷ Ok Fault.NoMatch ∷ Ok Fault.NoName ∷ Ok Fault.NotStartable ∷ Ok Fault.NameExists
    ∷ Ok Fault.NotStopped ∷ Ok Fault.Protected ∷ Ok Fault.BadArgument ∷ Ok Fault.AboveItself ∷ [])
    n
    (Err (record { 0 = n }))

-- the fault that may be there, as a number; 0: none
unfoldable pub fault_or_none : Option Faulted → ℕ
fault_or_none None = 0
fault_or_none (Some f) = fault_number f

-- ---- instructions: the codes that are built in, kinds of code, CODE1 and shapes, and what a number that has none comes to
unfoldable pub code_number : Code → ℕ
code_number Cvi = 0
code_number Dvi = 1
code_number Gin = 2
code_number Win = 3
code_number Sme = sme_code
code_number Wnm = 5
code_number Rme = rme_code
code_number Tme = 7
code_number St1 = st1_code
code_number Stp = stp_code
code_number St2 = 10
code_number Crp = crp_code
code_number Dep = dep_code
code_number Thirteen = 13
code_number Exi = exi_code

unfoldable pub code_of : ℕ → Result Code Faulted
code_of n =
    get_or
    (Ok Cvi ∷ Ok Dvi ∷ Ok Gin ∷ Ok Win ∷ Ok Sme ∷ Ok Wnm ∷ Ok Rme ∷ Ok Tme ∷ Ok St1 ∷ Ok Stp ∷ Ok St2 ∷ Ok Crp ∷ Ok Dep ∷ Ok Thirteen ∷ Ok Exi ∷ [])
    n
    (Err Fault.AbsentCode)

unfoldable pub kind_number : Kind → ℕ
kind_number Absent = absent
kind_number BuiltIn = built_in
kind_number Own = own

unfoldable pub kind_of : ℕ → Result Kind NoKind
kind_of n = get_or (Ok Absent ∷ Ok BuiltIn ∷ Ok Own ∷ []) n (Err (record { 0 = n }))

unfoldable pub operation_number : Operation → ℕ
operation_number Add = 0
operation_number Store = 1
operation_number And = 2
operation_number Increment = 3
operation_number Jump = jump_operation
operation_number Vep = vep_operation

unfoldable pub operation_of : ℕ → Result Operation Faulted
operation_of n = get_or (Ok Add ∷ Ok Store ∷ Ok And ∷ Ok Increment ∷ Ok Jump ∷ Ok Vep ∷ []) n (Err Fault.BadArgument)

unfoldable pub shape_number : Shape → ℕ
shape_number Bare = bare
shape_number Plain = plain
shape_number Addressed = addressed
shape_number Counted = counted
shape_number Flagged = flagged
shape_number Complete = complete
shape_number Creating = creating

-- ---- refusals
unfoldable pub class_number : Class → ℕ
class_number Pages = broken_pages
class_number Waits = broken_waits
class_number Records = broken_records
class_number Tables = broken_tables
class_number Counters = broken_counters

-- a refusal by its number alone, or with what it tells
unfoldable pub refusal : {A : Type 0} → (ℕ → A) → (ℕ → ℕ → A) → Refusal → A
refusal refused at WrongLength = refused wrong_length
refusal refused at Idle = refused idle
refusal refused at NoInstruction = refused no_instruction
refusal refused at NoInterrupt = refused no_interrupt
refusal refused at (NoInterruptAt i) = at no_interrupt i
refusal refused at WrongClass = refused wrong_class
refusal refused at (WrongClassAt i) = at wrong_class i
refusal refused at OutOfRange = refused out_of_range
refusal refused at WrongList = refused wrong_list
refusal refused at BrokenLayout = refused broken_layout
refusal refused at (TooNew v) = at too_new v
refusal refused at (Broken b) = at (class_number b.class) b.address
refusal refused at NoRoom = refused no_room

-- its number, and what is told beside it
unfoldable pub refusal_number : Refusal → ℕ
refusal_number = refusal (λ k. k) (λ k a. k)

unfoldable pub refusal_place : Refusal → Option ℕ
refusal_place = refusal (λ k. None) (λ k a. Some a)

-- ---- answers
unfoldable pub answered : Answered → Answer
answered Coded.Done = Answer.Done
answered Coded.Waits = Answer.Waits
answered (Coded.HandedOut p a) = Answer.HandedOut p a
answered (Coded.Fault f n) = Answer.Fault (fault_number f) n.0

unfoldable pub told : Result Answered Refusal → Answer
told (Ok a) = answered a
told (Err e) = refusal Answer.Refused Answer.RefusedAt e

unfoldable pub held_told : Result Registers Refusal → Held
held_told (Ok r) = Held.Has r
held_told (Err e) = refusal Held.Refused Held.RefusedAt e

unfoldable pub verdict_told : Result (Unit {0}) Refusal → Verdict
verdict_told (Ok u) = Verdict.WellFormed
verdict_told (Err e) = refusal Verdict.Refused Verdict.RefusedAt e

unfoldable pub writing_told : Result ℕ Refusal → Writing
writing_told (Ok n) = Writing.Written n
writing_told (Err e) = refusal Writing.Refused Writing.RefusedAt e

unfoldable pub fit_told : Result (Unit {0}) Refusal → Fit
fit_told (Ok u) = Fit.Good
fit_told (Err e) = refusal Fit.Refused Fit.RefusedAt e

-- what is found of a memory of the right length
unfoldable pub broken_told : Result (Unit {0}) BrokenAt → Finding
broken_told (Ok u) = Finding.Nothing
broken_told (Err b) = Finding.Broken (class_number b.class) b.address

unfoldable pub checked_told : Result (Unit {0}) Refusal → Checked
checked_told (Ok u) = Checked.Good
checked_told (Err e) = refusal (λ k. Checked.Bad k 0) Checked.Bad e

-- ---- what is told of two memories
unfoldable pub said_told : Option CodedSaid → Said
said_told None = Said.Nothing
said_told (Some (CodedSaid.OnlyIn s)) = Said.OnlyIn s
said_told (Some (CodedSaid.DiffersIn d)) = Said.DiffersIn d

unfoldable pub line_told : CodedLine → Line
line_told (CodedLine.Word a x y) = Line.Word a x y
line_told (CodedLine.Refused s e) = refusal (Line.Refused s) (Line.RefusedAt s) e
line_told (CodedLine.Processor n s) = Line.Processor n (said_told (Some s))
line_told CodedLine.Same = Line.Same
