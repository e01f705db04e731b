-- What an instruction puts to which processor and what it reads, as functions of the memory before it: decoded and tested as the model decodes and tests,
-- direct and by EXI. A processor is named by its page. Assumes nothing.
use Rattle.std.specs.Prelude.{ℕ, zero, suc, ◌+◌, ◌-◌, Bool, true, false, cond, List, [], ◌∷◌, ◌++◌, eqb, ltb, get_or}
use Rattle.model.specs.declared.Arguments.{Arguments}
use Rattle.model.specs.Told.{Finding}
use Rattle.model.specs.Told.Finding.{Nothing, WrongLength, Broken}
use Rattle.model.specs.Map.{place, longest, head_words, q1, q2}
use Rattle.model.specs.Address.{unless, wrapped, guarded, clear}
use Rattle.model.specs.Page.{Taken}
use Rattle.model.specs.Page.Taken.{took}
use Rattle.model.specs.Instruction.{exi_code, first_word, length_for, shape_for, built_in}
use Rattle.model.specs.Bytes.{at, queue, running, name, page_of, take_page, in_q2, length_of, sender, flag, unmarked, stopped, kind, is_foreign, argument_fault}
use Rattle.model.specs.Bytes.{pointed, direct, indexed, code_at, finding, lr}
use Rattle.history.specs.Order.{only}
use Rattle.history.specs.Letter.{Letter, words, mail_of}

-- messages, each with the page of a processor
abbrev pub Log : Type 0
Log = List (ℕ × Letter)

-- what is put, what is read, and where the first word that was read is written; the page on which the one that runs wrote what it sends, 0 for none; and of
-- each notice that is put, to whom, with the page of the message that it is about
pub record Mailed : Type 0 where
  pub puts : Log
  pub reads : Log
  pub target : ℕ
  pub wrote : ℕ
  pub about : List (ℕ × ℕ)

abbrev pub nothing : Mailed
nothing = record { puts = []; reads = []; target = 0; wrote = 0; about = [] }

abbrev pub reading : ℕ → Letter → ℕ → Mailed
reading p x a = record { puts = []; reads = (p, x) ∷ []; target = a; wrote = 0; about = [] }

-- message x is sent on page q; a notice is about the message that was to be sent
abbrev pub sending : ℕ × Letter → ℕ → Mailed
sending x q = record { puts = x ∷ []; reads = []; target = 0; wrote = q; about = cond x.1.notice ((x.0, q) ∷ []) [] }

-- those of page p
unfoldable pub of : {A : Type 0} → ℕ → List (ℕ × A) → List A
of p [] = []
of p (x ∷ xs) = elim (eqb p x.0) [ true ↦ x.1 ∷ of p xs | false ↦ of p xs ]

-- of what was put, the notices
abbrev pub only_notices : List Letter → List Letter
only_notices = only (λ (x : Letter). x.notice)

-- a notice from the name n with flag f
abbrev pub notice_from : ℕ → ℕ → Letter
notice_from n f = record { notice = true; sender = n; flag = f; size = 0; text = [] }

-- ---- SME: to NI, or a notice to the sender
unfoldable pub posting : List ℕ → ℕ → ℕ → ℕ → ℕ × Letter
posting m n f a =
    cond (eqb (page_of m n) 0) (running m, notice_from n f)
    (page_of m n, record { notice = false; sender = name m (running m); flag = f; size = at m a; text = words m (wrapped a 1) (at m a) })

unfoldable pub has_page : Taken (List ℕ) → Bool
has_page (took q m) = cond (eqb q 0) false true

unfoldable pub page_taken : Taken (List ℕ) → ℕ
page_taken (took q m) = q

-- with the page that there is; without one it waits, and nothing is put
abbrev pub sme_sends : List ℕ → ℕ → ℕ → ℕ → Mailed
sme_sends m n f a = cond (has_page (take_page m (running m))) (sending (posting m n f a) (page_taken (take_page m (running m)))) nothing

unfoldable pub sme_mail : List ℕ → ℕ → ℕ → ℕ → Mailed
sme_mail m n f a =
    cond (eqb n 0) nothing
    (cond (eqb f 0) nothing
    (cond (guarded a) nothing
    (cond (ltb longest (at m a)) nothing
    (unless (clear (at m a) (wrapped a 1)) nothing
    (sme_sends m n f a)))))

-- ---- RME: the first match in Q2
unfoldable pub rme_mail : List ℕ → ℕ → ℕ → ℕ → Mailed
rme_mail m n f a =
    cond (eqb (in_q2 m n f) 0) nothing
    (unless (clear (head_words + length_of m (in_q2 m n f)) a) nothing
    (reading (running m) (mail_of m (in_q2 m n f)) a))

-- ---- DEP: notices to the senders that exist, Q2 then Q1; the deleted one, of page p, is no longer one of them. Nothing for marked mail
unfoldable pub returns_to : List ℕ → ℕ → ℕ → ℕ
returns_to m p q = unless (unmarked m q) 0 (cond (eqb (sender m q) (name m p)) 0 (page_of m (sender m q)))

-- what is said of each message of qs that goes back, with the processor that it goes to
unfoldable pub go_back : {A : Type 0} → (ℕ → A) → List ℕ → ℕ → List ℕ → List (ℕ × A)
go_back f m p [] = []
go_back f m p (q ∷ qs) = elim (eqb (returns_to m p q) 0) [ true ↦ go_back f m p qs | false ↦ (returns_to m p q, f q) ∷ go_back f m p qs ]

-- the notice that it makes, and the page that it is on
abbrev pub notice_of : List ℕ → ℕ → ℕ → Letter
notice_of m p q = notice_from (name m p) (flag m q)

abbrev pub notices : List ℕ → ℕ → List ℕ → Log
notices m p = go_back (notice_of m p) m p

abbrev pub notices_about : List ℕ → ℕ → List ℕ → List (ℕ × ℕ)
notices_about m p = go_back (λ q. q) m p

abbrev pub returning : List ℕ → ℕ → List ℕ → Mailed
returning m p qs = record { puts = notices m p qs; reads = []; target = 0; wrote = 0; about = notices_about m p qs }

unfoldable pub dep_mail : List ℕ → ℕ → Mailed
dep_mail m n =
    cond (eqb n 0) nothing
    (cond (eqb (page_of m n) 0) nothing
    (unless (stopped m (page_of m n)) nothing
    (returning m (page_of m n) (queue m (place (page_of m n) q2) ++ queue m (place (page_of m n) q1)))))

-- ---- any instruction, in the order of the codes; e is what EXI does
unfoldable pub run_mail : (List ℕ → Arguments → Mailed) → List ℕ → ℕ → Arguments → Mailed
run_mail e m c x =
    get_or
    (nothing ∷ nothing ∷ nothing ∷ nothing ∷ sme_mail m x.field x.second x.address ∷ nothing ∷ rme_mail m x.field x.second x.address
    ∷ nothing ∷ nothing ∷ nothing ∷ nothing ∷ nothing ∷ dep_mail m x.field ∷ nothing ∷ e m x ∷ [])
    c
    nothing

unfoldable pub argued_mail : (List ℕ → ℕ → Arguments → Mailed) → List ℕ → ℕ → ℕ → Mailed
argued_mail r m c e =
    cond (is_foreign m c) nothing
    (unless (eqb (argument_fault m c e) 0) nothing
    (r m c (pointed m e (shape_for c))))

unfoldable pub exi_mail : ℕ → List ℕ → Arguments → Mailed
exi_mail zero m x = nothing
exi_mail (suc d) m x = argued_mail (run_mail (exi_mail d)) m x.field (indexed m x.second x.address)

unfoldable pub fetched_mail : List ℕ → ℕ → Mailed
fetched_mail m n =
    cond (guarded n) nothing
    (unless (eqb (at m n) first_word) nothing
    (cond (guarded (wrapped n 1)) nothing
    (unless (eqb (kind m (code_at m n)) built_in) nothing
    (unless (clear (length_for (code_at m n) - 2) (wrapped n 2)) nothing
    (run_mail (exi_mail 1) m (code_at m n) (direct m n (shape_for (code_at m n))))))))

-- ---- the call: refused from the start it puts and reads nothing
abbrev pub found : Finding → Mailed → Mailed
found Nothing e = e
found WrongLength e = nothing
found (Broken k a) e = nothing

unfoldable pub mailed : List ℕ → Mailed
mailed m =
    found (finding m)
    (cond (eqb (running m) 0) nothing
    (fetched_mail m (lr m)))

-- the code of the instruction at LR; of EXI, the code that it runs
abbrev pub code_run : List ℕ → ℕ
code_run m = cond (eqb (code_at m (lr m)) exi_code) (direct m (lr m) (shape_for exi_code)).field (code_at m (lr m))

abbrev pub puts : List ℕ → Log
puts m = (mailed m).puts

abbrev pub reads : List ℕ → Log
reads m = (mailed m).reads
