-- What follows from the law of the past: nothing is read that was not put; what was put was read or waits; none is there twice; of one sender and one flag none
-- overtakes another; only SME and DEP put, only RME reads; how the past grows, begins and ends. Assumes nothing.
use Rattle.std.specs.Prelude.{◌≡◌, refl, ◌≢◌, ◌⊎◌, Bool, true, false, ◌&&◌, List, [], ◌∷◌, ◌++◌, ℕ, zero, suc, ◌+◌, ◌-◌, ◌%◌, ◌≤◌, length, get_or, eqb}
use Rattle.std.proofs.Common.{sym, ap, ◌∙◌, inl, inr, append-nil, arith, length-append}
use borrow.Author.Tests.{eqb-true, eq-eqb, le-leb}
use Rattle.model.specs.declared.Arguments.{Arguments}
use Rattle.model.specs.Told.{Finding}
use Rattle.model.specs.Told.Finding.{Nothing, WrongLength, Broken}
use Rattle.model.specs.Map.{memory_size}
use Rattle.model.specs.Address.{guarded, clear, wrapped}
use Rattle.model.specs.Instruction.{first_word, built_in, length_for, shape_for, sme_code, rme_code, dep_code, exi_code}
use Rattle.model.specs.Told.Fit.{Good}
use Rattle.model.specs.Fresh.{startable}
use Rattle.model.specs.Layout as Layout
use Rattle.model.specs.Layout.{is_good, of_file}
use Rattle.model.specs.Answer as Answer
use Rattle.model.specs.Call as Call
use Rattle.model.specs.Bytes as Model
use Rattle.model.specs.Bytes.{processors, at, name, running, lr, kind, code_at, direct, finding}
use Rattle.model.specs.Lists.{count}
use Rattle.laws.specs.Words.{either}
use Rattle.laws.specs.Sentences.{◌and◌}
use Rattle.laws.specs.Calls as Calls
use Rattle.laws.specs.Calls.{Sound, Host, Act, after, unsettled_same}
use Rattle.laws.specs.Calls.Act.{fresh_start, fresh_from}
use Rattle.history.specs.Order.{only, only_nil, only_yes, only_no, only_append}
use Rattle.history.specs.Letter.{Letter, key, waiting_for, and_true}
use Rattle.history.specs.Put.{Mailed, nothing, found, of, sme_mail, rme_mail, dep_mail, run_mail, argued_mail, exi_mail, fetched_mail, mailed, code_run}
use Rattle.history.specs.Told.{of_none}
use Rattle.history.specs.Others.{host_passes}
use Rattle.history.specs.Whole.{sme_none, rme_none, dep_none}
use Rattle.history.specs.Lives.{Past, Run, none_yet, lives, grown, mail_by, restarts, later, call_lawful, nothing_lost}

-- ---- two messages are the same: mail or notice, sender, flag, length and text
unfoldable pub alike : Bool → Bool → Bool
alike true b = b
alike false true = false
alike false false = true

unfoldable pub same_text : List ℕ → List ℕ → Bool
same_text [] [] = true
same_text [] (y ∷ ys) = false
same_text (x ∷ xs) [] = false
same_text (x ∷ xs) (y ∷ ys) = eqb x y && same_text xs ys

unfoldable pub same : Letter → Letter → Bool
same x y = key x.sender x.flag y && (alike x.notice y.notice && (eqb x.size y.size && same_text x.text y.text))

-- how often x is in a list
unfoldable pub times : Letter → List Letter → ℕ
times x l = length (only (same x) l)

alike_is : (a b : Bool) → alike a b ≡ true → a ≡ b
unfolding alike
alike_is true b e = sym e
alike_is false true e = e
alike_is false false e = refl

is_alike : (a : Bool) → alike a a ≡ true
unfolding alike
is_alike true = refl
is_alike false = refl

text_is : (xs ys : List ℕ) → same_text xs ys ≡ true → xs ≡ ys
unfolding same_text
text_is [] [] e = refl
text_is [] (y ∷ ys) e = let z : ◌≡◌ {A = ℕ} 0 1 = cc in absurd (omega arith)
text_is (x ∷ xs) [] e = let z : ◌≡◌ {A = ℕ} 0 1 = cc in absurd (omega arith)
text_is (x ∷ xs) (y ∷ ys) e =
    let a = and_true (eqb x y) (same_text xs ys) e in
    cc (eqb-true x y a.0, text_is xs ys a.1)

is_text : (xs : List ℕ) → same_text xs xs ≡ true
unfolding same_text
is_text [] = refl
is_text (x ∷ xs) = rw (eq-eqb x x refl) (is_text xs)

abbrev letter : Bool → ℕ → ℕ → ℕ → List ℕ → Letter
letter k s f n t = record { notice = k; sender = s; flag = f; size = n; text = t }

letter_is : (x y : Letter) → x.notice ≡ y.notice → x.sender ≡ y.sender → x.flag ≡ y.flag → x.size ≡ y.size → x.text ≡ y.text → x ≡ y
letter_is x y k a b c d =
    made x.notice y.notice x.sender y.sender x.flag y.flag x.size y.size x.text y.text k a b c d
  where
    made : (o o' : Bool) (s s' f f' n n' : ℕ) (t t' : List ℕ) → o ≡ o' → s ≡ s' → f ≡ f' → n ≡ n' → t ≡ t' → letter o s f n t ≡ letter o' s' f' n' t'
    made o o' s s' f f' n n' t t' k a b c d = rw (k, a, b, c, d)

-- the test says what equality says
pub same_is : (x y : Letter) → same x y ≡ true → x ≡ y
unfolding same key
same_is x y e =
    let rest = eqb x.size y.size && same_text x.text y.text in
    let a = and_true (key x.sender x.flag y) (alike x.notice y.notice && rest) e in
    let b = and_true (eqb x.sender y.sender) (eqb x.flag y.flag) a.0 in
    let k = and_true (alike x.notice y.notice) rest a.1 in
    let c = and_true (eqb x.size y.size) (same_text x.text y.text) k.1 in
    letter_is x y (alike_is x.notice y.notice k.0) (eqb-true _ _ b.0) (eqb-true _ _ b.1) (eqb-true _ _ c.0)
    (text_is x.text y.text c.1)

pub is_same : (x y : Letter) → x ≡ y → same x y ≡ true
unfolding same key
is_same x y e =
    rw (← e, eq-eqb x.sender x.sender refl, eq-eqb x.flag x.flag refl, is_alike x.notice, eq-eqb x.size x.size refl) (is_text x.text)

-- ---- what passes a test t that implies k: among what passes k
within : {A : Type 0} (t k : A → Bool) → ((y : A) → t y ≡ true → k y ≡ true) → (l : List A) → only t (only k l) ≡ only t l
within t k i [] = ap (only t) (only_nil k)
within t k i (x ∷ xs) = go (t x) (k x) refl refl (within t k i xs)
  where
    go : (a b : Bool) → t x ≡ a → k x ≡ b → only t (only k xs) ≡ only t xs → only t (only k (x ∷ xs)) ≡ only t (x ∷ xs)
    go true true e f ih = rw (only_yes k x xs f, only_yes t x (only k xs) e, only_yes t x xs e, ih)
    go false true e f ih = rw (only_yes k x xs f, only_no t x (only k xs) e, only_no t x xs e, ih)
    go false false e f ih = rw (only_no k x xs f, only_no t x xs e, ih)
    go true false e f ih = let z : ◌≡◌ {A = Bool} true false = sym (i x e) ∙ f in cc

same_key : (x y : Letter) → same x y ≡ true → key x.sender x.flag y ≡ true
unfolding same
same_key x y e =
    (and_true (key x.sender x.flag y) (alike x.notice y.notice && (eqb x.size y.size && same_text x.text y.text)) e).0

times_by : (x : Letter) (l r : List Letter) → only (key x.sender x.flag) l ≡ only (key x.sender x.flag) r → times x l ≡ times x r
unfolding times
times_by x l r e =
    let k = key x.sender x.flag in
    ap length (sym (within (same x) k (same_key x) l) ∙ ap (only (same x)) e ∙ within (same x) k (same_key x) r)

pub times_append : (x : Letter) (l r : List Letter) → times x (l ++ r) ≡ times x l + times x r
unfolding times
times_append x l r = rw (only_append (same x) l r, length-append)

module _ (m : List ℕ) (h : Past) (r : Run m h) (p : ℕ) (i : 1 ≤ count p (processors m)) where
  -- every message is there as often as it was put: read or waiting
  pub none_twice : (x : Letter) → times x (h.read p) + times x (waiting_for m p) ≡ times x (h.put p)
  none_twice x =
      sym (times_append x (h.read p) (waiting_for m p))
      ∙ times_by x (h.read p ++ waiting_for m p) (h.put p) (nothing_lost m h r p i x.sender x.flag)

  -- nothing is read that was not put
  pub read_was_put : (x : Letter) → 1 ≤ times x (h.read p) → 1 ≤ times x (h.put p)
  read_was_put x l = omega (arith, none_twice x)

  -- what was put was read or waits
  pub put_is_there : (x : Letter) → 1 ≤ times x (h.put p) → (1 ≤ times x (h.read p)) ⊎ (1 ≤ times x (waiting_for m p))
  put_is_there x l = go (times x (h.read p)) refl
    where
      go : (n : ℕ) → times x (h.read p) ≡ n → (1 ≤ times x (h.read p)) ⊎ (1 ≤ times x (waiting_for m p))
      go zero e = inr (omega (arith, none_twice x))
      go (suc n) e = inl (omega arith)

  -- of one sender and one flag, what was read is the first part of what was put, and what waits is the rest
  pub none_overtaken : (s f : ℕ) → only (key s f) (h.read p) ++ only (key s f) (waiting_for m p) ≡ only (key s f) (h.put p)
  none_overtaken s f = sym (only_append (key s f) (h.read p) (waiting_for m p)) ∙ nothing_lost m h r p i s f

-- ---- which instructions put and read: what holds of nothing, and of SME, RME, DEP and EXI where they are run, holds of any
abbrev At : {A : Type 0} → (A → Type 0) → ℕ → ℕ → List A → Type 0
At P c i [] = Unit {0}
At P c i (x ∷ xs) = (c ≡ i → P x) × At P c (suc i) xs

pick : {A : Type 0} (P : A → Type 0) (xs : List A) (a : A) (k c i : ℕ) → c ≡ i + k → At P c i xs → P a → P (get_or xs k a)
pick P [] a k c i e h z = z
pick P (x ∷ xs) a zero c i e h z = h.0 (omega arith)
pick P (x ∷ xs) a (suc k) c i e h z = pick P xs a k c (suc i) (omega arith) h.1 z

module _ (P : Mailed → Type 0) (none : P nothing) (m : List ℕ) where
  run_parts : (e : List ℕ → Arguments → Mailed) (c : ℕ) (x : Arguments) → (c ≡ sme_code → P (sme_mail m x.field x.second x.address))
      → (c ≡ rme_code → P (rme_mail m x.field x.second x.address)) → (c ≡ dep_code → P (dep_mail m x.field)) → (c ≡ exi_code → P (e m x))
      → P (run_mail e m c x)
  unfolding run_mail
  run_parts e c x sme rme dep exi =
      pick P
      (nothing ∷ nothing ∷ nothing ∷ nothing ∷ sme_mail m x.field x.second x.address ∷ nothing ∷ rme_mail m x.field x.second x.address
      ∷ nothing ∷ nothing ∷ nothing ∷ nothing ∷ nothing ∷ dep_mail m x.field ∷ nothing ∷ e m x ∷ [])
      nothing c c 0 (omega arith) (
      (λ q. none) and (λ q. none) and (λ q. none) and (λ q. none) and sme and (λ q. none) and rme and (λ q. none) and (λ q. none) and (λ q. none)
      and (λ q. none) and (λ q. none) and dep and (λ q. none) and exi and tt)
      none

  -- the call: of the code that is run, direct or by EXI
  mailed_parts : ((x : Arguments) → code_run m ≡ sme_code → P (sme_mail m x.field x.second x.address))
      → ((x : Arguments) → code_run m ≡ rme_code → P (rme_mail m x.field x.second x.address))
      → ((x : Arguments) → code_run m ≡ dep_code → P (dep_mail m x.field))
      → P (mailed m)
  unfolding mailed fetched_mail exi_mail argued_mail
  mailed_parts sme rme dep =
      let n = lr m in
      let c = code_at m n in
      let x = direct m n (shape_for c) in
      goes (finding m) (either P (eqb (running m) 0) none (either P (guarded n) none (either P (eqb (at m n) first_word)
      (either P (guarded (wrapped n 1)) none (either P (eqb (kind m c) built_in) (either P (clear (length_for c - 2) (wrapped n 2))
      (run_parts (exi_mail 1) c x (λ q. sme x (straight q refl)) (λ q. rme x (straight q refl)) (λ q. dep x (straight q refl)) by) none) none)) none)))
    where
      goes : (f : Finding) {e : Mailed} → P e → P (found f e)
      goes Nothing p = p
      goes WrongLength p = none
      goes (Broken k a) p = none

      straight : {k : ℕ} → code_at m (lr m) ≡ k → eqb k exi_code ≡ false → code_run m ≡ k
      straight q l = rw (q, l)

      by : code_at m (lr m) ≡ exi_code → P (exi_mail 1 m (direct m (lr m) (shape_for (code_at m (lr m)))))
      by q =
          let y = direct m (lr m) (shape_for (code_at m (lr m))) in
          let k = y.field in
          let e = Model.indexed m y.second y.address in
          let f : code_run m ≡ y.field = rw q in
          let z = Model.pointed m e (shape_for k) in
          either P (Model.is_foreign m k) none (either P (eqb (Model.argument_fault m k e) 0)
          (run_parts (exi_mail 0) k z (λ p. sme z (f ∙ p)) (λ p. rme z (f ∙ p)) (λ p. dep z (f ∙ p)) (λ p. none)) none)

-- "4 SME", "12 DEP": no other code puts anything; "6 RME": no other reads
pub puts_nothing : (m : List ℕ) → code_run m ≢ sme_code → code_run m ≢ dep_code → (mailed m).puts ≡ []
puts_nothing m s d =
    mailed_parts (λ e. e.puts ≡ []) refl m (λ x q. absurd (s q)) (λ x q. rme_none m x.field x.second x.address) (λ x q. absurd (d q))

pub reads_nothing : (m : List ℕ) → code_run m ≢ rme_code → (mailed m).reads ≡ []
reads_nothing m r =
    mailed_parts (λ e. e.reads ≡ []) refl m (λ x q. sme_none m x.field x.second x.address) (λ x q. absurd (r q)) (λ x q. dep_none m x.field)

-- ---- what a call does to the past, and a change by the host
module _ (m m' : List ℕ) (p : ℕ) (was : 1 ≤ count p (processors m)) (is : 1 ≤ count p (processors m')) where
  grown_on : (e : Mailed) (h : Past) → ((grown m m' e h).put p ≡ h.put p ++ of p e.puts) × ((grown m m' e h).read p ≡ h.read p ++ of p e.reads)
  unfolding grown lives
  grown_on e h =
      let a = le-leb 1 (count p (processors m)) was in
      let b = le-leb 1 (count p (processors m')) is in
      (rw (a, b), rw (a, b))

grown_new : (m m' : List ℕ) (p : ℕ) → count p (processors m) ≡ 0 → (e : Mailed) (h : Past) → ((grown m m' e h).put p ≡ []) × ((grown m m' e h).read p ≡ [])
unfolding grown lives
grown_new m m' p none e h = (rw none, rw none)

module _ (a : Act) (m : List ℕ) (h : Past) where
  -- who lives on has what was put to it and what it read before, and then just what this call puts and reads
  pub past_grows : restarts a ≡ false → (p : ℕ) → 1 ≤ count p (processors m) → 1 ≤ count p (processors (after a m))
      → ((later a m h).put p ≡ h.put p ++ of p (mail_by a m).puts) × ((later a m h).read p ≡ h.read p ++ of p (mail_by a m).reads)
  unfolding later
  past_grows e p i j = rw e (grown_on m (after a m) p i j (mail_by a m) h)

  -- a life begins with nothing
  pub born_empty : restarts a ≡ false → (p : ℕ) → count p (processors m) ≡ 0 → ((later a m h).put p ≡ []) × ((later a m h).read p ≡ [])
  unfolding later
  born_empty e p i = rw e (grown_new m (after a m) p i (mail_by a m) h)

-- a fresh start that is accepted begins a new history
pub fresh_begins : (m : List ℕ) (h : Past) (line d : ℕ) → startable line d ≡ true → later (fresh_start line d) m h ≡ none_yet
unfolding later restarts
fresh_begins m h line d e = rw e

pub settings_begin : (m : List ℕ) (h : Past) (f : List ℕ) → of_file f ≡ Good → later (fresh_from f) m h ≡ none_yet
unfolding later restarts Layout.is_good
settings_begin m h f e = rw e

-- one that is refused keeps the old one
idle_keeps : (a : Act) (m : List ℕ) → restarts a ≡ false → after a m ≡ m → mail_by a m ≡ nothing → (h : Past) (p : ℕ) → 1 ≤ count p (processors m)
    → ((later a m h).put p ≡ h.put p) × ((later a m h).read p ≡ h.read p)
idle_keeps a m e same none h p i =
    let t = rw none at (past_grows a m h e p i (rw same i)) in
    (t.0 ∙ rw (of_none p) (append-nil (h.put p)), t.1 ∙ rw (of_none p) (append-nil (h.read p)))

pub refused_keeps : {m : List ℕ} → Sound m → (h : Past) (line d : ℕ) → startable line d ≡ false → (p : ℕ) → 1 ≤ count p (processors m)
    → ((later (fresh_start line d) m h).put p ≡ h.put p) × ((later (fresh_start line d) m h).read p ≡ h.read p)
unfolding mail_by restarts Calls.after Call.fresh Answer.memory_of
refused_keeps {m} k h line d e = idle_keeps (fresh_start line d) m e (rw (eq-eqb (length m) memory_size k.size, e)) refl h

pub unsettled_keeps : {m : List ℕ} → Sound m → (h : Past) (f : List ℕ) → is_good (of_file f) ≡ false → (p : ℕ) → 1 ≤ count p (processors m)
    → ((later (fresh_from f) m h).put p ≡ h.put p) × ((later (fresh_from f) m h).read p ≡ h.read p)
unfolding mail_by restarts Calls.after
unsettled_keeps {m} k h f e = idle_keeps (fresh_from f) m e (unsettled_same k.size f e) refl h

-- a life keeps its name
pub name_stays : {m : List ℕ} → Sound m → (a : Act) → restarts a ≡ false → (p : ℕ) → 1 ≤ count p (processors m) → 1 ≤ count p (processors (after a m))
    → name (after a m) p ≡ name m p
name_stays k a e p i j = ap (λ (w : ℕ). w % 16) ((call_lawful k a e).told.keeps p i j)

-- the host takes nothing from the past, and no name
pub host_grows : {m m' : List ℕ} → Sound m → Host m m' → (h : Past) (p : ℕ) → 1 ≤ count p (processors m) → 1 ≤ count p (processors m')
    → ((grown m m' nothing h).put p ≡ h.put p) × ((grown m m' nothing h).read p ≡ h.read p) × (name m' p ≡ name m p)
host_grows {m} {m'} k o h p i j =
    let t = grown_on m m' p i j nothing h in (
      t.0 ∙ rw (of_none p) (append-nil (h.put p)),
      t.1 ∙ rw (of_none p) (append-nil (h.read p)),
      ap (λ (w : ℕ). w % 16) ((host_passes k o).told.keeps p i j),
    )
