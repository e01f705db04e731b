-- Nothing lost, doubled or overtaken, over any run of calls from a fresh start: for every processor that lives, every sender and every flag, what it has read
-- in this life and then what waits for it, Q2 before Q1, is what was put to it in this life, in that order, with text. Assumes nothing.
use Rattle.std.proofs.Math.Path.{◌≡◌, refl}
use Rattle.std.proofs.Common.{sym, ap, ◌∙◌, append_assoc, arith, leb-true, leb-false, le-leb}
use Rattle.std.specs.Prelude.{Bool, cond, ◌&&◌, List, [], ◌++◌, map, ℕ, suc, ◌≤◌, length, eqb, leb}
use Rattle.std.proofs.Math.Bool.{true, false}
use Rattle.model.specs.Map.{memory_size}
use Rattle.model.specs.Told.Fit.{Good}
use Rattle.model.specs.Fresh.{startable}
use Rattle.model.specs.Layout.{is_good, of_file}
use Rattle.model.specs.Answer.{memory_of}
use Rattle.model.specs.Bytes.{fresh, processors, running}
use Rattle.model.specs.Bytes.{from_settings}
use Rattle.model.specs.Lists.{count}
use Rattle.laws.specs.Words.{Small}
use Rattle.laws.specs.Fits.{good_is}
use Rattle.laws.specs.Calls as Calls
use Rattle.laws.specs.Calls.{Sound, Host, Act, after, Reached, reached_sound}
use Rattle.laws.specs.Calls.Act.{fresh_start, fresh_from, instruct, signal, signals, set, read, judge_it}
use Rattle.history.specs.Order.{only, only_append}
use Rattle.history.specs.Letter.{Letter, key, waiting_for}
use Rattle.history.specs.Put.{Mailed, nothing, of, mailed}
use Rattle.history.specs.Told.{Told, stands_none}
use Rattle.history.specs.Whole.{instruction_lawful}
use Rattle.history.specs.Traced.{Lawful, still_traced}
use Rattle.history.specs.Others.{Passing, interrupt_passes, burst_passes, set_passes, read_passes, judge_passes, refused_passes, unsettled_passes}
use Rattle.history.specs.Others.{host_passes}
use Rattle.history.specs.Begin.{fresh_empty, settings_empty}

-- ---- a life: a processor is named by its page, and one page may hold one after the other; so a life is a page, and the call in which it began
pub record Life : Type 0 where
  pub page : ℕ
  pub since : ℕ

-- ---- what was put to each processor in its present life, and what it has read; how many calls there were, the host's changes counted with them, and in which
-- of them each life began; the life that sent the message of each page; and of each notice that was put to a processor, the life that sent the mail which the
-- notice is about
pub record Past : Type 0 where
  pub put : ℕ → List Letter
  pub read : ℕ → List Letter
  pub calls : ℕ
  pub since : ℕ → ℕ
  pub by : ℕ → Life
  pub noticed : ℕ → List Life

-- the life of the processor of page p
abbrev pub life : Past → ℕ → Life
life h p = record { page = p; since = h.since p }

abbrev pub none_yet : Past
none_yet = record { put = λ p. []; read = λ p. []; calls = 0; since = λ p. 0; by = λ q. record { page = 0; since = 0 }; noticed = λ p. [] }

-- the processor of page p lives: it is on the processor list
abbrev pub Living : List ℕ → ℕ → Type 0
Living m p = 1 ≤ count p (processors m)

unfoldable pub lives : List ℕ → ℕ → Bool
lives m p = leb 1 (count p (processors m))

-- the one that runs sent what it wrote; the message of any other page is of whom it was
unfoldable pub sent_by : List ℕ → Mailed → Past → ℕ → Life
sent_by m e h q = cond (eqb q e.wrote) (life h (running m)) (h.by q)

-- from m to m' with the mail e: a life goes on where p is on the list before and after; else it is over, or begins with nothing
unfoldable pub grown : List ℕ → List ℕ → Mailed → Past → Past
grown m m' e h = record {
  put = λ p. cond (lives m p && lives m' p) (h.put p ++ of p e.puts) [];
  read = λ p. cond (lives m p && lives m' p) (h.read p ++ of p e.reads) [];
  calls = suc h.calls;
  since = λ p. cond (lives m p && lives m' p) (h.since p) (suc h.calls);
  by = λ q. sent_by m e h q;
  noticed = λ p. cond (lives m p && lives m' p) (h.noticed p ++ map (sent_by m e h) (of p e.about)) [];
}

-- a call puts and reads nothing unless it is an instruction
unfoldable pub mail_by : Act → List ℕ → Mailed
mail_by (fresh_start line d) m = nothing
mail_by (fresh_from f) m = nothing
mail_by instruct m = mailed m
mail_by (signal k c) m = nothing
mail_by (signals l) m = nothing
mail_by (set r) m = nothing
mail_by read m = nothing
mail_by judge_it m = nothing

-- a fresh start that is not refused ends all lives
unfoldable pub restarts : Act → Bool
restarts (fresh_start line d) = startable line d
restarts (fresh_from f) = is_good (of_file f)
restarts instruct = false
restarts (signal k c) = false
restarts (signals l) = false
restarts (set r) = false
restarts read = false
restarts judge_it = false

unfoldable pub later : Act → List ℕ → Past → Past
later a m h = cond (restarts a) none_yet (grown m (after a m) (mail_by a m) h)

-- ---- a run: a fresh start of any memory of 8,192 words of 8 bits, from settings or not, then any calls, and changes by the host between them
pub data Run : List ℕ → Past → Type 0 where
  start : (m : List ℕ) (line d : ℕ) → length m ≡ memory_size → Small m → startable line d ≡ true → Run (memory_of (fresh m line d)) none_yet
  settle : (m f : List ℕ) → length m ≡ memory_size → Small m → of_file f ≡ Good → Run (memory_of (from_settings m f)) none_yet
  call : (m : List ℕ) (h : Past) (a : Act) → Run m h → Run (after a m) (later a m h)
  host : (m m' : List ℕ) (h : Past) → Host m m' → Run m h → Run m' (grown m m' nothing h)

-- these are all the runs there are
pub run_reached : (m : List ℕ) (h : Past) → Run m h → Reached m
run_reached _ _ (start m line d l s e) = Calls.Reached.start m line d l s e
run_reached _ _ (settle m f l s e) = Calls.Reached.settle m f l s e
run_reached _ _ (call m h a r) = Calls.Reached.call m a (run_reached m h r)
run_reached _ _ (host m m' h k r) = Calls.Reached.host m m' k (run_reached m h r)

pub reached_run : (m : List ℕ) → Reached m → (h : Past) × Run m h
reached_run _ (Calls.Reached.start m line d l s e) = (none_yet, start m line d l s e)
reached_run _ (Calls.Reached.settle m f l s e) = (none_yet, settle m f l s e)
reached_run _ (Calls.Reached.call m a r) = let t = reached_run m r in (later a m t.0, call m t.0 a t.1)
reached_run _ (Calls.Reached.host m m' k r) = let t = reached_run m r in (grown m m' nothing t.0, host m m' t.0 k t.1)

-- ---- the law of one step carries the law of the past
abbrev Kept : List ℕ → Past → Type 0
Kept m h = (p : ℕ) → 1 ≤ count p (processors m) → (s f : ℕ) → only (key s f) (h.read p ++ waiting_for m p) ≡ only (key s f) (h.put p)

-- reads xs then x, with ys waiting before and zs after; us was put before, and u now
adds : {A : Type 0} (t : A → Bool) (xs x ys zs us u : List A) → only t (x ++ zs) ≡ only t (ys ++ u) → only t (xs ++ ys) ≡ only t us
    → only t ((xs ++ x) ++ zs) ≡ only t (us ++ u)
adds t xs x ys zs us u e f =
    ap (only t) (append_assoc xs x zs) ∙ only_append t xs (x ++ zs) ∙ rw (e, only_append t ys u, ← append_assoc (only t xs) (only t ys) (only t u)) (
    rw (← only_append t xs ys, f) (sym (only_append t us u))
    )

grown_kept : {m m' : List ℕ} {e : Mailed} → Told m m' e → (h : Past) → Kept m h → Kept m' (grown m m' e h)
unfolding grown lives
grown_kept {m} {m'} {e} t h k p i s f = go (leb 1 (count p (processors m))) refl
  where
    now : leb 1 (count p (processors m')) ≡ true
    now = le-leb 1 (count p (processors m')) i

    go : (c : Bool) → leb 1 (count p (processors m)) ≡ c
        → only (key s f) ((grown m m' e h).read p ++ waiting_for m' p) ≡ only (key s f) ((grown m m' e h).put p)
    go true q =
        let j = leb-true 1 (count p (processors m)) q in
        rw (q, now) (adds (key s f) (h.read p) (of p e.reads) (waiting_for m p) (waiting_for m' p) (h.put p) (of p e.puts) (t.at p j i s f) (k p j s f))
    go false q =
        let j = leb-false 1 (count p (processors m)) q in
        rw (q, (t.born p (omega arith) i).0)

-- ---- the laws of one call
pub passing_lawful : {m m' : List ℕ} → Passing m m' → Lawful m m' nothing
passing_lawful {m' = m'} t = record { told = t.told; stands = stands_none m'; traced = still_traced t.still nothing refl refl refl }

pub call_lawful : {m : List ℕ} → Sound m → (a : Act) → restarts a ≡ false → Lawful m (after a m) (mail_by a m)
unfolding Calls.after mail_by restarts
call_lawful k (fresh_start line d) e = passing_lawful (refused_passes k line d e)
call_lawful k (fresh_from f) e = passing_lawful (unsettled_passes k f e)
call_lawful k instruct e = instruction_lawful k
call_lawful k (signal n c) e = passing_lawful (interrupt_passes k n c)
call_lawful k (signals l) e = passing_lawful (burst_passes k l)
call_lawful k (set r) e = passing_lawful (set_passes k r)
call_lawful k read e = passing_lawful (read_passes k)
call_lawful k judge_it e = passing_lawful (judge_passes k)

-- ---- what every memory has where nothing waits for anybody, as after a fresh start, and each call and change by the host keeps, every run has
module _ (P : List ℕ → Past → Type 0) (begins : (m : List ℕ) → ((p : ℕ) → Living m p → waiting_for m p ≡ []) → P m none_yet)
    (keeps : (m m' : List ℕ) (e : Mailed) → Sound m → Lawful m m' e → (h : Past) → P m h → P m' (grown m m' e h)) where
  restart_has : {m : List ℕ} → Sound m → (a : Act) → restarts a ≡ true → P (after a m) none_yet
  unfolding Calls.after restarts
  restart_has {m} k (fresh_start line d) e = begins (memory_of (fresh m line d)) (fresh_empty m line d k.size e)
  restart_has {m} k (fresh_from f) e = begins (memory_of (from_settings m f)) (settings_empty m f k.size k.small (good_is (of_file f) e))
  restart_has k instruct e = let z : ◌≡◌ {A = ℕ} 0 1 = cc in absurd (omega arith)
  restart_has k (signal n c) e = let z : ◌≡◌ {A = ℕ} 0 1 = cc in absurd (omega arith)
  restart_has k (signals l) e = let z : ◌≡◌ {A = ℕ} 0 1 = cc in absurd (omega arith)
  restart_has k (set r) e = let z : ◌≡◌ {A = ℕ} 0 1 = cc in absurd (omega arith)
  restart_has k read e = let z : ◌≡◌ {A = ℕ} 0 1 = cc in absurd (omega arith)
  restart_has k judge_it e = let z : ◌≡◌ {A = ℕ} 0 1 = cc in absurd (omega arith)

  later_has : {m : List ℕ} → Sound m → (h : Past) → P m h → (a : Act) → P (after a m) (later a m h)
  unfolding later
  later_has {m} k h q a = go (restarts a) refl
    where
      go : (c : Bool) → restarts a ≡ c → P (after a m) (later a m h)
      go true e = rw e (restart_has k a e)
      go false e = rw e (keeps m (after a m) (mail_by a m) k (call_lawful k a e) h q)

  pub run_has : (m : List ℕ) (h : Past) → Run m h → P m h
  run_has _ _ (start m line d l s e) = begins (memory_of (fresh m line d)) (fresh_empty m line d l e)
  run_has _ _ (settle m f l s e) = begins (memory_of (from_settings m f)) (settings_empty m f l s e)
  run_has _ _ (call m h a r) = later_has (reached_sound m (run_reached m h r)) h (run_has m h r) a
  run_has _ _ (host m m' h k r) =
      let s = reached_sound m (run_reached m h r) in keeps m m' nothing s (passing_lawful (host_passes s k)) h (run_has m h r)

-- ---- the order of mail
pub nothing_lost : (m : List ℕ) (h : Past) → Run m h → (p : ℕ) → 1 ≤ count p (processors m) → (s f : ℕ)
    → only (key s f) (h.read p ++ waiting_for m p) ≡ only (key s f) (h.put p)
nothing_lost = run_has Kept (λ m e p i s f. rw (e p i)) (λ m m' e k t h q. grown_kept t.told h q)
