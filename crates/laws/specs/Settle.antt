-- Settings that survive a box swap: "A fresh start from settings equals fresh followed by creation of the entries in order, processor 1's LR staying". After it
-- the memory is well-formed, processor 1 runs, and behind it stand the entries in their order, each stopped. Assumes nothing.
use Rattle.std.specs.Prelude.{◌≡◌, refl, ◌≢◌, ◌⊎◌, true, ℕ, zero, suc, ◌+◌, ◌-◌, ◌≤◌, ◌<◌, length, get_or}
use Rattle.std.proofs.Common.{sym, ◌∙◌, inl, inr, arith, length-append}
use Rattle.std.proofs.Math.Path.{ap}
use Rattle.std.proofs.Math.Bool.{false}
use mathlib.Core.List.{List, [], ◌∷◌, ◌++◌, append_assoc, append-nil}
use borrow.Author.Tests.{eq-eqb, ne_eqb}
use Rattle.model.specs.Map as Map
use Rattle.model.specs.Map.{control_pages, first_control, first_name, first_priority, free_list, free_semaphore, grant_for, guarded_last, link, list_link, lower}
use Rattle.model.specs.Map.{memory_size, page_size, pair, place, processor_list, q1, q2, running_page, start_address}
use Rattle.model.specs.Told.Answer.{Done}
use Rattle.model.specs.declared.Entry.{Entry}
use Rattle.model.specs.declared.Registers.{Registers}
use Rattle.model.specs.Told.Fit.{Good}
use Rattle.model.specs.Store.{bytes}
use Rattle.model.specs.Queue as Queue
use Rattle.model.specs.Processor as Processor
use Rattle.model.specs.Processor.{starting_at}
use Rattle.model.specs.Page as Pages
use Rattle.model.specs.Page.Taken.{took}
use Rattle.model.specs.Answer.Outcome.{gives}
use Rattle.model.specs.Call as Call
use Rattle.model.specs.Layout.{are_entries, bears, divider_of, entries_of, line_of, names_differ, newest, of_file}
use Rattle.model.specs.Settings as Settings
use Rattle.model.specs.Lists as Lists
use Rattle.model.specs.Lists.{count, range}
use Rattle.model.specs.Bytes as Model
use Rattle.model.specs.Bytes.{word, lists, processors, running, page_of, is_named, take_page, take_free, created, crp_page, lr, set_lr, started, made, all_made}
use Rattle.model.specs.Bytes.{from_settings}
use Rattle.laws.specs.Count.{hit_self, hit_other, hit_or, count_append}
use Rattle.laws.specs.Chain.{Page}
use Rattle.laws.specs.Queues.{upd, upd_same}
use Rattle.laws.specs.Uses.{proc_page}
use Rattle.laws.specs.Places.{in_free, grant_low}
use Rattle.laws.specs.Inv.{Base, no_one, view}
use Rattle.laws.specs.Judged.{WellFormed, walked, invariant}
use Rattle.laws.specs.Frames.{Kept, base_kept}
use Rattle.laws.specs.JoinLeave.{chain0}
use Rattle.laws.specs.Hands.{take_free_lem}
use Rattle.laws.specs.Grants.{free_word}
use Rattle.laws.specs.Who.{listed}
use Rattle.laws.specs.Words.{Small, small_free, small_started}
use Rattle.laws.specs.Start.{Args, args_of, computed, zeros_size, zeros_fresh, started_well, started_word, agree_started, agree_kept}
use Rattle.laws.specs.Mails.{first_none, none_first}
use Rattle.laws.specs.InstructionWords.{small_created}
use Rattle.laws.specs.Fits.{Fields, file_of, entries_few, entry_of, first_entry, first_differs, bears_not}
use Rattle.laws.specs.Made.{Given, Stands, AsSet, stands_on, made_is, made_stays, made_low, made_stands, made_well, made_procs, made_free, ByCrp}
use Rattle.laws.specs.Made.{Unbound, given_by_crp}

-- ---- the entries one after the other, by CRP behind its tests with LR put back: from m to m', done each time; len is what LR would grow by. Each passes the
-- tests too, but the one of its own priority: `Unbound`
pub data Created (len : ℕ) : List ℕ → List Entry → List ℕ → Type 0 where
  none : (m : List ℕ) → Created len m [] m
  one : (m m₁ m' : List ℕ) (e : Entry) (es : List Entry) → Unbound m e → crp_page m e.name e.priority e.w e.address len ≡ gives Done m₁
      → Created len (set_lr m₁ (running m₁) (lr m)) es m' → Created len m (e ∷ es) m'

-- ---- pages and entries, row by row
pub data Rows (m : List ℕ) : List ℕ → List Entry → Type 0 where
  none : Rows m [] []
  one : (p : ℕ) (e : Entry) (ps : List ℕ) (es : List Entry) → AsSet m p e → Rows m ps es → Rows m (p ∷ ps) (e ∷ es)

rows_on : {m m' : List ℕ} (ps : List ℕ) (es : List Entry) → ((p j : ℕ) → 1 ≤ count p ps → list_link < j → j < page_size → word m' p j ≡ word m p j)
    → Rows m ps es → Rows m' ps es
rows_on _ _ f Rows.none = Rows.none
rows_on _ _ f (Rows.one p e ps es s r) =
    Rows.one p e ps es (stands_on (λ j. f p j (omega (arith, hit_self p))) s) (rows_on ps es (λ y j h. f y j (omega arith)) r)

rows_more : {m : List ℕ} (q : ℕ) (e : Entry) (ps : List ℕ) (es : List Entry) → AsSet m q e → Rows m ps es → Rows m (ps ++ q ∷ []) (es ++ e ∷ [])
rows_more q e _ _ s Rows.none = Rows.one q e [] [] s Rows.none
rows_more q e _ _ s (Rows.one p d ps es t r) = Rows.one p d (ps ++ q ∷ []) (es ++ e ∷ []) t (rows_more q e ps es s r)

-- ---- the pages: n from p on
abbrev pub pages : ℕ → ℕ → List ℕ
pages n p = range n 1 p

pages_more : (k p : ℕ) → pages k p ++ (p + k) ∷ [] ≡ pages (k + 1) p
unfolding Lists.range
pages_more zero p = let e : p + 0 ≡ p = omega arith in rw e
pages_more (suc k) p =
    let e : p + suc k ≡ p + 1 + k = omega arith in
    let d : suc k + 1 ≡ suc (k + 1) = omega arith in
    rw (e, d) (ap (λ (l : List ℕ). p ∷ l) (pages_more k (p + 1)))

pages_next : (n p : ℕ) → pages (suc n) p ≡ p ∷ pages n (p + 1)
unfolding Lists.range
pages_next n p = refl

pages_none : (p : ℕ) → pages 0 p ≡ []
unfolding Lists.range
pages_none p = refl

-- ---- what stands after a fresh start from settings: processor 1 as after a fresh start, then the entries es
pub record Settled (m : List ℕ) (es : List Entry) : Type 0 where
  pub procs : processors m ≡ first_control ∷ pages (length es) (first_control + 1)
  pub rows : Rows m (pages (length es) (first_control + 1)) es
  pub runs : running m ≡ first_control
  pub first : Stands m first_control first_priority first_name (starting_at start_address 0)

-- "processor 1's LR staying"
pub settled_lr : {m : List ℕ} {es : List Entry} → Settled m es → lr m ≡ start_address
unfolding Processor.registers_of
settled_lr t = rw t.runs (ap (λ (r : Registers). r.lr) t.first.registers)

-- in the midst of it, with n pages free
record Stage (m : List ℕ) (es : List Entry) (n : ℕ) : Type 0 where
  well : WellFormed m
  small : Small m
  settled : Settled m es
  grant : get_or m (grant_for first_name) 0 ≡ 0
  free : lists m free_list ≡ pages n (first_control + 1 + length es)

-- ---- one entry more
module _ {m : List ℕ} {es : List Entry} {n : ℕ} (s : Stage m es (suc n)) (e : Entry) (f : Fields e) (unnamed : page_of m e.name ≡ 0) where
  b : Base m (lists m processor_list) (lists m) (view m) [] no_one
  b = (invariant s.well).base

  abbrev ps : List ℕ
  ps = lists m processor_list

  abbrev q : ℕ
  q = first_control + 1 + length es

  abbrev fs : List ℕ
  fs = pages n (q + 1)

  free_is : lists m free_list ≡ q ∷ fs
  free_is = s.free ∙ pages_next n q

  first_is : (get_or m free_list 0 ≡ q) × Page q
  first_is =
      let c = rw free_is at (chain0 b.facts.sep b.mem free_list (in_free ps, grant_low free_list (omega arith)) (omega arith)) in (c.0, c.1)

  takes : take_page m (running m) ≡ took q (take_free m q)
  unfolding Pages.take_page Pages.first_free
  takes = rw (s.settled.runs, s.settled.first.label, s.grant, first_is.0, ne_eqb q 0 (omega arith))

  given : Given s.well q (take_free m q)
  given = record {
    lists = upd (lists m) free_list fs;
    view = _;
    base = take_free_lem q fs b free_is;
    low = refl;
    labels = refl;
    stays = λ p j h l u. free_word b (place p j) (λ a x y. let g = proc_page b.facts.sep p h in omega arith) (λ z i. omega arith) q fs free_is;
  }

  given_free : given.lists free_list ≡ fs
  unfolding given
  given_free = upd_same (lists m) free_list fs

  abbrev m2 : List ℕ
  m2 = created (take_free m q) q e.name e.priority e.w e.address

  made_eq : made m e ≡ m2
  made_eq = made_is s.well given e f unnamed takes

  in_procs : (p : ℕ) → 1 ≤ count p (first_control ∷ pages (length es) (first_control + 1)) → 1 ≤ count p ps
  in_procs p h = rw (← listed b, s.settled.procs) h

  stays : (p j : ℕ) → 1 ≤ count p (first_control ∷ pages (length es) (first_control + 1)) → list_link < j → j < page_size → word m2 p j ≡ word m p j
  stays p j h = made_stays s.well given e f unnamed p j (in_procs p h)

  low_stays : (a : ℕ) → a < guarded_last → a ≢ processor_list → ((c : ℕ) → free_list ≤ c → c ≤ free_semaphore → a ≢ c) → ((z : ℕ) → a ≢ place z link)
      → get_or m2 a 0 ≡ get_or m a 0
  low_stays a l d g h = made_low s.well given e f unnamed a l d ∙ free_word b a g (λ z i. h z) q fs free_is

  longer : length (es ++ e ∷ []) ≡ length es + 1
  longer = length-append es (e ∷ [])

  next : pages (length es) (first_control + 1) ++ q ∷ [] ≡ pages (length (es ++ e ∷ [])) (first_control + 1)
  next = rw longer (pages_more (length es) (first_control + 1))

  one_more_lem : Stage (made m e) (es ++ e ∷ []) n
  one_more_lem =
      let h1 : 1 ≤ count first_control (first_control ∷ pages (length es) (first_control + 1)) = omega (arith, hit_self first_control) in
      let k : first_control + 1 + (length es + 1) ≡ first_control + 1 + length es + 1 = omega arith in
      let t = s.settled in
      rw made_eq (record {
        well = made_well s.well given e f unnamed;
        small = small_created (small_free s.small q) q e.name e.priority e.w e.address (omega (arith, first_is.1)) (omega (arith, f.names))
            (omega (arith, f.priorities));
        settled = record {
          procs = made_procs s.well given e f unnamed ∙ rw (t.procs, ← next);
          rows = rw (← next) (rows_more q e (pages (length es) (first_control + 1)) es (made_stands s.well given e f unnamed)
              (rows_on (pages (length es) (first_control + 1)) es (λ p j h. stays p j (omega arith)) t.rows));
          runs = low_stays running_page (omega arith) (omega arith) (λ c x y. omega arith) (λ z. omega arith) ∙ t.runs;
          first = stands_on (λ j. stays first_control j h1) t.first;
        };
        grant = low_stays (grant_for first_name) (omega arith) (omega arith) (λ c x y. omega arith) (λ z. omega arith) ∙ s.grant;
        free = made_free s.well given e f unnamed ∙ given_free ∙ rw (longer, k);
      })

  -- who had no processor has none, unless it is this one's name
  still_unnamed : (x : ℕ) → e.name ≢ x → page_of m x ≡ 0 → page_of (made m e) x ≡ 0
  unfolding Processor.is_named
  still_unnamed x d z =
      rw (made_eq, made_procs s.well given e f unnamed, listed b) (none_first (is_named m2 x) (ps ++ q ∷ []) (λ p h. go p h (hit_or p q)))
    where
      go : (p : ℕ) → 1 ≤ count p (ps ++ q ∷ []) → (p ≡ q) ⊎ (p ≢ q) → is_named m2 x p ≡ false
      go p h (inl g) =
          let l = (made_stands s.well given e f unnamed).label in
          rw (g, l) (ne_eqb (lower (pair e.priority e.name)) x (omega (arith, f.names)))
      go p h (inr g) =
          let i : 1 ≤ count p ps = omega (arith, count_append p ps (q ∷ []), hit_other p q g) in
          rw (made_stays s.well given e f unnamed p Map.label i (omega arith) (omega arith)) (first_none (is_named m x) ps (λ y j.
          let pg = proc_page b.facts.sep y j in omega arith) (rw (listed b) at z) p i)

  by_crp : (len : ℕ) → ByCrp len m e (made m e)
  by_crp len = rw made_eq (given_by_crp s.well given e f unnamed s.small (omega (arith, s.settled.runs)) takes len)

-- ---- all entries: none of them has a processor yet
abbrev Unnamed : List ℕ → List Entry → Type 0
Unnamed m [] = Unit {0}
Unnamed m (e ∷ es) = (page_of m e.name ≡ 0) × Unnamed m es

unnamed_on : (m m' : List ℕ) (n : ℕ) (es : List Entry) → ((x : ℕ) → n ≢ x → page_of m x ≡ 0 → page_of m' x ≡ 0) → bears n es ≡ false → Unnamed m es
    → Unnamed m' es
unnamed_on m m' n [] h d u = tt
unnamed_on m m' n (e ∷ es) h d u =
    let t = bears_not n e es d in
    (h e.name (λ z. t.0 (sym z)) u.0, unnamed_on m m' n es h t.1 u.1)

all_settle : (len : ℕ) (es done : List Entry) (m : List ℕ) (n : ℕ) → Stage m done (length es + n) → are_entries es ≡ true → names_differ es ≡ true
    → Unnamed m es → Created len m es (all_made m es) × Stage (all_made m es) (done ++ es) n
unfolding Settings.all_made
all_settle len [] done m n s a d u =
    let z : 0 + n ≡ n = omega arith in
    (Created.none m, rw (append-nil done) (rw z at s))
all_settle len (e ∷ es) done m n s a d u =
    let k : suc (length es) + n ≡ suc (length es + n) = omega arith in
    let s1 = rw k at s in
    let ea = first_entry e es a in
    let ed = first_differs e es d in
    let f = (entry_of e ea.0).0 in
    let c = by_crp s1 e f u.0 len in
    let v = unnamed_on m (made m e) e.name es (still_unnamed s1 e f u.0) ed.0 u.1 in
    let r = all_settle len es (done ++ e ∷ []) (made m e) n (one_more_lem s1 e f u.0) ea.1 ed.1 v in (
      Created.one m c.left (all_made (made m e) es) e es c.tests c.done (rw c.back r.0),
      rw (append_assoc done (e ∷ []) es) at r.1,
    )

-- ---- the fresh start
module _ (m : List ℕ) (line d : ℕ) (l : length m ≡ memory_size) (a : Args line d) where
  abbrev m0 : List ℕ
  m0 = started bytes.zeros line d

  abbrev m1 : List ℕ
  m1 = started m line d

  kept : Kept m0 m1
  kept = agree_kept (agree_started bytes.zeros m line d zeros_size l)

  b0 : Base m0 (lists m0 processor_list) (lists m0) (view m0) [] no_one
  b0 = (invariant (zeros_fresh line d a)).base

  b1 : Base m1 (lists m0 processor_list) (lists m0) (view m0) [] no_one
  b1 = base_kept kept b0

  same : (j : ℕ) → list_link < j → j < page_size → word m1 first_control j ≡ word m0 first_control j
  same j u v = started_word bytes.zeros m line d zeros_size l (place first_control j) (omega arith) (omega arith)

  first_stands : Stands m0 first_control first_priority first_name (starting_at start_address 0)
  first_stands =
      let c = computed line d in
      record { label = c.label; registers = c.registers; kept = c.kept; mail = λ j u v. mail j u v (hit_or j q1) }
    where
      mail : (j : ℕ) → q1 ≤ j → j ≤ q2 → (j ≡ q1) ⊎ (j ≢ q1) → word m0 first_control j ≡ 0
      mail j u v (inl e) = rw e (computed line d).mail1
      mail j u v (inr e) = let t : j ≡ q2 = omega arith in rw t (computed line d).mail2

  pub fresh_settled : Settled m1 []
  fresh_settled =
      let c = computed line d in
      record {
        procs = listed b1 ∙ sym (listed b0) ∙ c.procs ∙ ap (λ (x : List ℕ). first_control ∷ x) (sym (pages_none (first_control + 1)));
        rows = rw (pages_none (first_control + 1)) Rows.none;
        runs = kept.fixed running_page (omega arith) (omega arith) ∙ c.runs;
        first = stands_on same first_stands;
      }

  fresh_stage : Small m → Stage m1 [] (control_pages - 1)
  fresh_stage s =
      let c = computed line d in
      record {
        well = started_well m line d l a;
        small = small_started s line d (omega (arith, a)) (omega (arith, a));
        settled = fresh_settled;
        grant = kept.fixed (grant_for first_name) (omega arith) (omega arith) ∙ c.grant;
        free = walked b1 free_list (in_free (lists m0 processor_list)) ∙ c.free;
      }

  fresh_free : (n : ℕ) → first_name < n → page_of m1 n ≡ 0
  unfolding Processor.is_named Queue.first
  fresh_free n u =
      let t = fresh_settled in
      let e : processors m1 ≡ first_control ∷ [] = t.procs ∙ ap (λ (x : List ℕ). first_control ∷ x) (pages_none (first_control + 1)) in
      rw (e, t.first.label, ne_eqb (lower (pair first_priority first_name)) n (omega arith), Queue.first)

  fresh_unnamed : (es : List Entry) → are_entries es ≡ true → Unnamed m1 es
  fresh_unnamed [] h = tt
  fresh_unnamed (e ∷ es) h = let t = first_entry e es h in (fresh_free e.name (entry_of e t.0).1, fresh_unnamed es t.1)

-- ---- the call: on any memory of 8,192 words of 8 bits a good file is taken
pub record FromSettings (m f : List ℕ) : Type 0 where
  -- "fresh followed by creation of the entries in order, processor 1's LR staying": from what fresh leaves to what is left
  pub start : List ℕ
  pub left : List ℕ
  pub fresh : Model.fresh m (line_of (newest f)) (divider_of (newest f)) ≡ gives Done start
  pub done : from_settings m f ≡ gives Done left
  pub created : (len : ℕ) → Created len start (entries_of (newest f)) left
  pub settled : Settled left (entries_of (newest f))
  pub well : WellFormed left
  pub small : Small left

pub from_settings_lem : (m : List ℕ) → length m ≡ memory_size → Small m → (f : List ℕ) → of_file f ≡ Good → FromSettings m f
unfolding Call.fresh Settings.from_settings Settings.settled
from_settings_lem m l s f g =
    let b = newest f in
    let t = file_of f g in
    let a = args_of (line_of b) (divider_of b) t.starts in
    let es = entries_of b in
    let n = control_pages - 1 - length es in
    let k : control_pages - 1 ≡ length es + (control_pages - 1 - length es) = omega (arith, entries_few b t) in
    let all : (len : ℕ) → Created len (started m (line_of b) (divider_of b)) es (all_made (started m (line_of b) (divider_of b)) es)
    × Stage (all_made (started m (line_of b) (divider_of b)) es) es (control_pages - 1 - length es) = λ len.
    all_settle len es [] (started m (line_of b) (divider_of b)) n (rw k at (fresh_stage m (line_of b) (divider_of b) l a s)) t.entries t.differ
    (fresh_unnamed m (line_of b) (divider_of b) l a es t.entries) in
    record {
      start = started m (line_of b) (divider_of b);
      left = Model.settled m b;
      fresh = rw (eq-eqb (length m) memory_size l, t.starts);
      done = rw (eq-eqb (length m) memory_size l, g);
      created = λ len. (all len).0;
      settled = (all 0).1.settled;
      well = (all 0).1.well;
      small = (all 0).1.small;
    }
