-- Pages renamed: for every renaming of the control pages there is a second memory. Assumes nothing.
use Rattle.std.specs.Prelude.{◌≡◌, refl, Bool, true, false, cond, ℕ, zero, suc, ◌+◌, ◌/◌, ◌%◌, ◌≤◌, ◌<◌, leb, ltb, length, get_or}
use Rattle.std.proofs.Common.{ap, ◌∙◌}
use mathlib.Core.List.{List, [], ◌∷◌, ◌++◌}
use native.Mathlib.Omega.{arith}
use borrow.Author.Tests.{le-leb, lt-leb, lt-ltb, le-ltb}
use Rattle.model.specs.Map as Map
use Rattle.model.specs.Map.{memory_size, place, processor_list, running_page, page_queue, header_after}
use Rattle.model.specs.Map.{page_size, guarded_last, link, own_queue, q1, q2, note}
use Rattle.model.specs.Lists as Lists
use Rattle.model.specs.Lists.{count, range, uses, queues}
use Rattle.model.specs.Bytes.{at}
use Rattle.model.specs.Bytes.{word, processors, queue}
use Rattle.laws.specs.Count.{hit_other}
use Rattle.laws.specs.Chain.{Page}
use Rattle.laws.specs.Heads.{range1_at}
use Rattle.laws.specs.Places.{in_queues, in_asking, int_queue}
use Rattle.laws.specs.Judged.{WellFormed}
use Rattle.laws.specs.Renaming.{Renamed, SameMessage, SameProcessor, mail_control, mail_ends, mail_none, proc_control}

-- ---- and for every renaming there is such a memory: m with its pages moved, and all that points to them. s undoes r
-- n numbers, f of a and of those behind it
abbrev listed_from : ℕ → (ℕ → ℕ) → ℕ → List ℕ
listed_from zero f a = []
listed_from (suc n) f a = f a ∷ listed_from n f (a + 1)

listed_long : (n : ℕ) (f : ℕ → ℕ) (a : ℕ) → length (listed_from n f a) ≡ n
listed_long zero f a = refl
listed_long (suc n) f a = ap suc (listed_long n f (a + 1))

listed_at : (n : ℕ) (f : ℕ → ℕ) (a i : ℕ) → i < n → get_or (listed_from n f a) i 0 ≡ f (a + i)
listed_at zero f a i h = absurd (omega arith)
listed_at (suc n) f a zero h = let e : a + 0 ≡ a = omega arith in rw e
listed_at (suc n) f a (suc i) h = let e : a + 1 + i ≡ a + suc i = omega arith in rw e at (listed_at n f (a + 1) i (omega arith))

-- whether a word points to a page: outside the control pages the heads of lists and the running page; on page x its link, and of a processor four words more
points : ℕ → Bool
points a = leb 1 (count a (running_page ∷ (uses [] ++ queues [])))

points_on : List ℕ → ℕ → ℕ → Bool
points_on m x w = leb 1 (count w (link ∷ cond (leb 1 (count x (processors m))) (Map.list_link ∷ range 3 1 own_queue) []))

module _ (r s : ℕ → ℕ) (m : List ℕ) where
  word_at : ℕ → ℕ
  word_at a =
      let x = s (a / page_size) in
      let w = a % page_size in
      cond (ltb a guarded_last) (cond (points a) (r (at m a)) (at m a)) (cond (points_on m x w) (r (word m x w)) (word m x w))

  abbrev moved : List ℕ
  moved = listed_from memory_size word_at 0

  moved_at : (a : ℕ) → a < memory_size → at moved a ≡ word_at a
  moved_at a h = let e : 0 + a ≡ a = omega arith in rw e at (listed_at memory_size word_at 0 a h)

  cell_moved : (a : ℕ) → a < guarded_last → 1 ≤ count a (running_page ∷ (uses [] ++ queues [])) → at moved a ≡ r (at m a)
  unfolding word_at points
  cell_moved a h c = moved_at a (omega arith) ∙ rw (lt-ltb a guarded_last h, le-leb 1 (count a (running_page ∷ (uses [] ++ queues []))) c)

  module _ (f : (x : ℕ) → Page x → Page (r x)) (g : (x : ℕ) → Page x → s (r x) ≡ x) (x w : ℕ) (h : Page x) (l : w < page_size) where
    word_moved : word moved (r x) w ≡ cond (points_on m x w) (r (word m x w)) (word m x w)
    unfolding word_at
    word_moved =
        let c = f x h in
        let q : place (r x) w / page_size ≡ r x = omega arith in
        let t : place (r x) w % page_size ≡ w = omega arith in
        moved_at (place (r x) w) (omega arith) ∙ rw (le-ltb (place (r x) w) guarded_last (omega arith), q, t, g x h)

points_proc : (m : List ℕ) (p w : ℕ) → 1 ≤ count p (processors m) → points_on m p w ≡ leb 1 (count w (link ∷ Map.list_link ∷ range 3 1 own_queue))
unfolding points_on
points_proc m p w h = rw (le-leb 1 (count p (processors m)) h)

points_link : (m : List ℕ) (x : ℕ) → points_on m x link ≡ true
unfolding points_on
points_link m x = le-leb 1 (count link (link ∷ cond (leb 1 (count x (processors m))) (Map.list_link ∷ range 3 1 own_queue) [])) (omega arith)

points_not : (m : List ℕ) (x w : ℕ) → count x (processors m) ≡ 0 → note ≤ w → points_on m x w ≡ false
unfolding points_on
points_not m x w z h = rw (lt-leb 1 (count x (processors m)) (omega arith)) (lt-leb 1 (count w (link ∷ [])) (omega (arith, hit_other w link (omega arith))))

module _ (r s : ℕ → ℕ) (f : (x : ℕ) → Page x → Page (r x)) (g : (x : ℕ) → Page x → s (r x) ≡ x) (m : List ℕ) (v : WellFormed m) where
  abbrev k : List ℕ
  k = moved r s m

  module _ (p : ℕ) (h : 1 ≤ count p (processors m)) where
    pointed : (w : ℕ) → w < page_size → 1 ≤ count w (link ∷ Map.list_link ∷ range 3 1 own_queue) → word k (r p) w ≡ r (word m p w)
    pointed w l c =
        word_moved r s m f g p w (proc_control v p h) l
        ∙ rw (points_proc m p w h, le-leb 1 (count w (link ∷ Map.list_link ∷ range 3 1 own_queue)) c)

    kept : (w : ℕ) → w < page_size → count w (link ∷ Map.list_link ∷ range 3 1 own_queue) ≡ 0 → word k (r p) w ≡ word m p w
    kept w l c =
        word_moved r s m f g p w (proc_control v p h) l
        ∙ rw (points_proc m p w h, lt-leb 1 (count w (link ∷ Map.list_link ∷ range 3 1 own_queue)) (omega arith))

    proc_moved : SameProcessor r m k p
    unfolding Lists.range
    proc_moved = record {
      link = pointed Map.link (omega arith) (omega arith);
      list_link = pointed Map.list_link (omega arith) (omega arith);
      headers = λ w a b. pointed w (omega arith) (omega (arith, range1_at 3 own_queue w a (omega arith)));
      reason = kept Map.reason (omega arith) refl;
      label = kept Map.label (omega arith) refl;
      state = kept Map.state (omega arith) refl;
    }

  mail_moved : (p z x : ℕ) → 1 ≤ count p (processors m) → q1 ≤ z → z ≤ q2 → 1 ≤ count x (queue m (place p z)) → SameMessage r m k x
  mail_moved p z x h a b i =
      let c = mail_control v p z x h a b i in
      let e = mail_ends v p z x h a b i in
      record {
        link = word_moved r s m f g x Map.link c (omega arith) ∙ rw (points_link m x);
        words = λ w u l. word_moved r s m f g x w c (omega arith) ∙ rw (points_not m x w (mail_none v p z x h a b i) u);
      }

  moved_renamed : Renamed r m k
  moved_renamed = record {
    list = cell_moved r s m processor_list (omega arith) (omega arith);
    runs = cell_moved r s m running_page (omega arith) (omega arith);
    asking = cell_moved r s m page_queue (omega arith) (omega (arith, in_asking []));
    waits = λ i h. cell_moved r s m (header_after i) (omega arith) (omega (arith, in_queues [] (header_after i) (int_queue [] i h)));
    procs = proc_moved;
    mail = mail_moved;
  }

  pub renamed_some : (l : List ℕ) × (length l ≡ memory_size) × Renamed r m l
  renamed_some = (k, listed_long memory_size (word_at r s m) 0, moved_renamed)
