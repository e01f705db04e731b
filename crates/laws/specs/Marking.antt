-- Deleting, 3/13: "marks every message it sent that is still unread, by 64 added in word 2". What a mark is to one word, that a walk marks the messages it
-- meets and leaves every other word, and that lists, uses and sentences stay: a mark moves nothing. Assumes nothing.
use Rattle.std.specs.Prelude.{◌≡◌, refl, ◌≢◌, ◌⊎◌, Bool, true, false, cond, List, [], ◌∷◌, ◌++◌, ℕ, zero, suc, ◌≤◌, ◌<◌, get_or, eqb}
use Rattle.std.proofs.Common.{ap, ◌∙◌, inl, inr, append_assoc, arith, length-set, get_or-set_same, eqb-true, ltb-true, ltb-false}
use Rattle.std.proofs.Math.ListN.{length}
use Rattle.std.proofs.lemmas.Bool.{eqb-false}
use Rattle.model.specs.Map as Map
use Rattle.model.specs.Map.{control_pages, guarded_last, is_unmarked, link, list_link, mark, mark_added, memory_size, note, page_size, place, processor_list, q1, q2}
use Rattle.model.specs.Map.{size, upper, word_values}
use Rattle.model.specs.Bytes.{word, marked, marked_from, mail_marked, all_marked, sent_marked}
use Rattle.model.specs.Delete as Delete
use Rattle.model.specs.Lists.{count, Lists, mails}
use Rattle.model.specs.Walks.{gather}
use Rattle.laws.specs.Count.{hit_self, hit_other, hit_or, count_append, zero_or}
use Rattle.laws.specs.Chain.{Page, Chain, chain_move}
use Rattle.laws.specs.Queues.{link_procs, link_other}
use Rattle.laws.specs.Heads.{Place, seat_of, mails_of}
use Rattle.laws.specs.Heads.Place.{int, three, grant, slot}
use Rattle.laws.specs.Uses.{Among, Sep, head_place, proc_page, list_short}
use Rattle.laws.specs.Places.{in_procs, in_q, q_free, grant_low, grant_high}
use Rattle.laws.specs.Inv.{Base, Facts, Mem, Message, View}
use Rattle.laws.specs.Frames.{other, holds_kept, fixed_same, seat_same}
use Rattle.laws.specs.Views.{with_words}
use Rattle.laws.specs.Met.{gather_of}
use Rattle.laws.specs.Words.{marks_messages, marks_processors, meets_next, meets_none}
use Rattle.laws.specs.Changes.{hand_page, hand_out}
use Rattle.laws.specs.Leave.{Bag, tot_short}

-- ---- one word
-- word 2 of a message whose word 1 is w and word 2 is v, when the name n is deleted
unfoldable pub marked_size : ℕ → ℕ → ℕ → ℕ
marked_size n w v = cond (cond (is_unmarked v) (eqb (upper w) n) false) (mark_added v) v

-- it is marked now, or stays
pub data Fate (n w v x : ℕ) : Type 0 where
  marks : v < mark → upper w ≡ n → x ≡ mark_added v → Fate n w v x
  stays : (v < mark → upper w ≢ n) → x ≡ v → Fate n w v x

pub fate : (n w v : ℕ) → Fate n w v (marked_size n w v)
unfolding marked_size
fate n w v = go (is_unmarked v) (eqb (upper w) n) refl refl
  where
    go : (c d : Bool) → is_unmarked v ≡ c → eqb (upper w) n ≡ d → Fate n w v (marked_size n w v)
    go true true e f = marks (ltb-true v mark e) (eqb-true (upper w) n f) (rw (e, f))
    go true false e f = stays (λ l. eqb-false (upper w) n f) (rw (e, f))
    go false d e f = stays (λ l. absurd (omega (arith, ltb-false v mark e))) (rw e)

-- "marked mail isn't marked again"
again : (n w v : ℕ) → marked_size n w (marked_size n w v) ≡ marked_size n w v
again n w v = go (marked_size n w v) (fate n w v) (marked_size n w (marked_size n w v)) (fate n w (marked_size n w v))
  where
    go : (x : ℕ) → Fate n w v x → (y : ℕ) → Fate n w x y → y ≡ x
    go x f y (stays h e) = e
    go x (marks l e d) y (marks k h i) = absurd (omega arith)
    go x (stays l d) y (marks k h i) = absurd (l (omega arith) h)

-- a message stays one
fate_letter : {n w v x : ℕ} → Fate n w v x → Message w v → Message w x
fate_letter (marks l e d) t =
    rw d (record { sender = t.sender; known = t.known; flag = t.flag; small = t.small; most = omega arith; long = omega (arith, t.long) })
fate_letter (stays h d) t = rw d t

-- ---- from m to m1 the messages xs are marked, and no other word changes
pub record Marked (n : ℕ) (xs : List ℕ) (m m1 : List ℕ) : Type 0 where
  pub size : length m1 ≡ length m
  pub away : (c : ℕ) → ((x : ℕ) → 1 ≤ count x xs → c ≢ place x Map.size) → get_or m1 c 0 ≡ get_or m c 0
  pub here : (x : ℕ) → 1 ≤ count x xs → word m1 x Map.size ≡ marked_size n (word m x note) (word m x Map.size)

none_marked : (n : ℕ) (m : List ℕ) → Marked n [] m m
none_marked n m = record { size = refl; away = λ c h. refl; here = λ x h. absurd (omega arith) }

module _ {n : ℕ} {xs : List ℕ} {m m1 : List ℕ} (t : Marked n xs m m1) where
  -- every word of a page but word 2
  pub marked_word : (x j : ℕ) → j < page_size → j ≢ Map.size → word m1 x j ≡ word m x j
  marked_word x j l d = t.away (place x j) (λ y h. omega arith)

  -- word 2 of a page that is not among them
  marked_off : (x : ℕ) → count x xs ≡ 0 → word m1 x Map.size ≡ word m x Map.size
  marked_off x e = t.away (place x Map.size) (λ y h d. (let z : x ≡ y = omega arith in omega (arith, ap (λ (k : ℕ). count k xs) z)))

  -- word 2 of any page
  pub marked_fate : (x : ℕ) → Fate n (word m x note) (word m x Map.size) (word m1 x Map.size) ⊎ (word m1 x Map.size ≡ word m x Map.size)
  marked_fate x = go (zero_or (count x xs))
    where
      go : (count x xs ≡ 0) ⊎ (1 ≤ count x xs) → Fate n (word m x note) (word m x Map.size) (word m1 x Map.size) ⊎ (word m1 x Map.size ≡ word m x Map.size)
      go (inl e) = inr (marked_off x e)
      go (inr h) = inl (rw (t.here x h) (fate n (word m x note) (word m x Map.size)))

  pub marked_letter : (x : ℕ) → Message (word m x note) (word m x Map.size) → Message (word m1 x note) (word m1 x Map.size)
  marked_letter x l = rw (marked_word x note (omega arith) (omega arith)) (go (marked_fate x))
    where
      go : Fate n (word m x note) (word m x Map.size) (word m1 x Map.size) ⊎ (word m1 x Map.size ≡ word m x Map.size)
          → Message (word m x note) (word m1 x Map.size)
      go (inl f) = fate_letter f l
      go (inr e) = rw e l

  -- a chain of links that are no word 2
  pub marked_chain : (k a : ℕ) (ys : List ℕ) → k < page_size → k ≢ Map.size → ((x : ℕ) → a ≢ place x Map.size) → Chain m k a ys → Chain m1 k a ys
  marked_chain k a ys l d e c = chain_move m m1 k a a ys (t.away a (λ x h. e x)) (λ x h. marked_word x k l d) c

  pub then_marked : {ys : List ℕ} {m2 : List ℕ} → Marked n ys m1 m2 → Marked n (xs ++ ys) m m2
  then_marked {ys} {m2} u = record {
    size = u.size ∙ t.size;
    away = λ c h. u.away c (λ x i. h x (omega (arith, count_append x xs ys))) ∙ t.away c (λ x i. h x (omega (arith, count_append x xs ys)));
    here = λ x h. go x h (zero_or (count x xs)) (zero_or (count x ys));
  }
    where
      w : (x : ℕ) → word m1 x note ≡ word m x note
      w x = marked_word x note (omega arith) (omega arith)

      off : (x : ℕ) → count x ys ≡ 0 → word m2 x Map.size ≡ word m1 x Map.size
      off x e = u.away (place x Map.size) (λ y h d. (let z : x ≡ y = omega arith in omega (arith, ap (λ (k : ℕ). count k ys) z)))

      go : (x : ℕ) → 1 ≤ count x (xs ++ ys) → (count x xs ≡ 0) ⊎ (1 ≤ count x xs) → (count x ys ≡ 0) ⊎ (1 ≤ count x ys)
          → word m2 x Map.size ≡ marked_size n (word m x note) (word m x Map.size)
      go x h (inl e) (inl f) = absurd (omega (arith, count_append x xs ys))
      go x h (inr i) (inl f) = off x f ∙ t.here x i
      go x h (inl e) (inr j) = u.here x j ∙ rw (w x, marked_off x e)
      go x h (inr i) (inr j) = u.here x j ∙ rw (w x, t.here x i) (again n (word m x note) (word m x Map.size))

-- ---- one message
one_marked : (m : List ℕ) (n q : ℕ) → length m ≡ memory_size → q < word_values → Marked n (q ∷ []) m (marked m n q)
unfolding Delete.marked Delete.sent_by marked_size
one_marked m n q l u = go (cond (is_unmarked (word m q size)) (eqb (upper (word m q note)) n) false) refl
  where
    only : (x : ℕ) → 1 ≤ count x (q ∷ []) → x ≡ q
    only x h = same (hit_or x q)
      where
        same : (x ≡ q) ⊎ (x ≢ q) → x ≡ q
        same (inl e) = e
        same (inr d) = absurd (omega (arith, hit_other x q d))

    here_q : 1 ≤ count q (q ∷ [])
    here_q = omega (arith, hit_self q)

    go : (c : Bool) → cond (is_unmarked (word m q size)) (eqb (upper (word m q note)) n) false ≡ c → Marked n (q ∷ []) m (marked m n q)
    go true e = rw e (record {
      size = simp length-set;
      away = λ c h. other m (place q size) (mark_added (word m q size)) c (h q here_q);
      here = λ x h. rw (only x h, e) (get_or-set_same m (place q size) (mark_added (word m q size)) 0 (omega arith));
    })
    go false e = rw e (record { size = refl; away = λ c h. refl; here = λ x h. rw (only x h, e) })

-- ---- the messages of a queue
from_marked : (xs : List ℕ) (i : ℕ) (m : List ℕ) (n a : ℕ) → length m ≡ memory_size → length xs ≤ i → Chain m link a xs → Marked n xs m (marked_from i m n a)
from_marked [] i m n a l k c = rw (meets_none marks_messages i m n a c) (none_marked n m)
from_marked (x ∷ xs) zero m n a l k c = absurd (omega arith)
from_marked (x ∷ xs) (suc i) m n a l k c =
    let t = one_marked m n x l (omega (arith, c.1)) in
    let d = marked_chain t link (place x link) xs (omega arith) (omega arith) (λ y. omega arith) c.2 in
    rw (meets_next marks_messages i m n a x c.0 (omega (arith, c.1)))
    (then_marked t (from_marked xs i (marked m n x) n (place x link) (t.size ∙ l) (omega arith) d))

-- ---- Q1 and Q2 of a processor
pub record Hung (m : List ℕ) (p : ℕ) (xs ys : List ℕ) : Type 0 where
  pub chain1 : Chain m link (place p q1) xs
  pub chain2 : Chain m link (place p q2) ys
  pub short1 : length xs ≤ control_pages
  pub short2 : length ys ≤ control_pages

mail_marked_lem : (m : List ℕ) (n p : ℕ) (xs ys : List ℕ) → length m ≡ memory_size → Hung m p xs ys → Marked n (xs ++ ys) m (mail_marked m n p)
unfolding Delete.mail_marked
mail_marked_lem m n p xs ys l c =
    let t = from_marked xs control_pages m n (place p q1) l c.short1 c.chain1 in
    let d = marked_chain t link (place p q2) ys (omega arith) (omega arith) (λ y. omega arith) c.chain2 in
    then_marked t (from_marked ys control_pages (marked_from control_pages m n (place p q1)) n (place p q2) (t.size ∙ l) c.short2 d)

hung_on : {n : ℕ} {zs : List ℕ} {m m1 : List ℕ} → Marked n zs m m1 → (p : ℕ) (xs ys : List ℕ) → Hung m p xs ys → Hung m1 p xs ys
hung_on t p xs ys c = record {
  chain1 = marked_chain t link (place p q1) xs (omega arith) (omega arith) (λ y. omega arith) c.chain1;
  chain2 = marked_chain t link (place p q2) ys (omega arith) (omega arith) (λ y. omega arith) c.chain2;
  short1 = c.short1;
  short2 = c.short2;
}

-- ---- of every processor on the list
module _ (L : Lists) where
  all_marked_lem : (ps : List ℕ) (i : ℕ) (m : List ℕ) (n a : ℕ) → length m ≡ memory_size → length ps ≤ i → Chain m list_link a ps
      → ((p : ℕ) → 1 ≤ count p ps → Hung m p (L (place p q1)) (L (place p q2))) → Marked n (gather L (mails ps)) m (all_marked i m n a)
  all_marked_lem [] i m n a l k c h = rw (meets_none marks_processors i m n a c) (none_marked n m)
  all_marked_lem (p ∷ ps) zero m n a l k c h = absurd (omega arith)
  all_marked_lem (p ∷ ps) (suc i) m n a l k c h =
      let xs = L (place p q1) in
      let ys = L (place p q2) in
      let t = mail_marked_lem m n p xs ys l (h p (omega (arith, hit_self p))) in
      let d = marked_chain t list_link (place p list_link) ps (omega arith) (omega arith) (λ y. omega arith) c.2 in
      let u = all_marked_lem ps i (mail_marked m n p) n (place p list_link) (t.size ∙ l) (omega arith) d
      (λ y j. hung_on t y (L (place y q1)) (L (place y q2)) (h y (omega arith))) in
      rw (meets_next marks_processors i m n a p c.0 (omega (arith, c.1)), ← append_assoc xs ys (gather L (mails ps))) (then_marked t u)

-- ---- lists, uses and sentences stay; of the words only sizes change, of pages that are no processor's
module _ {n : ℕ} {xs : List ℕ} {m m1 : List ℕ} (t : Marked n xs m m1) {ps : List ℕ} {L : Lists} {W : View} {hs : List ℕ} {g : ℕ} (b : Base m ps L W hs g)
    (free : (x : ℕ) → 1 ≤ count x xs → Page x × (count x ps ≡ 0)) where
  s : Sep ps L
  s = b.facts.sep

  abbrev pub marked_view : View
  marked_view = with_words W W.note (λ x. word m1 x Map.size) W.reason W.label W.state

  heads : (a : ℕ) → Among ps a → (x : ℕ) → Page x → a ≢ place x Map.size
  heads a h x f = go (head_place ps a h)
    where
      go : Place ps a → a ≢ place x Map.size
      go (int k u e) = omega arith
      go (three u v w) = omega arith
      go (grant u v) = omega arith
      go (slot k) = let i = k.is in let u = k.low in let v = k.high in omega arith

  low : (a : ℕ) → a < guarded_last → get_or m1 a 0 ≡ get_or m a 0
  low a l = t.away a (λ x h. let f = free x h in omega arith)

  theirs : (p : ℕ) → 1 ≤ count p ps → word m1 p Map.size ≡ word m p Map.size
  theirs p h = marked_off t p (none (zero_or (count p xs)))
    where
      none : (count p xs ≡ 0) ⊎ (1 ≤ count p xs) → count p xs ≡ 0
      none (inl e) = e
      none (inr i) = absurd (omega (arith, free p i))

  marked_mem : Mem m1 ps L marked_view
  marked_mem = record {
    size = t.size ∙ b.mem.size;
    holds = holds_kept m m1 ps L s (λ a h. t.away a (λ x i. heads a h x (free x i).0))
        (λ a x h d i. marked_word t x link (omega arith) (omega arith))
        (λ x h. marked_word t x list_link (omega arith) (omega arith)) b.mem.holds;
    reads = record {
      words = record {
        note = λ p h i. marked_word t p note (omega arith) (omega arith) ∙ b.mem.reads.words.note p h i;
        size = λ p h i. refl;
        reason = λ p h i. theirs p i ∙ b.mem.reads.words.reason p h i;
        label = λ p h. marked_word t p Map.label (omega arith) (omega arith) ∙ b.mem.reads.words.label p h;
        state = λ p h. marked_word t p Map.state (omega arith) (omega arith) ∙ b.mem.reads.words.state p h;
      };
      fixed = fixed_same (λ a h i. low a (omega arith)) (λ a h i. low a (omega arith)) (λ a h i. low a (omega arith)) b.mem.reads.fixed;
      sems = λ a h. seat_same m m1 (λ c i j. low c (omega arith)) (λ p i. marked_word t p Map.own_semaphore (omega arith) (omega arith)) a (seat_of ps a h)
          ∙ b.mem.reads.sems a h;
    };
  }

  marked_facts : Facts ps L marked_view g
  marked_facts = record {
    sep = s;
    names = b.facts.names;
    seats = b.facts.seats;
    own = b.facts.own;
    sems = b.facts.sems;
    granted = b.facts.granted;
    mail = λ p w h u v q i.
        let f = q_free s p w q u v h i in
        let l = b.facts.mail p w h u v q i in
        let en = b.mem.reads.words.note q f.0 f.1 in
        let ez = b.mem.reads.words.size q f.0 f.1 in
        rw (marked_word t q note (omega arith) (omega arith), en) at (marked_letter t q (rw (en, ez) l));
    runs = b.facts.runs;
    codes = b.facts.codes;
    clock = b.facts.clock;
    faults = b.facts.faults;
  }

  pub marked_base : Base m1 ps L marked_view hs g
  marked_base = record { mem = marked_mem; facts = marked_facts; all = b.all }

-- ---- all that the name n sent: in Q1 and Q2 of every processor on the list, and of the one of page p, which has left it
module _ {m : List ℕ} {p g : ℕ} (n : ℕ) (t : Bag m p g) where
  abbrev pub unread : List ℕ
  unread = gather t.lists (mails t.procs) ++ (t.q1 ++ t.q2)

  sb : Sep t.procs t.lists
  sb = t.base.facts.sep

  in_bag : (x : ℕ) → 1 ≤ count x (t.q1 ++ t.q2) → 1 ≤ count x (t.q2 ++ t.q1 ++ p ∷ [])
  in_bag x h = omega (arith, count_append x t.q1 t.q2, count_append x (t.q2 ++ t.q1) (p ∷ []), count_append x t.q2 t.q1)

  pub unread_free : (x : ℕ) → 1 ≤ count x unread → Page x × (count x t.procs ≡ 0)
  unread_free x h = go (zero_or (count x (gather t.lists (mails t.procs))))
    where
      go : (count x (gather t.lists (mails t.procs)) ≡ 0) ⊎ (1 ≤ count x (gather t.lists (mails t.procs))) → Page x × (count x t.procs ≡ 0)
      go (inl e) =
          let i = in_bag x (omega (arith, count_append x (gather t.lists (mails t.procs)) (t.q1 ++ t.q2))) in
          (hand_page t.base x i, hand_out t.base x i)
      go (inr i) =
          let k = gather_of t.lists (mails t.procs) x i in
          let j = mails_of k.head t.procs k.here in
          q_free sb j.page j.word x j.low j.high j.proc (rw j.is at k.there)

  listed_mail : (y : ℕ) → 1 ≤ count y t.procs → Hung m y (t.lists (place y q1)) (t.lists (place y q2))
  listed_mail y h = record {
    chain1 = hangs q1 (omega arith) (omega arith);
    chain2 = hangs q2 (omega arith) (omega arith);
    short1 = short q1 (omega arith)
        (omega arith);
    short2 = short q2 (omega arith) (omega arith);
  }
    where
      pg : Page y
      pg = proc_page sb y h

      hangs : (w : ℕ) → q1 ≤ w → w ≤ q2 → Chain m link (place y w) (t.lists (place y w))
      hangs w u v = rw (link_other (place y w) (omega (arith, pg))) at (t.base.mem.holds.rep (place y w) (
        in_q t.procs y w u v h,
        grant_high (place y w)
            (omega (arith, pg)),
      ))

      short : (w : ℕ) → q1 ≤ w → w ≤ q2 → length (t.lists (place y w)) ≤ control_pages
      short w u v = list_short sb (place y w) (in_q t.procs y w u v h)

  own_mail : Hung m p t.q1 t.q2
  own_mail = record {
    chain1 = t.chain1;
    chain2 = t.chain2;
    short1 = tot_short t.base t.q1 (λ z. omega (arith, count_append z (t.q2 ++ t.q1) (p ∷ []), count_append z t.q2 t.q1));
    short2 = tot_short t.base t.q2 (λ z. omega (arith, count_append z (t.q2 ++ t.q1) (p ∷ []), count_append z t.q2 t.q1));
  }

  pub sent_marked_lem : Marked n unread m (sent_marked m n p)
  unfolding Delete.sent_marked
  sent_marked_lem =
      let ps = t.procs in
      let c : Chain m list_link processor_list t.procs = rw (link_procs, sb.procs) at (t.base.mem.holds.rep processor_list (
        in_procs ps,
        grant_low
            processor_list (omega arith),
      )) in
      let k : length t.procs ≤ control_pages = rw sb.procs at (list_short sb processor_list (in_procs ps)) in
      let u = all_marked_lem t.lists ps control_pages m n processor_list t.base.mem.size k c listed_mail in
      then_marked u (mail_marked_lem (all_marked control_pages m n processor_list) n p t.q1 t.q2 (u.size ∙ t.base.mem.size) (hung_on u p t.q1 t.q2
      own_mail))

  abbrev pub marked_bag : Bag (sent_marked m n p) p g
  marked_bag = record {
    procs = t.procs;
    lists = t.lists;
    view = marked_view sent_marked_lem t.base unread_free;
    q1 = t.q1;
    q2 = t.q2;
    base = marked_base sent_marked_lem t.base unread_free;
    chain1 = marked_chain sent_marked_lem link (place p q1) t.q1 (omega arith) (omega arith) (λ y. omega arith) t.chain1;
    chain2 = marked_chain sent_marked_lem link (place p q2) t.q2 (omega arith) (omega arith) (λ y. omega arith) t.chain2;
    letters1 = record { at = λ x h. marked_letter sent_marked_lem x (t.letters1.at x h) };
    letters2 = record { at = λ x h. marked_letter sent_marked_lem x (t.letters2.at x h) };
  }
