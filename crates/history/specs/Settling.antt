-- The deleted one has left the processor list, and what it sent is marked: what waits for everyone stays, each message is marked just if the deleted one sent
-- it, and each of the deleted one's own goes back to whom the memory before says. Assumes nothing.
use Rattle.std.specs.Prelude.{◌≡◌, ◌≢◌, ◌⊎◌, List, [], ◌∷◌, ◌++◌, ℕ, ◌≤◌, ◌<◌}
use Rattle.std.proofs.Common.{sym, ◌∙◌, inl, inr, arith, eq-eqb, lt-ltb, le-ltb}
use Rattle.std.proofs.Math.Path.{ap}
use Rattle.model.specs.Map as Map
use Rattle.model.specs.Map.{lower, mark, mark_added, note, place, q1, q2, running_page, size, upper}
use Rattle.model.specs.Bytes.{name, queue, sent_marked, unlisted, word}
use Rattle.model.specs.Lists.{count, Lists, mails}
use Rattle.model.specs.Walks.{gather}
use Rattle.laws.specs.Count.{count_append}
use Rattle.laws.specs.Heads.{mails_at}
use Rattle.laws.specs.Uses.{proc_page}
use Rattle.laws.specs.Met.{of_gather}
use Rattle.laws.specs.Shrink.{in_P}
use Rattle.laws.specs.Inv.{Base, View, no_one}
use Rattle.laws.specs.Leave.{Bag}
use Rattle.laws.specs.Mails.{mail_queue}
use Rattle.laws.specs.Marking.{Fate, Marked, fate, marked_bag, marked_fate, marked_word, marked_size, sent_marked_lem, unread, unread_free}
use Rattle.laws.specs.Marking.Fate.{marks, stays}
use Rattle.laws.specs.Who.{label_at}
use Rattle.history.specs.Letter.{waiting_for, held, held_same, waits_same, texts_same}
use Rattle.history.specs.Put.{returns_to}
use Rattle.history.specs.Traced.{Waited, posts_waited}
use Rattle.history.specs.Emptying.{Aims, back_to, back_same}
use Rattle.history.specs.Leaving.{bag, bag_procs, left_aims, left_names, left_posts, stayed}
use Rattle.history.specs.Marking.{marked_held, marked_queue, marked_waits}

module _ (xs : List ℕ) (p : ℕ) (ys : List ℕ) {m : List ℕ} {L : Lists} {W : View} (b : Base m (xs ++ p ∷ ys) L W [] no_one) (d : W.low running_page ≢ p) where
  abbrev pub n : ℕ
  n = lower (W.label p)

  abbrev u : List ℕ
  u = unlisted m p

  abbrev pub k : List ℕ
  k = sent_marked (unlisted m p) (lower (W.label p)) p

  abbrev t : Bag u p n
  t = bag xs p ys b d

  abbrev pub marked : Bag k p n
  marked = marked_bag n t

  tm : Marked n (unread n t) u k
  tm = sent_marked_lem n t

  pub name_is : n ≡ name m p
  name_is = ap (λ (v : ℕ). lower v) (sym (label_at b p (in_P xs p ys)))

  same_label : (y : ℕ) → word k y Map.label ≡ word u y Map.label
  same_label y = marked_word tm y Map.label (omega arith) (omega arith)

  -- ---- its own messages
  pub marked_aims : (w : ℕ) → q1 ≤ w → w ≤ q2 → Aims m p k (L (place p w))
  unfolding returns_to
  marked_aims w l v = record { to = λ x h. to x h (marked_fate tm x); flag = λ x h. ap (λ (z : ℕ). lower z) (same_note x) ∙ a.flag x h }
    where
      a : Aims m p u (L (place p w))
      a = left_aims xs p ys b w l v

      same_note : (x : ℕ) → word k x note ≡ word u x note
      same_note x = marked_word tm x note (omega arith) (omega arith)

      was : (x j : ℕ) → 1 ≤ count x (L (place p w)) → 1 ≤ j → j ≤ 2 → word u x j ≡ word m x j
      was x j h i e = (texts_same b (left_posts xs p ys b) p w x (in_P xs p ys) l v h).texts j i (omega arith)

      same : (x : ℕ) → 1 ≤ count x (L (place p w)) → word k x size ≡ word u x size → back_to k x ≡ returns_to m p x
      same x h e = back_same t.base marked.base (λ y i. same_label y) x (same_note x) e ∙ a.to x h

      -- its own mail to itself is marked, and goes to none
      none : (x : ℕ) → word m x size < mark → upper (word m x note) ≡ name m p → returns_to m p x ≡ 0
      none x e f = rw (lt-ltb (word m x size) mark e, eq-eqb (upper (word m x note)) (name m p) f)

      to : (x : ℕ) → 1 ≤ count x (L (place p w)) → Fate n (word u x note) (word u x size) (word k x size) ⊎ (word k x size ≡ word u x size)
          → back_to k x ≡ returns_to m p x
      to x h (inr e) = same x h e
      to x h (inl (stays f e)) = same x h e
      to x h (inl (marks f e i)) =
          let e1 = was x note h (omega arith) (omega arith) in
          let e2 = was x size h (omega arith) (omega arith) in
          let z : returns_to m p x ≡ 0 = none x (rw e2 at f) (ap (λ (v : ℕ). upper v) (sym e1) ∙ e ∙ name_is) in
          rw (z, i, le-ltb (mark_added (word u x size)) mark (omega arith))

  -- ---- what waits for the others
  in_bag : (y : ℕ) → 1 ≤ count y (xs ++ ys) → 1 ≤ count y t.procs
  in_bag y i = rw (bag_procs xs p ys b d) i

  pub prior_waits : (y : ℕ) → 1 ≤ count y (xs ++ ys) → waiting_for k y ≡ waiting_for m y
  prior_waits y i = marked_waits tm t.base (unread_free n t) y (in_bag y i) ∙ waits_same b (left_posts xs p ys b) y (stayed xs p ys b y i)

  pub prior_last : (y : ℕ) → 1 ≤ count y (xs ++ ys) → held k y q1 ≡ held m y q1
  prior_last y i =
      marked_held tm t.base (unread_free n t) y q1 (in_bag y i) (omega arith) (omega arith)
      ∙ held_same b (left_posts xs p ys b) y q1 (stayed xs p ys b y i) (omega arith) (omega arith)

  pub prior_names : (y : ℕ) → 1 ≤ count y (xs ++ ys) → word k y Map.label ≡ word m y Map.label
  prior_names y i = same_label y ∙ left_names xs p ys b y (proc_page b.facts.sep y (stayed xs p ys b y i))

  pub prior_pages : (y w x : ℕ) → 1 ≤ count y (xs ++ ys) → q1 ≤ w → w ≤ q2 → 1 ≤ count x (queue k (place y w))
      → Waited m k y x × Fate n (word m x note) (word m x size) (word k x size)
  prior_pages y w x i l v c =
      let h = in_bag y i in
      let j = rw (marked_queue tm t.base (unread_free n t) y w h l v) at c in
      let a = posts_waited b (left_posts xs p ys b) y w x (stayed xs p ys b y i) l v (rw (mail_queue t.base y w h l v) j) in
      let g : 1 ≤ count x (gather t.lists (mails t.procs)) =
      of_gather t.lists (mails t.procs) (place y w) x (omega (arith, mails_at y w t.procs l v)) j in
      let e : word k x size ≡ marked_size n (word u x note) (word u x size) = tm.here x (omega (
        arith,
        count_append x (gather t.lists (mails t.procs))
            (t.q1 ++ t.q2),
      )) in (
        record {
          head = a.0.head;
          low = a.0.low;
          high = a.0.high;
          here = a.0.here;
          note = marked_word tm x note (omega arith) (omega arith) ∙ a.0.note;
        },
        rw e (rw (a.0.note, a.1) (fate n (word m x note) (word m x size))),
      )
