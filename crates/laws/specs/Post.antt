-- Sending: "The page joins NI's Q1; if NI waits for it, NI wakes." "A notice wakes one that waits for it alike." A message or a notice, written in a page in
-- hand and delivered, keeps the invariant; and which words a delivery leaves. Assumes nothing.
use Rattle.std.specs.Prelude.{◌≡◌, ◌≢◌, Bool, true, false, List, [], ◌∷◌, ◌++◌, ℕ, ◌+◌, ◌≤◌, length, get_or, eqb}
use Rattle.std.proofs.Math.Path.{refl}
use Rattle.std.proofs.Common.{ap, ◌∙◌, arith, length-set, get_or-set_same, ne_eqb, subst, sym}
use Rattle.model.specs.Map.{label, last_flag, last_name, link, longest, lower, memory_size, note, notice, own_queue, own_semaphore, pair, place, q1}
use Rattle.model.specs.Map.{reason, size, state, text, upper}
use Rattle.model.specs.Bytes.{name, running, store, word, join, wake, deliver, write_message, make_notice}
use Rattle.model.specs.Mail as Mail
use Rattle.model.specs.Mail.{fits}
use Rattle.model.specs.Lists.{hit, count, Lists, sum, uses}
use Rattle.laws.specs.Count.{hit_self}
use Rattle.laws.specs.Chain.{Page, Chain}
use Rattle.laws.specs.Queues.{upd, upd_same, upd_other, upd_swap}
use Rattle.laws.specs.Heads.{one, sum_skip}
use Rattle.laws.specs.Uses.{Sep, proc_page, single}
use Rattle.laws.specs.Places.{in_q, in_own, own_once, grant_high}
use Rattle.laws.specs.Inv.{View, Label, Message, Facts, Mem, Base}
use Rattle.laws.specs.Frames.{other, Only, only_refl, only_set, only_copy, copy_far}
use Rattle.laws.specs.Views.{put1_same, retold}
use Rattle.laws.specs.JoinLeave.{chain0, join_frame}
use Rattle.laws.specs.Changes.{own_sem, hand_page, hand_out}
use Rattle.laws.specs.Wake.{woken, facts_wake, wake_mem, wake_frame}
use Rattle.laws.specs.Hands.{hand_base, in_hand, hand_new, room, facts_mail, more_mail, mail_sep, mail_mem, give_mail}
use Rattle.laws.specs.Grants.{Gave}

module _ {m : List ℕ} {ps : List ℕ} {L : Lists} {W : View} {hs : List ℕ} {g q : ℕ} (b : Base m ps L W (q ∷ hs) g) (p : ℕ) (h : 1 ≤ count p ps)
    (letter : Message (W.note q) (W.size q)) where
  s : Sep ps L
  s = b.facts.sep

  pg : Page p
  pg = proc_page s p h

  abbrev a5 : ℕ
  a5 = place p q1

  abbrev a4 : ℕ
  a4 = place p own_semaphore + 1

  abbrev K : Lists
  K = upd L a5 (L a5 ++ q ∷ [])

  abbrev m1 : List ℕ
  m1 = join m a5 link q

  pub x1 : Mem m1 ps K W
  x1 = mail_mem b p q1 h (omega arith) (omega arith)

  abbrev asked : Bool
  asked = fits (upper (W.reason p)) (lower (W.reason p)) (W.note q)

  -- what `awaits` reads
  pub reason_at : word m1 p reason ≡ W.reason p
  reason_at = x1.reads.words.reason p pg h

  pub note_at : word m1 q note ≡ W.note q
  note_at = x1.reads.words.note q (hand_page b q (in_hand b)) (hand_out b q (in_hand b))

  -- then Q1 ends with q, and no list changes but it and the own wait of p
  pub record Delivered (M : List ℕ) : Type 0 where
    pub gave : Gave M ps hs g W
    pub here : gave.lists (place p q1) ≡ L (place p q1) ++ q ∷ []
    pub others : (c : ℕ) → c ≢ place p q1 → c ≢ place p own_queue → gave.lists c ≡ L c

  -- nobody wakes
  quiet : ((x : ℕ) → 1 ≤ count x (L (place p own_queue)) → asked ≡ false) → Delivered m1
  quiet none = record {
    gave = record { lists = K; view = W; base = give_mail b p q1 h (omega arith) (omega arith) letter (λ x i e. none x i); low = refl };
    here = upd_same L a5 (L a5 ++ q ∷ []);
    others = λ c d e. upd_other L a5 c (L a5 ++ q ∷ []) d;
  }

  -- the owner wakes; L says that its wait holds it alone
  module _ (xs : List ℕ) (e : L a4 ≡ p ∷ xs) where
    at4 : a4 ≡ place p own_queue
    at4 = omega arith

    fw : Facts ps (upd L a4 xs) (woken W (place p own_semaphore) p) g
    fw = facts_wake (place p own_semaphore) p [] xs b.facts (own_sem s p h) e

    away4 : count a4 (uses ps) ≡ 0
    away4 = let P : ℕ → Type 0 = λ a. count a (uses ps) ≡ 0 in subst P (sym at4) (own_once s p h).away

    room4 : (z : ℕ) → sum z (upd L a4 xs) (uses ps) + hit (eqb z q) ≤ one z
    room4 z = omega (arith, room b z, sum_skip z L a4 xs (uses ps) away4)

    alone : (x : ℕ) → 1 ≤ count x (upd L a4 xs (place p own_queue)) → ◌≡◌ {A = ℕ} q1 q1
        → fits (upper ((woken W (place p own_semaphore) p).reason p)) (lower ((woken W (place p own_semaphore) p).reason p)) (W.note q) ≡ false
    alone x i r =
        let o = (fw.own p h x i).owner in
        let j = rw (← at4, upd_same, o) at i in
        absurd (omega (
          arith,
          single s (place p own_queue) (in_own ps p h, grant_high (place p own_queue) (omega (arith, pg))) p,
          hit_self p,
          ap (count p) (rw at4 at e),
        ))

    fm : Facts ps (upd (upd L a4 xs) a5 (upd L a4 xs a5 ++ q ∷ [])) (woken W (place p own_semaphore) p) g
    fm = facts_mail q fw room4 p q1 h (omega arith) (omega arith) letter alone

    swap : upd K a4 xs ≡ upd (upd L a4 xs) a5 (upd L a4 xs a5 ++ q ∷ [])
    swap = rw (upd_other L a4 a5 xs (omega arith)) (upd_swap L a5 a4 (L a5 ++ q ∷ []) xs (omega arith))

    wakes : Delivered (wake m1 (place p own_semaphore) p)
    wakes =
        let e2 = upd_other L a5 a4 (L a5 ++ q ∷ []) (omega arith) ∙ e in
        let x5 = upd_other L a4 a5 xs (omega arith) in
        record {
          gave = record {
            lists = upd (upd L a4 xs) a5 (upd L a4 xs a5 ++ q ∷ []);
            view = woken W (place p own_semaphore) p;
            base = record {
              mem =
                  rw swap at (wake_mem (place p own_semaphore) p [] xs (mail_sep b p q1 h (omega arith) (omega arith)) (rw swap fm.sep) x1
                  (own_sem s p h) pg e2);
              facts = fm;
              all = λ z.
                  omega (
                    arith,
                    more_mail q fw room4 p q1 h (omega arith) (omega arith) letter alone z,
                    b.all z,
                    sum_skip z L a4 xs (uses ps) away4,
                  );
            };
            low = refl;
          };
          here = upd_same (upd L a4 xs) a5 (upd L a4 xs a5 ++ q ∷ []) ∙ ap (λ (l : List ℕ). l ++ q ∷ []) x5;
          others = λ c d f. upd_other (upd L a4 xs) a5 c (upd L a4 xs a5 ++ q ∷ []) d ∙ upd_other L a4 c xs (λ z. f (z ∙ at4));
        }

  -- what holds of Q1 with the page, where p does not wait for it, and of p woken, where it does, holds of the memory that is delivered to
  delivers : (P : List ℕ → Type 0) → (((x : ℕ) → 1 ≤ count x (L (place p own_queue)) → asked ≡ false) → P m1)
      → ((ys : List ℕ) → L a4 ≡ p ∷ ys → P (wake m1 (place p own_semaphore) p)) → P (deliver m p q)
  unfolding Mail.deliver Mail.heard Mail.awaits Mail.matches
  delivers P stays wakes =
      go (L (place p own_queue)) refl (chain0 (mail_sep b p q1 h (omega arith) (omega arith)) x1 (place p own_queue) (
        in_own ps p h,
        grant_high (place p own_queue)
            (omega (arith, pg)),
      )
      (omega (arith, pg))) asked refl
    where
      same : K (place p own_queue) ≡ L (place p own_queue)
      same = upd_other L a5 (place p own_queue) (L a5 ++ q ∷ []) (omega arith)

      go : (ys : List ℕ) → L (place p own_queue) ≡ ys → Chain m1 link (place p own_queue) (K (place p own_queue)) → (c : Bool) → asked ≡ c → P (deliver m p q)
      go [] e c t f = let z : word m1 p own_queue ≡ 0 = rw (same, e) at c in rw z (stays (λ x i. absurd (omega (arith, ap (count x) e))))
      go (y ∷ ys) e c false f =
          let z = rw (same, e) at c in
          rw (z.0, ne_eqb y 0 (omega arith), reason_at, note_at, f) (stays (λ x i. f))
      go (y ∷ ys) e c true f =
          let z = rw (same, e) at c in
          let d = (b.facts.own p h y (rw e (omega (arith, hit_self y)))).owner in
          let at4 : place p own_semaphore + 1 ≡ place p own_queue = omega arith in
          rw (z.0, ne_eqb y 0 (omega arith), reason_at, note_at, f) (wakes ys (rw (at4, e, d)))

  pub deliver_all : Delivered (deliver m p q)
  deliver_all = delivers Delivered quiet wakes

  pub deliver_base : Gave (deliver m p q) ps hs g W
  deliver_base = deliver_all.gave

  -- which words stay: all but the end of Q1, the link of the page, and of the processor words 0 to 5 and 12
  pub deliver_frame : (c : ℕ) → ((j : ℕ) → j ≤ q1 → c ≢ place p j) → c ≢ place p state → c ≢ place q link
      → ((z : ℕ) → 1 ≤ count z (L (place p q1)) → c ≢ place z link) → get_or (deliver m p q) c 0 ≡ get_or m c 0
  deliver_frame c n n12 nq nl = delivers (λ x. get_or x c 0 ≡ get_or m c 0) (λ f. joined) (λ ys e.
      let same = upd_other L a5 a4 (L a5 ++ q ∷ []) (omega arith) in
      let own : (z : ℕ) → 1 ≤ count z (K a4) → c ≢ place z link = λ z i. rw (b.facts.own p h z (rw (← at4, ← same) i)).owner (n link (omega arith)) in
      wake_frame (mail_sep b p q1 h (omega arith) (omega arith)) x1 (place p own_semaphore) p [] ys (own_sem s p h) (same ∙ e) c (n own_semaphore (omega arith))
      (rw at4 (n own_queue (omega arith))) own (n reason (omega arith)) n12 ∙ joined)
    where
      at4 : a4 ≡ place p own_queue
      at4 = omega arith

      joined : get_or m1 c 0 ≡ get_or m c 0
      joined =
          join_frame s b.mem a5 (in_q ps p q1 (omega arith) (omega arith) h, grant_high a5 (omega (arith, pg))) (omega (arith, pg)) q
          (hand_page b q (in_hand b)) (hand_new b) c (n q1 (omega arith)) nl nq

-- ---- what is written in a page in hand
module _ {m : List ℕ} {ps : List ℕ} {L : Lists} {W : View} {hs : List ℕ} {g q : ℕ} (b : Base m ps L W (q ∷ hs) g) where
  hp : Page q
  hp = hand_page b q (in_hand b)

  pub two : (v w : ℕ) → Only q m (store (store m q note v) q size w)
  two v w = only_set (place q size) w (omega arith) (omega arith) (only_set (place q note) v (omega arith) (omega arith) (only_refl q m))

  size1 : (v : ℕ) → length (store m q note v) ≡ memory_size
  size1 v = simp length-set b.mem.size

  pub word1 : (v w : ℕ) → word (store (store m q note v) q size w) q note ≡ v
  word1 v w = other (store m q note v) (place q size) w (place q note) (omega arith) ∙ get_or-set_same m (place q note) v 0 (omega (arith, hp, b.mem.size))

  pub word2 : (v w : ℕ) → word (store (store m q note v) q size w) q size ≡ w
  word2 v w = get_or-set_same (store m q note v) (place q size) w 0 (omega (arith, hp, size1 v))

  -- the page in hand is written, then delivered
  module _ {m2 : List ℕ} (o : Only q m m2) (letter : Message (word m2 q note) (word m2 q size)) where
    pub retold_letter : Message ((retold m2 W q).note q) ((retold m2 W q).size q)
    retold_letter = rw (put1_same W.note q (word m2 q note) q refl, put1_same W.size q (word m2 q size) q refl) letter

    written_base : (p : ℕ) → 1 ≤ count p ps → Gave (deliver m2 p q) ps hs g W
    written_base p h =
        let t = deliver_base (hand_base q (in_hand b) o b) p h retold_letter in
        record { lists = t.lists; view = t.view; base = t.base; low = t.low }

  -- "a notice with NI as sender and the same flag"
  pub notice_only : (n f : ℕ) → Only q m (make_notice m q n f)
  unfolding Mail.make_notice
  notice_only n f = two (pair n f) notice

  pub notice_words : (n f : ℕ) → (word (make_notice m q n f) q note ≡ pair n f) × (word (make_notice m q n f) q size ≡ notice)
  unfolding Mail.make_notice
  notice_words n f = (word1 (pair n f) notice, word2 (pair n f) notice)

  pub notice_letter : (n f : ℕ) → 1 ≤ n → n ≤ last_name → 1 ≤ f → f ≤ last_flag
      → Message (word (make_notice m q n f) q note) (word (make_notice m q n f) q size)
  notice_letter n f i j k l =
      rw ((notice_words n f).0, (notice_words n f).1)
      (record { sender = omega arith; known = omega arith; flag = omega arith; small = omega arith; most = omega arith; long = omega arith })

  pub notice_base : (n f p : ℕ) → 1 ≤ n → n ≤ last_name → 1 ≤ f → f ≤ last_flag → 1 ≤ count p ps → Gave (deliver (make_notice m q n f) p q) ps hs g W
  notice_base n f p i j k l h = written_base (notice_only n f) (notice_letter n f i j k l) p h

  -- "text length at A, text from A+1, to processor NI"
  module _ (f a l : ℕ) (l2 : l ≤ longest) where
    abbrev v : ℕ
    v = pair (name m (running m)) f

    abbrev mw : List ℕ
    mw = store (store m q note v) q size l

    pub message_only : Only q m (write_message m q f a l)
    unfolding Mail.write_message
    message_only = only_copy l mw a (place q text) (omega (arith, hp)) (omega arith) (omega arith) (two v l)

    pub message_words : (word (write_message m q f a l) q note ≡ v) × (word (write_message m q f a l) q size ≡ l)
    unfolding Mail.write_message
    message_words = (
      copy_far l mw a (place q text) (place q note) (omega (arith, hp)) (λ i u. omega (arith, hp)) ∙ word1 v l,
      copy_far l mw a (place q text) (place q size) (omega (arith, hp)) (λ i u. omega (arith, hp)) ∙ word2 v l,
    )

    pub message_letter : 1 ≤ f → f ≤ last_flag → Label (word m (running m) label)
        → Message (word (write_message m q f a l) q note) (word (write_message m q f a l) q size)
    message_letter f1 f2 n =
        rw (message_words.0, message_words.1)
        (record { sender = omega (arith, n.name); known = omega arith; flag = omega arith; small = omega arith; most = omega arith; long = omega arith })

  pub message_base : (f a l p : ℕ) → 1 ≤ f → f ≤ last_flag → l ≤ longest → Label (word m (running m) label) → 1 ≤ count p ps
      → Gave (deliver (write_message m q f a l) p q) ps hs g W
  message_base f a l p i j k n h = written_base (message_only f a l k) (message_letter f a l k i j n) p h
