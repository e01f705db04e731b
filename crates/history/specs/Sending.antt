-- Instructions: SME puts one message, to NI or, if NI doesn't exist, a notice to the sender itself; it stands at the end of Q1 with its sender, flag, length
-- and text. Assumes nothing.
use Rattle.std.specs.Prelude.{◌≡◌, ◌≢◌, ◌⊎◌, Bool, cond, ℕ, ◌+◌, ◌*◌, ◌/◌, ◌%◌, ◌≤◌, ◌<◌, get_or}
use Rattle.std.proofs.Math.Path.{refl}
use Rattle.std.proofs.Common.{sym, ap, ◌∙◌, inl, inr}
use Rattle.std.proofs.Math.Bool.{true, false}
use mathlib.Core.List.{List, [], ◌∷◌, ◌++◌, append-nil}
use native.Mathlib.Omega.{arith}
use Rattle.std.proofs.Math.Dec.{eqb}
use borrow.Author.Tests.{eqb-false, ne_eqb}
use Rattle.model.specs.Map as Map
use Rattle.model.specs.Map.{guarded_last, label, length_in, longest, memory_size, note, notice, page_size, place, processor_list, q1, q2, upper}
use Rattle.model.specs.Address.{wrapped}
use Rattle.model.specs.Bytes.{name, store, word}
use Rattle.model.specs.Address.{clear}
use Rattle.model.specs.Mail as Mail
use Rattle.model.specs.Page.Taken.{took}
use Rattle.model.specs.Operate as Operate
use Rattle.model.specs.Answer.{memory_of}
use Rattle.model.specs.Bytes as Model
use Rattle.model.specs.Bytes.{lists, processors, queue, deliver, write_message, make_notice, posted, page_of, take_page, waits_for_page, running}
use Rattle.model.specs.Lists.{count, Lists}
use Rattle.laws.specs.Count.{hit_or, count_mid}
use Rattle.laws.specs.Chain.{Page}
use Rattle.laws.specs.Places.{in_q, q_free}
use Rattle.laws.specs.Inv.{View, view, Label, Message, Base}
use Rattle.laws.specs.Judged.{WellFormed}
use Rattle.laws.specs.Frames.{other, Only}
use Rattle.laws.specs.Views.{retold}
use Rattle.laws.specs.Changes.{hand_page, hand_free}
use Rattle.laws.specs.Hands.{in_hand, hand_base}
use Rattle.laws.specs.Grants.{Gave, Takes, take_page_lem}
use Rattle.laws.specs.Grants.Takes.{gets, lacks}
use Rattle.laws.specs.Aside.{aside_hand}
use Rattle.laws.specs.Post.{deliver_all, deliver_frame, retold_letter, two, notice_only, notice_words, notice_letter, message_only}
use Rattle.laws.specs.Post.{message_words, message_letter}
use Rattle.laws.specs.Who.{listed, label_at, busy, running_same, label_in}
use Rattle.laws.specs.Mails.{clear_at, mail_queue}
use Rattle.laws.specs.Simple.{named_in, Open, clear_open, named_same}
use Rattle.history.specs.Order.{only, only_nil, only_yes, only_no}
use Rattle.history.specs.Letter.{Letter, mail_of, words, key, waiting_for, Same, posts, posts_then, agrees, waits_same, procs_same, words_moved, held}
use Rattle.history.specs.Letter.{held_same, label_same, Posts, texts_same, queue_same, mail_same}
use Rattle.history.specs.Ways.{sme_both, sent_both}
use Rattle.history.specs.Put.{Mailed, of, only_notices, sending, notice_from, posting, page_taken, sme_sends, sme_mail}
use Rattle.history.specs.Calm.{calm_only}
use Rattle.history.specs.Told.{Told, Stands, told_as, of_none, of_here, of_other, calm_done, runs_in}
use Rattle.history.specs.Traced.{Each, Waited, Origin, About, Stood, Turned, Lawful, posts_waited, turned_none, lawful_same}
use Rattle.history.specs.Traced.Origin.{unchanged, sent, notified}
use Rattle.history.specs.Traced.About.{own}
use Rattle.history.specs.Quiet.{fault_lawful}
use Rattle.history.specs.Taking.{calm_takes, takes_word, page_waits_lem}
use Rattle.history.specs.Delivering.{delivered_last, delivered_here, delivered_away, delivered_texts, delivered_from, delivered_pages, notice_mail}
use Rattle.history.specs.Copied.{copy_at}

-- ---- a page taken from m, then written, then delivered
module _ {m : List ℕ} {ps : List ℕ} {L : Lists} {W : View} (b : Base m ps L W [] 32) {q : ℕ} {m1 m2 : List ℕ} {K : Lists} {X : View} (s1 : Same ps L m m1)
    (b1 : Base m1 ps K X (q ∷ []) 32) (o : Only q m1 m2) (p : ℕ) (hp : 1 ≤ count p ps) (letter : Message (word m2 q note) (word m2 q Map.size))
    (len : ℕ) where
  b2 : Base m2 ps K (retold m2 X q) (q ∷ []) 32
  b2 = hand_base q (in_hand b1) o b1

  t2 : Message ((retold m2 X q).note q) ((retold m2 X q).size q)
  t2 = retold_letter b1 o letter

  abbrev m3 : List ℕ
  m3 = deliver m2 p q

  abbrev m4 : List ℕ
  m4 = memory_of (Model.done m3 len)

  abbrev g3 : Gave m3 ps [] 32 (retold m2 X q)
  g3 = (deliver_all b2 p hp t2).gave

  d3 : Same ps g3.lists m3 m4
  d3 = calm_done g3.base.facts.sep m3 (runs_in g3.base) len

  early : (y : ℕ) → 1 ≤ count y ps → waiting_for m2 y ≡ waiting_for m y
  early y h =
      waits_same b (posts_then (agrees b (posts s1) b1) (posts s1) (posts (calm_only b1.facts.sep m1 m2 q (aside_hand b1 q (in_hand b1)) o))) y h

  late : (y : ℕ) → 1 ≤ count y ps → waiting_for m4 y ≡ waiting_for m3 y
  late y h = waits_same g3.base (posts d3) y h

  procs4 : processors m4 ≡ ps
  procs4 = procs_same g3.base d3

  abbrev x : Letter
  x = mail_of m2 q

  put_told : Told m m4 (sending (p, x) q)
  put_told = record {
    at = λ y h i k f. ap (only (key k f)) (rw (of_none y) (cases y (rw (listed b) at h) (hit_or y p)));
    keeps = λ y h i.
        let j = rw (listed b) at h in
        label_same d3 y j ∙ deliver_frame b2 p hp t2 (place y label) (λ k u. omega arith) (omega arith) (omega arith) (λ z k. omega arith)
        ∙ label_same (calm_only b1.facts.sep m1 m2 q (aside_hand b1 q (in_hand b1)) o) y j ∙ label_same s1 y j;
    born = λ y h i. absurd (omega (arith, ap (count y) procs4, ap (count y) (listed b)));
  }
    where
      cases : (y : ℕ) → 1 ≤ count y ps → (y ≡ p) ⊎ (y ≢ p) → waiting_for m4 y ≡ waiting_for m y ++ of y ((p, x) ∷ [])
      cases y h (inl e) = rw (e, of_here p x) (late p hp ∙ delivered_here b2 p hp t2 ∙ ap (λ (l : List Letter). l ++ x ∷ []) (early p hp))
      cases y h (inr n) = rw (of_other y p x n, append-nil (waiting_for m y)) (late y h ∙ delivered_away b2 p hp t2 y h n ∙ early y h)

  put_stands : Stands m4 (sending (p, x) q)
  put_stands = record { at = λ y h. cases y (rw procs4 at h) (hit_or y p) }
    where
      cases : (y : ℕ) → 1 ≤ count y ps → (y ≡ p) ⊎ (y ≢ p) → (zs : List Letter) × (held m4 y q1 ≡ zs ++ of y ((p, x) ∷ []))
      cases y h (inl e) =
          (held m2 p q1, rw (e, of_here p x) (held_same g3.base (posts d3) p q1 hp (omega arith) (omega arith) ∙ delivered_last b2 p hp t2))
      cases y h (inr n) = (held m4 y q1, rw (of_other y p x n) (sym (append-nil (held m4 y q1))))

  -- ---- by pages: q is the one that is new
  kept2 : Posts ps K m1 m2
  kept2 = posts (calm_only b1.facts.sep m1 m2 q (aside_hand b1 q (in_hand b1)) o)

  -- what is written on q stays there
  still_q : (j : ℕ) → note ≤ j → j < page_size → word m4 q j ≡ word m2 q j
  still_q j u v =
      let c = q_free g3.base.facts.sep p q1 q (omega arith) (omega arith) hp new_q in
      (texts_same g3.base (posts d3) p q1 q hp (omega arith) (omega arith) new_q).texts j u v ∙ (delivered_texts b2 p hp t2).at q c.0 c.1 j u v
    where
      new_q : 1 ≤ count q (g3.lists (place p q1))
      new_q = rw (deliver_all b2 p hp t2).here (count_mid q (K (place p q1)) [])

  module _ (e : Mailed) (wr : e.wrote ≡ q) (new : (y : ℕ) → Origin m m4 e y q) where
    from : (y w z : ℕ) → 1 ≤ count y ps → q1 ≤ w → w ≤ q2 → 1 ≤ count z (queue m4 (place y w)) → Origin m m4 e y z
    from y w z h u v i =
        let a4 = posts_waited g3.base (posts d3) y w z h u v i in
        go a4 (delivered_from b2 p hp t2 y a4.0.head z h a4.0.low a4.0.high a4.0.here)
      where
        out : (v : ℕ) → q1 ≤ v → v ≤ q2 → 1 ≤ count z (queue m1 (place y v)) → z ≢ q
        out v l k c n =
            let j = rw (mail_queue b1 y v h l k) at c in
            omega (arith, ap (λ (i : ℕ). count i (K (place y v))) n, hand_free b1 q (in_hand b1) (place y v) (in_q ps y v l k h))

        go : (a : Waited m3 m4 y z × (word m4 z Map.size ≡ word m3 z Map.size)) → (1 ≤ count z (queue m2 (place y a.0.head))) ⊎ (z ≡ q) → Origin m m4 e y z
        go a (inr f) = rw f (new y)
        go a (inl f) =
            let c = q_free b2.facts.sep y a.0.head z a.0.low a.0.high h (rw (mail_queue b2 y a.0.head h a.0.low a.0.high) at f) in
            let a2 = posts_waited b1 kept2 y a.0.head z h a.0.low a.0.high f in
            let a1 = posts_waited b (posts s1) y a2.0.head z h a2.0.low a2.0.high a2.0.here in
            let not : z ≢ q = λ k. absurd (out a2.0.head a2.0.low a2.0.high a2.0.here k) in
            let t3 = delivered_texts b2 p hp t2 in
            unchanged (record {
              head = a1.0.head;
              low = a1.0.low;
              high = a1.0.high;
              here = a1.0.here;
              note = a.0.note ∙ t3.at z c.0 c.1 note (omega arith) (omega arith) ∙ a2.0.note ∙ a1.0.note;
            }) (a.1 ∙ t3.at z c.0 c.1 Map.size (omega arith) (omega arith) ∙ a2.1 ∙ a1.1)
            (λ k. not (k ∙ wr)) (λ g r k s. rw (procs4, ← listed b) k)

    stood : Stood m4 q p x
    stood = record {
      before = queue m2 (place p q1);
      last = queue_same g3.base (posts d3) p q1 hp (omega arith) (omega arith)
          ∙ sym (mail_queue g3.base p q1 hp (omega arith) (omega arith)) ∙ delivered_pages b2 p hp t2;
      is = mail_same m2 m4 q (hand_page b1 q (in_hand b1)).1 letter.long still_q;
    }

    -- a notice is about what was to be sent, and stands on its page
    turned : e.about ≡ cond x.notice ((p, q) ∷ []) [] → e.puts ≡ (p, x) ∷ [] → (y : ℕ) → Turned m4 y (of y e.about) (only_notices (of y e.puts))
    turned ab pu y = rw (ab, pu) (go x.notice refl (hit_or y p))
      where
        here : {A : Type 0} (v : A) → y ≡ p → of y ((p, v) ∷ []) ≡ v ∷ []
        here v z = rw z (of_here p v)

        go : (c : Bool) → x.notice ≡ c → (y ≡ p) ⊎ (y ≢ p) → Turned m4 y (of y (cond c ((p, q) ∷ []) [])) (only_notices (of y ((p, x) ∷ [])))
        go true f (inl z) =
            rw (here q z, here x z, only_yes (λ (l : Letter). l.notice) x [] f, only_nil (λ (l : Letter). l.notice)) (record {
              before = stood.before;
              last = rw z stood.last;
              are = rw stood.is;
            })
        go true f (inr d) = rw (of_other y p q d, of_other y p x d, only_nil (λ (l : Letter). l.notice)) (turned_none m4 y)
        go false f (inl z) =
            rw (of_none {A = ℕ} y, here x z, only_no (λ (l : Letter). l.notice) x [] f, only_nil (λ (l : Letter). l.notice)) (turned_none m4 y)
        go false f (inr d) = rw (of_none {A = ℕ} y, of_other y p x d, only_nil (λ (l : Letter). l.notice)) (turned_none m4 y)

    -- e is what is sent: the letter x to p, on page q
    pub put_lawful : Each (λ (y : ℕ × ℕ). About m e.wrote y.0 y.1) e.about → e.about ≡ cond x.notice ((p, q) ∷ []) []
        → e.puts ≡ (p, x) ∷ [] → e.reads ≡ [] → Lawful m m4 e
    put_lawful ab al pu re = record {
      told = told_as put_told (sym pu) (sym re);
      stands = record { at = λ y h. rw pu (put_stands.at y h) };
      traced = record {
        pages = λ y w z h i u v j. from y w z (rw (listed b) at h) u v j;
        about = ab;
        turned = λ y h. turned al pu y;
        written = rw (pu, wr) ((λ n. stood), tt);
      };
    }

-- ---- what is written
module _ {m : List ℕ} {ps : List ℕ} {L : Lists} {W : View} {hs : List ℕ} {g q : ℕ} (b : Base m ps L W (q ∷ hs) g) where
  hq : Page q
  hq = hand_page b q (in_hand b)

  module _ (f a l : ℕ) (f2 : f ≤ 7) (l2 : l ≤ longest) (la : a < memory_size) where
    abbrev v : ℕ
    v = name m (running m) * 16 + f

    abbrev mw : List ℕ
    mw = store (store m q note v) q Map.size l

    abbrev mc : List ℕ
    mc = write_message m q f a l

    -- the text, from words that are on no control page
    written_text : ((i : ℕ) → i < l → wrapped a i < guarded_last) → words mc (place q Map.text) l ≡ words m a l
    unfolding Mail.write_message
    written_text far = words_moved m mc a (place q Map.text) l la (omega (arith, hq)) (λ i h.
        copy_at l mw a (place q Map.text) ((two b v l).size ∙ b.mem.size) (omega arith) la (omega (arith, hq)) (λ x y hx hy. apart x y hx hy) i h
        ∙ other (store m q note v) (place q Map.size) l (wrapped a i) (omega (arith, hq, far i h))
        ∙ other m (place q note) v (wrapped a i) (omega (arith, hq, far i h)))
      where
        apart : (x y : ℕ) → x < l → y < l → wrapped a x ≢ (place q Map.text + y) % memory_size
        apart x y hx hy = let e : (place q Map.text + y) % memory_size ≡ place q Map.text + y = omega (arith, hq) in rw e (omega (arith, hq, far x hx))

    written_mail : ((i : ℕ) → i < l → wrapped a i < guarded_last)
        → mail_of mc q ≡ record { notice = false; sender = name m (running m); flag = f; size = l; text = words m a l }
    unfolding mail_of
    written_mail far =
        let c = name m (running m) in
        let e1 : (name m (running m) * 16 + f) / 16 ≡ name m (running m) = omega arith in
        let e2 : (name m (running m) * 16 + f) % 16 ≡ f = omega arith in
        let e3 : length_in l ≡ l = omega arith in
        rw ((message_words b f a l l2).0, (message_words b f a l l2).1, ne_eqb l notice (omega arith), e1, e2, e3, written_text far)

-- ---- the instruction
module _ {m : List ℕ} (w : WellFormed m) (d : running m ≢ 0) where
  open busy w d use {base as b, runs as hr}

  abbrev r : ℕ
  r = running m

  abbrev Ends : Model.Step → Mailed → Type 0
  Ends o e = Lawful m (memory_of o) e

  -- page q is taken
  module _ (q : ℕ) (m1 : List ℕ) (e : take_page m r ≡ took q m1) (t : Gave m1 (lists m processor_list) (q ∷ []) 32 (view m))
      (k : t.view.label ≡ (view m).label) where
    s1 : Same (lists m processor_list) (lists m) m m1
    s1 = calm_takes b r q m1 e

    run1 : running m1 ≡ running m
    run1 = running_same b t

    in1 : 1 ≤ count (running m1) (lists m processor_list)
    in1 = rw run1 hr

    label1 : (p : ℕ) → 1 ≤ count p (lists m processor_list) → word m1 p label ≡ word m p label
    label1 p h = label_at t.base p h ∙ ap (λ (z : ℕ → ℕ). z p) k

    page1 : (n : ℕ) → page_of m1 n ≡ page_of m n
    page1 n = rw (listed t.base, listed b) (named_same m m1 n (lists m processor_list) label1)

    named : Label (word m1 (running m1) label)
    named = label_in t.base (running m1) in1

    alive : 1 ≤ count (running m) (processors m)
    alive = rw (listed b) hr

    notice_lawful : (n f len : ℕ) → 1 ≤ n → n ≤ 15 → 1 ≤ f → f ≤ 7
        → Lawful m (memory_of (Model.done (deliver (make_notice m1 q n f) (running m1) q) len)) (sending (running m, notice_from n f) q)
    notice_lawful n f len n1 n2 f1 f2 =
        let o = notice_only t.base n f in
        let l = notice_letter t.base n f n1 n2 f1 f2 in
        put_lawful b s1 t.base o (running m1) in1 l len (sending (running m, notice_from n f) q) refl
        (λ y. notified (still_q b s1 t.base o (running m1) in1 l len Map.size (omega arith) (omega arith) ∙ (notice_words t.base n f).1))
        (own refl refl alive, tt) (rw (run1, notice_mail t.base n f f2)) (rw (run1, notice_mail t.base n f f2)) refl

    message_lawful : (f a l p len : ℕ) → 1 ≤ f → f ≤ 7 → l ≤ longest → a < memory_size → 1 ≤ count p (lists m processor_list) → clear l a ≡ true
        → Lawful m (memory_of (Model.done (deliver (write_message m1 q f a l) p q) len))
        (sending (p, record { notice = false; sender = name m (running m); flag = f; size = l; text = words m a l }) q)
    message_lawful f a l p len f1 f2 l2 la hp c =
        let x : Letter = record { notice = false; sender = name m (running m); flag = f; size = l; text = words m a l } in
        let o = message_only t.base f a l l2 in
        let lt = message_letter t.base f a l l2 f1 f2 named in
        let op : (i : ℕ) → i < l → Open (wrapped a i) = λ i h. clear_open (wrapped a i) (clear_at l a c i h) in
        let tx : words m1 a l ≡ words m a l = words_moved m m1 a a l la la (λ i h. takes_word b r q m1 e (wrapped a i) (op i h)) in
        let lb : word m1 (running m1) label ≡ word m (running m) label =
        label1 (running m1) in1 ∙ ap (λ (z : ℕ). word m z label) run1 in
        let wm = written_mail t.base f a l f2 l2 la (λ i h. (op i h).below) in
        let sq = still_q b s1 t.base o p hp lt len in
        let mw = message_words t.base f a l l2 in
        let is : upper (word m1 (running m1) label % 16 * 16 + f) ≡ word m1 (running m1) label % 16 = omega arith in
        put_lawful b s1 t.base o p hp lt len (sending (p, x) q) refl
        (λ y. sent refl (rw (sq Map.size (omega arith) (omega arith), mw.1) l2) (rw (sq note (omega arith) (omega arith), mw.0, is, lb)) alive
        (rw (procs4 b s1 t.base o p hp lt len) hr))
        tt (rw wm) (rw (wm, lb, tx)) refl

    posted_lawful : (n f a len : ℕ) → 1 ≤ n → n ≤ 15 → 1 ≤ f → f ≤ 7 → get_or m a 0 ≤ longest → clear (get_or m a 0) (wrapped a 1) ≡ true
        → Lawful m (memory_of (Model.done (posted m1 q n f a (get_or m a 0)) len)) (sending (posting m n f a) q)
    unfolding Operate.posted posting
    posted_lawful n f a len n1 n2 f1 f2 l2 c = go (eqb (page_of m n) 0) refl
      where
        go : (x : Bool) → eqb (page_of m n) 0 ≡ x → Lawful m (memory_of (Model.done (posted m1 q n f a (get_or m a 0)) len)) (sending (posting m n f a) q)
        go true z = rw (page1 n, z) (notice_lawful n f len n1 n2 f1 f2)
        go false z =
            rw (page1 n, z) (message_lawful f (wrapped a 1) (get_or m a 0) (page_of m n) len f1 f2 l2 (omega arith)
            (named_in b n (eqb-false (page_of m n) 0 z)) c)

  to_lawful : (n f a len : ℕ) → 1 ≤ n → n ≤ 15 → 1 ≤ f → f ≤ 7 → get_or m a 0 ≤ longest → clear (get_or m a 0) (wrapped a 1) ≡ true
      → Lawful m (memory_of (Model.sent m n f a (get_or m a 0) len)) (sme_sends m n f a)
  unfolding page_taken
  to_lawful n f a len n1 n2 f1 f2 l2 c = go (take_page_lem r hr b)
    where
      go : Takes m r (lists m processor_list) (lists m) (view m) [] 32
          → Lawful m (memory_of (Model.sent m n f a (get_or m a 0) len)) (sme_sends m n f a)
      go (gets q m1 e z t k) =
          sent_both m Ends e n f a _ len _ (λ y. absurd (z y)) (λ y.
          let i : page_taken (take_page m (running m)) ≡ q = rw e in
          rw i (posted_lawful q m1 e t k n f a len n1 n2 f1 f2 l2 c))
      go (lacks e f3 g3) =
          sent_both m Ends e n f a _ len _ (λ y. lawful_same b (memory_of (waits_for_page m)) (page_waits_lem w d f3 g3)) (λ y. absurd (y refl))

  pub sme_lawful : (n f a len : ℕ) → n < 16 → f < 8 → Lawful m (memory_of (Model.sme m n f a len)) (sme_mail m n f a)
  sme_lawful n f a len hn hf = sme_both m Ends (λ f i j. fault_lawful w d f) n f a len (λ g.
      to_lawful n f a len g.name (omega arith) g.flag (omega arith) g.length g.text)
