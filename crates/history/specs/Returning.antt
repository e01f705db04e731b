-- What a deletion puts, as a list of notices. A page given back and a notice delivered: what waits for each processor grows at the end of its Q1 by the notices
-- to it, and no processor's name changes. Assumes nothing.
use Rattle.std.specs.Prelude.{◌≡◌, ◌≢◌, ◌⊎◌, Bool, cond, List, [], ◌∷◌, ◌++◌, ℕ, ◌≤◌}
use Rattle.std.proofs.Math.Path.{refl}
use Rattle.std.proofs.Common.{sym, ap, ◌∙◌, inl, inr, append-nil, append_assoc, arith}
use Rattle.std.proofs.Math.Bool.{true, false}
use Rattle.std.proofs.Math.Dec.{eqb}
use Rattle.model.specs.Map.{label, note, notice, place, q1, q2, size}
use Rattle.model.specs.Bytes.{word}
use Rattle.model.specs.Bytes.{give_back, deliver, make_notice, queue}
use Rattle.model.specs.Lists.{count, Lists}
use Rattle.laws.specs.Count.{hit_or}
use Rattle.laws.specs.Chain.{Page}
use Rattle.laws.specs.Uses.{proc_page}
use Rattle.laws.specs.Places.{q_free}
use Rattle.laws.specs.Mails.{mail_queue}
use Rattle.laws.specs.Inv.{View, Message, Base}
use Rattle.laws.specs.Changes.{hand_out, hand_page}
use Rattle.laws.specs.Hands.{in_hand, hand_base}
use Rattle.laws.specs.Grants.{give_frame}
use Rattle.laws.specs.Post.{retold_letter, notice_only, notice_words, notice_letter, deliver_frame}
use Rattle.laws.specs.Aside.{aside_hand}
use Rattle.laws.specs.Stores.{only_word}
use Rattle.history.specs.Letter.{Letter, mail_of, waiting_for, Posts, posts, waits_same, held, held_same, queue_same, Texted}
use Rattle.history.specs.Put.{Log, of, notice_from, returns_to, go_back}
use Rattle.history.specs.Calm.{calm_only, calm_give}
use Rattle.history.specs.Told.{of_none, of_here, of_other, of_append}
use Rattle.history.specs.Traced.{Waited, posts_waited}
use Rattle.history.specs.Delivering.{delivered_last, delivered_other, delivered_here, delivered_away, delivered_texts, delivered_from, delivered_pages}
use Rattle.history.specs.Delivering.{delivered_else, notice_mail}

-- ---- what goes back, one after the other
-- v to the processor of page r, if there is one
abbrev pub sent_back : {A : Type 0} → ℕ → A → List (ℕ × A)
sent_back r v = cond (eqb r 0) [] ((r, v) ∷ [])

module _ {A : Type 0} (f : ℕ → A) (m : List ℕ) (p : ℕ) where
  pub back_next : (q : ℕ) (qs : List ℕ) → go_back f m p (q ∷ qs) ≡ sent_back (returns_to m p q) (f q) ++ go_back f m p qs
  unfolding go_back
  back_next q qs = go (eqb (returns_to m p q) 0) refl
    where
      go : (b : Bool) → eqb (returns_to m p q) 0 ≡ b → go_back f m p (q ∷ qs) ≡ sent_back (returns_to m p q) (f q) ++ go_back f m p qs
      go true e = rw (e, go_back)
      go false e = rw (e, go_back)

  pub back_none : go_back f m p [] ≡ []
  unfolding go_back
  back_none = refl

  pub back_append : (xs ys : List ℕ) → go_back f m p (xs ++ ys) ≡ go_back f m p xs ++ go_back f m p ys
  back_append [] ys = rw back_none
  back_append (x ∷ xs) ys =
      let l : List (ℕ × A) = sent_back (returns_to m p x) (f x) in
      back_next x (xs ++ ys) ∙ ap {B = List (ℕ × A)} (λ k. l ++ k) (back_append xs ys) ∙ sym (append_assoc l (go_back f m p xs) (go_back f m p ys))
      ∙ ap {B = List (ℕ × A)} (λ k. k ++ go_back f m p ys) (sym (back_next x xs))

-- ---- from m to m1 what waits for the processors ps grows by l, at the end of Q1, and their names stay; by pages, Q1 grows by those of a, and what waits is a
-- notice, or waited and is as it was
pub record Grown (ps : List ℕ) (m m1 : List ℕ) (l : Log) (a : List (ℕ × ℕ)) : Type 0 where
  pub waits : (y : ℕ) → 1 ≤ count y ps → waiting_for m1 y ≡ waiting_for m y ++ of y l
  pub last : (y : ℕ) → 1 ≤ count y ps → held m1 y q1 ≡ held m y q1 ++ of y l
  pub names : (y : ℕ) → 1 ≤ count y ps → word m1 y label ≡ word m y label
  pub ends : (y : ℕ) → 1 ≤ count y ps → queue m1 (place y q1) ≡ queue m (place y q1) ++ of y a
  pub pages : (y w x : ℕ) → 1 ≤ count y ps → q1 ≤ w → w ≤ q2 → 1 ≤ count x (queue m1 (place y w))
      → (Waited m m1 y x × (word m1 x size ≡ word m x size)) ⊎ (word m1 x size ≡ notice)

pub grown_refl : (ps m : List ℕ) → Grown ps m m [] []
grown_refl ps m = record {
  waits = λ y h. rw (of_none y) (sym (append-nil (waiting_for m y)));
  last = λ y h. rw (of_none y) (sym (append-nil (held m y q1)));
  names = λ y h. refl;
  ends = λ y h. rw (of_none {A = ℕ} y) (sym (append-nil (queue m (place y q1))));
  pages = λ y w x h u v i. inl (record { head = w; low = u; high = v; here = i; note = refl }, refl);
}

pub grown_then : {ps m m1 m2 : List ℕ} {l k : Log} {a c : List (ℕ × ℕ)} → Grown ps m m1 l a → Grown ps m1 m2 k c → Grown ps m m2 (l ++ k) (a ++ c)
grown_then {ps = ps} {m = m} {m1 = m1} {m2 = m2} {l = l} {k = k} {a = a} {c = c} f g = record {
  waits = λ y h. rw (g.waits y h, f.waits y h, of_append y l k) (append_assoc (waiting_for m y) (of y l) (of y k));
  last = λ y h. rw (g.last y h, f.last y h, of_append y l k) (append_assoc (held m y q1) (of y l) (of y k));
  names = λ y h. g.names y h ∙ f.names y h;
  ends = λ y h. rw (g.ends y h, f.ends y h, of_append y a c) (append_assoc (queue m (place y q1)) (of y a) (of y c));
  pages = λ y w x h u v i. on y x h (g.pages y w x h u v i);
}
  where
    before : (y x : ℕ) (a : Waited m1 m2 y x) → word m2 x size ≡ word m1 x size
        → (Waited m m1 y x × (word m1 x size ≡ word m x size)) ⊎ (word m1 x size ≡ notice)
        → (Waited m m2 y x × (word m2 x size ≡ word m x size)) ⊎ (word m2 x size ≡ notice)
    before y x a e (inr z) = inr (e ∙ z)
    before y x a e (inl c) =
        inl (record { head = c.0.head; low = c.0.low; high = c.0.high; here = c.0.here; note = a.note ∙ c.0.note }, e ∙ c.1)

    on : (y x : ℕ) → 1 ≤ count y ps → (Waited m1 m2 y x × (word m2 x size ≡ word m1 x size)) ⊎ (word m2 x size ≡ notice)
        → (Waited m m2 y x × (word m2 x size ≡ word m x size)) ⊎ (word m2 x size ≡ notice)
    on y x h (inr z) = inr z
    on y x h (inl a) = before y x a.0 a.1 (f.pages y a.0.head x h a.0.low a.0.high a.0.here)

-- for some of them
pub grown_same : {m : List ℕ} {ps : List ℕ} {L : Lists} {W : View} {hs : List ℕ} {g : ℕ} (b : Base m ps L W hs g) {m1 : List ℕ} → Posts ps L m m1
    → (qs : List ℕ) → ((y : ℕ) → 1 ≤ count y qs → 1 ≤ count y ps)
    → ((y : ℕ) → 1 ≤ count y qs → word m1 y label ≡ word m y label) → Grown qs m m1 [] []
grown_same {m} b s qs i n = record {
  waits = λ y h. rw (of_none y, waits_same b s y (i y h)) (sym (append-nil (waiting_for m y)));
  last = λ y h. rw (of_none y, held_same b s y q1 (i y h) (omega arith) (omega arith)) (sym (append-nil (held m y q1)));
  names = n;
  ends = λ y h.
      queue_same b s y q1 (i y h) (omega arith) (omega arith) ∙ sym (mail_queue b y q1 (i y h) (omega arith) (omega arith))
      ∙ rw (of_none {A = ℕ} y) (sym (append-nil (queue m (place y q1))));
  pages = λ y w x h u v j. inl (posts_waited b s y w x (i y h) u v j);
}

-- ---- names stay
module _ {m : List ℕ} {ps : List ℕ} {L : Lists} {W : View} {hs : List ℕ} {g q : ℕ} (b : Base m ps L W (q ∷ hs) g) (y : ℕ) (h : 1 ≤ count y ps) where
  pg : Page y
  pg = proc_page b.facts.sep y h

  give_names : word (give_back m q) y label ≡ word m y label
  give_names = give_frame b (place y label) (record {
    low = λ a u v. omega (arith, pg);
    grant = λ k u. omega (arith, pg);
    hand = omega arith;
    free = λ z i. omega arith;
    waiter = λ p i. (omega arith, omega arith, omega arith);
  })

  deliver_names : (p : ℕ) → 1 ≤ count p ps → Message (W.note q) (W.size q) → word (deliver m p q) y label ≡ word m y label
  deliver_names p hp t = deliver_frame b p hp t (place y label) (λ j u. omega arith) (omega arith) (omega arith) (λ z i. omega arith)

-- ---- one page
module _ {m : List ℕ} {ps : List ℕ} {L : Lists} {W : View} {hs : List ℕ} {g q : ℕ} (b : Base m ps L W (q ∷ hs) g) where
  pub give_grows : Grown ps m (give_back m q) [] []
  give_grows = grown_same b (posts (calm_give b)) ps (λ y h. h) (give_names b)

  notice_posts : (n f : ℕ) → Posts ps L m (make_notice m q n f)
  notice_posts n f = posts (calm_only b.facts.sep m (make_notice m q n f) q (aside_hand b q (in_hand b)) (notice_only b n f))

  pub notice_grows : (n f p : ℕ) → 1 ≤ n → n ≤ 15 → 1 ≤ f → f ≤ 7 → 1 ≤ count p ps
      → Grown ps m (deliver (make_notice m q n f) p q) ((p, notice_from n f) ∷ []) ((p, q) ∷ [])
  notice_grows n f p n1 n2 f1 f2 hp =
      let o = notice_only b n f in
      let b2 = hand_base q (in_hand b) o b in
      let t = retold_letter b o (notice_letter b n f n1 n2 f1 f2) in
      record {
        waits = λ y h.
            grows waiting_for y (delivered_here b2 p hp t) (λ d. delivered_away b2 p hp t y h d) (waits_same b (notice_posts n f) y h) (hit_or y p);
        last = λ y h.
            grows (λ x z. held x z q1) y (delivered_last b2 p hp t) (λ d. delivered_other b2 p hp t y h d)
            (held_same b (notice_posts n f) y q1 h (omega arith) (omega arith)) (hit_or y p);
        names = λ y h.
            let d : y ≢ q = λ e. omega (arith, ap (λ (z : ℕ). count z ps) e, hand_out b q (in_hand b)) in
            deliver_names b2 y h p hp t ∙ only_word o y 7 d (omega arith);
        ends = λ y h. at_end y h (hit_or y p);
        pages = λ y w x h u v i. from y w x h u v (delivered_from b2 p hp t y w x h u v i);
      }
    where
      b3 : (X : View) × Base (make_notice m q n f) ps L X (q ∷ hs) g × Message (X.note q) (X.size q)
      b3 =
          let o = notice_only b n f in
          (_, hand_base q (in_hand b) o b, retold_letter b o (notice_letter b n f n1 n2 f1 f2))

      before : (y : ℕ) → 1 ≤ count y ps → queue (make_notice m q n f) (place y q1) ≡ queue m (place y q1)
      before y h =
          queue_same b (notice_posts n f) y q1 h (omega arith) (omega arith) ∙ sym (mail_queue b y q1 h (omega arith) (omega arith))

      at_end : (y : ℕ) → 1 ≤ count y ps → (y ≡ p) ⊎ (y ≢ p)
          → queue (deliver (make_notice m q n f) p q) (place y q1) ≡ queue m (place y q1) ++ of y ((p, q) ∷ [])
      at_end y h (inl z) = rw (z, of_here p q, delivered_pages b3.1 p hp b3.2, before p hp)
      at_end y h (inr d) =
          rw (of_other y p q d, append-nil (queue m (place y q1))) (delivered_else b3.1 p hp b3.2 y h d ∙ before y h)

      texts : Texted ps (make_notice m q n f) (deliver (make_notice m q n f) p q)
      texts =
          let o = notice_only b n f in
          delivered_texts (hand_base q (in_hand b) o b) p hp (retold_letter b o (notice_letter b n f n1 n2 f1 f2))

      from : (y w x : ℕ) → 1 ≤ count y ps → q1 ≤ w → w ≤ q2 → (1 ≤ count x (queue (make_notice m q n f) (place y w))) ⊎ (x ≡ q)
          → (Waited m (deliver (make_notice m q n f) p q) y x × (word (deliver (make_notice m q n f) p q) x size ≡ word m x size))
          ⊎ (word (deliver (make_notice m q n f) p q) x size ≡ notice)
      from y w x h u v (inr e) =
          let c = in_hand b in
          inr (rw e (texts.at q (hand_page b q c) (hand_out b q c) size (omega arith) (omega arith) ∙ (notice_words b n f).1))
      from y w x h u v (inl i) =
          let a = posts_waited b (notice_posts n f) y w x h u v i in
          let j = rw (mail_queue b y a.0.head h a.0.low a.0.high) at a.0.here in
          let c = q_free b.facts.sep y a.0.head x a.0.low a.0.high h j in
          inl (
            record {
              head = a.0.head;
              low = a.0.low;
              high = a.0.high;
              here = a.0.here;
              note = texts.at x c.0 c.1 note (omega arith) (omega arith) ∙ a.0.note;
            },
            texts.at x c.0 c.1 size (omega arith) (omega arith) ∙ a.1,
          )

      grows : (F : List ℕ → ℕ → List Letter) (y : ℕ)
          → F (deliver (make_notice m q n f) p q) p ≡ F (make_notice m q n f) p ++ mail_of (make_notice m q n f) q ∷ []
          → (y ≢ p → F (deliver (make_notice m q n f) p q) y ≡ F (make_notice m q n f) y) → F (make_notice m q n f) y ≡ F m y → (y ≡ p) ⊎ (y ≢ p)
          → F (deliver (make_notice m q n f) p q) y ≡ F m y ++ of y ((p, notice_from n f) ∷ [])
      grows F y here away same (inl z) = let k = rw z at same in rw (z, of_here p (notice_from n f), here, k, notice_mail b n f f2)
      grows F y here away same (inr d) = rw (of_other y p (notice_from n f) d, append-nil (F m y)) (away d ∙ same)
