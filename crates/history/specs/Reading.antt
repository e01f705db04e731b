-- Instructions: RME reads the first match in Q2; of any sender and flag it is the oldest that waits. Assumes nothing.
use Rattle.std.specs.Prelude.{◌≡◌, refl, ◌≢◌, ◌⊎◌, true, ℕ, ◌+◌, ◌≤◌}
use Rattle.std.proofs.Math.Path.{sym, ap}
use Rattle.std.proofs.Common.{◌∙◌, inl, inr, arith}
use mathlib.Core.List.{List, [], ◌∷◌, ◌++◌, append_assoc, append-nil, map}
use Rattle.model.specs.Map.{head_words, length_in}
use Rattle.model.specs.Map.{place, processor_list, q1, q2, size}
use Rattle.model.specs.Address.{wrapped}
use Rattle.model.specs.Bytes.{running, word}
use Rattle.model.specs.Address.{clear}
use Rattle.model.specs.Operate as Operate
use Rattle.model.specs.Answer.{memory_of}
use Rattle.model.specs.Bytes as Model
use Rattle.model.specs.Bytes.{lists, queue, processors, leave, copy_out, give_back}
use Rattle.model.specs.Lists.{count, Lists}
use Rattle.laws.specs.Count.{hit_or, count_append, count_mid}
use Rattle.laws.specs.Queues.{upd, upd_same, upd_other}
use Rattle.laws.specs.Uses.{Sep}
use Rattle.laws.specs.Inv.{View, view, Base}
use Rattle.laws.specs.Judged.{WellFormed}
use Rattle.laws.specs.Frames.{base_kept}
use Rattle.laws.specs.Hands.{take_mail}
use Rattle.laws.specs.Grants.{give_back_lem}
use Rattle.laws.specs.Who.{label_at, listed, busy}
use Rattle.laws.specs.Mails.{mail_queue, out_kept, clear_at, out_far}
use Rattle.history.specs.Order.{only, Fails, overtakes_none}
use Rattle.history.specs.Letter.{Letter, mail_of, key, asked, one_key, map_append, waiting_for, waits_by, Same, posts, Texted, waits_through}
use Rattle.history.specs.Letter.{label_same, waits_same, procs_same, mail_same, mails_same, texts_same}
use Rattle.history.specs.Ways.{rme_both}
use Rattle.history.specs.Put.{of, reading, rme_mail}
use Rattle.history.specs.Calm.{ours_low, ours_fits, calm_give}
use Rattle.history.specs.Told.{Told, of_none, of_here, of_other, stands_empty, calm_done, runs_in}
use Rattle.history.specs.Traced.{Still, Lawful, still_on, same_still, still_traced, texted_still}
use Rattle.history.specs.Quiet.{clear_far, fault_lawful}
use Rattle.history.specs.Moving.{leave_texts}
use Rattle.history.specs.Tests.{Found, found}

-- what RME writes: three words and the text
pub out_calm : {ps : List ℕ} {L : Lists} → Sep ps L → (m : List ℕ) (q a : ℕ) → clear (head_words + length_in (word m q size)) a ≡ true
    → Same ps L m (copy_out m q a)
out_calm s m q a h = record {
  at = λ c o. out_far m q a c (ours_fits s o) (λ i l.
      let t = clear_far (wrapped a i) (clear_at (head_words + length_in (word m q size)) a h i l) in ours_low s o (wrapped a i) t.0 t.1);
}

-- ---- message q leaves Q2, and its page is given back
module _ {m : List ℕ} {ps : List ℕ} {L : Lists} {W : View} (b : Base m ps L W [] 32) (p q : ℕ) (xs ys : List ℕ) (h : 1 ≤ count p ps)
    (e : L (place p q2) ≡ xs ++ q ∷ ys) where
  abbrev J : Lists
  J = upd L (place p q2) (xs ++ ys)

  abbrev m1 : List ℕ
  m1 = leave m (place p q2) 0 q

  b1 : Base m1 ps J W (q ∷ []) 32
  b1 = take_mail b p q2 q xs ys h (omega arith) (omega arith) e

  left_texts : Texted ps m m1
  left_texts = leave_texts b p q2 q xs ys h (omega arith) (omega arith) e

  abbrev M : List ℕ → List Letter
  M l = map (mail_of m) l

  pub left_here : waiting_for (give_back m1 q) p ≡ M xs ++ (M ys ++ M (L (place p q1)))
  left_here =
      waits_same b1 (posts (calm_give b1)) p h ∙ waits_through b1 left_texts p h
      ∙ rw (upd_same L (place p q2) (xs ++ ys), upd_other L (place p q2) (place p q1) (xs ++ ys) (omega arith), map_append (mail_of m) xs ys)
      (append_assoc (M xs) (M ys) (M (L (place p q1))))

  pub was_there : waiting_for m p ≡ M xs ++ (mail_of m q ∷ (M ys ++ M (L (place p q1))))
  was_there = waits_by b p h ∙ rw (e, map_append (mail_of m) xs (q ∷ ys)) (append_assoc (M xs) (mail_of m q ∷ M ys) (M (L (place p q1))))

  pub left_away : (y : ℕ) → 1 ≤ count y ps → y ≢ p → waiting_for (give_back m1 q) y ≡ waiting_for m y
  left_away y i n =
      waits_same b1 (posts (calm_give b1)) y i ∙ waits_through b1 left_texts y i
      ∙ rw (
        upd_other L (place p q2) (place y q1) (xs ++ ys) (omega arith),
        upd_other L (place p q2) (place y q2) (xs ++ ys) (omega arith),
      ) (sym (waits_by b y i))

  -- by pages
  pub left_still : Still m (give_back m1 q)
  left_still =
      still_on (texted_still b b1 left_texts (λ y w x i u v c. (w, u, v, from y w x u v i c (hit_or y p) (hit_or w q2))))
      (same_still b1 (calm_give b1))
    where
      from : (y w x : ℕ) → q1 ≤ w → w ≤ q2 → 1 ≤ count y ps → 1 ≤ count x (upd L (place p q2) (xs ++ ys) (place y w)) → (y ≡ p) ⊎ (y ≢ p) → (w ≡ q2) ⊎ (w ≢ q2)
          → 1 ≤ count x (L (place y w))
      from y w x u v i c (inl a) (inl f) =
          let k = rw (a, f, upd_same L (place p q2) (xs ++ ys)) at c in
          rw (a, f, e) (omega (arith, count_append x xs (q ∷ ys), count_append x xs ys))
      from y w x u v i c (inl a) (inr f) = rw (upd_other L (place p q2) (place y w) (xs ++ ys) (omega arith)) at c
      from y w x u v i c (inr a) f = rw (upd_other L (place p q2) (place y w) (xs ++ ys) (omega arith)) at c

  pub left_order : (n f : ℕ) → asked n f (mail_of m q) ≡ true → Fails (asked n f) (M xs) → (k l : ℕ)
      → only (key k l) (mail_of m q ∷ waiting_for (give_back m1 q) p) ≡ only (key k l) (waiting_for m p)
  left_order n f is not k l =
      rw (left_here, was_there) (overtakes_none (key k l) (asked n f) (one_key n f k l) (mail_of m q) is (M xs) (M ys ++ M (L (place p q1))) not)

-- ---- the instruction
module _ {m : List ℕ} (w : WellFormed m) (d : running m ≢ 0) where
  open busy w d use {base as b, runs as hr}

  abbrev r : ℕ
  r = running m

  received_told : (n f q a len : ℕ) → Found m n f q (lists m (place r q2)) → clear (head_words + length_in (word m q size)) a ≡ true
      → Told m (memory_of (Model.done (Model.received m q a) len)) (reading r (mail_of m q) a)
  unfolding Operate.received
  received_told n f q a len t cl =
      let x = copy_out m q a in
      let bx : Base x (lists m processor_list) (lists m) (view m) [] 32 = base_kept (out_kept m q a cl) b in
      let sx : Same (lists m processor_list) (lists m) m x = out_calm b.facts.sep m q a cl in
      let xs = t.before in
      let ys = t.behind in
      let m1 = leave x (place r q2) 0 q in
      let m2 = give_back m1 q in
      let b1 = take_mail bx r q2 q xs ys hr (omega arith) (omega arith) t.is in
      let g2 = give_back_lem b1 in
      let d2 : Same (lists m processor_list) g2.lists m2 (memory_of (Model.done m2 len)) = calm_done g2.base.facts.sep m2 (runs_in g2.base) len in
      let pr : processors (memory_of (Model.done m2 len)) ≡ processors m = procs_same g2.base d2 ∙ sym (listed b) in
      let same : (y : ℕ) → 1 ≤ count y (lists m processor_list)
      → waiting_for (memory_of (Model.done m2 len)) y ≡ waiting_for m2 y = λ y h. waits_same g2.base (posts d2) y h in
      let before : (y : ℕ) → 1 ≤ count y (lists m processor_list) → waiting_for x y ≡ waiting_for m y = λ y h. waits_same b (posts sx) y h in
      let inside : (z : ℕ) → 1 ≤ count z (xs ++ q ∷ []) → 1 ≤ count z (lists m (place r q2)) = λ z i.
      rw t.is (omega (arith, count_append z xs (q ∷ []), count_append z xs (q ∷ ys))) in
      let ms : (zs : List ℕ) → ((z : ℕ) → 1 ≤ count z zs → 1 ≤ count z (xs ++ q ∷ [])) → map (mail_of x) zs ≡ map (mail_of m) zs = λ zs k.
      mails_same m x zs (λ z i. texts_same b (posts sx) r q2 z hr (omega arith) (omega arith) (inside z (k z i))) in
      let mx = ms xs (λ z i. omega (arith, count_append z xs (q ∷ []))) in
      let mq : mail_of x q ≡ mail_of m q = let tq = texts_same b (posts sx) r q2 q hr (omega arith) (omega arith)
      (inside q (count_mid q xs [])) in mail_same m x q tq.page.1 tq.sized tq.texts in
      record {
        at = λ p h i k l.
            let j = rw (listed b) at h in
            cases (memory_of (Model.done m2 len)) m2 x p j k l (same p j) (before p j)
            (left_order bx r q xs ys hr t.is n f (rw mq t.match) (rw mx t.none) k l) mq
            (λ z. left_away bx r q xs ys hr t.is p j z) (hit_or p r);
        keeps = λ p h i.
            let j = rw (listed b) at h in
            label_same d2 p j ∙ label_same (calm_give b1) p j ∙ label_at b1 p j ∙ sym (label_at b p j);
        born = λ p h i. absurd (omega (arith, ap (count p) pr));
      }
    where
      cases : (m3 m2 x : List ℕ) (p : ℕ) → 1 ≤ count p (lists m processor_list) → (k l : ℕ) → waiting_for m3 p ≡ waiting_for m2 p → waiting_for x p ≡ waiting_for m p
          → only (key k l) (mail_of x q ∷ waiting_for m2 r) ≡ only (key k l) (waiting_for x r) → mail_of x q ≡ mail_of m q
          → (p ≢ r → waiting_for m2 p ≡ waiting_for x p) → (p ≡ r) ⊎ (p ≢ r)
          → only (key k l) (of p ((r, mail_of m q) ∷ []) ++ waiting_for m3 p) ≡ only (key k l) (waiting_for m p ++ of p [])
      cases m3 m2 x p h k l s3 sx o mq away (inl z) =
          let s4 = rw z at s3 in
          let x4 = rw z at sx in
          rw (z, of_here r (mail_of m q), of_none r, append-nil (waiting_for m r), s4, ← mq, ← x4) o
      cases m3 m2 x p h k l s3 sx o mq away (inr n) = rw (of_other p r (mail_of m q) n, of_none p, append-nil (waiting_for m p), s3, away n, sx)

  -- by pages
  received_still : (n f q a len : ℕ) → Found m n f q (lists m (place r q2)) → clear (head_words + length_in (word m q size)) a ≡ true
      → Still m (memory_of (Model.done (Model.received m q a) len))
  unfolding Operate.received
  received_still n f q a len t cl =
      let x = copy_out m q a in
      let bx : Base x (lists m processor_list) (lists m) (view m) [] 32 = base_kept (out_kept m q a cl) b in
      let b1 = take_mail bx r q2 q t.before t.behind hr (omega arith) (omega arith) t.is in
      let m2 = give_back (leave x (place r q2) 0 q) q in
      let g2 = give_back_lem b1 in
      still_on (same_still b (out_calm b.facts.sep m q a cl)) (still_on (left_still bx r q t.before t.behind hr t.is)
      (same_still g2.base (calm_done g2.base.facts.sep m2 (runs_in g2.base) len)))

  pub rme_lawful : (n f a len : ℕ) → Lawful m (memory_of (Model.rme m n f a len)) (rme_mail m n f a)
  rme_lawful n f a len = rme_both m (λ o e. Lawful m (memory_of o) e) (λ f i j. fault_lawful w d f) n f a len (λ g.
      let t : Found m n f (Model.in_q2 m n f) (queue m (place r q2)) = found m n f (queue m (place r q2)) g.found in
      let i = sym (mail_queue b r q2 hr (omega arith) (omega arith)) ∙ t.is in
      let c : Found m n f (Model.in_q2 m n f) (lists m (place r q2)) =
      record { before = t.before; behind = t.behind; is = i; match = t.match; none = t.none } in
      let e = reading r (mail_of m (Model.in_q2 m n f)) a in
      record {
        told = received_told n f (Model.in_q2 m n f) a len c g.target;
        stands = stands_empty (memory_of (Model.done (Model.received m (Model.in_q2 m n f) a) len)) e refl;
        traced = still_traced (received_still n f (Model.in_q2 m n f) a len c g.target) e refl refl refl;
      })
