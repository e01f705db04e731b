-- A message leaves Q1 or Q2, or moves from Q1 to Q2 of its processor: the texts stay, and of any sender and flag what waits stays in its order. Assumes
-- nothing.
use Rattle.std.specs.Prelude.{◌≡◌, ◌≢◌, ◌⊎◌, true, ℕ, ◌≤◌}
use Rattle.std.proofs.Common.{sym, ◌∙◌, inl, inr, arith}
use Rattle.std.proofs.Math.Path.{ap}
use mathlib.Core.List.{List, [], ◌∷◌, ◌++◌, append_assoc, map}
use Rattle.model.specs.Map.{link, place, q1, q2}
use Rattle.model.specs.Mail as Mail
use Rattle.model.specs.Bytes.{leave, move}
use Rattle.model.specs.Lists.{count, Lists}
use Rattle.laws.specs.Count.{hit_or, hit_other, count_append, count_mid}
use Rattle.laws.specs.Chain.{Page}
use Rattle.laws.specs.Queues.{upd, upd_same, upd_other}
use Rattle.laws.specs.Uses.{Sep, proc_page}
use Rattle.laws.specs.Places.{in_q, grant_high}
use Rattle.laws.specs.Members.{head_off}
use Rattle.laws.specs.Inv.{View, Base}
use Rattle.laws.specs.JoinLeave.{join_frame, leave_frame}
use Rattle.laws.specs.Changes.{hand_page}
use Rattle.laws.specs.Hands.{in_hand, hand_new, take_mail, give_mail}
use Rattle.history.specs.Order.{only, only_append, Fails, overtakes_none}
use Rattle.history.specs.Traced.{Still, texted_still}
use Rattle.history.specs.Letter.{Letter, mail_of, key, asked, one_key, map_append, waiting_for, waits_by, Texted, waits_through}

-- a message that leaves Q1 or Q2 leaves all texts
pub leave_texts : {m : List ℕ} {ps : List ℕ} {L : Lists} {W : View} {hs : List ℕ} {g : ℕ} → Base m ps L W hs g → (p w q : ℕ) (xs ys : List ℕ) → 1 ≤ count p ps
    → q1 ≤ w → w ≤ q2 → L (place p w) ≡ xs ++ q ∷ ys → Texted ps m (leave m (place p w) link q)
leave_texts {ps = ps} b p w q xs ys h u v e = record {
  at = λ x px o j k l.
      let s = b.facts.sep in
      let pg = proc_page s p h in
      let i = in_q ps p w u v h in
      leave_frame s b.mem (place p w) (i, grant_high (place p w) (omega arith)) (omega arith) q xs ys e (place x j)
      (λ z. head_off s x j (place p w) px l o i (sym z)) (λ z r. omega arith);
}

module _ {m : List ℕ} {ps : List ℕ} {L : Lists} {W : View} {hs : List ℕ} {g : ℕ} (b : Base m ps L W hs g) (p q : ℕ) (xs ys : List ℕ) (h : 1 ≤ count p ps)
    (e : L (place p q1) ≡ xs ++ q ∷ ys) where
  s : Sep ps L
  s = b.facts.sep

  pg : Page p
  pg = proc_page s p h

  abbrev J : Lists
  J = upd L (place p q1) (xs ++ ys)

  abbrev m1 : List ℕ
  m1 = leave m (place p q1) link q

  b1 : Base m1 ps J W (q ∷ hs) g
  b1 = take_mail b p q1 q xs ys h (omega arith) (omega arith) e

  in5 : 1 ≤ count q (L (place p q1))
  in5 = rw e (count_mid q xs ys)

  pub moved : Lists
  moved = upd J (place p q2) (J (place p q2) ++ q ∷ [])

  pub move_lists : Base (move m p q) ps moved W hs g
  unfolding Mail.move moved
  move_lists = give_mail b1 p q2 h (omega arith) (omega arith) (b.facts.mail p q1 h (omega arith) (omega arith) q in5) (λ x j k. absurd (omega arith))

  pub moved_q1 : moved (place p q1) ≡ xs ++ ys
  unfolding moved
  moved_q1 = upd_other J (place p q2) (place p q1) (J (place p q2) ++ q ∷ []) (omega arith) ∙ upd_same L (place p q1) (xs ++ ys)

  pub moved_q2 : moved (place p q2) ≡ L (place p q2) ++ q ∷ []
  unfolding moved
  moved_q2 = upd_same J (place p q2) (J (place p q2) ++ q ∷ []) ∙ ap (λ (l : List ℕ). l ++ q
      ∷ []) (upd_other L (place p q1) (place p q2) (xs ++ ys) (omega arith))

  pub moved_other : (a : ℕ) → a ≢ place p q1 → a ≢ place p q2 → moved a ≡ L a
  unfolding moved
  moved_other a n5 n6 = upd_other J (place p q2) a (J (place p q2) ++ q ∷ []) n6 ∙ upd_other L (place p q1) a (xs ++ ys) n5

  pub move_texts : Texted ps m (move m p q)
  unfolding Mail.move
  move_texts = record {
    at = λ x px o j k l.
        let i6 = in_q ps p q2 (omega arith) (omega arith) h in
        join_frame b1.facts.sep b1.mem (place p q2) (i6, grant_high (place p q2) (omega (arith, pg))) (omega (arith, pg)) q
        (hand_page b1 q (in_hand b1)) (hand_new b1) (place x j) (λ z. head_off s x j (place p q2) px l o i6 (sym z)) (λ z i. omega arith) (omega arith)
        ∙ (leave_texts b p q1 q xs ys h (omega arith) (omega arith) e).at x px o j k l;
  }

  -- by pages: each stays in Q1 or Q2 of the same one
  pub moved_still : Still m (move m p q)
  moved_still = texted_still b move_lists move_texts (λ y w x i u v c. from y w x i u v c (hit_or y p) (hit_or w q1))
    where
      from : (y w x : ℕ) → 1 ≤ count y ps → q1 ≤ w → w ≤ q2 → 1 ≤ count x (moved (place y w)) → (y ≡ p) ⊎ (y ≢ p) → (w ≡ q1) ⊎ (w ≢ q1)
          → (z : ℕ) × (q1 ≤ z) × (z ≤ q2) × (1 ≤ count x (L (place y z)))
      from y w x i u v c (inr n) f = (w, u, v, rw (moved_other (place y w) (omega arith) (omega arith)) at c)
      from y w x i u v c (inl a) (inl f) =
          let k = rw (a, f, moved_q1) at c in
          (q1, omega arith, omega arith, rw (a, e) (omega (arith, count_append x xs (q ∷ ys), count_append x xs ys)))
      from y w x i u v c (inl a) (inr f) =
          let g : w ≡ q2 = omega arith in
          let k = rw (a, g, moved_q2) at c in
          second (hit_or x q) k
        where
          second : (x ≡ q) ⊎ (x ≢ q) → 1 ≤ count x (L (place p q2) ++ q ∷ []) → (z : ℕ) × (q1 ≤ z) × (z ≤ q2) × (1 ≤ count x (L (place y z)))
          second (inl z) k = (q1, omega arith, omega arith, rw (a, z) in5)
          second (inr z) k = (q2, omega arith, omega arith, rw a (omega (arith, count_append x (L (place p q2)) (q ∷ []), hit_other x q z)))

  -- what waits for p, and for any other
  abbrev M : List ℕ → List Letter
  M l = map (mail_of m) l

  pub moved_here : waiting_for (move m p q) p ≡ M (L (place p q2)) ++ (mail_of m q ∷ (M xs ++ M ys))
  moved_here =
      waits_through move_lists move_texts p h
      ∙ rw (
        moved_q1,
        moved_q2,
        map_append (mail_of m) (L (place p q2)) (q
            ∷ []),
        map_append (mail_of m) xs ys,
      ) (append_assoc (M (L (place p q2))) (mail_of m q ∷ []) (M xs ++ M ys))

  pub was_here : waiting_for m p ≡ M (L (place p q2)) ++ (M xs ++ (mail_of m q ∷ M ys))
  was_here = waits_by b p h ∙ rw (e, map_append (mail_of m) xs (q ∷ ys))

  pub moved_away : (y : ℕ) → 1 ≤ count y ps → y ≢ p → waiting_for (move m p q) y ≡ waiting_for m y
  moved_away y i n =
      waits_through move_lists move_texts y i
      ∙ rw (moved_other (place y q1) (omega arith) (omega arith), moved_other (place y q2) (omega arith) (omega arith)) (sym (waits_by b y i))

  -- the first match overtakes none of its sender and flag
  pub moved_order : (n f : ℕ) → asked n f (mail_of m q) ≡ true → Fails (asked n f) (M xs) → (k l : ℕ)
      → only (key k l) (waiting_for (move m p q) p) ≡ only (key k l) (waiting_for m p)
  moved_order n f is not k l =
      rw (
        moved_here,
        was_here,
        only_append (key k l) (M (L (place p q2))) (mail_of m q ∷ (M xs ++ M ys)),
        only_append (key k l) (M (L (place p q2))) (M xs ++ (mail_of m q ∷ M ys)),
        overtakes_none (key k l) (asked n f) (one_key n f k l) (mail_of m q) is (M xs) (M ys) not,
      )

-- the first of Q1, moved, changes nothing of what waits
pub moved_first : {m : List ℕ} {ps : List ℕ} {L : Lists} {W : View} {hs : List ℕ} {g : ℕ} (b : Base m ps L W hs g) (p q : ℕ) (ys : List ℕ)
    → (h : 1 ≤ count p ps)
    → L (place p q1) ≡ q ∷ ys → (y : ℕ) → 1 ≤ count y ps → waiting_for (move m p q) y ≡ waiting_for m y
moved_first {m} b p q ys h e y i = go (hit_or y p)
  where
    go : (y ≡ p) ⊎ (y ≢ p) → waiting_for (move m p q) y ≡ waiting_for m y
    go (inl z) = rw z (moved_here b p q [] ys h e ∙ sym (was_here b p q [] ys h e))
    go (inr n) = moved_away b p q [] ys h e y i n
