-- A message in hand, delivered to the processor of page p: it stands at the end of Q1 of p, behind all that waits for p; for every other processor all stays as
-- it was, word for word. Assumes nothing.
use Rattle.std.specs.Prelude.{◌≡◌, ◌≢◌, ◌⊎◌, List, [], ◌∷◌, ◌++◌, map, ℕ, ◌≤◌}
use Rattle.std.proofs.Common.{sym, ap, ◌∙◌, inl, inr, append_assoc, arith}
use Rattle.model.specs.Map.{last_flag, lower, pair, place, q1, q2, upper}
use Rattle.model.specs.Bytes.{deliver, queue, make_notice}
use Rattle.model.specs.Lists.{count, Lists}
use Rattle.laws.specs.Count.{hit_or, hit_other, count_append}
use Rattle.laws.specs.Inv.{View, Message, Base}
use Rattle.laws.specs.Post.{Delivered, deliver_all, deliver_frame, notice_words}
use Rattle.laws.specs.Mails.{mail_queue}
use Rattle.history.specs.Letter.{mail_of, map_append, waiting_for, held, waits_held, words, Texted, held_through}
use Rattle.history.specs.Put.{notice_from}

-- ---- the message of a notice in hand
pub notice_mail : {m : List ℕ} {ps : List ℕ} {L : Lists} {W : View} {hs : List ℕ} {g q : ℕ} (b : Base m ps L W (q ∷ hs) g) (n f : ℕ) → f ≤ last_flag
    → mail_of (make_notice m q n f) q ≡ notice_from n f
unfolding mail_of words
notice_mail b n f l =
    let e1 : upper (pair n f) ≡ n = omega arith in
    let e2 : lower (pair n f) ≡ f = omega arith in
    rw ((notice_words b n f).0, (notice_words b n f).1, e1, e2)

-- ---- the delivery
module _ {m : List ℕ} {ps : List ℕ} {L : Lists} {W : View} {hs : List ℕ} {g q : ℕ} (b : Base m ps L W (q ∷ hs) g) (p : ℕ) (hp : 1 ≤ count p ps)
    (t : Message (W.note q) (W.size q)) where
  -- the text of every page that is no processor's stays
  pub delivered_texts : Texted ps m (deliver m p q)
  delivered_texts = record {
    at = λ x px o j k l.
        let d : p ≢ x = λ c. omega (arith, ap (λ (z : ℕ). count z ps) c) in
        deliver_frame b p hp t (place x j) (λ i u. omega arith) (omega arith) (omega arith) (λ z i. omega arith);
  }

  all : Delivered b p hp t (deliver m p q)
  all = deliver_all b p hp t

  pub delivered_last : map (mail_of (deliver m p q)) (queue (deliver m p q) (place p q1)) ≡ map (mail_of m) (queue m (place p q1)) ++ mail_of m q ∷ []
  delivered_last =
      held_through all.gave.base delivered_texts p q1 hp (omega arith) (omega arith)
      ∙ rw (all.here, mail_queue b p q1 hp (omega arith) (omega arith)) (map_append (mail_of m) (L (place p q1)) (q ∷ []))

  -- every other list of messages stays
  stays : (y w : ℕ) → 1 ≤ count y ps → q1 ≤ w → w ≤ q2 → place y w ≢ place p q1 → held (deliver m p q) y w ≡ held m y w
  stays y w h u v n =
      held_through all.gave.base delivered_texts y w h u v
      ∙ rw (all.others (place y w) n (omega arith), mail_queue b y w h u v)

  pub delivered_other : (y : ℕ) → 1 ≤ count y ps → y ≢ p
      → map (mail_of (deliver m p q)) (queue (deliver m p q) (place y q1)) ≡ map (mail_of m) (queue m (place y q1))
  delivered_other y h n = stays y q1 h (omega arith) (omega arith) (omega arith)

  pub delivered_here : waiting_for (deliver m p q) p ≡ waiting_for m p ++ mail_of m q ∷ []
  delivered_here =
      let e5 : held (deliver m p q) p q1 ≡ held m p q1 ++ mail_of m q ∷ [] = delivered_last in
      let e6 : held (deliver m p q) p q2 ≡ held m p q2 = stays p q2 hp (omega arith) (omega arith) (omega arith) in
      rw (waits_held (deliver m p q) p, waits_held m p, e5, e6) (sym (append_assoc (held m p q2) (held m p q1) (mail_of m q ∷ [])))

  pub delivered_away : (y : ℕ) → 1 ≤ count y ps → y ≢ p → waiting_for (deliver m p q) y ≡ waiting_for m y
  delivered_away y h n =
      let e5 : held (deliver m p q) y q1 ≡ held m y q1 = stays y q1 h (omega arith) (omega arith) (omega arith) in
      let e6 : held (deliver m p q) y q2 ≡ held m y q2 = stays y q2 h (omega arith) (omega arith) (omega arith) in
      rw (waits_held (deliver m p q) y, waits_held m y, e5, e6)

  -- by pages: it is the one that is new
  pub delivered_from : (y w x : ℕ) → 1 ≤ count y ps → q1 ≤ w → w ≤ q2 → 1 ≤ count x (queue (deliver m p q) (place y w))
      → (1 ≤ count x (queue m (place y w))) ⊎ (x ≡ q)
  delivered_from y w x h u v i = go (hit_or y p) (hit_or w q1)
    where
      i2 : 1 ≤ count x (all.gave.lists (place y w))
      i2 = rw (mail_queue all.gave.base y w h u v) at i

      away : place y w ≢ place p q1 → 1 ≤ count x (queue m (place y w))
      away n = rw (mail_queue b y w h u v) (rw (all.others (place y w) n (omega arith)) at i2)

      here : y ≡ p → w ≡ q1 → (x ≡ q) ⊎ (x ≢ q) → (1 ≤ count x (queue m (place y w))) ⊎ (x ≡ q)
      here e f (inl z) = inr z
      here e f (inr d) =
          let i3 = rw (e, f, all.here) at i2 in
          inl (rw (mail_queue b y w h u v, e, f) (omega (arith, i3, count_append x (L (place p q1)) (q ∷ []), hit_other x q d)))

      go : (y ≡ p) ⊎ (y ≢ p) → (w ≡ q1) ⊎ (w ≢ q1) → (1 ≤ count x (queue m (place y w))) ⊎ (x ≡ q)
      go (inl e) (inl f) = here e f (hit_or x q)
      go (inl e) (inr f) = inl (away (omega arith))
      go (inr e) f = inl (away (omega arith))

  pub delivered_pages : queue (deliver m p q) (place p q1) ≡ queue m (place p q1) ++ q ∷ []
  delivered_pages =
      mail_queue all.gave.base p q1 hp (omega arith) (omega arith) ∙ all.here
      ∙ ap (λ (l : List ℕ). l ++ q ∷ []) (sym (mail_queue b p q1 hp (omega arith) (omega arith)))

  pub delivered_else : (y : ℕ) → 1 ≤ count y ps → y ≢ p → queue (deliver m p q) (place y q1) ≡ queue m (place y q1)
  delivered_else y h n =
      mail_queue all.gave.base y q1 h (omega arith) (omega arith) ∙ all.others (place y q1) (omega arith) (omega arith)
      ∙ sym (mail_queue b y q1 h (omega arith) (omega arith))
