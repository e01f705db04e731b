-- A deletion marks what the deleted one sent. A mark is no part of a message: kind, sender, flag, length and text stay, and so does what waits for everyone.
-- Assumes nothing.
use Rattle.std.specs.Prelude.{◌≡◌, refl, ◌⊎◌, List, [], ◌∷◌, map, ℕ, ◌+◌, ◌%◌, ◌≤◌, ◌<◌, eqb}
use Rattle.std.proofs.Common.{inl, inr, ne_eqb}
use native.Mathlib.Omega.{arith}
use Rattle.model.specs.Map.{length_in, longest, memory_size, note, notice, place, q1, q2, size, text, word_values}
use Rattle.model.specs.Bytes.{queue, word}
use Rattle.model.specs.Lists.{count, Lists}
use Rattle.laws.specs.Count.{hit_self}
use Rattle.laws.specs.Chain.{Page}
use Rattle.laws.specs.Places.{q_free}
use Rattle.laws.specs.Inv.{Base, View}
use Rattle.laws.specs.Mails.{mail_queue}
use Rattle.laws.specs.Marking.{Fate, Marked, marked_base, marked_fate, marked_word}
use Rattle.laws.specs.Marking.Fate.{marks, stays}
use Rattle.history.specs.Letter.{mail_of, words, words_moved, waiting_for, waits_held, held, letter_sized}

-- ---- word 2: a mark makes no notice, and leaves the length
fate_notice : {n w v x : ℕ} → Fate n w v x → eqb x notice ≡ eqb v notice
fate_notice {v = v} (marks l e d) = rw (d, ne_eqb (v + 64) notice (omega arith), ne_eqb v notice (omega arith))
fate_notice (stays h d) = rw d

fate_length : {n w v x : ℕ} → Fate n w v x → length_in x ≡ length_in v
fate_length (marks l e d) = rw d (omega arith)
fate_length (stays h d) = rw d

module _ {n : ℕ} {xs : List ℕ} {m m1 : List ℕ} (t : Marked n xs m m1) where
  same_notice : (x : ℕ) → eqb (word m1 x size) notice ≡ eqb (word m x size) notice
  same_notice x = go (marked_fate t x)
    where
      go : Fate n (word m x note) (word m x size) (word m1 x size) ⊎ (word m1 x size ≡ word m x size) → eqb (word m1 x size) notice ≡ eqb (word m x size) notice
      go (inl f) = fate_notice f
      go (inr e) = rw e

  same_length : (x : ℕ) → length_in (word m1 x size) ≡ length_in (word m x size)
  same_length x = go (marked_fate t x)
    where
      go : Fate n (word m x note) (word m x size) (word m1 x size) ⊎ (word m1 x size ≡ word m x size) → length_in (word m1 x size) ≡ length_in (word m x size)
      go (inl f) = fate_length f
      go (inr e) = rw e

  -- ---- the message
  pub marked_mail : (x : ℕ) → x < word_values → length_in (word m x size) ≤ longest → mail_of m1 x ≡ mail_of m x
  unfolding mail_of
  marked_mail x g l =
      let k = length_in (word m x size) in
      let w : words m1 (place x text) k ≡ words m (place x text) k = words_moved m m1 (place x text) (place x text) k (omega arith) (omega arith) (λ i u.
      let e : (place x text + i) % memory_size ≡ place x (text + i) = omega arith in rw e (marked_word t x (text + i) (omega arith) (omega arith))) in
      rw (same_notice x, marked_word t x note (omega arith) (omega arith), same_length x, w)

  -- ---- what waits
  module _ {ps : List ℕ} {L : Lists} {W : View} {hs : List ℕ} {g : ℕ} (b : Base m ps L W hs g)
      (free : (x : ℕ) → 1 ≤ count x xs → Page x × (count x ps ≡ 0)) where
    pub marked_queue : (p w : ℕ) → 1 ≤ count p ps → q1 ≤ w → w ≤ q2 → queue m1 (place p w) ≡ L (place p w)
    marked_queue p w h u v = mail_queue (marked_base t b free) p w h u v

    mails : (zs : List ℕ) → ((z : ℕ) → 1 ≤ count z zs → mail_of m1 z ≡ mail_of m z) → map (mail_of m1) zs ≡ map (mail_of m) zs
    mails [] h = refl
    mails (z ∷ zs) h = rw (h z (omega (arith, hit_self z)), mails zs (λ y i. h y (omega arith)))

    pub marked_held : (p w : ℕ) → 1 ≤ count p ps → q1 ≤ w → w ≤ q2 → held m1 p w ≡ held m p w
    marked_held p w h u v =
        rw (marked_queue p w h u v, mail_queue b p w h u v) (mails (L (place p w)) (λ z i.
        let f = q_free b.facts.sep p w z u v h i in marked_mail z (omega (arith, f.0)) (letter_sized b p w z h u v i)))

    pub marked_waits : (p : ℕ) → 1 ≤ count p ps → waiting_for m1 p ≡ waiting_for m p
    marked_waits p h =
        rw (waits_held m1 p, waits_held m p, marked_held p q2 h (omega arith) (omega arith), marked_held p q1 h (omega arith) (omega arith))
