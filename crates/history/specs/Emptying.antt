-- A queue of the deleted one is emptied from the front: each message becomes the notice that the memory before says, or is given back, and what waits for each
-- processor grows by those notices in that order. Assumes nothing.
use Rattle.std.specs.Prelude.{◌≡◌, ◌≢◌, Bool, List, [], ◌∷◌, ◌++◌, ℕ, zero, suc, ◌/◌, ◌%◌, ◌≤◌, length, set}
use Rattle.std.proofs.Math.Path.{refl}
use Rattle.std.proofs.Common.{ap, ◌∙◌, arith}
use Rattle.std.proofs.Math.Bool.{true, false}
use Rattle.std.proofs.Math.Dec.{eqb}
use Rattle.std.proofs.lemmas.Bool.{eqb-false}
use Rattle.model.specs.Map.{is_unmarked, lower, q1, q2, upper}
use Rattle.model.specs.Map.{label, link, note, place, size}
use Rattle.model.specs.Address.{unless}
use Rattle.model.specs.Bytes.{name, store, word}
use Rattle.model.specs.Delete as Delete
use Rattle.model.specs.Bytes.{page_of, returned, emptied}
use Rattle.model.specs.Lists.{count, Lists}
use Rattle.laws.specs.Count.{hit_self, count_append}
use Rattle.laws.specs.Uses.{Sep}
use Rattle.laws.specs.Inv.{View, Message, Base}
use Rattle.laws.specs.Frames.{other}
use Rattle.laws.specs.Changes.{hand_out}
use Rattle.laws.specs.Aside.{aside_hand}
use Rattle.laws.specs.Simple.{named_in, named_same}
use Rattle.laws.specs.Who.{listed}
use Rattle.laws.specs.Delete.{Queue, emptied_end, emptied_next, base1, letter1, back, next, left, nonzero}
use Rattle.laws.specs.Delete as Deleted
use Rattle.history.specs.Letter.{Same, posts, same_on}
use Rattle.history.specs.Put.{notice_from, notice_of, returns_to, notices, notices_about}
use Rattle.history.specs.Calm.{calm_set, ours_hand}
use Rattle.history.specs.Returning.{sent_back, back_next, back_none, Grown, grown_refl, grown_then, grown_same}
use Rattle.history.specs.Returning.{give_grows, notice_grows}

-- ---- to whom message q goes back, by the memory of that moment; 0: to none
abbrev pub back_to : List ℕ → ℕ → ℕ
back_to m q = unless (is_unmarked (word m q size)) 0 (page_of m (upper (word m q note)))

module _ {m : List ℕ} {ps : List ℕ} {L : Lists} {W : View} {hs : List ℕ} {g q : ℕ} (b : Base m ps L W (q ∷ hs) g) where
  returned_grows : (n : ℕ) → 1 ≤ n → n ≤ 15 → Message (word m q note) (word m q size)
      → Grown ps m (returned m n q) (sent_back (back_to m q) (notice_from n (lower (word m q note)))) (sent_back (back_to m q) q)
  unfolding Delete.returned Delete.noticed
  returned_grows n n1 n2 t = go (is_unmarked (word m q size)) (eqb (page_of m (upper (word m q note))) 0) refl refl
    where
      go : (x y : Bool) → is_unmarked (word m q size) ≡ x → eqb (page_of m (upper (word m q note))) 0 ≡ y
          → Grown ps m (returned m n q) (sent_back (back_to m q) (notice_from n (lower (word m q note)))) (sent_back (back_to m q) q)
      go false y e f = rw e (give_grows b)
      go true true e f = rw (e, f) (give_grows b)
      go true false e f =
          let r = page_of m (upper (word m q note)) in
          let hp = named_in b (upper (word m q note)) (eqb-false r 0 f) in
          rw (e, f) (notice_grows b n (lower (word m q note)) r n1 n2 t.flag t.small hp)

-- ---- m0 is the memory before the instruction, p the deleted one: in m the messages xs go back as m0 says
pub record Aims (m0 : List ℕ) (p : ℕ) (m : List ℕ) (xs : List ℕ) : Type 0 where
  pub to : (x : ℕ) → 1 ≤ count x xs → back_to m x ≡ returns_to m0 p x
  pub flag : (x : ℕ) → 1 ≤ count x xs → word m x 1 % 16 ≡ word m0 x 1 % 16

-- words 1 and 2 of the messages stay
abbrev pub Notes : List ℕ → List ℕ → List ℕ → Type 0
Notes m m1 xs = (x j : ℕ) → 1 ≤ count x xs → 1 ≤ j → j ≤ 2 → word m1 x j ≡ word m x j

pub back_same : {m m1 : List ℕ} {ps : List ℕ} {L K : Lists} {W X : View} {hs ks : List ℕ} {g k : ℕ} → Base m ps L W hs g → Base m1 ps K X ks k
    → ((y : ℕ) → 1 ≤ count y ps → word m1 y label ≡ word m y label) → (x : ℕ) → word m1 x 1 ≡ word m x 1
    → word m1 x 2 ≡ word m x 2 → back_to m1 x ≡ back_to m x
back_same {m} {m1} {ps} b c names x e1 e2 = rw (e1, e2, listed b, listed c, named_same m m1 (word m x 1 / 16) ps names)

pub aims_on : {m0 m m1 : List ℕ} {p : ℕ} {ps xs ys : List ℕ} {L K : Lists} {W X : View} {hs ks : List ℕ} {g k : ℕ} → Base m ps L W hs g → Base m1 ps K X ks k
    → ((y : ℕ) → 1 ≤ count y ps → word m1 y label ≡ word m y label) → ((x : ℕ) → 1 ≤ count x ys → 1 ≤ count x xs) → Notes m m1 ys
    → Aims m0 p m xs → Aims m0 p m1 ys
aims_on b c names i same a = record {
  to = λ x h. back_same b c names x (same x 1 h (omega arith) (omega arith)) (same x 2 h (omega arith) (omega arith)) ∙ a.to x (i x h);
  flag = λ x h. ap (λ (v : ℕ). v % 16) (same x 1 h (omega arith) (omega arith)) ∙ a.flag x (i x h);
}

-- ---- the queue with header word w of page p
module _ (m0 : List ℕ) (p w n : ℕ) (u : q1 ≤ w) (v : w ≤ q2) (n1 : 1 ≤ n) (n2 : n ≤ 15) (is : n ≡ name m0 p) (ps rest : List ℕ) (g : ℕ)
    (hp : 1 ≤ count p rest) where
  module _ {m : List ℕ} {x : ℕ} {xs : List ℕ} (q : Queue m ps p w (x ∷ xs) rest g) (a : Aims m0 p m (x ∷ xs)) where
    in_p : 1 ≤ count p (x ∷ xs ++ rest)
    in_p = omega (arith, count_append p xs rest)

    in_x : 1 ≤ count x (x ∷ xs ++ rest)
    in_x = omega (arith, hit_self x)

    abbrev m1 : List ℕ
    m1 = Deleted.m1 p w n u v n1 n2 ps rest g hp q

    abbrev m2 : List ℕ
    m2 = Deleted.m2 p w n u v n1 n2 ps rest g hp q

    s : Sep ps q.lists
    s = q.base.facts.sep

    off : (y z : ℕ) → 1 ≤ count y ps → 1 ≤ count z (x ∷ xs ++ rest) → y ≢ z
    off y z h i e = omega (arith, ap (λ (k : ℕ). count k ps) e, hand_out q.base z i)

    -- it leaves
    step1 : Grown ps m m1 [] []
    step1 =
        let h = place p w in
        let r = word m x link in
        let c1 : Same ps q.lists m (set m h r) = calm_set m h r (λ c o. ours_hand s o p w (aside_hand q.base p in_p) (omega arith)) in
        let c2 : Same ps q.lists m m1 =
        same_on c1 (calm_set (set m h r) (place x link) 0 (λ c o. ours_hand s o x 0 (aside_hand q.base x in_x) (omega arith))) in
        grown_same q.base (posts c2) ps (λ y i. i) (λ y i.
        other (set m h r) (place x link) 0 (place y label) (omega arith) ∙ other m h r (place y label) (omega arith))

    b1 : (X : View) × Base m1 ps q.lists X (x ∷ xs ++ rest) g
    b1 = (_, base1 p w n u v n1 n2 ps rest g hp q)

    notes1 : Notes m m1 (x ∷ xs)
    notes1 y j i l k =
        other (store m p w (word m x link)) (place x link) 0 (place y j) (omega arith)
        ∙ other m (place p w) (word m x link) (place y j) (omega arith)

    aims1 : Aims m0 p m1 (x ∷ xs)
    aims1 = aims_on q.base b1.1 step1.names (λ y i. i) notes1 a

    -- and is returned
    step2 : Grown ps m1 m2 (sent_back (returns_to m0 p x) (notice_from (name m0 p) (word m0 x 1 % 16))) (sent_back (returns_to m0 p x) x)
    step2 =
        let hx : 1 ≤ count x (x ∷ xs) = omega (arith, hit_self x) in
        rw (← aims1.to x hx, ← aims1.flag x hx, ← is) (returned_grows b1.1 n n1 n2 (letter1 p w n u v n1 n2 ps rest g hp q x hx))

    pub step : Grown ps m m2 (sent_back (returns_to m0 p x) (notice_from (name m0 p) (word m0 x 1 % 16))) (sent_back (returns_to m0 p x) x)
    step = grown_then step1 step2

    pub aims : Aims m0 p m2 xs
    aims =
        let r = back p w n u v n1 n2 ps rest g hp q in
        aims_on b1.1 r.base step2.names (λ y i. omega arith) (λ y j i l k. r.still y j (omega (arith, count_append y xs rest)) (omega arith)) aims1

  pub emptied_grows : (xs : List ℕ) (i : ℕ) → length xs ≤ i → {m : List ℕ} → Queue m ps p w xs rest g → Aims m0 p m xs
      → Grown ps m (emptied i m n (place p w)) (notices m0 p xs) (notices_about m0 p xs)
  emptied_grows [] i l {m} q a = rw (emptied_end i m n (place p w) q.chain, back_none (notice_of m0 p) m0 p, back_none (λ y. y) m0 p) (grown_refl ps m)
  emptied_grows (x ∷ xs) zero l q a = absurd (omega arith)
  emptied_grows (x ∷ xs) (suc i) l {m} q a =
      let t = emptied_grows xs i (omega arith) (next p w n u v n1 n2 ps rest g hp q) (aims q a) in
      rw (
        back_next (notice_of m0 p) m0 p x xs,
        back_next (λ y. y) m0 p x xs,
        emptied_next i m n (place p w) x (Deleted.first p w n u v n1 n2 ps rest g hp q) (nonzero p w n u v n1 n2 ps rest g hp q),
        left p w n u v n1 n2 ps rest g hp q,
      ) (grown_then (step q a) t)
