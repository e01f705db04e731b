-- Instructions: RME, "sender, flag, length, text to A on, one word each". After the call each word of what was read stands from A on, where the one that read
-- finds it; if another runs now, those of page 0 are kept on its page. Assumes nothing.
use Rattle.std.specs.Prelude.{◌≡◌, refl, ◌≢◌, true, List, [], ◌∷◌, ◌++◌, length, set}
use Rattle.std.proofs.Common.{sym, ap, ◌∙◌, length-set, get_or-set_same}
use Prim.Native.Nat.{ℕ, zero, suc, ◌+◌, ◌%◌, ◌≤◌, ◌<◌}
use native.Mathlib.Omega.{arith}
use Rattle.std.proofs.Math.ListN.{get_or}
use Rattle.model.specs.Map.{free_list, grant_for, head_words, length_in, longest, lower, memory_size, note, page_queue, place}
use Rattle.model.specs.Map.{processor_list, q2, running_label, running_page, size, upper}
use Rattle.model.specs.Map.{text}
use Rattle.model.specs.Map.{head_words}
use Rattle.model.specs.Address.{wrapped, clear}
use Rattle.model.specs.Mail as Mail
use Rattle.model.specs.Operate as Operate
use Rattle.model.specs.Answer.{memory_of}
use Rattle.model.specs.Instruction as Instruction
use Rattle.model.specs.Instruction.{shape_for}
use Rattle.model.specs.Bytes as Model
use Rattle.model.specs.Bytes.{lists, queue, running, leave, copy, copy_out, give_back, direct, pointed}
use Rattle.model.specs.Lists.{count, Lists}
use Rattle.laws.specs.Count.{count_mid}
use Rattle.laws.specs.Chain.{Page}
use Rattle.laws.specs.Uses.{proc_page}
use Rattle.laws.specs.Places.{in_free, in_q, grant_high, all_pages_lem, wait_page}
use Rattle.laws.specs.Inv.{View, view, Base}
use Rattle.laws.specs.Judged.{WellFormed}
use Rattle.laws.specs.Frames.{other, base_kept, copy_far}
use Rattle.laws.specs.Words.{Small}
use Rattle.laws.specs.JoinLeave.{leave_frame}
use Rattle.laws.specs.Changes.{hand_page}
use Rattle.laws.specs.Hands.{in_hand, take_mail}
use Rattle.laws.specs.Grants.{give_back_lem, give_frame}
use Rattle.laws.specs.Who.{running_at, busy}
use Rattle.laws.specs.Mails.{mail_queue, out_kept, clear_at}
use Rattle.laws.specs.Simple.{Open, clear_open}
use Rattle.history.specs.Letter.{Letter, mail_of, words, letter_sized}
use Rattle.history.specs.Ways.{rme_both}
use Rattle.history.specs.Put.{Log, Mailed, nothing, reading, rme_mail}
use Rattle.history.specs.Tests.{Found, found}
use Rattle.history.specs.Copied.{copy_at, words_at}
use Rattle.history.specs.Went.{went_to, done_went}

-- a letter as RME writes it
abbrev pub spelled : Letter → List ℕ
spelled x = x.sender ∷ x.flag ∷ x.size ∷ x.text

-- from m to m' with the mail e: who read is the one that ran, and what was read stands from the target on
pub record Written (m m' : List ℕ) (e : Mailed) : Type 0 where
  pub ran : (r : ℕ) (x : Letter) → e.reads ≡ (r, x) ∷ [] → r ≡ running m
  pub at : (r : ℕ) (x : Letter) → e.reads ≡ (r, x) ∷ [] → (i : ℕ) → i < head_words + x.size
      → get_or m' (went_to m' r (wrapped e.target i)) 0 ≡ get_or (spelled x) i 0

no_read : (r : ℕ) (x : Letter) → ◌≡◌ {A = Log} [] ((r, x) ∷ []) → ⊥
no_read r x e = omega (arith, ap (λ (l : Log). length l) e)

pub written_empty : (m m' : List ℕ) (e : Mailed) → e.reads ≡ [] → Written m m' e
written_empty m m' e n = record {
  ran = λ r x k. absurd (no_read r x (sym n ∙ k));
  at = λ r x k i h. absurd (no_read r x (sym n ∙ k));
}

pub written_none : (m m' : List ℕ) → Written m m' nothing
written_none m m' = written_empty m m' nothing refl

-- one letter was read
first_of : ℕ × Letter → Log → ℕ × Letter
first_of y [] = y
first_of y (x ∷ xs) = x

same_one : (y z : ℕ × Letter) → ◌≡◌ {A = Log} (y ∷ []) (z ∷ []) → y ≡ z
unfolding first_of
same_one y z e = ap (first_of y) e

written_one : (m m' : List ℕ) (x : Letter) (a : ℕ)
    → ((i : ℕ) → i < 3 + x.size → get_or m' (went_to m' (running m) (wrapped a i)) 0 ≡ get_or (spelled x) i 0)
    → Written m m' (reading (running m) x a)
written_one m m' x a h = record {
  ran = λ r y k. sym (ap (λ (p : ℕ × Letter). p.0) (same_one (running m, x) (r, y) k));
  at = λ r y k i l.
      let e0 : running m ≡ r = ap (λ (p : ℕ × Letter). p.0) (same_one (running m, x) (r, y) k) in
      let e1 : x ≡ y = ap (λ (p : ℕ × Letter). p.1) (same_one (running m, x) (r, y) k) in
      rw (← e0) (h i (omega (arith, l, ap (λ (z : Letter). z.size) e1)) ∙ ap (λ (z : Letter). get_or (spelled z) i 0) e1);
}

-- ---- a page given back leaves unprotected words
pub give_open : {m : List ℕ} {ps : List ℕ} {L : Lists} {W : View} {hs : List ℕ} {g q : ℕ} → Base m ps L W (q ∷ hs) g → (c : ℕ) → Open c
    → get_or (give_back m q) c 0 ≡ get_or m c 0
give_open {ps = ps} {q = q} b c o = let s = b.facts.sep in give_frame b c (record {
  low = λ a u v. o.between a (omega arith) (omega arith);
  grant = λ k u. o.between (grant_for k) (omega arith) (omega arith);
  hand = let pq = hand_page b q (in_hand b) in omega (arith, o.below);
  free = λ z j. let t = all_pages_lem s free_list z (in_free ps) j in omega (arith, o.below);
  waiter = λ p j.
      let t = proc_page s p (wait_page s page_queue p (omega arith) j) in
      (omega (arith, o.below), omega (arith, o.below), omega (arith, o.below));
})

-- ---- what RME writes
ring : (a i j : ℕ) → i < memory_size → j < memory_size → i ≢ j → wrapped a i ≢ wrapped a j
ring a i j h k n = omega arith

third : (a j : ℕ) → (wrapped a 3 + j) % memory_size ≡ (a + (3 + j)) % memory_size
third a j = omega arith

module _ (m : List ℕ) (q a : ℕ) (z : length m ≡ memory_size) (pq : Page q) (la : a < memory_size) (sized : length_in (Model.word m q size) ≤ longest)
    (cl : clear (3 + length_in (Model.word m q size)) a ≡ true) where
  abbrev n : ℕ
  n = length_in (Model.word m q size)

  abbrev m1 : List ℕ
  m1 = set m a (upper (Model.word m q note))

  abbrev m2 : List ℕ
  m2 = set m1 (wrapped a 1) (lower (Model.word m q note))

  abbrev m3 : List ℕ
  m3 = set m2 (wrapped a 2) n

  abbrev m4 : List ℕ
  m4 = copy n m3 (place q text) (wrapped a 3)

  opened : (i : ℕ) → i < 3 + n → Open (wrapped a i)
  opened i h = clear_open (wrapped a i) (clear_at (3 + n) a cl i h)

  before : (i : ℕ) → i < 3 → get_or m4 (wrapped a i) 0 ≡ get_or m3 (wrapped a i) 0
  before i h =
      copy_far n m3 (place q text) (wrapped a 3) (wrapped a i) (omega arith)
      (λ j k. rw (third a j) (ring a i (3 + j) (omega arith) (omega arith) (omega arith)))

  at0 : wrapped a 0 ≡ a
  at0 = omega (arith, la)

  out_0 : get_or m4 (wrapped a 0) 0 ≡ upper (Model.word m q note)
  out_0 =
      before 0 (omega arith) ∙ other m2 (wrapped a 2) n (wrapped a 0) (ring a 0 2 (omega arith) (omega arith) (omega arith))
      ∙ other m1 (wrapped a 1) (lower (Model.word m q note)) (wrapped a 0) (ring a 0 1 (omega arith) (omega arith) (omega arith))
      ∙ rw at0 (get_or-set_same m a (upper (Model.word m q note)) 0 (omega (arith, z, la)))

  size1 : length m1 ≡ memory_size
  size1 = simp length-set z

  size2 : length m2 ≡ memory_size
  size2 = simp length-set z

  size3 : length m3 ≡ memory_size
  size3 = simp length-set z

  out_1 : get_or m4 (wrapped a 1) 0 ≡ lower (Model.word m q note)
  out_1 =
      before 1 (omega arith) ∙ other m2 (wrapped a 2) n (wrapped a 1) (ring a 1 2 (omega arith) (omega arith) (omega arith))
      ∙ get_or-set_same m1 (wrapped a 1) (lower (Model.word m q note)) 0 (omega (arith, size1))

  out_2 : get_or m4 (wrapped a 2) 0 ≡ n
  out_2 = before 2 (omega arith) ∙ get_or-set_same m2 (wrapped a 2) n 0 (omega (arith, size2))

  out_text : (k : ℕ) → k < n → get_or m4 ((a + (3 + k)) % memory_size) 0 ≡ get_or (words m (place q text) n) k 0
  out_text k h =
      let e : (place q text + k) % memory_size ≡ place q text + k = omega (arith, pq, sized) in
      let o0 = (opened 0 (omega arith)).below in
      let o1 = (opened 1 (omega arith)).below in
      let o2 = (opened 2 (omega arith)).below in
      let c = copy_at n m3 (place q text) (wrapped a 3) size3 (omega (arith, sized)) (omega (arith, pq)) (omega arith) (λ i j hi hj. apart i j hi hj) k h in
      rw (third a k) at c ∙ rw e (other m2 (wrapped a 2) n (place q text + k) (omega (arith, pq))
      ∙ other m1 (wrapped a 1) (lower (Model.word m q note)) (place q text + k) (omega (arith, pq))
      ∙ other m a (upper (Model.word m q note)) (place q text + k) (omega (arith, pq, at0)))
      ∙ sym (rw e at (words_at m (place q text) n k (omega (arith, pq)) h))
    where
      apart : (i j : ℕ) → i < n → j < n → (place q text + i) % memory_size ≢ (wrapped a 3 + j) % memory_size
      apart i j hi hj =
          let e : (place q text + i) % memory_size ≡ place q text + i = omega (arith, pq, sized) in
          let o = (opened (3 + j) (omega arith)).below in
          rw (third a j, e) (omega (arith, pq))

  pub out_at : (i : ℕ) → i < 3 + n → get_or (copy_out m q a) (wrapped a i) 0 ≡ get_or (spelled (mail_of m q)) i 0
  unfolding Mail.copy_out mail_of
  out_at zero h = out_0
  out_at (suc zero) h = out_1
  out_at (suc (suc zero)) h = out_2
  out_at (suc (suc (suc k))) h = let e : 3 + k ≡ suc (suc (suc k)) = omega arith in rw e at (out_text k (omega arith))

size_is : (m : List ℕ) (q : ℕ) → (mail_of m q).size ≡ length_in (Model.word m q size)
unfolding mail_of
size_is m q = refl

-- ---- the instruction
module _ {m : List ℕ} (w : WellFormed m) (d : running m ≢ 0) where
  open busy w d use {base as b, runs as hr}

  abbrev r : ℕ
  r = running m

  pr : Page r
  pr = proc_page b.facts.sep r hr

  module _ (q a : ℕ) (xs ys : List ℕ) (e : lists m (place r q2) ≡ xs ++ q ∷ ys) (la : a < memory_size)
      (cl : clear (3 + length_in (Model.word m q size)) a ≡ true) where
    in6 : 1 ≤ count q (lists m (place r q2))
    in6 = rw e (count_mid q xs ys)

    pq : Page q
    pq = all_pages_lem b.facts.sep (place r q2) q (in_q (lists m processor_list) r q2 (omega arith) (omega arith) hr) in6

    sized : length_in (Model.word m q size) ≤ longest
    sized = letter_sized b r q2 q hr (omega arith) (omega arith) in6

    abbrev x : List ℕ
    x = copy_out m q a

    bx : Base x (lists m processor_list) (lists m) (view m) [] 32
    bx = base_kept (out_kept m q a cl) b

    abbrev x1 : List ℕ
    x1 = leave x (place r q2) 0 q

    abbrev x2 : List ℕ
    x2 = give_back x1 q

    -- nothing that it does then touches an unprotected word
    received_open : (c : ℕ) → Open c → get_or x2 c 0 ≡ get_or x c 0
    received_open c o =
        let lc = o.below in
        let i6 = in_q (lists m processor_list) r q2 (omega arith) (omega arith) hr in
        give_open (take_mail bx r q2 q xs ys hr (omega arith) (omega arith) e) c o
        ∙ leave_frame b.facts.sep bx.mem (place r q2) (i6, grant_high (place r q2) (omega (arith, pr))) (omega (arith, pr)) q xs ys e c
        (omega (arith, pr)) (λ z i. let t = all_pages_lem b.facts.sep (place r q2) z i6 i in omega arith)

    run2 : running x2 ≡ running m
    run2 =
        let g2 = give_back_lem (take_mail bx r q2 q xs ys hr (omega arith) (omega arith) e) in
        running_at g2.base ∙ ap (λ (z : ℕ → ℕ). z running_page) g2.low

    size_x2 : length x2 ≡ memory_size
    size_x2 = (give_back_lem (take_mail bx r q2 q xs ys hr (omega arith) (omega arith) e)).base.mem.size

    received_written : (len : ℕ) → Written m (memory_of (Model.done (Model.received m q a) len)) (reading r (mail_of m q) a)
    unfolding Operate.received
    received_written len = written_one m (memory_of (Model.done x2 len)) (mail_of m q) a (λ i h. word i (rw (size_is m q) at h))
      where
        word : (i : ℕ) → i < 3 + length_in (Model.word m q size)
            → get_or (memory_of (Model.done x2 len)) (went_to (memory_of (Model.done x2 len)) (running m) (wrapped a i)) 0 ≡ get_or (spelled (mail_of m q)) i 0
        word i h =
            let o : Open (wrapped a i) = clear_open (wrapped a i) (clear_at (3 + length_in (Model.word m q size)) a cl i h) in
            let t = done_went x2 size_x2 (rw run2 pr) len (wrapped a i) o.below (o.between running_page (omega arith) (omega arith))
            (o.between running_label (omega arith) (omega arith)) in
            rw run2 at t ∙ received_open (wrapped a i) o ∙ out_at m q a b.mem.size pq la sized cl i h

  pub rme_written : (n f a len : ℕ) → a < memory_size → Written m (memory_of (Model.rme m n f a len)) (rme_mail m n f a)
  rme_written n f a len la = rme_both m (λ o e. Written m (memory_of o) e) (λ f i j. written_none m _) n f a len (λ g.
      let t : Found m n f (Model.in_q2 m n f) (queue m (place r q2)) = found m n f (queue m (place r q2)) g.found in
      received_written (Model.in_q2 m n f) a t.before t.behind (sym q6 ∙ t.is) la g.target len)
    where
      q6 : queue m (place r q2) ≡ lists m (place r q2)
      q6 = mail_queue b r q2 hr (omega arith) (omega arith)

-- ---- the address that RME names, direct or by EXI, is below 8,192 where words have 8 bits
pub direct_address : (m : List ℕ) → Small m → (n c : ℕ) → c ≡ 6 → (direct m n (shape_for c)).address < memory_size
unfolding Instruction.direct
direct_address m s n c e = rw e (omega (arith, s.at ((wrapped n 2 + 1) % memory_size)))

pub pointed_address : (m : List ℕ) → Small m → (c e : ℕ) → c ≡ 6 → (pointed m e (shape_for c)).address < memory_size
unfolding Instruction.pointed
pointed_address m s c e k = rw k (omega (arith, s.at ((wrapped e 2 + 1) % memory_size)))
