-- A message as a value, read off its page: mail or a notice, sender, flag, length and text. It depends on words 1 to 31 of the page alone. What a
-- processor's Q2 and Q1 hold, and that a step which leaves their headers and pages alone leaves them; one that leaves only the texts shows them by its
-- lists. Assumes nothing.
use Rattle.std.specs.Prelude.{◌≡◌, refl, Bool, true, false, ◌&&◌, List, [], ◌∷◌, ◌++◌, map, ℕ, zero, suc, ◌+◌, ◌*◌, ◌%◌, ◌≤◌, ◌<◌, get_or, eqb}
use Rattle.std.proofs.Common.{sym, ◌∙◌, arith, eqb-true}
use Rattle.model.specs.Map.{control_pages, list_link, lower, upper}
use Rattle.model.specs.Map as Map
use Rattle.model.specs.Map.{length_in, notice, page_size, word_values, link, longest, memory_size, note, processor_list}
use Rattle.model.specs.Bytes.{word}
use Rattle.model.specs.Map.{label, place, q1, q2, text}
use Rattle.model.specs.Address.{wrapped}
use Rattle.model.specs.Mail.{fits}
use Rattle.model.specs.Bytes.{queue, processors, sender, flag, length_of, is_notice}
use Rattle.model.specs.Lists.{count, Lists}
use Rattle.laws.specs.Count.{hit_self}
use Rattle.laws.specs.Chain.{Page, Chain, chain_move, walk_chain}
use Rattle.laws.specs.Queues.{link_procs}
use Rattle.laws.specs.Uses.{Head, list_short}
use Rattle.laws.specs.Places.{in_q, in_procs, q_free, grant_low}
use Rattle.laws.specs.Inv.{View, Base}
use Rattle.laws.specs.Mails.{mail_chain, mail_queue}
use Rattle.history.specs.Order.{only}

-- ---- a message: a notice, or mail
pub record Letter : Type 0 where
  pub notice : Bool
  pub sender : ℕ
  pub flag : ℕ
  pub size : ℕ
  pub text : List ℕ

-- n words from address a on
unfoldable pub words : List ℕ → ℕ → ℕ → List ℕ
words m a zero = []
words m a (suc n) = get_or m a 0 ∷ words m (wrapped a 1) n

-- the message of page q; a notice has length 0
unfoldable pub mail_of : List ℕ → ℕ → Letter
mail_of m q = record { notice = is_notice m q; sender = sender m q; flag = flag m q; size = length_of m q; text = words m (place q text) (length_of m q) }

-- of sender s with flag f
unfoldable pub key : ℕ → ℕ → Letter → Bool
key s f x = eqb s x.sender && eqb f x.flag

-- those of one sender and flag, in their order
abbrev pub of_sender_and_flag : ℕ → ℕ → List Letter → List Letter
of_sender_and_flag s f = only (key s f)

-- what waits for the processor of page p, Q2 then Q1
unfoldable pub waiting_for : List ℕ → ℕ → List Letter
waiting_for m p = map (mail_of m) (queue m (place p q2) ++ queue m (place p q1))

-- ---- the test of an instruction does not tell apart what has one key
pub and_true : (a b : Bool) → a && b ≡ true → (a ≡ true) × (b ≡ true)
and_true true b e = (refl, e)
and_true false b e = (cc, cc)

abbrev pub asked : ℕ → ℕ → Letter → Bool
asked n f x = fits n f (x.sender * 16 + x.flag)

pub one_key : (n f s g : ℕ) (x y : Letter) → key s g x ≡ true → key s g y ≡ true → asked n f x ≡ asked n f y
unfolding key
one_key n f s g x y p q =
    let a : (eqb s x.sender ≡ true) × (eqb g x.flag ≡ true) = and_true _ _ p in
    let b : (eqb s y.sender ≡ true) × (eqb g y.flag ≡ true) = and_true _ _ q in
    let u : x.sender ≡ y.sender = cc (eqb-true s x.sender a.0, eqb-true s y.sender b.0) in
    let v : x.flag ≡ y.flag = cc (eqb-true g x.flag a.1, eqb-true g y.flag b.1) in
    rw (u, v)

pub asked_page : (m : List ℕ) (n f q : ℕ) → asked n f (mail_of m q) ≡ fits n f (word m q note)
unfolding mail_of
asked_page m n f q = let e : upper (word m q note) * 16 + lower (word m q note) ≡ word m q note = omega arith in rw e

-- ---- texts that are equal word for word
pub next_sum : (a i : ℕ) → (wrapped a 1 + i) % memory_size ≡ (a + suc i) % memory_size
next_sum a i = omega arith

pub first_sum : (a : ℕ) → a < memory_size → wrapped a 0 ≡ a
first_sum a l = omega arith

pub sum_below : (a : ℕ) → wrapped a 1 < memory_size
sum_below a = omega arith

pub words_moved : (m m' : List ℕ) (a b n : ℕ) → a < memory_size → b < memory_size → ((i : ℕ) → i < n → get_or m' (wrapped b i) 0 ≡ get_or m (wrapped a i) 0)
    → words m' b n ≡ words m a n
unfolding words
words_moved m m' a b zero la lb h = refl
words_moved m m' a b (suc n) la lb h =
    let ea : wrapped a 0 ≡ a = first_sum a la in
    let eb : wrapped b 0 ≡ b = first_sum b lb in
    let h0 = rw (ea, eb) at (h 0 (omega arith)) in
    rw (
      h0,
      words_moved m m' (wrapped a 1) (wrapped b 1) n (sum_below a) (sum_below b) (λ i q.
          let da : (wrapped a 1 + i) % memory_size ≡ (a + suc i) % memory_size = next_sum a i in
          let db : (wrapped b 1 + i) % memory_size ≡ (b + suc i) % memory_size = next_sum b i in
          rw (da, db) (h (suc i) (omega arith))),
    )

-- ---- all words but the link
abbrev pub Texts : List ℕ → List ℕ → ℕ → Type 0
Texts m m' x = (j : ℕ) → note ≤ j → j < page_size → word m' x j ≡ word m x j

-- "word 2 of a message 0-29, 64-93 or 128": modulo 64 at most 29
abbrev pub Sized : List ℕ → ℕ → Type 0
Sized m x = length_in (word m x Map.size) ≤ longest

pub mail_same : (m m' : List ℕ) (x : ℕ) → x < word_values → Sized m x → Texts m m' x → mail_of m' x ≡ mail_of m x
unfolding mail_of
mail_same m m' x g l h =
    let n = length_in (word m x Map.size) in
    let w : words m' (place x text) n ≡ words m (place x text) n = words_moved m m' (place x text) (place x text) n (omega arith) (omega arith) (λ i u.
    let e : (place x text + i) % memory_size ≡ place x (text + i) = omega arith in rw e (h (text + i) (omega arith) (omega arith))) in
    rw (h note (omega arith) (omega arith), h Map.size (omega arith) (omega arith), w)

-- a message page whose text stays
pub record Stays (m m' : List ℕ) (x : ℕ) : Type 0 where
  pub page : Page x
  pub sized : Sized m x
  pub texts : Texts m m' x

pub mails_same : (m m' : List ℕ) (xs : List ℕ) → ((x : ℕ) → 1 ≤ count x xs → Stays m m' x) → map (mail_of m') xs ≡ map (mail_of m) xs
mails_same m m' [] h = refl
mails_same m m' (x ∷ xs) h =
    let t = h x (omega (arith, hit_self x)) in
    rw (mail_same m m' x t.page.1 t.sized t.texts, mails_same m m' xs (λ z i. h z (omega arith)))

pub map_append : (g : ℕ → Letter) (xs ys : List ℕ) → map g (xs ++ ys) ≡ map g xs ++ map g ys
map_append g [] ys = refl
map_append g (x ∷ xs) ys = rw (map_append g xs ys)

-- Q1 or Q2 as a list of messages
abbrev pub held : List ℕ → ℕ → ℕ → List Letter
held m p w = map (mail_of m) (queue m (place p w))

pub waits_held : (m : List ℕ) (p : ℕ) → waiting_for m p ≡ held m p q2 ++ held m p q1
unfolding waiting_for
waits_held m p = map_append (mail_of m) (queue m (place p q2)) (queue m (place p q1))

-- ---- the words of Q1 and Q2: their headers, and all words of their pages
pub data Mine (ps : List ℕ) (L : Lists) (c : ℕ) : Type 0 where
  head : (p w : ℕ) → 1 ≤ count p ps → q1 ≤ w → w ≤ q2 → c ≡ place p w → Mine ps L c
  page : (p w x j : ℕ) → 1 ≤ count p ps → q1 ≤ w → w ≤ q2 → 1 ≤ count x (L (place p w)) → j < page_size → c ≡ place x j → Mine ps L c

-- with them the words of the processor list, and each processor's priority and name
pub data Ours (ps : List ℕ) (L : Lists) (c : ℕ) : Type 0 where
  mail : Mine ps L c → Ours ps L c
  first : c ≡ processor_list → Ours ps L c
  next : (z : ℕ) → 1 ≤ count z ps → c ≡ place z list_link → Ours ps L c
  named : (z : ℕ) → 1 ≤ count z ps → c ≡ place z label → Ours ps L c

-- a step leaves them alone; the words of Q1 and Q2 alone
pub record Same (ps : List ℕ) (L : Lists) (m m' : List ℕ) : Type 0 where
  pub at : (c : ℕ) → Ours ps L c → get_or m' c 0 ≡ get_or m c 0

pub record Posts (ps : List ℕ) (L : Lists) (m m' : List ℕ) : Type 0 where
  pub at : (c : ℕ) → Mine ps L c → get_or m' c 0 ≡ get_or m c 0

pub posts : {ps : List ℕ} {L : Lists} {m m' : List ℕ} → Same ps L m m' → Posts ps L m m'
posts s = record { at = λ c h. s.at c (mail h) }

pub posts_on : {ps : List ℕ} {L : Lists} {m m1 m2 : List ℕ} → Posts ps L m m1 → Posts ps L m1 m2 → Posts ps L m m2
posts_on f g = record { at = λ c h. g.at c h ∙ f.at c h }

-- two families of lists agree on Q1 and Q2
abbrev pub Agree : List ℕ → Lists → Lists → Type 0
Agree ps L K = (p w : ℕ) → 1 ≤ count p ps → q1 ≤ w → w ≤ q2 → K (place p w) ≡ L (place p w)

pub mine_agree : {ps : List ℕ} {L K : Lists} {c : ℕ} → Agree ps L K → Mine ps L c → Mine ps K c
mine_agree a (head p w h u v e) = head p w h u v e
mine_agree a (page p w x j h u v i l e) = page p w x j h u v (rw (a p w h u v) i) l e

pub posts_then : {ps : List ℕ} {L K : Lists} {m m1 m2 : List ℕ} → Agree ps L K → Posts ps L m m1 → Posts ps K m1 m2 → Posts ps L m m2
posts_then a f g = record { at = λ c h. g.at c (mine_agree a h) ∙ f.at c h }

ours_agree : {ps : List ℕ} {L K : Lists} {c : ℕ} → Agree ps L K → Ours ps L c → Ours ps K c
ours_agree a (mail h) = mail (mine_agree a h)
ours_agree a (first e) = first e
ours_agree a (next z h e) = next z h e
ours_agree a (named z h e) = named z h e

pub label_same : {ps : List ℕ} {L : Lists} {m m' : List ℕ} → Same ps L m m' → (p : ℕ) → 1 ≤ count p ps → word m' p label ≡ word m p label
label_same s p h = s.at (place p label) (named p h refl)

pub same_then : {ps : List ℕ} {L K : Lists} {m m1 m2 : List ℕ} → Agree ps L K → Same ps L m m1 → Same ps K m1 m2 → Same ps L m m2
same_then a f g = record { at = λ c h. g.at c (ours_agree a h) ∙ f.at c h }

pub same_on : {ps : List ℕ} {L : Lists} {m m1 m2 : List ℕ} → Same ps L m m1 → Same ps L m1 m2 → Same ps L m m2
same_on f g = record { at = λ c h. g.at c h ∙ f.at c h }

-- ---- then the lists stay
module _ {m : List ℕ} {ps : List ℕ} {L : Lists} {W : View} {hs : List ℕ} {g : ℕ} (b : Base m ps L W hs g) where
  pub letter_sized : (p w x : ℕ) → 1 ≤ count p ps → q1 ≤ w → w ≤ q2 → 1 ≤ count x (L (place p w)) → Sized m x
  letter_sized p w x h u v i =
      let n = q_free b.facts.sep p w x u v h i in
      rw (b.mem.reads.words.size x n.0 n.1) (b.facts.mail p w h u v x i).long

  module _ {m' : List ℕ} (s : Posts ps L m m') where
    pub chain_same : (p w : ℕ) → 1 ≤ count p ps → q1 ≤ w → w ≤ q2 → Chain m' 0 (place p w) (L (place p w))
    chain_same p w h u v =
        chain_move m m' 0 (place p w) (place p w) (L (place p w)) (s.at (place p w) (head p w h u v refl))
        (λ x i. s.at (place x link) (page p w x 0 h u v i (omega arith) refl)) (mail_chain b p w h u v)

    pub queue_same : (p w : ℕ) → 1 ≤ count p ps → q1 ≤ w → w ≤ q2 → queue m' (place p w) ≡ L (place p w)
    queue_same p w h u v =
        walk_chain control_pages m' 0 (place p w) (L (place p w)) (chain_same p w h u v) (list_short b.facts.sep (place p w) (in_q ps p w u v h))

    pub agrees : {K : Lists} {X : View} {hs2 : List ℕ} {g2 : ℕ} → Base m' ps K X hs2 g2 → Agree ps L K
    agrees b2 p w h u v = sym (mail_queue b2 p w h u v) ∙ queue_same p w h u v

    pub texts_same : (p w x : ℕ) → 1 ≤ count p ps → q1 ≤ w → w ≤ q2 → 1 ≤ count x (L (place p w)) → Stays m m' x
    texts_same p w x h u v i = record {
      page = (q_free b.facts.sep p w x u v h i).0;
      sized = letter_sized p w x h u v i;
      texts = λ j k l. s.at (place x j) (page p w x j h u v i l refl);
    }

    pub held_same : (p w : ℕ) → 1 ≤ count p ps → q1 ≤ w → w ≤ q2 → held m' p w ≡ held m p w
    held_same p w h u v =
        rw (queue_same p w h u v, mail_queue b p w h u v) (mails_same m m' (L (place p w)) (λ x i. texts_same p w x h u v i))

    pub waits_same : (p : ℕ) → 1 ≤ count p ps → waiting_for m' p ≡ waiting_for m p
    waits_same p h =
        rw (waits_held m' p, waits_held m p, held_same p q2 h (omega arith) (omega arith), held_same p q1 h (omega arith) (omega arith))

  -- what waits, by the lists
  pub waits_by : (p : ℕ) → 1 ≤ count p ps → waiting_for m p ≡ map (mail_of m) (L (place p q2)) ++ map (mail_of m) (L (place p q1))
  waits_by p h = waits_held m p ∙ rw (mail_queue b p q2 h (omega arith) (omega arith), mail_queue b p q1 h (omega arith) (omega arith))

  -- and who lives, with priority and name
  pub procs_same : {m' : List ℕ} → Same ps L m m' → processors m' ≡ ps
  procs_same {m'} t =
      let s = b.facts.sep in
      let h : Head ps processor_list = (in_procs ps, grant_low processor_list (omega arith)) in
      let c = rw (link_procs, s.procs) at (b.mem.holds.rep processor_list h) in
      walk_chain control_pages m' 1 processor_list ps (chain_move m m' 1 processor_list processor_list ps (t.at processor_list (first refl))
      (λ x i. t.at (place x list_link) (next x i refl)) c)
      (rw s.procs at (list_short s processor_list (in_procs ps)))

-- ---- a step that may change the lists, and leaves words 1 to 31 of every page that is no processor's
pub record Texted (ps : List ℕ) (m m' : List ℕ) : Type 0 where
  pub at : (x : ℕ) → Page x → count x ps ≡ 0 → Texts m m' x

-- then what waits is what the lists say, with the messages of before
module _ {m m2 : List ℕ} {ps : List ℕ} {K : Lists} {X : View} {hs : List ℕ} {g : ℕ} (b2 : Base m2 ps K X hs g) (t : Texted ps m m2) where
  pub held_through : (p w : ℕ) → 1 ≤ count p ps → q1 ≤ w → w ≤ q2 → held m2 p w ≡ map (mail_of m) (K (place p w))
  held_through p w h u v =
      rw (mail_queue b2 p w h u v) (sym (mails_same m2 m (K (place p w)) (λ x i.
      let f = q_free b2.facts.sep p w x u v h i in
      record { page = f.0; sized = letter_sized b2 p w x h u v i; texts = λ j k l. sym (t.at x f.0 f.1 j k l) })))

  pub waits_through : (p : ℕ) → 1 ≤ count p ps → waiting_for m2 p ≡ map (mail_of m) (K (place p q2)) ++ map (mail_of m) (K (place p q1))
  waits_through p h = waits_held m2 p ∙ rw (held_through p q2 h (omega arith) (omega arith), held_through p q1 h (omega arith) (omega arith))
