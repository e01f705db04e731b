-- Which message waits on which page. After a call every message that waits for a processor waited for it before, on the same page, as it was or marked by the
-- deletion of its sender; or it was sent by the one that ran; or it is a notice. And of each notice that is put: it is about what the one that runs sends
-- itself, or about unmarked mail, and goes to the one that has its sender's name. Assumes nothing.
use Rattle.std.specs.Prelude.{◌≡◌, refl, ◌≢◌, ◌⊎◌, Bool, true, false, List, [], ◌∷◌, ◌++◌, map, ℕ, zero, suc, ◌≤◌, ◌<◌, get_or, eqb}
use Rattle.std.proofs.Common.{sym, ◌∙◌, inl, inr, append-nil, arith}
use Rattle.std.proofs.lemmas.Bool.{eqb-false}
use Rattle.model.specs.Map as Map
use Rattle.model.specs.Map.{control_pages, is_unmarked, link, longest, mark_added, note, notice, page_size, place, q1, q2, size}
use Rattle.model.specs.Queue as Queue
use Rattle.model.specs.Bytes.{word, name, processors, queue, running, sender}
use Rattle.model.specs.Lists.{count, Lists}
use Rattle.laws.specs.Count.{hit_or, hit_other}
use Rattle.laws.specs.Chain.{walk}
use Rattle.laws.specs.Inv.{Base, View}
use Rattle.laws.specs.Places.{q_free}
use Rattle.laws.specs.Mails.{mail_queue}
use Rattle.laws.specs.Who.{listed}
use Rattle.history.specs.Order.{only_nil}
use Rattle.history.specs.Letter.{Letter, mail_of, Same, Posts, posts, queue_same, texts_same, procs_same, Texted}
use Rattle.history.specs.Told.{Told, Stands, of_none, told_same, stands_none}
use Rattle.history.specs.Put.{Mailed, nothing, of, only_notices}

-- of each of a list
abbrev pub Each : {A : Type 0} → (A → Type 0) → List A → Type 0
Each P [] = Unit {0}
Each P (x ∷ xs) = P x × Each P xs

pub each_all : {A : Type 0} {P : A → Type 0} → ((x : A) → P x) → (xs : List A) → Each P xs
each_all h [] = tt
each_all h (x ∷ xs) = (h x, each_all h xs)

pub each_as : {A : Type 0} {P Q : A → Type 0} → ((x : A) → P x → Q x) → (xs : List A) → Each P xs → Each Q xs
each_as h [] k = tt
each_as h (x ∷ xs) k = (h x k.0, each_as h xs k.1)

pub each_append : {A : Type 0} (P : A → Type 0) (xs ys : List A) → Each P xs → Each P ys → Each P (xs ++ ys)
each_append P [] ys h k = k
each_append P (x ∷ xs) ys h k = (h.0, each_append P xs ys h.1 k)

-- 0 is no message
walk_some : (n : ℕ) (m : List ℕ) (k a x : ℕ) → 1 ≤ count x (walk n m k a) → x ≢ 0
unfolding Queue.walk
walk_some zero m k a x h = absurd (omega arith)
walk_some (suc n) m k a x h = go (eqb (get_or m a 0) 0) refl (walk_some n m k (place (get_or m a 0) k) x)
  where
    go : (c : Bool) → eqb (get_or m a 0) 0 ≡ c → (1 ≤ count x (walk n m k (place (get_or m a 0) k)) → x ≢ 0) → x ≢ 0
    go true e ih = let i = rw (e, Queue.walk) at h in absurd (omega arith)
    go false e ih =
        let i = rw (e, Queue.walk) at h in
        let d = eqb-false (get_or m a 0) 0 e in
        next (hit_or x (get_or m a 0)) i
      where
        next : (x ≡ get_or m a 0) ⊎ (x ≢ get_or m a 0) → 1 ≤ count x (get_or m a 0 ∷ walk n m k (place (get_or m a 0) k)) → x ≢ 0
        next (inl q) i = let d = eqb-false (get_or m a 0) 0 e in omega arith
        next (inr d) i = ih (omega (arith, hit_other x (get_or m a 0) d))

pub some_page : (m : List ℕ) (a x : ℕ) → 1 ≤ count x (queue m a) → x ≢ 0
some_page m a x h = walk_some control_pages m link a x h

-- ---- page x waited for p before, with the same sender and flag
pub record Waited (m m' : List ℕ) (p x : ℕ) : Type 0 where
  pub head : ℕ
  pub low : q1 ≤ head
  pub high : head ≤ q2
  pub here : 1 ≤ count x (queue m (place p head))
  pub note : word m' x Map.note ≡ word m x Map.note

-- ---- where a message x that waits for p comes from
pub data Origin (m m' : List ℕ) (e : Mailed) (p x : ℕ) : Type 0 where
  -- it waited, and stays as it was; if it is unmarked, whoever has its sender's name lives on
  unchanged : Waited m m' p x → word m' x size ≡ word m x size → x ≢ e.wrote
      → (is_unmarked (word m x size) ≡ true → (r : ℕ) → 1 ≤ count r (processors m) → name m r ≡ sender m x → 1 ≤ count r (processors m')) → Origin m m' e p x
  -- it waited, and is marked now: whoever had its sender's name is gone
  newly_marked : Waited m m' p x → word m' x size ≡ mark_added (word m x size) → x ≢ e.wrote → is_unmarked (word m x size) ≡ true
      → ((r : ℕ) → 1 ≤ count r (processors m) → name m r ≡ sender m x → count r (processors m') ≡ 0) → Origin m m' e p x
  -- the one that ran sent it
  sent : x ≡ e.wrote → word m' x size ≤ longest → sender m' x ≡ name m (running m) → 1 ≤ count (running m) (processors m)
      → 1 ≤ count (running m) (processors m') → Origin m m' e p x
  -- it is a notice
  notified : word m' x size ≡ notice → Origin m m' e p x

-- ---- what a notice is about: to whom it goes, and the page of the message
pub data About (m : List ℕ) (wrote to page : ℕ) : Type 0 where
  -- what the one that runs was to send
  own : page ≡ wrote → to ≡ running m → 1 ≤ count to (processors m) → About m wrote to page
  -- unmarked mail that waits, whose sender's name that one has
  back : page ≢ wrote → (p w : ℕ) → 1 ≤ count p (processors m) → q1 ≤ w → w ≤ q2 → 1 ≤ count page (queue m (place p w))
      → is_unmarked (word m page size) ≡ true → 1 ≤ count to (processors m) → name m to ≡ sender m page → About m wrote to page

-- page q stands at the end of Q1 of p, with letter x on it
pub record Stood (m : List ℕ) (q p : ℕ) (x : Letter) : Type 0 where
  pub before : List ℕ
  pub last : queue m (place p q1) ≡ before ++ q ∷ []
  pub is : mail_of m q ≡ x

-- the pages qs stand at the end of Q1 of p, with the letters ls on them
pub record Turned (m : List ℕ) (p : ℕ) (qs : List ℕ) (ls : List Letter) : Type 0 where
  pub before : List ℕ
  pub last : queue m (place p q1) ≡ before ++ qs
  pub are : map (mail_of m) qs ≡ ls

pub turned_none : (m : List ℕ) (p : ℕ) → Turned m p [] []
turned_none m p = record { before = queue m (place p q1); last = sym (append-nil (queue m (place p q1))); are = refl }

pub record Traced (m m' : List ℕ) (e : Mailed) : Type 0 where
  pub pages : (p w x : ℕ) → 1 ≤ count p (processors m) → 1 ≤ count p (processors m') → q1 ≤ w → w ≤ q2 → 1 ≤ count x (queue m' (place p w))
      → Origin m m' e p x
  pub about : Each (λ (y : ℕ × ℕ). About m e.wrote y.0 y.1) e.about
  -- the notices that are put stand on the pages of the messages that they are about, in that order, at the end of Q1
  pub turned : (p : ℕ) → 1 ≤ count p (processors m') → Turned m' p (of p e.about) (only_notices (of p e.puts))
  -- what the one that runs wrote stands on that page, at the end of Q1
  pub written : Each (λ (y : ℕ × Letter). e.wrote ≢ 0 → Stood m' e.wrote y.0 y.1) e.puts

-- ---- nobody is born or gone, and every message that waits waited before, for the same one, on the same page, and is as it was
pub record Still (m m' : List ℕ) : Type 0 where
  pub alive : processors m' ≡ processors m
  pub waited : (p w x : ℕ) → 1 ≤ count p (processors m) → q1 ≤ w → w ≤ q2 → 1 ≤ count x (queue m' (place p w)) → Waited m m' p x
  pub sizes : (p w x : ℕ) → 1 ≤ count p (processors m) → q1 ≤ w → w ≤ q2 → 1 ≤ count x (queue m' (place p w)) → word m' x size ≡ word m x size

pub still_on : {m m1 m2 : List ℕ} → Still m m1 → Still m1 m2 → Still m m2
still_on s t = record {
  alive = t.alive ∙ s.alive;
  waited = λ p w x h u v i.
      let a = t.waited p w x (rw s.alive h) u v i in
      let b = s.waited p a.head x h a.low a.high a.here in
      record { head = b.head; low = b.low; high = b.high; here = b.here; note = a.note ∙ b.note };
  sizes = λ p w x h u v i.
      let a = t.waited p w x (rw s.alive h) u v i in
      t.sizes p w x (rw s.alive h) u v i ∙ s.sizes p a.head x h a.low a.high a.here;
}

-- such a call puts nothing
pub none_turned : (m : List ℕ) (p : ℕ) → Turned m p (of p []) (only_notices (of p []))
none_turned m p = rw (of_none {A = ℕ} p, of_none {A = Letter} p, only_nil (λ (x : Letter). x.notice)) (turned_none m p)

pub still_traced : {m m' : List ℕ} → Still m m' → (e : Mailed) → e.wrote ≡ 0 → e.about ≡ [] → e.puts ≡ [] → Traced m m' e
still_traced {m} {m'} s e z n i = record {
  pages = λ p w x h i u v j.
      let a = s.waited p w x h u v j in
      unchanged a (s.sizes p w x h u v j) (λ d. some_page m' (place p w) x j (d ∙ z)) (λ f r k d. rw s.alive k);
  about = rw n tt;
  turned = λ p h. rw (n, i) (none_turned m' p);
  written = each_all (λ y d. absurd (d z)) e.puts;
}

-- ---- a step that leaves the words of Q1 and Q2, and of the processor list, alone
pub posts_waited : {m : List ℕ} {ps : List ℕ} {L : Lists} {W : View} {hs : List ℕ} {g : ℕ} (b : Base m ps L W hs g) {m' : List ℕ} → Posts ps L m m'
    → (p w x : ℕ) → 1 ≤ count p ps → q1 ≤ w → w ≤ q2 → 1 ≤ count x (queue m' (place p w)) → Waited m m' p x × (word m' x size ≡ word m x size)
posts_waited b s p w x h u v i =
    let j = rw (queue_same b s p w h u v) at i in
    let t = texts_same b s p w x h u v j in (
      record {
        head = w;
        low = u;
        high = v;
        here = rw (mail_queue b p w h u v) j;
        note = t.texts Map.note (omega arith) (omega arith);
      },
      t.texts size (omega arith) (omega arith),
    )

pub same_still : {m : List ℕ} {ps : List ℕ} {L : Lists} {W : View} {hs : List ℕ} {g : ℕ} → Base m ps L W hs g → {m' : List ℕ} → Same ps L m m' → Still m m'
same_still b s = record {
  alive = procs_same b s ∙ sym (listed b);
  waited = λ p w x h u v i. (posts_waited b (posts s) p w x (rw (listed b) at h) u v i).0;
  sizes = λ p w x h u v i. (posts_waited b (posts s) p w x (rw (listed b) at h) u v i).1;
}

-- ---- the laws of one call: the order of mail, that what was put stands, and by pages
pub record Lawful (m m' : List ℕ) (e : Mailed) : Type 0 where
  pub told : Told m m' e
  pub stands : Stands m' e
  pub traced : Traced m m' e

pub lawful_same : {m : List ℕ} {ps : List ℕ} {L : Lists} {W : View} {hs : List ℕ} {g : ℕ} → Base m ps L W hs g → (m' : List ℕ) → Same ps L m m'
    → Lawful m m' nothing
lawful_same b m' s = record { told = told_same b m' s; stands = stands_none m'; traced = still_traced (same_still b s) nothing refl refl refl }

-- ---- a step that leaves all texts, and after which each list holds only what was in Q1 or Q2 of the same one
pub texted_still : {m m1 : List ℕ} {ps : List ℕ} {L K : Lists} {W X : View} {hs ks : List ℕ} {g k : ℕ} → Base m ps L W hs g → Base m1 ps K X ks k
    → Texted ps m m1 → ((p w x : ℕ) → 1 ≤ count p ps → q1 ≤ w → w ≤ q2 → 1 ≤ count x (K (place p w)) → (v : ℕ) × (q1 ≤ v) × (v ≤ q2) × (1 ≤ count x (L (place p v))))
    → Still m m1
texted_still {m} {m1} {ps} {K = K} b c t f = record {
  alive = listed c ∙ sym (listed b);
  waited = λ p w x h u v i.
      let j = rw (listed b) at h in
      let o = f p w x j u v (inside p w x j u v i) in
      record {
        head = o.0;
        low = o.1;
        high = o.2;
        here = rw (mail_queue b p o.0 j o.1 o.2) o.3;
        note = stays p w x j u v i Map.note (omega arith) (omega arith);
      };
  sizes = λ p w x h u v i. stays p w x (rw (listed b) at h) u v i size (omega arith) (omega arith);
}
  where
    inside : (p w x : ℕ) → 1 ≤ count p ps → q1 ≤ w → w ≤ q2 → 1 ≤ count x (queue m1 (place p w)) → 1 ≤ count x (K (place p w))
    inside p w x h u v i = rw (mail_queue c p w h u v) at i

    stays : (p w x : ℕ) → 1 ≤ count p ps → q1 ≤ w → w ≤ q2 → 1 ≤ count x (queue m1 (place p w)) → (j : ℕ) → Map.note ≤ j → j < page_size
        → word m1 x j ≡ word m x j
    stays p w x h u v i j l k = let q = q_free c.facts.sep p w x u v h (inside p w x h u v i) in t.at x q.0 q.1 j l k
